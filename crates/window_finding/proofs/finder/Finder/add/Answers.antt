use Rattle.std.proofs.Common.{rules, ap, sym, ◌∙◌}
use Rattle.window_finding.proofs.Distinct.{full_stays, has, known_stays, new_comes}
use Rattle.window_finding.proofs.finder.Finder.add.Goals as goal
use Rattle.window_finding.proofs.finder.Finder.add.Goals.{then-is_full-via-then-is_full}
use Rattle.window_finding.proofs.finder.Finder.add.Goals.{then-is_full-via-else-is_full+then-contains}

pub returns-then-is_full-clause-added : goal.returns-then-is_full-clause-added
returns-then-is_full-clause-added g c = λ ts is.
    let f = c.args.self.now in
    elim c.then-is_full.branch [
      | then-is_full-via-then-is_full w ↦
          full_stays f.sought.count f.window.items ts _ is (search rules)
      | then-is_full-via-else-is_full+then-contains w ↦
          known_stays f.sought.count f.window.items ts _ is (search rules)
          (ap (has c.args.timestamp) (sym w.deref.ensures.value) ∙ sym w.contains.ensures.value
          ∙ w.if-contains.true)
    ]

pub returns-clause-added : goal.returns-clause-added
returns-clause-added g c = λ ts is.
    let f = c.args.self.now in
    c.in_ok-push.ensures.items
    ∙ new_comes f.sought.count f.window.items ts c.args.timestamp is (search rules)
    (ap (has c.args.timestamp) (sym c.deref.ensures.value) ∙ sym c.contains.ensures.value
    ∙ c.if-contains.false)
