use Rattle.std.proofs.Common.{[], ◌∷◌, ◌∙◌, ap, rules, sym}
use Rattle.window_finding.proofs.Distinct.{full_stays, has, known_stays, new_comes}
use Rattle.stream_inspection.proofs.timestamps.add.Goals as goal

pub returns-then-len-ge-MOST_TIMESTAMPS : goal.returns-then-len-ge-MOST_TIMESTAMPS
returns-then-len-ge-MOST_TIMESTAMPS g c = λ earlier is.
    full_stays 16 c.args.window.now.items earlier (c.args.timestamp ∷ []) is (search rules)

pub returns-then-contains : goal.returns-then-contains
returns-then-contains g c = λ earlier is.
    known_stays 16 c.args.window.now.items earlier c.args.timestamp is (search rules)
    (ap (has c.args.timestamp) (sym c.deref.ensures.value) ∙ sym c.contains.ensures.value
    ∙ c.if-contains.true)

pub returns : goal.returns
returns g c = λ earlier is.
    c.in_ok-push.ensures.items
    ∙ new_comes 16 c.args.window.now.items earlier c.args.timestamp is (search rules)
    (ap (has c.args.timestamp) (sym c.deref.ensures.value) ∙ sym c.contains.ensures.value
    ∙ c.if-contains.false)
