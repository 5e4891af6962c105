use Rattle.std.proofs.Common.{◌∙◌, Option, ap, subst, sym}
use Rattle.std.specs.FinSet.{FinSet, insert}
use Rattle.std.specs.Ordering.{nat_cmp}
use Rattle.recording_counts.specs.Runs.{IsPut, all_runs, numbers_of}
use Rattle.recording_counts.specs.declared.number_set.Run.{Run}
use Rattle.recording_counts.proofs.RunLaws.{insert_there}
use Rattle.recording_counts.proofs.TreeLaws.{same_runs}
use Rattle.recording_counts.proofs.number_set.NumberSet.insert.Goals as goal

pub returns-in-None-clause-inserted : goal.returns-in-None-clause-inserted
returns-in-None-clause-inserted g c =
    let put =
    subst
    (λ (o : Option Run). IsPut c.self.inside.top c.self.inside.below c.args.number o c.put.new.below)
    c.in-None.is c.in_ok-top.ensures.put in
    ap numbers_of (same_runs c.self.inside.top c.self.inside.below c.put.new.below put.1)
    ∙ sym
    (insert_there (numbers_of (all_runs c.self.inside.top c.self.inside.below)) c.args.number
    put.0)
    ∙ ap (λ (s : FinSet nat_cmp). insert s c.args.number) c.self.view_is
