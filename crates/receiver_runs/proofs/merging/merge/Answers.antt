use Rattle.std.proofs.Common.{sym}
use Rattle.receiver_runs.proofs.merging.merge.Goals as goal

pub returns-clause-merged : goal.returns-clause-merged
returns-clause-merged c =
    let none = c.find.ensures.unplaced c.requires.unplaced in
    rw (sym c.find.ensures.took, none) c.merge_all.ensures.merged
