use Rattle.std.proofs.Common.{refl}
use Rattle.recording_counts.proofs.TreeLaws.{first_put, there_top}
use Rattle.recording_counts.proofs.number_set.put.Goals as goal

pub returns-in_default-clause-put : goal.returns-in_default-clause-put
returns-in_default-clause-put g c =
    first_put c.args.top c.args.below.now c.args.number c.in_default.not-Some c.requires

pub returns-then-number-top-2-clause-put : goal.returns-then-number-top-2-clause-put
returns-then-number-top-2-clause-put g c = (
  there_top c.args.top c.in-Some.top c.args.below.now c.args.number c.in-Some.is c.requires
      c.if-number-top-2.true c.if-number-top.false,
  refl,
)
