use Rattle.std.proofs.Common.{arith}
use Rattle.recording_counts.proofs.TreeLaws.{lengthened, raised}
use Rattle.recording_counts.proofs.number_set.put_above.Goals as goal

pub returns-then-number-top-eq1-clause-put : goal.returns-then-number-top-eq1-clause-put
returns-then-number-top-eq1-clause-put g c =
    lengthened c.args.top c.args.below.now c.args.number c.requires.runs
    (omega (arith, c.requires.above, c.if-number-top-eq1.true))

pub returns-clause-put : goal.returns-clause-put
returns-clause-put g c =
    raised c.args.top c.args.below.now c.args.number c.requires.runs c.insert.new.self
    (omega (arith, c.requires.above, c.if-number-top-eq1.false)) c.in_ok-insert.ensures.updates
    c.in_ok-insert.ensures.ordered
