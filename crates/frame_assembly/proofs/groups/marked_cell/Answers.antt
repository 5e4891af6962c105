use Rattle.std.proofs.Common.{arith}
use Rattle.frame_assembly.proofs.GroupJoins.{marked_absent, marked_contested, marked_value}
use Rattle.frame_assembly.proofs.groups.marked_cell.Goals as goal

pub returns-then-mark-lt-PRESENT : goal.returns-then-mark-lt-PRESENT
returns-then-mark-lt-PRESENT c =
    marked_absent c.args.mark c.args.i c.args.value c.if-mark-lt-PRESENT.true

pub returns-then-mark-i-eq1 : goal.returns-then-mark-i-eq1
returns-then-mark-i-eq1 c =
    marked_contested c.args.mark c.args.i c.args.value c.if-mark-lt-PRESENT.false
    (omega arith) c.if-mark-i-eq1.true

pub returns-else-mark-i-eq1 : goal.returns-else-mark-i-eq1
returns-else-mark-i-eq1 c =
    marked_value c.args.mark c.args.i c.args.value c.if-mark-lt-PRESENT.false
    (omega arith) c.if-mark-i-eq1.false
