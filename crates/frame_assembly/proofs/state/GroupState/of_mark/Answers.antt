use Rattle.std.proofs.Common.{arith}
use Rattle.frame_assembly.proofs.GroupCells.{mixed_contested, mixed_others, not_missing}
use Rattle.frame_assembly.proofs.state.GroupState.of_mark.Goals as goal

pub returns-else-mark-eq-PRESENT-clause-cells : goal.returns-else-mark-eq-PRESENT-clause-cells
returns-else-mark-eq-PRESENT-clause-cells c = λ cells few is.
    let high = c.if-mark-lt-PRESENT.false in
    let unlike = c.if-mark-eq-PRESENT.false in (
      λ e. unlike (omega arith),
      not_missing c.args.mark cells high (omega arith) is,
      mixed_contested c.args.mark cells high few is,
      mixed_others c.args.mark cells high (omega arith) few is,
    )
