use Rattle.std.proofs.Common.{subst}
use Rattle.frame_assembly.specs.declared.state.GroupState.{GroupState}
use Rattle.frame_assembly.specs.Rows.{IsStateOf}
use Rattle.frame_assembly.proofs.MarkLemmas.{mixed_mark, whole_mark}
use Rattle.frame_assembly.proofs.state.GroupState.mark.Goals as goal

pub returns-in-Whole-clause-cells : goal.returns-in-Whole-clause-cells
returns-in-Whole-clause-cells c = λ cells few says.
    whole_mark cells few
    (subst (λ (s : GroupState). IsStateOf s cells) c.in-Whole.is says)

pub returns-in-Mixed-clause-cells : goal.returns-in-Mixed-clause-cells
returns-in-Mixed-clause-cells c = λ cells few says.
    mixed_mark c.in-Mixed.mask cells few
    (subst (λ (s : GroupState). IsStateOf s cells) c.in-Mixed.is says)
