use Rattle.std.proofs.Common.{Err, ap, ◌∙◌}
use Rattle.std.proofs.lemmas.Result.{err_from_is_err_and}
use Rattle.sdp_format.specs.Bytes.{lines}
use Rattle.sdp_format.specs.ReadLeg.{section_at}
use Rattle.sdp_format.proofs.Destined.{second_fault}
use Rattle.sdp_format.proofs.flows.two.Goals as goal

pub returns-in_err-second_flow-clause-fault : goal.returns-in_err-second_flow-clause-fault
returns-in_err-second_flow-clause-fault c =
    let told =
    err_from_is_err_and c.from_residual-in_err-second_flow.result
    c.from_residual-in_err-second_flow.ensures.1 in
    let first = c.in_ok-flow.ensures in
    let second = c.in_err-second_flow.ensures in
    second_fault (lines c.args.text.now) (section_at c.args.first) (section_at c.args.second)
    c.in_ok-flow.flow c.in_err-second_flow.field-0.0 c.from_residual-in_err-second_flow.result
    (told.1 ∙ ap Err told.2) (first.flow, first.fault) (second.flow, second.fault)
