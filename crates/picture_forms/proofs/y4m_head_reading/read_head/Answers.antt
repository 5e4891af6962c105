use Rattle.std.proofs.Common.{take}
use Rattle.std.proofs.lemmas.Result.{err_from_is_err_and}
use Rattle.picture_forms.proofs.Headed.{head_no_line, head_no_name, head_reads, head_refuses}
use Rattle.picture_forms.proofs.y4m_head_reading.read_head.Goals as goal

pub returns-in_err-read_name-clause-fault : goal.returns-in_err-read_name-clause-fault
returns-in_err-read_name-clause-fault g c =
    let p = err_from_is_err_and c.from_residual.result c.from_residual.ensures.1 in
    rw (p.1, p.2)
    (head_no_name _ _ _ _ _ c.in_err-read_name.field-0.0 c.in_err-read_name.ensures.fault)

pub returns-in_err-n-clause-fault : goal.returns-in_err-n-clause-fault
returns-in_err-n-clause-fault g c =
    let p = err_from_is_err_and c.from_residual-in_err-n.result
    c.from_residual-in_err-n.ensures.1 in
    rw (p.1, p.2)
    (head_no_line _ _ _ _ _ _ _ c.in_err-n.field-0.0 c.in_ok-read_name.ensures.read
    c.in_err-n.ensures.fault)

pub returns-clause-read : goal.returns-clause-read
returns-clause-read g c =
    head_reads _ _ _ _ _ _ (take c.in_ok-n.n c.read_line.new.line) c.format_of_head.result
    c.in_ok-read_name.ensures.read c.in_ok-n.ensures.read c.format_of_head.ensures.value

pub returns-clause-fault : goal.returns-clause-fault
returns-clause-fault g c =
    head_refuses _ _ _ _ _ _ (take c.in_ok-n.n c.read_line.new.line) _ c.format_of_head.result
    c.in_ok-read_name.ensures.read c.in_ok-n.ensures.read c.format_of_head.ensures.value
    c.format_of_head.ensures.named
