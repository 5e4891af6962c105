use Rattle.std.proofs.lemmas.Result.{err_from_is_err_and}
use Rattle.picture_forms.proofs.Headed.{name_cut, name_reads, name_refuses}
use Rattle.picture_forms.proofs.Walked.{field_reads}
use Rattle.picture_forms.proofs.y4m_head_reading.read_name.Goals as goal

pub returns-in_err-read_field-clause-fault : goal.returns-in_err-read_field-clause-fault
returns-in_err-read_field-clause-fault g c =
    let p = err_from_is_err_and c.from_residual.result c.from_residual.ensures.1 in
    rw (p.1, p.2)
    (name_cut _ _ _ _ _ c.in_err-read_field.field-0.0 c.in_err-read_field.ensures.fault)

pub returns-clause-read : goal.returns-clause-read
returns-clause-read g c =
    name_reads _ _ _ _ c.read_field.new.buf c.name_in.result
    (field_reads 9 _ _ _ _ c.read_field.new.buf c.read_field.ensures.room
    c.in_ok-read_field.ensures.given) c.name_in.ensures.value

pub returns-clause-fault : goal.returns-clause-fault
returns-clause-fault g c =
    name_refuses _ _ _ _ c.read_field.new.buf _ c.name_in.result
    (field_reads 9 _ _ _ _ c.read_field.new.buf c.read_field.ensures.room
    c.in_ok-read_field.ensures.given) c.name_in.ensures.value c.name_in.ensures.named
