use Rattle.std.proofs.lemmas.Result.{err_from_is_err_and}
use Rattle.picture_forms.proofs.PixmapHeaded.{magic_cut, magic_reads, magic_refuses}
use Rattle.picture_forms.proofs.Walked.{field_reads}
use Rattle.picture_forms.proofs.pixmap_head_reading.read_magic.Goals as goal

pub returns-in_err-read_field-clause-fault : goal.returns-in_err-read_field-clause-fault
returns-in_err-read_field-clause-fault g c =
    let p = err_from_is_err_and c.from_residual.result c.from_residual.ensures.1 in
    rw (p.1, p.2)
    (magic_cut _ _ _ _ _ c.in_err-read_field.field-0.0 c.in_err-read_field.ensures.fault)

pub returns-clause-read : goal.returns-clause-read
returns-clause-read g c =
    magic_reads _ _ _ _ c.read_field.new.buf c.magic_in.result
    (field_reads 2 _ _ _ _ c.read_field.new.buf c.read_field.ensures.room
    c.in_ok-read_field.ensures.given) c.magic_in.ensures.value

pub returns-clause-fault : goal.returns-clause-fault
returns-clause-fault g c =
    magic_refuses _ _ _ _ c.read_field.new.buf _ c.magic_in.result
    (field_reads 2 _ _ _ _ c.read_field.new.buf c.read_field.ensures.room
    c.in_ok-read_field.ensures.given) c.magic_in.ensures.value c.magic_in.ensures.named
