use Rattle.std.proofs.lemmas.Result.{err_from_is_err_and}
use Rattle.media_file.specs.Fields.{field_at}
use Rattle.media_file.specs.Fronts.{kind_at}
use Rattle.media_file.proofs.Gave.{on_any}
use Rattle.media_file.proofs.Fronted.{kind_gives, kind_fails, kind_cut}
use Rattle.media_file.proofs.GaveFronts.{kind_gave, kind_gave_wrong}
use Rattle.media_file.proofs.GaveParts.{kind_gave_cut, kind_gave_part}
use Rattle.media_file.proofs.Parts.{kind_part, kind_part_cut}
use Rattle.media_file.proofs.front.read_kind.Goals as goal
use Rattle.st_format.proofs.Gave.{fault_one}
use Rattle.media_file.specs.Faults.{file_fault_origin}

pub returns-in_err-read_field-clause-fault : goal.returns-in_err-read_field-clause-fault
returns-in_err-read_field-clause-fault g c =
    let p = err_from_is_err_and c.from_residual.result c.from_residual.ensures.1 in
    rw (p.1, p.2)
    (kind_cut c.args.name.now _ c.in_err-read_field.field-0.0 c.in_err-read_field.ensures.fault)

pub returns-clause-read : goal.returns-clause-read
returns-clause-read g c =
    kind_gives c.args.name.now _ _ c.read_field.new.buf c.version_in.result
    c.in_ok-read_field.ensures.read c.version_in.ensures.exact

pub returns-clause-fault : goal.returns-clause-fault
returns-clause-fault g c =
    kind_fails c.args.name.now _ _ c.read_field.new.buf c.version_in.result
    c.in_ok-read_field.ensures.read c.version_in.ensures.exact

pub returns-in_err-read_field-clause-part : goal.returns-in_err-read_field-clause-part
returns-in_err-read_field-clause-part g c =
    let p = err_from_is_err_and c.from_residual.result c.from_residual.ensures.1 in
    rw (p.1) (kind_part_cut c.args.name.now _ _ c.in_err-read_field.ensures.part)

pub returns-clause-part : goal.returns-clause-part
returns-clause-part g c =
    kind_part c.args.name.now _ _ c.read_field.new.buf c.version_in.result
    c.read_field.ensures.room c.in_ok-read_field.ensures.read c.version_in.ensures.exact

pub returns-in_err-read_field-clause-gave_wrong : goal.returns-in_err-read_field-clause-gave_wrong
returns-in_err-read_field-clause-gave_wrong g c =
    let p = err_from_is_err_and c.from_residual.result c.from_residual.ensures.1 in
    rw (p.1, p.2)
    (fault_one file_fault_origin (field_at 8) (kind_at c.args.name.now) _ _ _
    c.in_err-read_field.field-0.0
    (λ was. kind_cut c.args.name.now was c.in_err-read_field.field-0.0)
    c.in_err-read_field.ensures.gave_wrong)

pub returns-clause-gave : goal.returns-clause-gave
returns-clause-gave g c =
    kind_gave c.args.name.now _ _ c.read_field.new.buf c.version_in.result
    c.in_ok-read_field.ensures.gave c.version_in.ensures.exact

pub returns-clause-gave_wrong : goal.returns-clause-gave_wrong
returns-clause-gave_wrong g c =
    kind_gave_wrong c.args.name.now _ _ _ c.read_field.new.buf c.version_in.result
    c.in_ok-read_field.ensures.gave c.version_in.ensures.exact

pub returns-clause-bytes : goal.returns-clause-bytes
returns-clause-bytes g c = on_any c.version_in.result c.in_ok-read_field.ensures.bytes

pub returns-in_err-read_field-clause-gave_part : goal.returns-in_err-read_field-clause-gave_part
returns-in_err-read_field-clause-gave_part g c =
    let p = err_from_is_err_and c.from_residual.result c.from_residual.ensures.1 in
    rw (p.1) (kind_gave_cut c.args.name.now _ _ c.in_err-read_field.ensures.gave_part)

pub returns-clause-gave_part : goal.returns-clause-gave_part
returns-clause-gave_part g c =
    kind_gave_part c.args.name.now _ _ c.read_field.new.buf c.version_in.result
    c.read_field.ensures.room c.in_ok-read_field.ensures.gave c.version_in.ensures.exact
