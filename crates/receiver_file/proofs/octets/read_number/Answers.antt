use Rattle.std.proofs.lemmas.Result.{err_from_is_err_and}
use Rattle.receiver_file.proofs.Valued.{number_cut, number_gives}
use Rattle.media_file.specs.Fields.{field_at}
use Rattle.receiver_file.proofs.Giving.{gave_octets, gave_one}
use Rattle.receiver_file.specs.Numbers.{number_at}
use Rattle.receiver_file.proofs.octets.read_number.Goals as goal
use Rattle.st_format.proofs.Gave.{fault_one}
use Rattle.media_file.specs.Faults.{file_fault_origin}

pub returns-in_err-read_field-clause-fault : goal.returns-in_err-read_field-clause-fault
returns-in_err-read_field-clause-fault g c =
    let p = err_from_is_err_and c.from_residual.result c.from_residual.ensures.1 in
    rw (p.1, p.2) (number_cut _ c.in_err-read_field.field-0.0 c.in_err-read_field.ensures.fault)

pub returns-clause-read : goal.returns-clause-read
returns-clause-read g c =
    number_gives _ _ c.read_field.new.buf _ c.from_be_bytes.ensures c.in_ok-read_field.ensures.read

pub returns-in_err-read_field-clause-gave_wrong : goal.returns-in_err-read_field-clause-gave_wrong
returns-in_err-read_field-clause-gave_wrong g c =
    let p =
    err_from_is_err_and c.from_residual.result c.from_residual.ensures.1 in
    let f = c.in_err-read_field.field-0.0 in
    rw (p.1, p.2)
    (fault_one file_fault_origin (field_at 4) number_at _ _ _ f (λ was. number_cut was f)
    c.in_err-read_field.ensures.gave_wrong)

pub returns-clause-gave : goal.returns-clause-gave
returns-clause-gave g c =
    gave_one (field_at 4) number_at c.read_field.new.buf _ _ _ (λ was left. number_gives was left
    c.read_field.new.buf _ c.from_be_bytes.ensures)
    (gave_octets (field_at 4) _ _ _ c.in_ok-read_field.ensures.gave
    c.in_ok-read_field.ensures.bytes)
