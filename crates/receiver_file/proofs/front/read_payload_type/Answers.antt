use Rattle.std.proofs.lemmas.Result.{err_from_is_err_and}
use Rattle.receiver_file.proofs.Fronting.{payload_type_cut, payload_type_gives, payload_type_high}
use Rattle.receiver_file.proofs.Giving.{fault_of, gave_one}
use Rattle.media_file.specs.declared.fault.FileFault.TheVariants.{BadField}
use Rattle.receiver_file.specs.Front.{payload_type_at}
use Rattle.receiver_file.specs.Numbers.{octet_at}
use Rattle.receiver_file.proofs.front.read_payload_type.Goals as goal
use Rattle.st_format.proofs.Gave.{fault_one}
use Rattle.media_file.specs.Faults.{file_fault_origin}

pub returns-in_err-payload_type-clause-fault : goal.returns-in_err-payload_type-clause-fault
returns-in_err-payload_type-clause-fault g c =
    let p = err_from_is_err_and c.from_residual.result c.from_residual.ensures.1 in
    rw (p.1, p.2)
    (payload_type_cut _ c.in_err-payload_type.field-0.0 c.in_err-payload_type.ensures.fault)

pub returns-then-payload_type-gt127-clause-fault : goal.returns-then-payload_type-gt127-clause-fault
returns-then-payload_type-gt127-clause-fault g c =
    payload_type_high _ _ _ c.if-payload_type-gt127.true c.in_ok-payload_type.ensures.read

pub returns-clause-read : goal.returns-clause-read
returns-clause-read g c =
    payload_type_gives _ _ _ c.if-payload_type-gt127.false c.in_ok-payload_type.ensures.read

pub returns-in_err-payload_type-clause-gave_wrong :
    goal.returns-in_err-payload_type-clause-gave_wrong
returns-in_err-payload_type-clause-gave_wrong g c =
    let p =
    err_from_is_err_and c.from_residual.result c.from_residual.ensures.1 in
    let f = c.in_err-payload_type.field-0.0 in
    rw (p.1, p.2)
    (fault_one file_fault_origin octet_at payload_type_at _ _ _ f (λ was. payload_type_cut was f)
    c.in_err-payload_type.ensures.gave_wrong)

pub returns-then-payload_type-gt127-clause-gave_wrong :
    goal.returns-then-payload_type-gt127-clause-gave_wrong
returns-then-payload_type-gt127-clause-gave_wrong g c =
    let n = c.in_ok-payload_type.payload_type in
    fault_of octet_at payload_type_at n _ _ _ BadField
    (λ was left. payload_type_high was left n c.if-payload_type-gt127.true)
    c.in_ok-payload_type.ensures.gave

pub returns-clause-gave : goal.returns-clause-gave
returns-clause-gave g c =
    let n = c.in_ok-payload_type.payload_type in
    gave_one octet_at payload_type_at n n _ _
    (λ was left. payload_type_gives was left n c.if-payload_type-gt127.false)
    c.in_ok-payload_type.ensures.gave
