use Rattle.std.proofs.lemmas.Result.{err_from_is_err_and}
use Rattle.receiver_file.proofs.Fronting.{name_cut, name_one, name_two}
use Rattle.receiver_file.proofs.Giving.{fault_of, gave_octets, gave_one}
use Rattle.media_file.specs.declared.fault.FileFault.TheVariants.{BadVersion}
use Rattle.media_file.specs.Fronts.{kind_at, receiver_name}
use Rattle.receiver_file.specs.Front.{name_at}
use Rattle.receiver_file.proofs.front.read_name.Goals as goal
use Rattle.st_format.proofs.Gave.{fault_one}
use Rattle.media_file.specs.Faults.{file_fault_origin}

pub returns-in_err-read_kind-clause-fault : goal.returns-in_err-read_kind-clause-fault
returns-in_err-read_kind-clause-fault g c =
    let p = err_from_is_err_and c.from_residual.result c.from_residual.ensures.1 in
    rw (p.1, p.2) (name_cut _ c.in_err-read_kind.field-0.0 c.in_err-read_kind.ensures.fault)

pub returns-in-One-clause-read : goal.returns-in-One-clause-read
returns-in-One-clause-read g c = name_one _ _ _ c.in-One.is c.in_ok-read_kind.ensures.read

pub returns-in-Two-clause-fault : goal.returns-in-Two-clause-fault
returns-in-Two-clause-fault g c = name_two _ _ _ c.in-Two.is c.in_ok-read_kind.ensures.read

pub returns-in_err-read_kind-clause-gave_wrong : goal.returns-in_err-read_kind-clause-gave_wrong
returns-in_err-read_kind-clause-gave_wrong g c =
    let p =
    err_from_is_err_and c.from_residual.result c.from_residual.ensures.1 in
    let f = c.in_err-read_kind.field-0.0 in
    rw (p.1, p.2)
    (fault_one file_fault_origin (kind_at receiver_name) name_at _ _ _ f (λ was. name_cut was f)
    c.in_err-read_kind.ensures.gave_wrong)

pub returns-in-One-clause-gave : goal.returns-in-One-clause-gave
returns-in-One-clause-gave g c =
    let v = c.in_ok-read_kind.field-0 in
    gave_one (kind_at receiver_name) name_at v tt _ _ (λ was left. name_one was left v c.in-One.is)
    (gave_octets (kind_at receiver_name) v _ _ c.in_ok-read_kind.ensures.gave
    c.in_ok-read_kind.ensures.bytes)

pub returns-in-Two-clause-gave_wrong : goal.returns-in-Two-clause-gave_wrong
returns-in-Two-clause-gave_wrong g c =
    let v = c.in_ok-read_kind.field-0 in
    fault_of (kind_at receiver_name) name_at v _ _ _ BadVersion
    (λ was left. name_two was left v c.in-Two.is)
    (gave_octets (kind_at receiver_name) v _ _ c.in_ok-read_kind.ensures.gave
    c.in_ok-read_kind.ensures.bytes)
