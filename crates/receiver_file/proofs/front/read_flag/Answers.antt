use Rattle.std.proofs.lemmas.Result.{err_from_is_err_and}
use Rattle.receiver_file.proofs.Fronting.{flag_cut, flag_fails, flag_gives}
use Rattle.receiver_file.proofs.Giving.{fault_made, gave_made}
use Rattle.receiver_file.specs.Front.{flag_at}
use Rattle.receiver_file.specs.Numbers.{octet_at}
use Rattle.receiver_file.proofs.front.read_flag.Goals as goal
use Rattle.st_format.proofs.Gave.{fault_one}
use Rattle.media_file.specs.Faults.{file_fault_origin}

pub returns-in_err-code-clause-fault : goal.returns-in_err-code-clause-fault
returns-in_err-code-clause-fault g c =
    let p = err_from_is_err_and c.from_residual.result c.from_residual.ensures.1 in
    rw (p.1, p.2) (flag_cut _ c.in_err-code.field-0.0 c.in_err-code.ensures.fault)

pub returns-clause-read : goal.returns-clause-read
returns-clause-read g c =
    flag_gives _ _ _ c.flag_in.result c.in_ok-code.ensures.read c.flag_in.ensures

pub returns-clause-fault : goal.returns-clause-fault
returns-clause-fault g c =
    flag_fails _ _ _ c.flag_in.result c.in_ok-code.ensures.read c.flag_in.ensures

pub returns-in_err-code-clause-gave_wrong : goal.returns-in_err-code-clause-gave_wrong
returns-in_err-code-clause-gave_wrong g c =
    let p =
    err_from_is_err_and c.from_residual.result c.from_residual.ensures.1 in
    let f = c.in_err-code.field-0.0 in
    rw (p.1, p.2)
    (fault_one file_fault_origin octet_at flag_at _ _ _ f (λ was. flag_cut was f)
    c.in_err-code.ensures.gave_wrong)

pub returns-clause-gave : goal.returns-clause-gave
returns-clause-gave g c =
    let n = c.in_ok-code.code in
    gave_made octet_at flag_at n c.flag_in.result _ _
    (λ was left h. flag_gives was left n c.flag_in.result h c.flag_in.ensures)
    c.in_ok-code.ensures.gave

pub returns-clause-gave_wrong : goal.returns-clause-gave_wrong
returns-clause-gave_wrong g c =
    let n = c.in_ok-code.code in
    fault_made octet_at flag_at n c.flag_in.result _ _ (g.S.ByteSource.ended
    c.read_octet.new.source)
    (λ was left h. flag_fails was left n c.flag_in.result h c.flag_in.ensures)
    c.in_ok-code.ensures.gave
