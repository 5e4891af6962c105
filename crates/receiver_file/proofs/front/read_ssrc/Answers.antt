use Rattle.std.proofs.lemmas.Result.{err_from_is_err_and}
use Rattle.receiver_file.proofs.Fronting.{ssrc_cut, ssrc_fails, ssrc_gives, ssrc_short}
use Rattle.receiver_file.proofs.Giving.{fault_both, fault_two, gave_both}
use Rattle.receiver_file.specs.Front.{flag_at, ssrc_at}
use Rattle.receiver_file.specs.Numbers.{number_at}
use Rattle.receiver_file.proofs.front.read_ssrc.Goals as goal
use Rattle.st_format.proofs.Gave.{fault_one}
use Rattle.media_file.specs.Faults.{file_fault_origin}

pub returns-in_err-pinned-clause-fault : goal.returns-in_err-pinned-clause-fault
returns-in_err-pinned-clause-fault g c =
    let p = err_from_is_err_and c.from_residual.result c.from_residual.ensures.1 in
    rw (p.1, p.2) (ssrc_cut _ c.in_err-pinned.field-0.0 c.in_err-pinned.ensures.fault)

pub returns-in_err-ssrc-clause-fault : goal.returns-in_err-ssrc-clause-fault
returns-in_err-ssrc-clause-fault g c =
    let p =
    err_from_is_err_and c.from_residual-in_err-ssrc.result
    c.from_residual-in_err-ssrc.ensures.1 in
    rw (p.1, p.2)
    (ssrc_short _ _ _ c.in_err-ssrc.field-0.0 c.in_ok-pinned.ensures.read
    c.in_err-ssrc.ensures.fault)

pub returns-clause-read : goal.returns-clause-read
returns-clause-read g c =
    ssrc_gives _ _ _ _ _ c.ssrc_in.result c.in_ok-pinned.ensures.read c.in_ok-ssrc.ensures.read
    c.ssrc_in.ensures

pub returns-clause-fault : goal.returns-clause-fault
returns-clause-fault g c =
    ssrc_fails _ _ _ _ _ c.ssrc_in.result c.in_ok-pinned.ensures.read c.in_ok-ssrc.ensures.read
    c.ssrc_in.ensures

pub returns-in_err-pinned-clause-gave_wrong : goal.returns-in_err-pinned-clause-gave_wrong
returns-in_err-pinned-clause-gave_wrong g c =
    let p =
    err_from_is_err_and c.from_residual.result c.from_residual.ensures.1 in
    let f = c.in_err-pinned.field-0.0 in
    rw (p.1, p.2)
    (fault_one file_fault_origin flag_at ssrc_at _ _ _ f (λ was. ssrc_cut was f)
    c.in_err-pinned.ensures.gave_wrong)

pub returns-in_err-ssrc-clause-gave_wrong : goal.returns-in_err-ssrc-clause-gave_wrong
returns-in_err-ssrc-clause-gave_wrong g c =
    let p =
    err_from_is_err_and c.from_residual-in_err-ssrc.result c.from_residual-in_err-ssrc.ensures.1 in
    let f = c.in_err-ssrc.field-0.0 in
    let b = c.in_ok-pinned.pinned in
    rw (p.1, p.2)
    (fault_two flag_at number_at ssrc_at b _ _ _ _ f (λ was mid. ssrc_short was mid b f)
    c.in_ok-pinned.ensures.gave c.in_err-ssrc.ensures.gave_wrong)

pub returns-clause-gave : goal.returns-clause-gave
returns-clause-gave g c =
    let b = c.in_ok-pinned.pinned in
    let n = c.in_ok-ssrc.ssrc in
    gave_both flag_at number_at ssrc_at b n c.ssrc_in.result _ _ _
    (λ was mid left p q. ssrc_gives was mid left b n c.ssrc_in.result p q c.ssrc_in.ensures)
    c.in_ok-pinned.ensures.gave c.in_ok-ssrc.ensures.gave

pub returns-clause-gave_wrong : goal.returns-clause-gave_wrong
returns-clause-gave_wrong g c =
    let b = c.in_ok-pinned.pinned in
    let n = c.in_ok-ssrc.ssrc in
    fault_both flag_at number_at ssrc_at b n c.ssrc_in.result _ _ _
    (g.S.ByteSource.ended c.read_number.new.source)
    (λ was mid left p q. ssrc_fails was mid left b n c.ssrc_in.result p q c.ssrc_in.ensures)
    c.in_ok-pinned.ensures.gave c.in_ok-ssrc.ensures.gave
