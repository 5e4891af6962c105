use Rattle.std.proofs.lemmas.Result.{err_from_is_err_and}
use Rattle.receiver_file.proofs.Fronting.{head_first, head_gives, head_second, head_third}
use Rattle.receiver_file.proofs.Giving.{fault_three, fault_two, gave_three}
use Rattle.receiver_file.specs.Front.{count_at, head_at, payload_type_at, ssrc_at}
use Rattle.receiver_file.proofs.front.read_head.Goals as goal
use Rattle.st_format.proofs.Gave.{fault_one}
use Rattle.media_file.specs.Faults.{file_fault_origin}

pub returns-in_err-payload_type-clause-fault : goal.returns-in_err-payload_type-clause-fault
returns-in_err-payload_type-clause-fault g c =
    let p = err_from_is_err_and c.from_residual.result c.from_residual.ensures.1 in
    rw (p.1, p.2) (head_first _ c.in_err-payload_type.field-0.0 c.in_err-payload_type.ensures.fault)

pub returns-in_err-ssrc-clause-fault : goal.returns-in_err-ssrc-clause-fault
returns-in_err-ssrc-clause-fault g c =
    let p =
    err_from_is_err_and c.from_residual-in_err-ssrc.result
    c.from_residual-in_err-ssrc.ensures.1 in
    rw (p.1, p.2)
    (head_second _ _ _ c.in_err-ssrc.field-0.0 c.in_ok-payload_type.ensures.read
    c.in_err-ssrc.ensures.fault)

pub returns-in_err-count-clause-fault : goal.returns-in_err-count-clause-fault
returns-in_err-count-clause-fault g c =
    let p =
    err_from_is_err_and c.from_residual-in_err-count.result
    c.from_residual-in_err-count.ensures.1 in
    rw (p.1, p.2)
    (head_third _ _ _ _ _ c.in_err-count.field-0.0 c.in_ok-payload_type.ensures.read
    c.in_ok-ssrc.ensures.read c.in_err-count.ensures.fault)

pub returns-clause-read : goal.returns-clause-read
returns-clause-read g c =
    head_gives _ _ _ _ _ _ _ c.in_ok-payload_type.ensures.read c.in_ok-ssrc.ensures.read
    c.in_ok-count.ensures.read

pub returns-in_err-payload_type-clause-gave_wrong :
    goal.returns-in_err-payload_type-clause-gave_wrong
returns-in_err-payload_type-clause-gave_wrong g c =
    let p =
    err_from_is_err_and c.from_residual.result c.from_residual.ensures.1 in
    let f = c.in_err-payload_type.field-0.0 in
    rw (p.1, p.2)
    (fault_one file_fault_origin payload_type_at head_at _ _ _ f (λ was. head_first was f)
    c.in_err-payload_type.ensures.gave_wrong)

pub returns-in_err-ssrc-clause-gave_wrong : goal.returns-in_err-ssrc-clause-gave_wrong
returns-in_err-ssrc-clause-gave_wrong g c =
    let p =
    err_from_is_err_and c.from_residual-in_err-ssrc.result c.from_residual-in_err-ssrc.ensures.1 in
    let f = c.in_err-ssrc.field-0.0 in
    let n = c.in_ok-payload_type.payload_type in
    rw (p.1, p.2)
    (fault_two payload_type_at ssrc_at head_at n _ _ _ _ f (λ was mid. head_second was mid n f)
    c.in_ok-payload_type.ensures.gave c.in_err-ssrc.ensures.gave_wrong)

pub returns-in_err-count-clause-gave_wrong : goal.returns-in_err-count-clause-gave_wrong
returns-in_err-count-clause-gave_wrong g c =
    let p =
    err_from_is_err_and c.from_residual-in_err-count.result c.from_residual-in_err-count.ensures.1
    in
    let f = c.in_err-count.field-0.0 in
    let n = c.in_ok-payload_type.payload_type in
    let s = c.in_ok-ssrc.ssrc in
    rw (p.1, p.2)
    (fault_three payload_type_at ssrc_at count_at head_at n s _ _ _ _ _ f
    (λ was mid next. head_third was mid next n s f) c.in_ok-payload_type.ensures.gave
    c.in_ok-ssrc.ensures.gave c.in_err-count.ensures.gave_wrong)

pub returns-clause-gave : goal.returns-clause-gave
returns-clause-gave g c =
    let n = c.in_ok-payload_type.payload_type in
    let s = c.in_ok-ssrc.ssrc in
    let count = c.in_ok-count.count in
    gave_three payload_type_at ssrc_at count_at head_at n s count _ _ _ _ _
    (λ was mid next left. head_gives was mid next left n s count)
    c.in_ok-payload_type.ensures.gave c.in_ok-ssrc.ensures.gave c.in_ok-count.ensures.gave
