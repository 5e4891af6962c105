use Rattle.std.proofs.lemmas.Result.{err_from_is_err_and}
use Rattle.pcap_file.proofs.BlockReads.{order_cut, order_fails, order_gives}
use Rattle.pcap_file.specs.NgReading.{order_at, section_at, section_by}
use Rattle.pcap_file.proofs.blocks_reading.read_section_block.Goals as goal
use Rattle.st_format.proofs.Gave.{fault_one, fault_two, gave_two}
use Rattle.pcap_file.specs.Fields.{recording_fault_origin}

pub returns-in_err-order-clause-fault : goal.returns-in_err-order-clause-fault
returns-in_err-order-clause-fault g c =
    let p = err_from_is_err_and c.from_residual.result c.from_residual.ensures.1 in
    rw (p.1, p.2)
    (order_cut c.args.front.now _ c.in_err-order.field-0.0 c.in_err-order.ensures.fault)

pub returns-in_err-read_section_by-clause-fault : goal.returns-in_err-read_section_by-clause-fault
returns-in_err-read_section_by-clause-fault g c =
    let p =
    err_from_is_err_and c.from_residual-in_err-read_section_by.result
    c.from_residual-in_err-read_section_by.ensures.1 in
    rw (p.1, p.2)
    (order_fails c.args.front.now _ _ c.in_ok-order.order c.in_err-read_section_by.field-0.0
    c.in_ok-order.ensures.read c.in_err-read_section_by.ensures.fault)

pub returns-clause-read : goal.returns-clause-read
returns-clause-read g c =
    order_gives c.args.front.now _ _ _ c.in_ok-order.order c.in_ok-order.ensures.read
    c.in_ok-read_section_by.ensures.read

pub returns-in_err-order-clause-gave_wrong : goal.returns-in_err-order-clause-gave_wrong
returns-in_err-order-clause-gave_wrong g c =
    let p = err_from_is_err_and c.from_residual.result c.from_residual.ensures.1 in
    rw (p.1, p.2)
    (fault_one recording_fault_origin order_at (section_at c.args.front.now) _ _ _
    c.in_err-order.field-0.0
    (λ was q. order_cut c.args.front.now was c.in_err-order.field-0.0 q)
    c.in_err-order.ensures.gave_wrong)

pub returns-in_err-read_section_by-clause-gave_wrong :
    goal.returns-in_err-read_section_by-clause-gave_wrong
returns-in_err-read_section_by-clause-gave_wrong g c =
    let p =
    err_from_is_err_and c.from_residual-in_err-read_section_by.result
    c.from_residual-in_err-read_section_by.ensures.1 in
    rw (p.1, p.2)
    (fault_two recording_fault_origin order_at (section_by c.in_ok-order.order c.args.front.now)
    (section_at c.args.front.now) c.in_ok-order.order _ _ _ _ c.in_err-read_section_by.field-0.0
    (λ was mid q r. order_fails c.args.front.now was mid c.in_ok-order.order
    c.in_err-read_section_by.field-0.0 q r) c.in_ok-order.ensures.gave
    c.in_err-read_section_by.ensures.gave_wrong)

pub returns-clause-gave : goal.returns-clause-gave
returns-clause-gave g c =
    gave_two order_at (section_by c.in_ok-order.order c.args.front.now)
    (section_at c.args.front.now) c.in_ok-order.order tt c.in_ok-order.order _ _ _
    (λ was mid left q r. order_gives c.args.front.now was mid left c.in_ok-order.order q r)
    c.in_ok-order.ensures.gave c.in_ok-read_section_by.ensures.gave
