use Rattle.std.proofs.lemmas.Result.{err_from_is_err_and}
use Rattle.pcap_file.specs.NgSteps.{known}
use Rattle.pcap_file.proofs.Steps.{section_begins, section_cut}
use Rattle.std.proofs.Common.{None, Some}
use Rattle.pcap_file.specs.NgReading.{section_at}
use Rattle.pcap_file.specs.NgSteps.{section_step}
use Rattle.pcap_file.proofs.section.next_section.Goals as goal
use Rattle.st_format.proofs.Gave.{fault_one, gave_one}
use Rattle.pcap_file.specs.Fields.{recording_fault_origin}

pub returns-in_err-order-clause-fault : goal.returns-in_err-order-clause-fault
returns-in_err-order-clause-fault g c =
    let p = err_from_is_err_and c.from_residual.result c.from_residual.ensures.1 in
    rw (p.1, p.2)
    (section_cut c.args.front.now _ c.in_err-order.field-0.0 c.in_err-order.ensures.fault)

pub returns-clause-read : goal.returns-clause-read
returns-clause-read g c =
    section_begins c.args.front.now _ _ c.in_ok-order.order (known c.new.result) c.new.ensures
    c.in_ok-order.ensures.read

pub returns-in_err-order-clause-gave_wrong : goal.returns-in_err-order-clause-gave_wrong
returns-in_err-order-clause-gave_wrong g c =
    let p = err_from_is_err_and c.from_residual.result c.from_residual.ensures.1 in
    rw (p.1, p.2)
    (fault_one recording_fault_origin (section_at c.args.front.now) (section_step c.args.front.now)
    _ _ _
    c.in_err-order.field-0.0
    (λ was q. section_cut c.args.front.now was c.in_err-order.field-0.0 q)
    c.in_err-order.ensures.gave_wrong)

pub returns-clause-gave : goal.returns-clause-gave
returns-clause-gave g c =
    gave_one (section_at c.args.front.now) (section_step c.args.front.now) c.in_ok-order.order
    (known c.new.result, Some None) _ _
    (λ was left q. section_begins c.args.front.now was left c.in_ok-order.order
    (known c.new.result) c.new.ensures q) c.in_ok-order.ensures.gave
