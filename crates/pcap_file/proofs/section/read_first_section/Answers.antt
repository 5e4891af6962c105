use Rattle.std.proofs.Common.{ap, sym, ◌∙◌}
use Rattle.std.proofs.lemmas.Result.{err_from_is_err_and}
use Rattle.pcap_file.specs.NgSteps.{known}
use Rattle.pcap_file.specs.declared.fault.RecordingFault.TheVariants.{BadMagic, Packed}
use Rattle.pcap_file.proofs.Steps.{by_packed, first_cut, first_fails, first_gives, first_other}
use Rattle.pcap_file.specs.Fields.{field_at, recording_fault_origin}
use Rattle.pcap_file.specs.NgReading.{section_at}
use Rattle.pcap_file.specs.NgSteps.{first_at}
use Rattle.pcap_file.proofs.section.read_first_section.Goals as goal
use Rattle.st_format.proofs.Gave.{fault_of, fault_one, fault_two, gave_two}

pub returns-in_err-read_field-clause-fault : goal.returns-in_err-read_field-clause-fault
returns-in_err-read_field-clause-fault g c =
    let p = err_from_is_err_and c.from_residual.result c.from_residual.ensures.1 in
    rw (p.1, p.2) (first_cut _ c.in_err-read_field.field-0.0 c.in_err-read_field.ensures.fault)

pub returns-then-long_at-ne-SECTION-clause-fault : goal.returns-then-long_at-ne-SECTION-clause-fault
returns-then-long_at-ne-SECTION-clause-fault g c =
    first_other _ _ c.read_field.new.buf BadMagic
    (ap by_packed (sym c.is_packed.ensures ∙ c.if-is_packed.false))
    (λ e. c.if-long_at-ne-SECTION.true (c.long_at.ensures ∙ e)) c.in_ok-read_field.ensures.read

pub returns-then-is_packed-clause-fault : goal.returns-then-is_packed-clause-fault
returns-then-is_packed-clause-fault g c =
    first_other _ _ c.read_field.new.buf Packed
    (ap by_packed (sym c.is_packed.ensures ∙ c.if-is_packed.true))
    (λ e. c.if-long_at-ne-SECTION.true (c.long_at.ensures ∙ e)) c.in_ok-read_field.ensures.read

pub returns-in_err-order-clause-fault : goal.returns-in_err-order-clause-fault
returns-in_err-order-clause-fault g c =
    let p =
    err_from_is_err_and c.from_residual-in_err-order.result
    c.from_residual-in_err-order.ensures.1 in
    rw (p.1, p.2)
    (first_fails _ _ c.read_field.new.buf c.in_err-order.field-0.0
    (sym c.long_at.ensures ∙ c.if-long_at-ne-SECTION.false) c.in_ok-read_field.ensures.read
    c.in_err-order.ensures.fault)

pub returns-clause-read : goal.returns-clause-read
returns-clause-read g c =
    first_gives _ _ _ c.read_field.new.buf c.in_ok-order.order (known c.new.result) c.new.ensures
    (sym c.long_at.ensures ∙ c.if-long_at-ne-SECTION.false) c.in_ok-read_field.ensures.read
    c.in_ok-order.ensures.read

pub returns-in_err-read_field-clause-gave_wrong : goal.returns-in_err-read_field-clause-gave_wrong
returns-in_err-read_field-clause-gave_wrong g c =
    let p = err_from_is_err_and c.from_residual.result c.from_residual.ensures.1 in
    rw (p.1, p.2)
    (fault_one recording_fault_origin (field_at 8) first_at _ _ _ c.in_err-read_field.field-0.0
    (λ was q. first_cut was c.in_err-read_field.field-0.0 q) c.in_err-read_field.ensures.gave_wrong)

pub returns-then-long_at-ne-SECTION-clause-gave_wrong :
    goal.returns-then-long_at-ne-SECTION-clause-gave_wrong
returns-then-long_at-ne-SECTION-clause-gave_wrong g c =
    let front = c.read_field.new.buf in
    let is = ap by_packed (sym c.is_packed.ensures ∙ c.if-is_packed.false) in
    fault_of recording_fault_origin (field_at 8) first_at front _ _ _ BadMagic
    (λ was left q. first_other was left front BadMagic is
    (λ e. c.if-long_at-ne-SECTION.true (c.long_at.ensures ∙ e)) q) c.in_ok-read_field.ensures.gave

pub returns-then-is_packed-clause-gave_wrong : goal.returns-then-is_packed-clause-gave_wrong
returns-then-is_packed-clause-gave_wrong g c =
    let front = c.read_field.new.buf in
    let is = ap by_packed (sym c.is_packed.ensures ∙ c.if-is_packed.true) in
    fault_of recording_fault_origin (field_at 8) first_at front _ _ _ Packed
    (λ was left q. first_other was left front Packed is
    (λ e. c.if-long_at-ne-SECTION.true (c.long_at.ensures ∙ e)) q) c.in_ok-read_field.ensures.gave

pub returns-in_err-order-clause-gave_wrong : goal.returns-in_err-order-clause-gave_wrong
returns-in_err-order-clause-gave_wrong g c =
    let front = c.read_field.new.buf in
    let is = sym c.long_at.ensures ∙ c.if-long_at-ne-SECTION.false in
    let p =
    err_from_is_err_and c.from_residual-in_err-order.result
    c.from_residual-in_err-order.ensures.1 in
    rw (p.1, p.2)
    (fault_two recording_fault_origin (field_at 8) (section_at front) first_at front _ _ _ _
    c.in_err-order.field-0.0
    (λ was mid q r. first_fails was mid front c.in_err-order.field-0.0 is q r)
    c.in_ok-read_field.ensures.gave c.in_err-order.ensures.gave_wrong)

pub returns-clause-gave : goal.returns-clause-gave
returns-clause-gave g c =
    let front = c.read_field.new.buf in
    let is = sym c.long_at.ensures ∙ c.if-long_at-ne-SECTION.false in
    gave_two (field_at 8) (section_at front) first_at front c.in_ok-order.order
    (known c.new.result) _ _ _
    (λ was mid left q r. first_gives was mid left front c.in_ok-order.order (known c.new.result)
    c.new.ensures is q r) c.in_ok-read_field.ensures.gave c.in_ok-order.ensures.gave
