use Rattle.std.proofs.lemmas.Result.{err_from_is_err_and}
use Rattle.pcap_file.proofs.PcapReads.{pcap_cut, pcap_fails, pcap_gives}
use Rattle.pcap_file.specs.Fields.{field_at, recording_fault_origin}
use Rattle.pcap_file.specs.PcapReading.{pcap_at}
use Rattle.pcap_file.proofs.Gave.{fault_made, gave_made}
use Rattle.pcap_file.proofs.pcap_reading.read_pcap.Goals as goal
use Rattle.st_format.proofs.Gave.{fault_one}

pub returns-in_err-read_field-clause-fault : goal.returns-in_err-read_field-clause-fault
returns-in_err-read_field-clause-fault g c =
    let p = err_from_is_err_and c.from_residual.result c.from_residual.ensures.1 in
    rw (p.1, p.2) (pcap_cut _ c.in_err-read_field.field-0.0 c.in_err-read_field.ensures.fault)

pub returns-clause-read : goal.returns-clause-read
returns-clause-read g c =
    pcap_gives _ _ c.read_field.new.buf c.read_pcap_head.result c.in_ok-read_field.ensures.read
    c.read_pcap_head.ensures.exact

pub returns-clause-fault : goal.returns-clause-fault
returns-clause-fault g c =
    pcap_fails _ _ c.read_field.new.buf c.read_pcap_head.result c.in_ok-read_field.ensures.read
    c.read_pcap_head.ensures.exact

pub returns-in_err-read_field-clause-gave_wrong : goal.returns-in_err-read_field-clause-gave_wrong
returns-in_err-read_field-clause-gave_wrong g c =
    let p = err_from_is_err_and c.from_residual.result c.from_residual.ensures.1 in
    rw (p.1, p.2)
    (fault_one recording_fault_origin (field_at 24) pcap_at _ _ _ c.in_err-read_field.field-0.0
    (λ was q. pcap_cut was c.in_err-read_field.field-0.0 q) c.in_err-read_field.ensures.gave_wrong)

pub returns-clause-gave : goal.returns-clause-gave
returns-clause-gave g c =
    gave_made (field_at 24) pcap_at c.read_field.new.buf (λ h. h) _ _ c.read_pcap_head.result
    (λ was left q. pcap_gives was left c.read_field.new.buf c.read_pcap_head.result q
    c.read_pcap_head.ensures.exact) c.in_ok-read_field.ensures.gave

pub returns-clause-gave_wrong : goal.returns-clause-gave_wrong
returns-clause-gave_wrong g c =
    fault_made (field_at 24) pcap_at c.read_field.new.buf _ _ _ c.read_pcap_head.result
    (λ was left q. pcap_fails was left c.read_field.new.buf c.read_pcap_head.result q
    c.read_pcap_head.ensures.exact) c.in_ok-read_field.ensures.gave
