use Rattle.std.proofs.Common.{length, take, Option, subst}
use Rattle.std.proofs.lemmas.Result.{err_from_is_err_and}
use Rattle.pcap_file.specs.declared.pcap.PacketHead.{PacketHead}
use Rattle.st_format.specs.Given.{GaveNext, Takes}
use Rattle.pcap_file.specs.PcapReading.{head_at}
use Rattle.pcap_file.proofs.PcapReads.{record_cut, record_end, record_fails, record_gives}
use Rattle.pcap_file.specs.PcapReading.{octets_at, record_at}
use Rattle.std.proofs.Common.{None, Some}
use Rattle.pcap_file.proofs.Gave.{whole_one}
use Rattle.pcap_file.proofs.pcap_reading.next_record.Goals as goal
use Rattle.st_format.proofs.Gave.{fault_one, fault_two, gave_two}
use Rattle.pcap_file.specs.Fields.{recording_fault_origin}

pub returns-in_err-packet-clause-fault : goal.returns-in_err-packet-clause-fault
returns-in_err-packet-clause-fault g c =
    let p = err_from_is_err_and c.from_residual.result c.from_residual.ensures.1 in
    rw (p.1, p.2)
    (record_cut (length c.args.buf.now) c.args.file.now _ c.in_err-packet.field-0.0
    c.in_err-packet.ensures.fault)

pub returns-in_default-clause-read : goal.returns-in_default-clause-read
returns-in_default-clause-read g c =
    record_end (length c.args.buf.now) c.args.file.now _ _
    (subst (λ (o : Option PacketHead). Takes (head_at c.args.file.now)
    (g.S.ByteSource.to_give c.args.source.now)
    (g.S.ByteSource.to_give c.record_begins.new.source) o) c.in_default.is
    c.in_ok-packet.ensures.read)

pub returns-in_err-record_rest-clause-fault : goal.returns-in_err-record_rest-clause-fault
returns-in_err-record_rest-clause-fault g c =
    let p =
    err_from_is_err_and c.from_residual-in_err-record_rest.result
    c.from_residual-in_err-record_rest.ensures.1 in
    rw (p.1, p.2)
    (record_fails (length c.args.buf.now) c.args.file.now c.in-Some.packet _ _
    c.in_err-record_rest.field-0.0
    (subst (λ (o : Option PacketHead). Takes (head_at c.args.file.now)
    (g.S.ByteSource.to_give c.args.source.now)
    (g.S.ByteSource.to_give c.record_begins.new.source) o) c.in-Some.is
    c.in_ok-packet.ensures.read) c.in_err-record_rest.ensures.fault)

pub returns-clause-read : goal.returns-clause-read
returns-clause-read g c =
    record_gives (length c.args.buf.now) c.args.file.now c.in-Some.packet
    (take c.in-Some.packet.captured c.record_rest.new.buf) _ _ _
    (subst (λ (o : Option PacketHead). Takes (head_at c.args.file.now)
    (g.S.ByteSource.to_give c.args.source.now)
    (g.S.ByteSource.to_give c.record_begins.new.source) o) c.in-Some.is
    c.in_ok-packet.ensures.read) c.in_ok-record_rest.ensures.read

pub returns-in_err-packet-clause-gave_wrong : goal.returns-in_err-packet-clause-gave_wrong
returns-in_err-packet-clause-gave_wrong g c =
    let p = err_from_is_err_and c.from_residual.result c.from_residual.ensures.1 in
    rw (p.1, p.2)
    (fault_one recording_fault_origin (head_at c.args.file.now)
    (record_at (length c.args.buf.now) c.args.file.now) _ _ _
    c.in_err-packet.field-0.0
    (λ was q. record_cut (length c.args.buf.now) c.args.file.now was c.in_err-packet.field-0.0 q)
    c.in_err-packet.ensures.gave_wrong)

pub returns-in_default-clause-gave : goal.returns-in_default-clause-gave
returns-in_default-clause-gave g c =
    whole_one (head_at c.args.file.now) (record_at (length c.args.buf.now) c.args.file.now) None
    None _ _ _
    (λ was left q. record_end (length c.args.buf.now) c.args.file.now was left q)
    (subst (λ (o : Option PacketHead). GaveNext (head_at c.args.file.now)
    (g.S.ByteSource.gave c.args.source.now) (g.S.ByteSource.gave c.record_begins.new.source)
    (g.S.ByteSource.ended c.record_begins.new.source) o) c.in_default.is
    c.in_ok-packet.ensures.gave)

pub returns-in_err-record_rest-clause-gave_wrong : goal.returns-in_err-record_rest-clause-gave_wrong
returns-in_err-record_rest-clause-gave_wrong g c =
    let p =
    err_from_is_err_and c.from_residual-in_err-record_rest.result
    c.from_residual-in_err-record_rest.ensures.1 in
    rw (p.1, p.2)
    (fault_two recording_fault_origin (head_at c.args.file.now)
    (octets_at (length c.args.buf.now) c.in-Some.packet)
    (record_at (length c.args.buf.now) c.args.file.now) (Some c.in-Some.packet) _ _ _ _
    c.in_err-record_rest.field-0.0
    (λ was mid q r. record_fails (length c.args.buf.now) c.args.file.now c.in-Some.packet was mid
    c.in_err-record_rest.field-0.0 q r)
    (subst (λ (o : Option PacketHead). GaveNext (head_at c.args.file.now)
    (g.S.ByteSource.gave c.args.source.now) (g.S.ByteSource.gave c.record_begins.new.source)
    (g.S.ByteSource.ended c.record_begins.new.source) o) c.in-Some.is c.in_ok-packet.ensures.gave)
    c.in_err-record_rest.ensures.gave_wrong)

pub returns-clause-gave : goal.returns-clause-gave
returns-clause-gave g c =
    let octets = take c.in-Some.packet.captured c.record_rest.new.buf in
    gave_two (head_at c.args.file.now) (octets_at (length c.args.buf.now) c.in-Some.packet)
    (record_at (length c.args.buf.now) c.args.file.now) (Some c.in-Some.packet) octets _ _ _ _
    (λ was mid left q r. record_gives (length c.args.buf.now) c.args.file.now c.in-Some.packet
    octets was mid left q r)
    (subst (λ (o : Option PacketHead). GaveNext (head_at c.args.file.now)
    (g.S.ByteSource.gave c.args.source.now) (g.S.ByteSource.gave c.record_begins.new.source)
    (g.S.ByteSource.ended c.record_begins.new.source) o) c.in-Some.is c.in_ok-packet.ensures.gave)
    c.in_ok-record_rest.ensures.gave
