use Rattle.std.proofs.Common.{◌≡◌, ◌≤◌, ℕ, ◌++◌, length, take, drop, sym, ◌∙◌, arith}
use Rattle.std.proofs.lemmas.List.{length-take-le, take_at}
use Rattle.pcap_file.proofs.PcapReads.{rest_fails_if, rest_gives_if, rest_long}
use Rattle.pcap_file.specs.Fields.{field_at}
use Rattle.pcap_file.specs.PcapReading.{octets_at}
use Rattle.std.proofs.Common.{refl, Ok, Err}
use Rattle.pcap_file.specs.declared.fault.RecordingFault.TheVariants.{PacketTooLong}
use Rattle.pcap_file.proofs.Gave.{fault_as, fault_none, gave_as}
use Rattle.pcap_file.proofs.pcap_reading.record_rest.Goals as goal

pub returns-then-buf-count-clause-fault : goal.returns-then-buf-count-clause-fault
returns-then-buf-count-clause-fault g c =
    rest_long (length c.args.buf.now) c.args.packet.now _ (omega (arith, c.if-buf-count.true))

pub returns-clause-read : goal.returns-clause-read
returns-clause-read g c =
    let n : ℕ = c.args.packet.now.captured in
    let buf = c.args.buf.now in
    let fits : n ≤ length buf = omega (arith, c.if-buf-count.false) in
    let count : length (take n buf) ≡ n = length-take-le n buf fits in
    rest_gives_if (length buf) (length (take n buf)) c.args.packet.now _ _ c.read_field.new.buf
    (take n (c.read_field.new.buf ++ drop n buf)) c.read_field.result fits count
    (sym (take_at c.read_field.new.buf (drop n buf) n (c.read_field.ensures.room ∙ count)))
    c.read_field.ensures.read

pub returns-clause-fault : goal.returns-clause-fault
returns-clause-fault g c =
    let n : ℕ = c.args.packet.now.captured in
    let buf = c.args.buf.now in
    let fits : n ≤ length buf = omega (arith, c.if-buf-count.false) in
    let count : length (take n buf) ≡ n = length-take-le n buf fits in
    rest_fails_if (length buf) (length (take n buf)) c.args.packet.now _ c.read_field.result fits
    count c.read_field.ensures.fault

pub returns-then-buf-count-clause-gave_wrong : goal.returns-then-buf-count-clause-gave_wrong
returns-then-buf-count-clause-gave_wrong g c =
    fault_none (octets_at (length c.args.buf.now) c.args.packet.now) _ _ _ PacketTooLong
    (λ was. rest_long (length c.args.buf.now) c.args.packet.now was
    (omega (arith, c.if-buf-count.true))) refl

pub returns-clause-gave : goal.returns-clause-gave
returns-clause-gave g c =
    let n : ℕ = c.args.packet.now.captured in
    let buf = c.args.buf.now in
    let fits : n ≤ length buf = omega (arith, c.if-buf-count.false) in
    let count : length (take n buf) ≡ n = length-take-le n buf fits in
    let same : c.read_field.new.buf ≡ take n (c.read_field.new.buf ++ drop n buf) =
    sym (take_at c.read_field.new.buf (drop n buf) n (c.read_field.ensures.room ∙ count)) in
    gave_as (field_at (length (take n buf))) (octets_at (length buf) c.args.packet.now)
    (λ _. c.read_field.new.buf) (λ _. take n (c.read_field.new.buf ++ drop n buf)) _ _
    c.read_field.result
    (λ u was left p. rest_gives_if (length buf) (length (take n buf)) c.args.packet.now was left
    c.read_field.new.buf (take n (c.read_field.new.buf ++ drop n buf)) (Ok u) fits count same p)
    c.read_field.ensures.gave

pub returns-clause-gave_wrong : goal.returns-clause-gave_wrong
returns-clause-gave_wrong g c =
    let n : ℕ = c.args.packet.now.captured in
    let buf = c.args.buf.now in
    let fits : n ≤ length buf = omega (arith, c.if-buf-count.false) in
    let count : length (take n buf) ≡ n = length-take-le n buf fits in
    fault_as (field_at (length (take n buf))) (octets_at (length buf) c.args.packet.now) _ _ _
    c.read_field.result
    (λ f was p. rest_fails_if (length buf) (length (take n buf)) c.args.packet.now was (Err f)
    fits count p) c.read_field.ensures.gave_wrong
