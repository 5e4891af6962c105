use Rattle.std.proofs.Common.{◌≡◌, ◌∙◌, ℕ, sym, subst, length}
use Rattle.std.proofs.lemmas.Result.{err_from_is_err_and}
use Rattle.pcap_file.specs.Runs.{ReadsFault, ReadsPacket, ReadsToEnd, layout_seen, packet_seen}
use Rattle.pcap_file.proofs.Growing.{grew_on}
use Rattle.pcap_file.specs.Runs.{most_packet}
use Rattle.recording_reader.proofs.Passing.{none_left, passed_end, passed_fault}
use Rattle.recording_reader.proofs.Passing.{passed_found, passed_more}
use Rattle.recording_reader.proofs.reading.read_on.Goals as goal

pub returns-in_err-packet-clause-fault : goal.returns-in_err-packet-clause-fault
returns-in_err-packet-clause-fault g c =
    let l = c.loop-packet in
    let told = g.S.ByteSource in
    let f = c.in_err-packet.field-0.0 in
    let same : length l.buf ≡ most_packet = l.invariant.room ∙ sym c.requires in
    let p = err_from_is_err_and c.from_residual.result c.from_residual.ensures.1 in
    rw (p.1, p.2)
    (passed_fault c.args.flows.now (told.gave c.args.source.now) (told.gave l.source)
    (told.gave c.next_packet.new.source) (told.ended c.next_packet.new.source) c.args.layout.now
    (layout_seen l.layout) c.args.left_out.now l.left_out f l.invariant.passed
    (subst (λ (n : ℕ). ReadsFault n (told.gave l.source) (told.gave c.next_packet.new.source)
    (told.ended c.next_packet.new.source) (layout_seen l.layout) f) same
    c.in_err-packet.ensures.fault))

pub returns-in-Ok-clause-read : goal.returns-in-Ok-clause-read
returns-in-Ok-clause-read g c =
    let l = c.loop-packet in
    let told = g.S.ByteSource in
    let q = packet_seen c.in-Some.packet c.next_packet.new.buf in
    let same : length l.buf ≡ most_packet = l.invariant.room ∙ sym c.requires in
    passed_found c.args.flows.now (told.gave c.args.source.now) (told.gave l.source)
    (told.gave c.next_packet.new.source) (told.ended c.next_packet.new.source) c.args.layout.now
    c.next_packet.new.layout (layout_seen l.layout) c.args.left_out.now l.left_out
    c.in-Some.packet c.in-Ok.found c.next_packet.new.buf l.invariant.passed
    (subst (λ (n : ℕ). ReadsPacket n (told.gave l.source) (told.gave c.next_packet.new.source)
    (layout_seen l.layout) (layout_seen c.next_packet.new.layout) q) same
    (rw c.in-Some.is at c.in_ok-packet.ensures.read))
    (sym (rw c.in-Ok.is at c.find.ensures.is))
    (sym (rw c.in-Ok.is at c.find.ensures.why))

pub loop-packet-preserved : goal.loop-packet-preserved
loop-packet-preserved g c =
    let l = c.loop-packet in
    let told = g.S.ByteSource in
    let q = packet_seen c.in-Some.packet c.next_packet.new.buf in
    let same : length l.buf ≡ most_packet = l.invariant.room ∙ sym c.requires in
    record {
      room = c.in_ok-packet.ensures.room ∙ l.invariant.room;
      failures = c.in_ok-packet.ensures.counted ∙ l.invariant.failures;
      names = c.in_ok-packet.ensures.names ∙ l.invariant.names;
      grown = grew_on _ _ _ l.invariant.grown c.in_ok-packet.ensures.grown;
      passed =
          passed_more c.args.flows.now (told.gave c.args.source.now) (told.gave l.source)
          (told.gave c.next_packet.new.source) (layout_seen c.args.layout.now)
          (layout_seen l.layout) (layout_seen c.next_packet.new.layout) c.args.left_out.now
          l.left_out c.note.new.self q c.in-Err.omission l.invariant.passed
          (subst (λ (n : ℕ). ReadsPacket n (told.gave l.source)
          (told.gave c.next_packet.new.source) (layout_seen l.layout)
          (layout_seen c.next_packet.new.layout) q) same
          (rw c.in-Some.is at c.in_ok-packet.ensures.read))
          (sym (rw c.in-Err.is at c.find.ensures.is))
          (sym (rw c.in-Err.is at c.find.ensures.why)) c.note.ensures;
    }

pub returns-clause-read : goal.returns-clause-read
returns-clause-read g c =
    let l = c.loop-packet in
    let told = g.S.ByteSource in
    let same : length l.buf ≡ most_packet = l.invariant.room ∙ sym c.requires in
    let none = none_left c.in_ok-packet.field-0 c.in_default.not-Some in
    passed_end c.args.flows.now (told.gave c.args.source.now) (told.gave l.source)
    (told.gave c.next_packet.new.source) (told.ended c.next_packet.new.source) c.args.layout.now
    c.next_packet.new.layout (layout_seen l.layout) c.args.left_out.now l.left_out
    c.next_packet.new.buf l.invariant.passed
    (subst (λ (n : ℕ). ReadsToEnd n (told.gave l.source) (told.gave c.next_packet.new.source)
    (told.ended c.next_packet.new.source) (layout_seen l.layout)) same
    (rw none at c.in_ok-packet.ensures.read))
