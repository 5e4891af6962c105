use Rattle.std.proofs.Common.{◌∙◌, ◌∷◌, [], ℕ, List, length, arith, refl, subst, take}
use Rattle.inspect_engine.specs.Arrivals.{captured}
use Rattle.inspect_engine.specs.Inspected.{NotesEach}
use Rattle.pcap_file.specs.Runs.{ReadsFault, ReadsPacket, ReadsToEnd, layout_seen, packet_seen}
use Rattle.inspect_engine.proofs.Noting.{going_all, going_none, going_on, going_wrong}
use Rattle.inspect_engine.proofs.Noting.{rest_is}
use Rattle.inspect_engine.proofs.recording.note_packets.Goals as goal

pub packets-init : goal.packets-init
packets-init g c = record {
  room = refl;
  going = going_none (length c.args.buf.now) (layout_seen c.args.layout.now)
      (g.S.ByteSource.gave c.args.source.now) c.args.inspection.now;
  failures = refl;
}

pub next_packet-requires : goal.next_packet-requires
next_packet-requires g c = omega (arith, c.packets.invariant.room, c.requires)

pub packets-preserved : goal.packets-preserved
packets-preserved g c =
    let i = c.packets.invariant in
    record {
      room = c.in-Ok-Some.ensures.room ∙ i.room;
      going = going_on (length c.args.buf.now) (layout_seen c.args.layout.now)
          (layout_seen c.packets.layout) (layout_seen c.next_packet.new.layout)
          (g.S.ByteSource.gave c.args.source.now) (g.S.ByteSource.gave c.packets.source)
          (g.S.ByteSource.gave c.next_packet.new.source) c.args.inspection.now
          c.packets.inspection c.note.new.self
          (packet_seen c.in-Ok-Some.packet c.next_packet.new.buf) i.going
          (subst
          (λ (n : ℕ). ReadsPacket n (g.S.ByteSource.gave c.packets.source)
          (g.S.ByteSource.gave c.next_packet.new.source) (layout_seen c.packets.layout)
          (layout_seen c.next_packet.new.layout)
          (packet_seen c.in-Ok-Some.packet c.next_packet.new.buf)) i.room
          (rw c.in-Ok-Some.field-0-is at c.in-Ok-Some.ensures.read))
          (subst
          (λ (x : List ℕ). NotesEach
          (captured c.in-Ok-Some.packet.head (take c.in-Ok-Some.packet.head.captured x) ∷ [])
          c.packets.inspection c.note.new.self)
          (rest_is c.in-Ok-Some.packet.place c.next_packet.new.buf)
          c.in_ok-note-in-Ok-Some.ensures);
      failures = c.in-Ok-Some.ensures.counted ∙ i.failures;
    }

pub shape_of-buf-in_err-note-in-Ok-Some : goal.shape_of-buf-in_err-note-in-Ok-Some
shape_of-buf-in_err-note-in-Ok-Some g c =
    c.in-Ok-Some.ensures.room ∙ c.packets.invariant.room

pub returns-in_err-note-in-Ok-Some-clause-room : goal.returns-in_err-note-in-Ok-Some-clause-room
returns-in_err-note-in-Ok-Some-clause-room g c =
    c.in-Ok-Some.ensures.room ∙ c.packets.invariant.room

pub shape_of-buf-in-Ok-None : goal.shape_of-buf-in-Ok-None
shape_of-buf-in-Ok-None g c = c.in-Ok-None.ensures.room ∙ c.packets.invariant.room

pub returns-in-Ok-None-clause-room : goal.returns-in-Ok-None-clause-room
returns-in-Ok-None-clause-room g c = c.in-Ok-None.ensures.room ∙ c.packets.invariant.room

pub returns-in-Ok-None-clause-noted : goal.returns-in-Ok-None-clause-noted
returns-in-Ok-None-clause-noted g c =
    let i = c.packets.invariant in
    going_all (length c.args.buf.now) (layout_seen c.args.layout.now)
    (layout_seen c.packets.layout) (g.S.ByteSource.gave c.args.source.now)
    (g.S.ByteSource.gave c.packets.source) (g.S.ByteSource.gave c.next_packet.new.source)
    (g.S.ByteSource.ended c.next_packet.new.source) c.args.inspection.now
    c.packets.inspection i.going
    (subst
    (λ (n : ℕ). ReadsToEnd n (g.S.ByteSource.gave c.packets.source)
    (g.S.ByteSource.gave c.next_packet.new.source)
    (g.S.ByteSource.ended c.next_packet.new.source) (layout_seen c.packets.layout)) i.room
    (rw c.in-Ok-None.field-0-is at c.in-Ok-None.ensures.read))

pub shape_of-buf-in-Err : goal.shape_of-buf-in-Err
shape_of-buf-in-Err g c = c.in-Err.ensures.room ∙ c.packets.invariant.room

pub returns-in-Err-clause-room : goal.returns-in-Err-clause-room
returns-in-Err-clause-room g c = c.in-Err.ensures.room ∙ c.packets.invariant.room

pub returns-in-Err-clause-noted : goal.returns-in-Err-clause-noted
returns-in-Err-clause-noted g c =
    let i = c.packets.invariant in
    going_wrong (length c.args.buf.now) (layout_seen c.args.layout.now)
    (layout_seen c.packets.layout) (g.S.ByteSource.gave c.args.source.now)
    (g.S.ByteSource.gave c.packets.source) (g.S.ByteSource.gave c.next_packet.new.source)
    (g.S.ByteSource.ended c.next_packet.new.source) c.in-Err.fault c.args.inspection.now
    c.packets.inspection i.going
    (subst
    (λ (n : ℕ). ReadsFault n (g.S.ByteSource.gave c.packets.source)
    (g.S.ByteSource.gave c.next_packet.new.source)
    (g.S.ByteSource.ended c.next_packet.new.source) (layout_seen c.packets.layout)
    c.in-Err.fault) i.room c.in-Err.ensures.fault)
