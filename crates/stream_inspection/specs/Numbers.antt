-- By which numbers the packets of a stream are told: those of 32 bits, where one of its packets
-- says a high half that isn't 0; and else those of 16 bits, since a sender may leave that half 0.
-- RFC 4175, 4.2; RFC 3550, A.1
use Rattle.std.specs.Prelude.{◌≡◌, ℕ, Bool, false, not, ◌==◌, if◌then◌else◌, List, map}
use Rattle.std.specs.Prelude.{Option, None, Some}
use Rattle.std.specs.BTreeSet.{contains}
use Rattle.std.specs.List.{list_any}
use Rattle.recording_counts.specs.Numbering.{numbered}
use Rattle.recording_counts.specs.Streams.{is_same, key_cmp, key_of, stream_of, streams_of}
use Rattle.recording_counts.specs.Tables.{counted_by, of_key}
use Rattle.recording_counts.specs.declared.packet.Packet.{Packet}
use Rattle.recording_counts.specs.declared.packet.StreamKey.{StreamKey}
use Rattle.recording_counts.specs.declared.stream.StreamCount.{StreamCount}
use Rattle.stream_inspection.specs.declared.stream_tables.StreamTables.{StreamTables}

-- whether a payload says a high half that isn't 0
abbrev pub is_high : Option ℕ → Bool
is_high None = false
is_high (Some extended) = not (extended == 0)

-- whether one of these packets says one
abbrev pub any_high : List Packet → Bool
any_high packets = list_any (λ p. is_high p.extended) packets

-- a packet as if its payload said no high half
abbrev pub without_high : Packet → Packet
without_high p = record p { extended = None }

-- what a stream's packets are counted as: as they are, where one says a high half, and else without
abbrev pub told_as : List Packet → List Packet
told_as own = if any_high own then own else map without_high own

-- what is counted of a stream by the numbers that it is told by
abbrev pub told_stream : {A : Type 0} → StreamKey → List Packet → StreamCount A
told_stream k own = stream_of k (told_as own)

-- and of all packets, stream by stream, in the order of their first coming
abbrev pub told_streams : {A : Type 0} → List Packet → List (StreamCount A)
told_streams packets = counted_by is_same key_of told_stream packets

-- the packets of a stream, in their order
abbrev pub of_stream : StreamKey → List Packet → List Packet
of_stream k packets = of_key is_same key_of k packets

-- the numbers of a stream's packets, in their order
abbrev pub numbers_in : List Packet → List ℕ
numbers_in own = map (λ n. n.number) (numbered own)

-- Tables have what is counted of the streams of these packets, as they are and without high halves,
-- and which streams say one.
pub record AreStreams {A : Type 0} (tables : StreamTables A) (packets : List Packet) : Type 0
  where
    pub long : tables.long ≡ streams_of packets
    pub short : tables.short ≡ streams_of (map without_high packets)
    pub highs : (k : StreamKey) → contains key_cmp tables.highs k ≡ any_high (of_stream k packets)
