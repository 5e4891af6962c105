-- Streams of RTP: packets of one payload type and one source. RFC 3550, 5.1
use Rattle.std.specs.Prelude.{ℕ, Bool, true, false, not, ◌==◌, ◌&&◌, List, map}
use Rattle.std.specs.FinSet.{from_list, intersection, len}
use Rattle.std.specs.List.{filter}
use Rattle.std.specs.Ordering.{nat_cmp, ordering_then}
use Rattle.std.specs.declared.cmp.Ordering.{Ordering}
use Rattle.st_format.specs.declared.path.Path.{Path}
use Rattle.st_format.specs.declared.path.Path.TheVariants.{A, B}
use Rattle.st_format.specs.Device.{capped}
use Rattle.recording_counts.specs.declared.packet.Packet.{Packet}
use Rattle.recording_counts.specs.declared.packet.StreamKey.{StreamKey}
use Rattle.recording_counts.specs.declared.stream.StreamCount.{StreamCount}
use Rattle.recording_counts.specs.PathCounts.{count_of}
use Rattle.recording_counts.specs.Numbering.{Numbered, highest_of, numbered}
use Rattle.recording_counts.specs.Tables.{counted_by}

-- whether a path is A
abbrev pub is_a : Path → Bool
is_a A = true
is_a B = false

-- the numbers of the packets that came by A, and of those that came by B, in their order
abbrev pub numbers_by_a : List Numbered → List ℕ
numbers_by_a ns = map (λ n. n.number) (filter (λ n. is_a n.path) ns)

-- the numbers of the packets that came by B, in their order
abbrev pub numbers_by_b : List Numbered → List ℕ
numbers_by_b ns = map (λ n. n.number) (filter (λ n. not (is_a n.path)) ns)

-- the stream that a packet is of, whether two are one, and their order
abbrev pub key_of : Packet → StreamKey
key_of p = record { payload_type = p.payload_type; ssrc = p.ssrc }

-- whether two streams are one: of one payload type and one source. RFC 3550, 5.1
abbrev pub is_same : StreamKey → StreamKey → Bool
is_same k l = k.payload_type == l.payload_type && k.ssrc == l.ssrc

-- the order of streams in a tree: by the payload type, and of one payload type by the source
abbrev pub key_cmp : StreamKey → StreamKey → Ordering
key_cmp k l = ordering_then (nat_cmp k.payload_type l.payload_type) (nat_cmp k.ssrc l.ssrc)

-- what is counted of a stream whose packets have these numbers
abbrev pub stream_counted : {A : Type 0} → StreamKey → List Numbered → StreamCount A
stream_counted k ns =
    record {
      key = k;
      highest = highest_of (map (λ n. n.number) ns);
      both =
          capped
          (len
          (intersection (from_list {R = nat_cmp} (numbers_by_a ns)) (from_list (numbers_by_b ns))));
      a = count_of (numbers_by_a ns);
      b = count_of (numbers_by_b ns);
    }

-- what is counted of the packets of a stream, in the order of their coming
abbrev pub stream_of : {A : Type 0} → StreamKey → List Packet → StreamCount A
stream_of k own = stream_counted k (numbered own)

-- what is counted of all packets, stream by stream, in the order of their first coming
abbrev pub streams_of : {A : Type 0} → List Packet → List (StreamCount A)
streams_of packets = counted_by is_same key_of stream_of packets
