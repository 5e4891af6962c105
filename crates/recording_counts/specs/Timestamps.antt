-- Timestamps of a stream. RFC 3550, 5.1
use Rattle.std.specs.Prelude.{ℕ, ◌+◌, ◌-◌, ◌%◌, ◌^◌, Bool, not, ◌==◌, ◌&&◌, List, length}
use Rattle.std.specs.List.{filter, list_any}
use Rattle.std.specs.Ordering.{nat_cmp, ordering_then}
use Rattle.std.specs.declared.cmp.Ordering.{Ordering}
use Rattle.st_format.specs.Device.{capped}
use Rattle.recording_counts.specs.declared.packet.Packet.{Packet}
use Rattle.recording_counts.specs.declared.packet.TimestampKey.{TimestampKey}
use Rattle.recording_counts.specs.declared.timestamp.TimestampCount.{TimestampCount}
use Rattle.recording_counts.specs.Streams.{is_a, is_same, key_cmp, key_of}
use Rattle.recording_counts.specs.Tables.{counted_by}

-- the timestamp that a packet is of, whether two are one, and their order
abbrev pub timestamp_key_of : Packet → TimestampKey
timestamp_key_of p = record { stream = key_of p; timestamp = p.timestamp }

-- whether two timestamps are one: equal ones of different streams are two
abbrev pub is_same_timestamp : TimestampKey → TimestampKey → Bool
is_same_timestamp k l = is_same k.stream l.stream && k.timestamp == l.timestamp

-- the order of timestamps in a tree: by the stream, and in one stream as numbers, not modulo 2^32
abbrev pub timestamp_cmp : TimestampKey → TimestampKey → Ordering
timestamp_cmp k l =
    ordering_then (key_cmp k.stream l.stream) (nat_cmp k.timestamp l.timestamp)

-- what came of a timestamp's packets: how many by each path, and whether one has the marker
abbrev pub timestamp_of : TimestampKey → List Packet → TimestampCount
timestamp_of k own =
    record {
      key = k;
      by_a = capped (length (filter (λ p. is_a p.path) own));
      by_b = capped (length (filter (λ p. not (is_a p.path)) own));
      marker = list_any (λ p. p.marker) own;
    }

-- what is counted of all packets, timestamp by timestamp, in the order of their first coming
abbrev pub timestamps_of : List Packet → List TimestampCount
timestamps_of packets = counted_by is_same_timestamp timestamp_key_of timestamp_of packets

-- how many ticks a timestamp is behind another one, modulo 2^32. RFC 3550, 5.1
abbrev pub ticks_from : ℕ → ℕ → ℕ
ticks_from before timestamp = (timestamp + 2 ^ 32 - before) % 2 ^ 32
