-- The skew of the paths: by how much later one packet number came by B than by A (own).
use Rattle.std.specs.Prelude.{◌≡◌, ℕ, ◌+◌, ◌-◌, ◌/◌, ◌^◌, ◌==◌, Bool, not, ◌&&◌, List, []}
use Rattle.std.specs.Prelude.{◌∷◌, length, map, slice_get, if◌then◌else◌, Option, None, Some}
use Rattle.std.specs.Prelude.{option_to_list}
use Rattle.std.specs.BTreeMap.{get}
use Rattle.std.specs.List.{filter, flat_map, zip}
use Rattle.std.specs.List.Sorted.{IsPermutation, IsSorted}
use Rattle.std.specs.Ordering.{nat_cmp}
use Rattle.recording_counts.specs.Numbering.{highest_of}
use Rattle.recording_counts.specs.Streams.{is_a, is_same, key_cmp, key_of}
use Rattle.recording_counts.specs.Tables.{of_key}
use Rattle.recording_counts.specs.Timestamps.{timestamp_cmp}
use Rattle.recording_counts.specs.declared.packet.Packet.{Packet}
use Rattle.recording_counts.specs.declared.packet.StreamKey.{StreamKey}
use Rattle.recording_counts.specs.declared.packet.TimestampKey.{TimestampKey}
use Rattle.recording_counts.specs.declared.timestamp.TimestampCount.{TimestampCount}
use Rattle.stream_inspection.specs.Arrivals.{Arrival, packets}
use Rattle.stream_inspection.specs.Numbers.{any_high, numbers_in, told_as, without_high}
use Rattle.stream_inspection.specs.declared.numbering.Numbering.{Numbering}
use Rattle.stream_inspection.specs.declared.probe.Probe.{Probe}
use Rattle.stream_inspection.specs.declared.probe.Probes.{Probes}
use Rattle.stream_inspection.specs.declared.probes.ProbeTable.{ProbeTable}
use Rattle.stream_inspection.specs.declared.rows.SkewRow.{SkewRow}

-- the moment that is known, or else this one, where it is one
abbrev pub first_known : Option ℕ → ℕ → Option ℕ
first_known (Some known) moment = Some known
first_known None moment = if moment == 0 then None else Some moment

-- the first moment of packets that is known, behind what is known
abbrev pub moment_after : Option ℕ → List (Arrival × ℕ) → Option ℕ
moment_after known [] = known
moment_after known (a ∷ later) = moment_after (first_known known a.0.moment) later

-- the packets with this number that came by A, and by B
abbrev pub by_a_with : ℕ → Arrival × ℕ → Bool
by_a_with number a = a.1 == number && is_a a.0.packet.path

-- a packet has this number and came by B
abbrev pub by_b_with : ℕ → Arrival × ℕ → Bool
by_b_with number a = a.1 == number && not (is_a a.0.packet.path)

-- The probe of the packets of a timestamp, each beside its number: the number of the first of them,
-- and the first known moment of the packets with that number by each path.
abbrev pub probe_with : ℕ → List (Arrival × ℕ) → Probe
probe_with number own =
    record {
      number = number;
      a = moment_after None (filter (by_a_with number) own);
      b = moment_after None (filter (by_b_with number) own);
    }

-- the probe of a timestamp's packets, by the number of the first; none where there are no packets
abbrev pub probe_of : List (Arrival × ℕ) → Option Probe
probe_of [] = None
probe_of (a ∷ own) = Some (probe_with a.1 (a ∷ own))

-- the arrivals of a stream, by payload type and source, in the order in which they came
abbrev pub arrivals_in_stream : StreamKey → List Arrival → List Arrival
arrivals_in_stream k arrivals = of_key is_same (λ a. key_of a.packet) k arrivals

-- the packets of a timestamp, each beside its number: that of the stream's packets as these are
-- taken
abbrev pub own_by : (List Packet → List Packet) → TimestampKey → List Arrival
    → List (Arrival × ℕ)
own_by taken k arrivals =
    filter (λ a. k.timestamp == a.0.packet.timestamp)
    (zip (arrivals_in_stream k.stream arrivals)
    (numbers_in (taken (packets (arrivals_in_stream k.stream arrivals)))))

-- the skew that a probe tells, and 2^64, where both moments are known
abbrev pub skew_if : Option ℕ → Option ℕ → Option ℕ
skew_if (Some a) (Some b) = Some (2 ^ 64 + b - a)
skew_if (Some a) None = None
skew_if None b = None

-- by how much later a probe's number came by B than by A, and 2^64, where both moments are known
abbrev pub skew_of : Probe → Option ℕ
skew_of p = skew_if p.a p.b

-- the skew of a timestamp by its probe, where it has one
abbrev pub skew_in : Option Probe → Option ℕ
skew_in None = None
skew_in (Some p) = skew_of p

-- that of a timestamp, by the numbers that are told
abbrev pub skew_by : List Arrival → TimestampKey → Option ℕ
skew_by arrivals k = skew_in (probe_of (own_by told_as k arrivals))

-- those of timestamps, as far as they are known
abbrev pub skews_in : List Arrival → List TimestampCount → List ℕ
skews_in arrivals counts = flat_map (λ c. option_to_list (skew_by arrivals c.key)) counts

-- the same numbers, each as often, from the least to the greatest
pub record IsOrderOf (sorted numbers : List ℕ) : Type 0 where
  pub same : IsPermutation numbers sorted
  pub ordered : IsSorted nat_cmp sorted

-- the least, the middle and the greatest of numbers that are in order
abbrev pub skew_row : List ℕ → SkewRow
skew_row sorted =
    record {
      timestamps = length sorted;
      least = slice_get sorted 0;
      middle = slice_get sorted ((length sorted - 1) / 2);
      greatest = slice_get sorted (length sorted - 1);
    }

-- ---- the tables

-- what is known of the numbers of a stream's packets: the highest one, as the packets are and
-- without high halves, and whether one says a high half
abbrev pub numbering_of : List Packet → Numbering
numbering_of own =
    record {
      long = highest_of (numbers_in own);
      short = highest_of (numbers_in (map without_high own));
      high = any_high own;
    }

-- the probes of a timestamp by both kinds of numbers
abbrev pub probes_of : TimestampKey → List Arrival → Probes
probes_of k arrivals =
    record {
      long = probe_of (own_by (λ ps. ps) k arrivals);
      short = probe_of (own_by (map without_high) k arrivals);
    }

-- what a table has, or that nothing came
abbrev pub numbering_in : Option Numbering → Numbering
numbering_in None = numbering_of []
numbering_in (Some n) = n

-- the probes that a table has, or that no packet of the timestamp came
abbrev pub probes_in : Option Probes → Probes
probes_in None = record { long = None; short = None }
probes_in (Some p) = p

-- A table has the numbers of each stream and the probes of each timestamp of these packets.
pub record AreProbes {A : Type 0} (table : ProbeTable A) (arrivals : List Arrival) : Type 0 where
  pub numbers : (k : StreamKey) → numbering_in (get key_cmp table.numberings k)
      ≡ numbering_of (packets (arrivals_in_stream k arrivals))
  pub each : (k : TimestampKey) → probes_in (get timestamp_cmp table.probes k)
      ≡ probes_of k arrivals
