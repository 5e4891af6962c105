-- What is told of timestamps (own).
use Rattle.std.specs.Prelude.{◌≡◌, ℕ, List, [], ◌∷◌, ◌++◌, codes, map, take, Option, None, Some}
use Rattle.std.specs.BTreeMap.{get}
use Rattle.std.specs.Fmt.{decimal}
use Rattle.std.specs.List.{filter}
use Rattle.std.specs.Option.{option_map}
use Rattle.recording_counts.specs.Streams.{is_same, key_cmp}
use Rattle.recording_counts.specs.Timestamps.{ticks_from}
use Rattle.recording_counts.specs.declared.packet.StreamKey.{StreamKey}
use Rattle.recording_counts.specs.declared.timestamp.TimestampCount.{TimestampCount}
use Rattle.stream_inspection.specs.Arrivals.{Arrival}
use Rattle.stream_inspection.specs.Lines.{heading_lines, row_line}
use Rattle.stream_inspection.specs.Skews.{skew_by}
use Rattle.stream_inspection.specs.declared.rows.Row.TheVariants.{Timestamp}
use Rattle.stream_inspection.specs.declared.rows.TimestampRow.{TimestampRow}
use Rattle.stream_inspection.specs.declared.text.Form.{Form}
use Rattle.stream_inspection.specs.declared.timestamps.Lasts.{Lasts}
use Rattle.window_finding.specs.First.{distinct}

-- the last of numbers behind one that may be there
abbrev pub last_after : Option ℕ → List ℕ → Option ℕ
last_after before [] = before
last_after before (n ∷ ns) = last_after (Some n) ns

-- the last of these timestamps that is of a stream
abbrev pub last_of : StreamKey → List TimestampCount → Option ℕ
last_of k counts =
    last_after None (map (λ c. c.key.timestamp) (filter (λ c. is_same k c.key.stream) counts))

-- A table has the last timestamp of each stream.
pub record AreLasts {A : Type 0} (table : Lasts A) (front : List TimestampCount) : Type 0 where
  pub each : (k : StreamKey) → get key_cmp table.timestamps k ≡ last_of k front

-- how many ticks a timestamp is behind the one of its stream that came before it, modulo 2^32
abbrev pub ticks_behind : List TimestampCount → TimestampCount → Option ℕ
ticks_behind front c =
    option_map (λ before. ticks_from before c.key.timestamp) (last_of c.key.stream front)

-- what is told of a timestamp: its ticks behind its stream's last one, its skew by all arrivals
abbrev pub timestamp_row : List Arrival → List TimestampCount → TimestampCount → TimestampRow
timestamp_row arrivals front c =
    record {
      key = c.key;
      by_a = c.by_a;
      by_b = c.by_b;
      marker = c.marker;
      ticks = ticks_behind front c;
      skew = skew_by arrivals c.key;
    }

-- the line of a timestamp behind others
abbrev pub timestamp_line : Form → List Arrival → List TimestampCount → TimestampCount → List ℕ
timestamp_line form arrivals front c = row_line form (Timestamp (timestamp_row arrivals front c))

-- the lines of timestamps behind others, in the order of their first coming
abbrev pub timestamps_behind : Form → List Arrival → List TimestampCount → List TimestampCount
    → List ℕ
timestamps_behind form arrivals front [] = []
timestamps_behind form arrivals front (c ∷ counts) =
    timestamp_line form arrivals front c
    ++ timestamps_behind form arrivals (front ++ c ∷ []) counts

-- the heading of timestamps: the payload type, and the names of the columns
abbrev pub heading_text : ℕ → List ℕ
heading_text payload_type =
    codes "timestamps of payload type " ++ (decimal payload_type
    ++ codes "\n       source    timestamp         by A         by B       marker        ticks skew of B in nanoseconds")

-- the lines of all timestamps in the order of their first coming, in columns below a heading
abbrev pub timestamps_text : Form → ℕ → List Arrival → List TimestampCount → List ℕ
timestamps_text form payload_type arrivals counts =
    heading_lines form (heading_text payload_type) ++ timestamps_behind form arrivals [] counts

-- the first different timestamps, at most sixteen
abbrev pub window_of : List TimestampCount → List ℕ
window_of counts = take 16 (distinct (map (λ c. c.key.timestamp) counts))
