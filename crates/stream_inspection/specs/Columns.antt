-- Rows in columns (own).
use Rattle.std.specs.Prelude.{ℕ, List, ◌++◌, codes, Some}
use Rattle.std.specs.Fmt.{decimal}
use Rattle.path_receiver.specs.Answers.{refusal_name, refusal_number}
use Rattle.st_format.specs.Forms.{path_text}
use Rattle.stream_inspection.specs.Values.{commas_text, wide_signed, wide_text, yes_text}
use Rattle.stream_inspection.specs.declared.rows.PathRow.{PathRow}
use Rattle.stream_inspection.specs.declared.rows.Row.{Row}
use Rattle.stream_inspection.specs.declared.rows.Row.TheVariants.{Path, Together, Timestamp, Skew}
use Rattle.stream_inspection.specs.declared.rows.Row.TheVariants.{Refused, Control, Nothing}
use Rattle.stream_inspection.specs.declared.rows.SkewRow.{SkewRow}
use Rattle.stream_inspection.specs.declared.rows.TimestampRow.{TimestampRow}
use Rattle.stream_inspection.specs.declared.rows.TogetherRow.{TogetherRow}

-- a path: its datagrams, its lowest and highest number, and how many were lost, repeated and late
abbrev pub path_column : PathRow → List ℕ
path_column r =
    codes "  " ++ (path_text r.path ++ (codes "   " ++ (wide_text (Some r.datagrams)
    ++ (wide_text r.lowest ++ (wide_text r.highest ++ (wide_text (Some r.lost)
    ++ (wide_text (Some r.repeated) ++ wide_text (Some r.late))))))))

-- how many numbers never came by A, by B, and by either
abbrev pub together_column : TogetherRow → List ℕ
together_column r =
    codes "  A alone would lose " ++ (decimal r.lost_by_a
    ++ (codes ", B alone " ++ (decimal r.lost_by_b
    ++ (codes ", both together " ++ decimal r.lost_by_both))))

-- a timestamp: its source, its datagrams by A and by B, its marker, its ticks and its skew
abbrev pub timestamp_column : TimestampRow → List ℕ
timestamp_column r =
    wide_text (Some r.key.stream.ssrc) ++ (wide_text (Some r.key.timestamp)
    ++ (wide_text (Some r.by_a) ++ (wide_text (Some r.by_b)
    ++ (yes_text r.marker ++ (wide_text r.ticks ++ wide_signed r.skew)))))

-- the least, the middle and the greatest skew, and of how many timestamps one is known
abbrev pub skew_column : SkewRow → List ℕ
skew_column r =
    codes "skew of B in nanoseconds: least" ++ (wide_signed r.least
    ++ (codes ", middle" ++ (wide_signed r.middle
    ++ (codes ", greatest" ++ (wide_signed r.greatest
    ++ (codes ", of " ++ (decimal r.timestamps ++ codes " timestamps")))))))

-- a row without the line's end: in columns, and else in words
abbrev pub column_text : Row → List ℕ
column_text (Path r) = path_column r
column_text (Together r) = together_column r
column_text (Timestamp r) = timestamp_column r
column_text (Skew r) = skew_column r
column_text (Refused e count) =
    codes "refused " ++ (decimal (refusal_number e)
    ++ (codes " " ++ (refusal_name e ++ (codes " " ++ decimal count))))
column_text (Control count) = codes "RTCP " ++ decimal count
column_text (Nothing payload_type) =
    codes "no datagram of payload type " ++ (decimal payload_type ++ codes " came")

-- a window, as `receive` reads it behind the word
abbrev pub window_column : List ℕ → List ℕ
window_column timestamps = codes "window " ++ commas_text timestamps
