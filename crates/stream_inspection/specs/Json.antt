-- Rows as JSON objects, each with its kind and its numbers by name (own). RFC 8259
use Rattle.std.specs.Prelude.{ℕ, List, ◌++◌, codes}
use Rattle.std.specs.Fmt.{decimal}
use Rattle.path_receiver.specs.Answers.{refusal_name, refusal_number}
use Rattle.path_receiver.specs.declared.answer.Refusal.{Refusal}
use Rattle.recording_counts.specs.declared.packet.StreamKey.{StreamKey}
use Rattle.recording_counts.specs.FlowJson.{truth_json}
use Rattle.st_format.specs.Forms.{path_text}
use Rattle.stream_inspection.specs.Values.{commas_text, null_signed, null_text}
use Rattle.stream_inspection.specs.declared.rows.PathRow.{PathRow}
use Rattle.stream_inspection.specs.declared.rows.Row.{Row}
use Rattle.stream_inspection.specs.declared.rows.Row.TheVariants.{Path, Together, Timestamp, Skew}
use Rattle.stream_inspection.specs.declared.rows.Row.TheVariants.{Refused, Control, Nothing}
use Rattle.stream_inspection.specs.declared.rows.SkewRow.{SkewRow}
use Rattle.stream_inspection.specs.declared.rows.TimestampRow.{TimestampRow}
use Rattle.stream_inspection.specs.declared.rows.TogetherRow.{TogetherRow}

-- members: of a stream; of what came by a path, and what is wrong there; of what never came; of
-- what came of a timestamp; of a refusal
abbrev pub key_json : StreamKey → List ℕ
key_json k =
    codes "\"payload_type\":" ++ (decimal k.payload_type
    ++ (codes ",\"ssrc\":" ++ decimal k.ssrc))

-- members of a path: its datagrams, and its lowest and highest number, `null` where nothing came
abbrev pub range_json : PathRow → List ℕ
range_json r =
    codes "\"datagrams\":" ++ (decimal r.datagrams
    ++ (codes ",\"lowest\":" ++ (null_text r.lowest
    ++ (codes ",\"highest\":" ++ null_text r.highest))))

-- members of a path: how many numbers never came, and how many datagrams came again or late
abbrev pub wrong_json : PathRow → List ℕ
wrong_json r =
    codes "\"lost\":" ++ (decimal r.lost
    ++ (codes ",\"repeated\":" ++ (decimal r.repeated
    ++ (codes ",\"late\":" ++ decimal r.late))))

-- members of both paths: how many numbers never came by A, by B, and by either
abbrev pub lost_json : TogetherRow → List ℕ
lost_json r =
    codes "\"lost_by_a\":" ++ (decimal r.lost_by_a
    ++ (codes ",\"lost_by_b\":" ++ (decimal r.lost_by_b
    ++ (codes ",\"lost_by_both\":" ++ decimal r.lost_by_both))))

-- members of a timestamp: itself, and how many datagrams of it came by A and by B
abbrev pub came_json : TimestampRow → List ℕ
came_json r =
    codes "\"timestamp\":" ++ (decimal r.key.timestamp
    ++ (codes ",\"a\":" ++ (decimal r.by_a ++ (codes ",\"b\":" ++ decimal r.by_b))))

-- members of a refusal: its number and its name
abbrev pub reason_json : Refusal → List ℕ
reason_json e =
    codes "\"number\":" ++ (decimal (refusal_number e)
    ++ (codes ",\"name\":\"" ++ (refusal_name e ++ codes "\"")))

-- the object of a stream on one path
abbrev pub path_json : PathRow → List ℕ
path_json r =
    codes "{\"kind\":\"path\"," ++ (key_json r.key
    ++ (codes ",\"path\":\"" ++ (path_text r.path
    ++ (codes "\"," ++ (range_json r ++ (codes "," ++ (wrong_json r ++ codes "}")))))))

-- the object of a stream on both paths
abbrev pub together_json : TogetherRow → List ℕ
together_json r =
    codes "{\"kind\":\"together\"," ++ (key_json r.key
    ++ (codes ",\"both\":" ++ (decimal r.both
    ++ (codes "," ++ (lost_json r ++ codes "}")))))

-- the object of a timestamp; ticks and skew are `null` where they aren't known
abbrev pub timestamp_json : TimestampRow → List ℕ
timestamp_json r =
    codes "{\"kind\":\"timestamp\"," ++ (key_json r.key.stream
    ++ (codes "," ++ (came_json r
    ++ (codes ",\"marker\":" ++ (truth_json r.marker
    ++ (codes ",\"ticks\":" ++ (null_text r.ticks
    ++ (codes ",\"skew\":" ++ (null_signed r.skew ++ codes "}")))))))))

-- the object of the skews, over the timestamps of all streams; `null` where none is known
abbrev pub skew_json : SkewRow → List ℕ
skew_json r =
    codes "{\"kind\":\"skew\",\"timestamps\":" ++ (decimal r.timestamps
    ++ (codes ",\"least\":" ++ (null_signed r.least
    ++ (codes ",\"middle\":" ++ (null_signed r.middle
    ++ (codes ",\"greatest\":" ++ (null_signed r.greatest ++ codes "}")))))))

-- the object of a row, without the line's end
abbrev pub json_text : Row → List ℕ
json_text (Path r) = path_json r
json_text (Together r) = together_json r
json_text (Timestamp r) = timestamp_json r
json_text (Skew r) = skew_json r
json_text (Refused e count) =
    codes "{\"kind\":\"refused\"," ++ (reason_json e
    ++ (codes ",\"datagrams\":" ++ (decimal count ++ codes "}")))
json_text (Control count) =
    codes "{\"kind\":\"rtcp\",\"datagrams\":" ++ (decimal count ++ codes "}")
json_text (Nothing payload_type) =
    codes "{\"kind\":\"nothing\",\"payload_type\":" ++ (decimal payload_type ++ codes "}")

-- the object of a window: its timestamps in an array, in their order
abbrev pub window_json : List ℕ → List ℕ
window_json timestamps =
    codes "{\"kind\":\"window\",\"timestamps\":[" ++ (commas_text timestamps ++ codes "]}")
