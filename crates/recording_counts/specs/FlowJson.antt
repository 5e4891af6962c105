-- What is told of a flow, as an object of JSON (own). RFC 8259
use Rattle.std.specs.Prelude.{ℕ, Bool, ◌-◌, nat_lt, if◌then◌else◌, List, [], ◌∷◌, ◌++◌, codes}
use Rattle.std.specs.Prelude.{Option, Some, None}
use Rattle.std.specs.Fmt.{decimal}
use Rattle.std.specs.List.{flat_map}
use Rattle.std.specs.Net.Text.{socket_text}
use Rattle.recording_counts.specs.declared.flow_count.FlowCount.{FlowCount}
use Rattle.recording_counts.specs.declared.rtp_stream.RtpStream.{RtpStream}
use Rattle.recording_counts.specs.declared.rtp_streams.Streams.{Streams}
use Rattle.recording_counts.specs.declared.times.Times.{Times}
use Rattle.recording_counts.specs.FlowLines.{hundredths, hundredths_text, moment_text}

-- a stream as an object of JSON; its timestamps are in ticks, as they came
abbrev pub stream_json : RtpStream → List ℕ
stream_json s =
    codes "{\"payload_type\":" ++ (decimal s.payload_type
    ++ (codes ",\"source\":" ++ (decimal s.ssrc
    ++ (codes ",\"datagrams\":" ++ (decimal s.datagrams
    ++ (codes ",\"first_timestamp\":" ++ (decimal s.first
    ++ (codes ",\"last_timestamp\":" ++ (decimal s.last ++ codes "}")))))))))

-- the objects of streams, with commas between
abbrev pub other_json : RtpStream → List ℕ
other_json s = codes "," ++ stream_json s

-- what the array of streams has: their objects, the first with no comma in front
abbrev pub objects_json : List RtpStream → List ℕ
objects_json [] = []
objects_json (s ∷ streams) = stream_json s ++ flat_map other_json streams

-- whether it is so
abbrev pub truth_json : Bool → List ℕ
truth_json b = if b then codes "true" else codes "false"

-- a time in seconds, if there is one
abbrev pub moment_json : Option ℕ → List ℕ
moment_json None = codes "null"
moment_json (Some t) = moment_text t

-- the rate, if the last time is behind the first
abbrev pub rate_json : ℕ → Option ℕ → Option ℕ → List ℕ
rate_json octets None last = codes "null"
rate_json octets (Some first) None = codes "null"
rate_json octets (Some first) (Some last) =
    if nat_lt first last
    then hundredths_text (hundredths octets (last - first))
    else codes "null"

-- the members of the streams, and those of the times and the rate
abbrev pub streams_json : Streams → List ℕ
streams_json s =
    codes ",\"streams\":[" ++ (objects_json s.kept.items
    ++ (codes "],\"other_streams\":" ++ truth_json s.others))

-- the members of the times, and of the rate of so many octets between them
abbrev pub times_json : Times → ℕ → List ℕ
times_json t octets =
    codes ",\"first\":" ++ (moment_json t.first
    ++ (codes ",\"last\":" ++ (moment_json t.last
    ++ (codes ",\"mbit_per_second\":" ++ rate_json octets t.first t.last))))

-- the members of the numbers
abbrev pub numbers_json : FlowCount → List ℕ
numbers_json c =
    codes ",\"datagrams\":" ++ (decimal c.datagrams
    ++ (codes ",\"octets\":" ++ (decimal c.octets
    ++ (codes ",\"rtp\":" ++ (decimal c.rtp.datagrams
    ++ (codes ",\"rtcp\":" ++ decimal c.rtp.rtcp))))))

-- the object of a flow
abbrev pub count_json : FlowCount → List ℕ
count_json c =
    codes "{\"flow\":\"" ++ (socket_text c.destination
    ++ (codes "\"" ++ (numbers_json c
    ++ (streams_json c.rtp.streams ++ (times_json c.times c.octets ++ codes "}")))))
