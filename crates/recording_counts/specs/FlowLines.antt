-- What is told of a flow, as text (own).
use Rattle.std.specs.Prelude.{ℕ, Bool, ◌-◌, ◌*◌, ◌/◌, ◌%◌, ◌==◌, nat_lt, if◌then◌else◌, List, []}
use Rattle.std.specs.Prelude.{◌++◌, codes, Option, Some, None, length, replicate}
use Rattle.std.specs.Fmt.{decimal}
use Rattle.std.specs.List.{flat_map}
use Rattle.std.specs.Net.Text.{socket_text}
use Rattle.recording_counts.specs.declared.flow_count.FlowCount.{FlowCount}
use Rattle.recording_counts.specs.declared.rtp_stream.RtpStream.{RtpStream}
use Rattle.recording_counts.specs.declared.rtp_streams.Streams.{Streams}
use Rattle.recording_counts.specs.declared.times.Times.{Times}

-- a number in so many digits at least, zeros first
abbrev pub wide : ℕ → ℕ → List ℕ
wide digits n = replicate (digits - length (decimal n)) 48 ++ decimal n

-- what stands behind the point of seconds: nanoseconds, less than 10^9
abbrev pub nine_digits : ℕ → List ℕ
nine_digits n = wide 9 n

-- what stands behind the point of Mbit/s: hundredths, less than 100
abbrev pub two_digits : ℕ → List ℕ
two_digits n = wide 2 n

-- how many datagrams are of RTCP, where there are such
abbrev pub rtcp_text : ℕ → List ℕ
rtcp_text n = if n == 0 then [] else (codes ", RTCP " ++ decimal n)

-- the line of a stream, behind the end of the line before
abbrev pub stream_text : RtpStream → List ℕ
stream_text s =
    codes "\n  payload type " ++ (decimal s.payload_type
    ++ (codes ", source " ++ (decimal s.ssrc
    ++ (codes ": datagrams " ++ (decimal s.datagrams
    ++ (codes ", timestamps " ++ (decimal s.first
    ++ (codes " to " ++ decimal s.last))))))))

-- a line that there are more streams than are kept, where there are
abbrev pub others_text : Bool → List ℕ
others_text others = if others then codes "\n  and others" else []

-- a line for each stream that is kept
abbrev pub streams_text : Streams → List ℕ
streams_text s = flat_map stream_text s.kept.items ++ others_text s.others

-- nanoseconds as seconds
abbrev pub moment_text : ℕ → List ℕ
moment_text t =
    decimal (t / 1_000_000_000) ++ (codes "." ++ nine_digits (t % 1_000_000_000))

-- So many octets of eight bits in so many nanoseconds, in hundredths of Mbit/s: octets in a
-- nanosecond are 8,000 Mbit/s.
abbrev pub hundredths : ℕ → ℕ → ℕ
hundredths octets nanoseconds = octets * 800_000 / nanoseconds

-- hundredths as a number with two digits behind the point: 1234 is 12.34
abbrev pub hundredths_text : ℕ → List ℕ
hundredths_text h = decimal (h / 100) ++ (codes "." ++ two_digits (h % 100))

-- the rate of so many octets from the first time to the last, where this one is greater
abbrev pub rate_text : ℕ → ℕ → ℕ → List ℕ
rate_text octets first last =
    if nat_lt first last
    then codes ", " ++ (hundredths_text (hundredths octets (last - first)) ++ codes " Mbit/s")
    else []

-- where datagrams have times, a line of the least and the greatest, and of the rate
abbrev pub span_text : ℕ → Option ℕ → Option ℕ → List ℕ
span_text octets None last = []
span_text octets (Some first) None = []
span_text octets (Some first) (Some last) =
    codes "\n  from " ++ (moment_text first
    ++ (codes " to " ++ (moment_text last ++ rate_text octets first last)))

-- the line of a flow's times and of the rate of its octets
abbrev pub times_text : Times → ℕ → List ℕ
times_text t octets = span_text octets t.first t.last

-- the lines of a flow: what it counts, its streams, and its times and rate
abbrev pub count_text : FlowCount → List ℕ
count_text c =
    codes "flow " ++ (socket_text c.destination
    ++ (codes "\n  datagrams " ++ (decimal c.datagrams
    ++ (codes ", octets " ++ (decimal c.octets
    ++ (codes ", RTP " ++ (decimal c.rtp.datagrams
    ++ (rtcp_text c.rtp.rtcp
    ++ (streams_text c.rtp.streams ++ times_text c.times c.octets)))))))))
