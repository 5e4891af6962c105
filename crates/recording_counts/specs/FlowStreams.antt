-- Streams of RTP in a flow: packets of one payload type and one source. RFC 3550, 5.1
use Rattle.std.specs.Prelude.{ℕ, ◌^◌, nat_lt, if◌then◌else◌, List, [], ◌∷◌, length, map, take, fold}
use Rattle.rtp_header.specs.Grammar.{Rtp}
use Rattle.st_format.specs.Device.{capped}
use Rattle.recording_counts.specs.declared.packet.StreamKey.{StreamKey}
use Rattle.recording_counts.specs.Streams.{is_same}
use Rattle.recording_counts.specs.Tables.{counted_by}
use Rattle.recording_counts.specs.Timestamps.{ticks_from}
use Rattle.recording_counts.specs.declared.rtp_stream.RtpStream.{RtpStream}
use Rattle.recording_counts.specs.declared.rtp_streams.Streams.{Streams}

-- Of two timestamps the earlier one, and the later one: this is less than half a round of 2^32
-- ticks ahead of that. RFC 3550, 5.1; RFC 1982, 3.2
abbrev pub earlier : ℕ → ℕ → ℕ
earlier t u = if nat_lt (ticks_from u t) (2 ^ 31) then u else t

-- the second of two timestamps where it is less than half a round ahead, and else the first.
-- RFC 1982, 3.2
abbrev pub later : ℕ → ℕ → ℕ
later t u = if nat_lt (ticks_from t u) (2 ^ 31) then u else t

-- the earliest and the latest of timestamps, each compared with that of those before it
abbrev pub earliest_of : List ℕ → ℕ
earliest_of [] = 0
earliest_of (t ∷ ts) = fold earlier t ts

-- the latest of timestamps, each compared with the latest of those before it; 0 where there is none
abbrev pub latest_of : List ℕ → ℕ
latest_of [] = 0
latest_of (t ∷ ts) = fold later t ts

-- what is counted of a stream whose packets have these timestamps
abbrev pub stream_by : StreamKey → List ℕ → RtpStream
stream_by k ts =
    record {
      payload_type = k.payload_type;
      ssrc = k.ssrc;
      datagrams = capped (length ts);
      first = earliest_of ts;
      last = latest_of ts;
    }

-- what is counted of the packets of a stream
abbrev pub rtp_stream_of : StreamKey → List Rtp → RtpStream
rtp_stream_of k own = stream_by k (map (λ r. r.timestamp) own)

-- by what a stream is told from others
abbrev pub stream_key_of : RtpStream → StreamKey
stream_key_of s = record { payload_type = s.payload_type; ssrc = s.ssrc }

-- the stream that a packet is of: its payload type and its source. RFC 3550, 5.1
abbrev pub rtp_key : Rtp → StreamKey
rtp_key r = record { payload_type = r.payload_type; ssrc = r.ssrc }

-- what is counted of packets, stream by stream, in the order of their first coming
abbrev pub all_streams : List Rtp → List RtpStream
all_streams said = counted_by is_same rtp_key rtp_stream_of said

-- the first 16 of them, and whether there are others (own)
abbrev pub rtp_streams_of : List Rtp → Streams
rtp_streams_of said =
    record {
      kept = record { items = take 16 (all_streams said) };
      others = nat_lt 16 (length (all_streams said));
    }
