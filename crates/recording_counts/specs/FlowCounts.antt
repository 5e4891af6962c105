-- What is counted of datagrams.
use Rattle.std.specs.Prelude.{ℕ, ◌/◌, ◌==◌, ◌&&◌, Bool, nat_le, if◌then◌else◌, List, [], ◌∷◌}
use Rattle.std.specs.Prelude.{Option}
use Rattle.std.specs.Prelude.{Result, Ok, Err, length, map, sum_by, count_by, slice_index}
use Rattle.std.specs.List.{filter_map, flat_map}
use Rattle.std.specs.declared.net.socket_addr.SocketAddr.{SocketAddr}
use Rattle.rtp_header.specs.Grammar.{Rtp}
use Rattle.rtp_header.specs.Reading.{rtp_walk}
use Rattle.rtp_header.specs.declared.header.RtpFault.{RtpFault}
use Rattle.st_format.specs.Device.{capped}
use Rattle.recording_counts.specs.Numbering.{highest_of, lowest_of}
use Rattle.recording_counts.specs.declared.flow_count.FlowCount.{FlowCount}
use Rattle.recording_counts.specs.declared.rtp_count.RtpCount.{RtpCount}
use Rattle.recording_counts.specs.declared.times.Times.{Times}
use Rattle.recording_counts.specs.Flows.{Arrival, is_same_flow}
use Rattle.recording_counts.specs.FlowStreams.{rtp_streams_of}
use Rattle.recording_counts.specs.Tables.{counted_by}

-- A datagram on a stream's port is of RTCP: version 2, and a packet type of 200 to 204, where RTP
-- would have the marker and a payload type of 72 to 76. RFC 5761, section 4; RFC 3550, 6.4.1
abbrev pub is_rtcp : List ℕ → Bool
is_rtcp octets =
    nat_le 2 (length octets)
    && (slice_index octets 0 / 64 == 2
    && (nat_le 200 (slice_index octets 1) && nat_le (slice_index octets 1) 204))

-- what a datagram says as RTP, if it is such. RFC 3550, 5.1
abbrev pub if_read : Result Rtp RtpFault → List Rtp
if_read (Ok r) = r ∷ []
if_read (Err f) = []

-- what a datagram on a stream's port says as RTP: nothing where it is of RTCP.
-- RFC 5761, section 4
abbrev pub said_by : List ℕ → List Rtp
said_by octets = if is_rtcp octets then [] else if_read (rtp_walk octets)

-- what datagrams say as RTP: those of them that are such, in their order
abbrev pub rtp_said : List (List ℕ) → List Rtp
rtp_said payloads = flat_map said_by payloads

-- how many are RTP, how many RTCP, and the streams of RTP. RFC 3550, 5.1
abbrev pub rtp_of : List (List ℕ) → RtpCount
rtp_of payloads =
    record {
      datagrams = capped (length (rtp_said payloads));
      rtcp = capped (count_by is_rtcp payloads);
      streams = rtp_streams_of (rtp_said payloads);
    }

-- the times that are there, and the least and the greatest of them
abbrev pub known : List (Option ℕ) → List ℕ
known times = filter_map (λ t. t) times

-- the first and the last time by the clock, not by the order of coming; absent ones don't count
abbrev pub times_of : List (Option ℕ) → Times
times_of times = record { first = lowest_of (known times); last = highest_of (known times) }

-- what is counted of the datagrams to a destination
abbrev pub flow_count_of : SocketAddr → List Arrival → FlowCount
flow_count_of d own =
    record {
      destination = d;
      datagrams = capped (length own);
      octets = capped (sum_by (λ a. length a.payload) own);
      rtp = rtp_of (map (λ a. a.payload) own);
      times = times_of (map (λ a. a.time) own);
    }

-- what is counted of all datagrams, flow by flow, in the order of their first coming
abbrev pub flow_counts : List Arrival → List FlowCount
flow_counts arrivals = counted_by is_same_flow (λ a. a.destination) flow_count_of arrivals
