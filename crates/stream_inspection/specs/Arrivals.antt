-- What datagrams are counted as. RFC 3550, 5.1; RFC 4175, 4.2; RFC 5761, 4
use Rattle.std.specs.Prelude.{◌≡◌, ℕ, ◌+◌, ◌*◌, ◌==◌, Bool, ◌&&◌, nat_le, if◌then◌else◌}
use Rattle.std.specs.Prelude.{List, [], ◌∷◌, length, map, slice_index, Option, None, Some, Result}
use Rattle.std.specs.Prelude.{Ok, Err}
use Rattle.std.specs.List.{flat_map}
use Rattle.st_format.specs.declared.path.Path.{Path}
use Rattle.st_format.specs.Reading.{◌>>=◌}
use Rattle.media_file.specs.Records.{Entry}
use Rattle.rtp_header.specs.Grammar.{Rtp}
use Rattle.rtp_header.specs.Reading.{rtp_walk}
use Rattle.rtp_header.specs.declared.header.RtpFault.{RtpFault}
use Rattle.path_receiver.specs.Admission.{by_payload, datagram_walk, datagram_with, header_for}
use Rattle.payload_header.specs.Reading.{payload_walk}
use Rattle.path_receiver.specs.declared.answer.Refusal.{Refusal}
use Rattle.path_receiver.specs.declared.answer.Taken.{Taken}
use Rattle.path_receiver.specs.declared.answer.Taken.TheVariants.{Kept}
use Rattle.recording_counts.specs.FlowCounts.{is_rtcp}
use Rattle.recording_counts.specs.declared.packet.Packet.{Packet}
use Rattle.stream_inspection.specs.declared.looking.Look.{Look}
use Rattle.stream_inspection.specs.declared.target.Target.{Target}

-- A packet, and when it came, in nanoseconds; 0 is no time (own).
pub record Arrival : Type 0 where
  pub packet : Packet
  pub moment : ℕ

-- a packet that came at a moment
abbrev pub arrival : Packet → ℕ → Arrival
arrival p moment = record { packet = p; moment = moment }

-- the packets of arrivals, without their moments
abbrev pub packets : List Arrival → List Packet
packets arrivals = map (λ a. a.packet) arrivals

-- the extended number in front of a payload of video. RFC 4175, 4.2
abbrev pub extended_in : Bool → List ℕ → Option ℕ
extended_in is_video payload =
    if is_video && nat_le 2 (length payload)
    then Some (256 * slice_index payload 0 + slice_index payload 1) else None

-- what is counted of the packet with a header: it has an extended number by the payload type alone
abbrev pub packet_of : Target → Path → Rtp → Packet
packet_of t path rtp =
    record {
      path = path;
      payload_type = rtp.payload_type;
      ssrc = rtp.ssrc;
      sequence = rtp.sequence;
      extended = extended_in (rtp.payload_type == t.payload_type) rtp.payload;
      timestamp = rtp.timestamp;
      marker = rtp.marker;
    }

-- the packet of what was read as RTP, where its header has no fault
abbrev pub packet_by : Target → Path → Result Rtp RtpFault → Option Packet
packet_by t path (Ok rtp) = Some (packet_of t path rtp)
packet_by t path (Err fault) = None

-- what a receiver of the format and the payload type, whatever the source and the timestamp,
-- answers to a datagram (own)
abbrev pub answer_at : Target → List ℕ → Result Taken Refusal
answer_at t octets =
    datagram_walk t.format t.payload_type None octets >>= λ d. Ok (Kept d.number)

-- the same of a header that was read
abbrev pub answer_by : Target → Rtp → Result Taken Refusal
answer_by t rtp =
    (header_for t.payload_type None rtp
    >>= λ own. by_payload (payload_walk t.format own.payload)
    >>= λ payload. Ok (datagram_with own payload))
    >>= λ d. Ok (Kept d.number)

-- a look at a datagram: what a receiver answers to it, and the packet that it is where it has a
-- header of RTP
pub record Looks (t : Target) (path : Path) (octets : List ℕ) (look : Look) : Type 0 where
  pub answer : look.answer ≡ answer_at t octets
  pub packet : look.packet ≡ packet_by t path (rtp_walk octets)

-- ---- records

-- the packets of records that aren't RTCP and have a header, each with its moment
abbrev pub arrival_if : Option Packet → ℕ → List Arrival
arrival_if None moment = []
arrival_if (Some p) moment = arrival p moment ∷ []

-- the packet of a record: none where it is RTCP or has no header
abbrev pub arrivals_in : Target → Entry → List Arrival
arrivals_in t e =
    if is_rtcp e.octets then []
    else arrival_if (packet_by t e.path (rtp_walk e.octets)) e.moment

-- the packets of all records, whatever their payload type, in the order of the records
abbrev pub arrivals_of : Target → List Entry → List Arrival
arrivals_of t entries = flat_map (arrivals_in t) entries

-- those with the payload type that is wanted
abbrev pub video_in : Target → Arrival → List Arrival
video_in t a = if a.packet.payload_type == t.payload_type then a ∷ [] else []

-- the packets of all records that have the payload type that is wanted, in the order of the records
abbrev pub video_of : Target → List Entry → List Arrival
video_of t entries = flat_map (video_in t) (arrivals_of t entries)

-- what a receiver answers to records that aren't RTCP
abbrev pub answers_in : Target → Entry → List (Result Taken Refusal)
answers_in t e = if is_rtcp e.octets then [] else answer_at t e.octets ∷ []

-- what a receiver answers to all records, in their order; RTCP has no answer
abbrev pub answers_of : Target → List Entry → List (Result Taken Refusal)
answers_of t entries = flat_map (answers_in t) entries
