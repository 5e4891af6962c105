-- The octets of a datagram, written from the left (RFC 3550, 5.1; RFC 4175, 4).
use Rattle.std.specs.Prelude.{ℕ, ◌+◌, ◌*◌, ◌/◌, ◌%◌, ◌^◌, ◌<◌, ◌≤◌, Bool, List, [], ◌∷◌, ◌++◌, map}
use Rattle.std.specs.Prelude.{length}
use Rattle.std.specs.List.{flat_map, AllByRecursion}
use Rattle.st_format.specs.declared.format.Format.{Format}
use Rattle.st_format.specs.Pgroup.{bits_of}
use Rattle.st_format.specs.Picture.{Values}
use Rattle.st_format.specs.Samples.{octets_in}
use Rattle.rtp_header.specs.Grammar.{Rtp, fixed_text, plain_flags}
use Rattle.payload_header.specs.Payload.{group_of, most_segments}
use Rattle.payload_header.specs.Writing.{payload_front}
use Rattle.payload_header.specs.declared.writing.SegmentHead.{SegmentHead}
use Rattle.packet_plan.specs.declared.run.PacketRun.{PacketRun}
use Rattle.packet_plan.specs.declared.stamp.Stamp.{Stamp}
use Rattle.packet_plan.specs.Plan.{IsRun, group_octets}
use Rattle.packet_plan.specs.Sent.{is_empty, run_values}

-- the head of the segment that carries a run
abbrev pub head_of : Format → PacketRun → SegmentHead
head_of f r =
    record {
      row = r.row;
      offset = r.first * (group_of f).pixels;
      octets =
          r.groups * group_octets f;
    }

-- the octets of a run, which its values spell (RFC 4175, 4.3)
abbrev pub run_octets : Values → PacketRun → List ℕ
run_octets p r = octets_in (bits_of p.format.depth) (run_values p r)

-- the payload of a packet of this number
abbrev pub payload_text : Values → ℕ → List PacketRun → List ℕ
payload_text p number runs =
    payload_front (number / 65536) (map (head_of p.format) runs) ++ flat_map (run_octets p) runs

-- what the RTP header says in front of a payload
abbrev pub header_of : Stamp → ℕ → Bool → List ℕ → Rtp
header_of stamp number is_last payload = record {
  marker = is_last;
  payload_type = stamp.payload_type;
  sequence = number % 65536;
  timestamp = stamp.timestamp;
  ssrc = stamp.ssrc;
  payload = payload;
}

-- the number of the i-th packet
abbrev pub number_of : Stamp → ℕ → ℕ
number_of stamp i = (stamp.first + i) % 2 ^ 32

-- the i-th datagram
abbrev pub datagram_text : Values → Stamp → ℕ → Bool → List PacketRun → List ℕ
datagram_text p stamp i is_last runs =
    let payload : List ℕ = payload_text p (number_of stamp i) runs in
    fixed_text plain_flags (header_of stamp (number_of stamp i) is_last payload) ++ payload

-- the datagrams of packets, from the i-th on
abbrev pub datagram_texts : Values → Stamp → ℕ → List (List PacketRun) → List (List ℕ)
datagram_texts p stamp i [] = []
datagram_texts p stamp i (q ∷ qs) =
    datagram_text p stamp i (is_empty qs) q ∷ datagram_texts p stamp (i + 1) qs

-- The fields of a stamp have room in the headers (RFC 3550, 5.1).
pub record IsStamp (s : Stamp) : Type 0 where
  pub payload_type : s.payload_type < 128
  pub timestamp : s.timestamp < 2 ^ 32
  pub ssrc : s.ssrc < 2 ^ 32

-- A run of the raster whose head can be written (RFC 4175, 4)
pub record HasHead (f : Format) (r : PacketRun) : Type 0 where
  pub run : IsRun f r
  pub row : r.row < f.height
  pub small : r.groups * group_octets f < 2 ^ 16
  pub column : r.first * (group_of f).pixels < 2 ^ 15

-- one to three such runs
pub record AreRuns (f : Format) (rs : List PacketRun) : Type 0 where
  pub some : 0 < length rs
  pub few : length rs ≤ most_segments
  pub heads : AllByRecursion (HasHead f) rs
