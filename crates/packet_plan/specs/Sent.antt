-- What a sender sends of one picture (RFC 3550, 5.1; RFC 4175, 4; SMPTE ST 2110-20, packets).
use Rattle.std.specs.Prelude.{◌≡◌, ℕ, ◌+◌, ◌*◌, ◌%◌, ◌^◌, Bool, true, false, List, [], ◌∷◌, map}
use Rattle.std.specs.Prelude.{slice_index}
use Rattle.std.specs.List.{flat_map, range_with_len, AllZip}
use Rattle.st_format.specs.declared.format.Format.{Format}
use Rattle.st_format.specs.Pgroup.{bits_of}
use Rattle.st_format.specs.Picture.{Values}
use Rattle.st_format.specs.Raster.{Segment}
use Rattle.st_format.specs.Samples.{Spells}
use Rattle.rtp_header.specs.Grammar.{Rtp, IsPlainRtp}
use Rattle.payload_header.specs.Payload.{group_of}
use Rattle.payload_header.specs.Writing.{IsWholePayload}
use Rattle.packet_plan.specs.declared.run.PacketRun.{PacketRun}
use Rattle.packet_plan.specs.declared.stamp.Stamp.{Stamp}
use Rattle.packet_plan.specs.Plan.{numbers, IsRasterPlan}

-- the value of the sample of a number
abbrev pub sample : Values → ℕ → ℕ
sample p k = slice_index p.samples k

-- how many samples a pgroup of the format has (RFC 4175, 4.3)
abbrev pub group_samples : Format → ℕ
group_samples f = (group_of f).samples

-- the values of a pgroup, by its number, in the order in which they are sent (RFC 4175, 4.3)
abbrev pub group_values : Values → ℕ → List ℕ
group_values p g =
    map (sample p) (range_with_len (g * group_samples p.format) (group_samples p.format))

-- the values of a run's pgroups
abbrev pub run_values : Values → PacketRun → List ℕ
run_values p r = flat_map (group_values p) (numbers p.format r)

-- A segment carries a run: it stands at the run's row and first pixel, and its octets spell the
-- picture there (RFC 4175, 4.3).
pub record CarriesRun (p : Values) (r : PacketRun) (s : Segment) : Type 0 where
  pub row : s.row ≡ r.row
  pub offset : s.offset ≡ r.first * (group_of p.format).pixels
  pub spells : Spells (bits_of p.format.depth) s.octets (run_values p r)

-- Octets are the i-th datagram of a picture, which carries these runs: an RTP header with P, X and
-- CC zero (RFC 3550, 5.1), then a payload with nothing behind its segments (RFC 4175, 4). The high
-- half of the packet's number is the extended number. The marker is set on the last datagram alone.
pub record IsSentPacket (octets : List ℕ) (p : Values) (stamp : Stamp) (i : ℕ)
    (is_last : Bool) (runs : List PacketRun) : Type 0 where
  pub header : Rtp
  pub extended : ℕ
  pub segments : List Segment
  pub is_header : IsPlainRtp octets header
  pub is_payload : IsWholePayload header.payload p.format extended segments
  pub payload_type : header.payload_type ≡ stamp.payload_type
  pub timestamp : header.timestamp ≡ stamp.timestamp
  pub ssrc : header.ssrc ≡ stamp.ssrc
  pub number : 65536 * extended + header.sequence ≡ (stamp.first + i) % 2 ^ 32
  pub marker : header.marker ≡ is_last
  pub carries : AllZip (CarriesRun p) runs segments

-- whether a list has nothing: behind the last packet there is none
abbrev pub is_empty : {X : Type 0} → List X → Bool
is_empty [] = true
is_empty (x ∷ xs) = false

-- one datagram for each packet, in order, from the i-th on
abbrev pub AreSent : List (List ℕ) → Values → Stamp → ℕ → List (List PacketRun) → Type 0
AreSent [] p stamp i [] = Unit {0}
AreSent (d ∷ ds) p stamp i [] = ⊥
AreSent [] p stamp i (q ∷ qs) = ⊥
AreSent (d ∷ ds) p stamp i (q ∷ qs) =
    IsSentPacket d p stamp i (is_empty qs) q × AreSent ds p stamp (i + 1) qs

-- The datagrams of a picture, by a raster plan
pub record IsSentPicture (datagrams : List (List ℕ)) (p : Values) (stamp : Stamp) (size : ℕ)
    (packets : List (List PacketRun)) : Type 0 where
  pub plan : IsRasterPlan packets p.format size
  pub sent : AreSent datagrams p stamp 0 packets
