-- What is written: the front of a payload, which heads announce (RFC 4175, 4.2).
use Rattle.std.specs.Prelude.{◌≡◌, ℕ, ◌^◌, ◌<◌, ◌≤◌, Bool, true, false, List, [], ◌∷◌, ◌++◌, length}
use Rattle.std.specs.List.{flat_map, AllByRecursion, AllZip}
use Rattle.std.specs.Int.{w16, to_be_bytes}
use Rattle.st_format.specs.declared.format.Format.{Format}
use Rattle.st_format.specs.Raster.{Segment}
use Rattle.payload_header.specs.declared.writing.SegmentHead.{SegmentHead}
use Rattle.payload_header.specs.Payload.{Header, header_text, IsInside, IsPayload, most_segments}

-- A head whose numbers fit the fields of a header: Length has 16 bits, row and Offset 15 (RFC 4175,
-- 4.2). Of Length that is asked too, since a slice of structs tells a proof nothing of their
-- ranges.
pub record HeadFits (h : SegmentHead) : Type 0 where
  pub octets : h.octets < 2 ^ 16
  pub row : h.row < 2 ^ 15
  pub offset : h.offset < 2 ^ 15

-- The header of a head: F is clear, and C set where another header follows.
abbrev pub header_of_head : Bool → SegmentHead → Header
header_of_head more h =
    record { octets = h.octets; second_field = false; row = h.row; more = more; offset = h.offset }

-- C is set on all but the last
abbrev pub headers_of_heads : List SegmentHead → List Header
headers_of_heads [] = []
headers_of_heads (h ∷ []) = header_of_head false h ∷ []
headers_of_heads (h ∷ k ∷ hs) = header_of_head true h ∷ headers_of_heads (k ∷ hs)

-- the extended number and the headers
abbrev pub payload_front : ℕ → List SegmentHead → List ℕ
payload_front extended heads =
    to_be_bytes w16 extended ++ flat_map header_text (headers_of_heads heads)

-- a head has a segment's place and number of octets
pub record Announces (h : SegmentHead) (s : Segment) : Type 0 where
  pub octets : h.octets ≡ length s.octets
  pub row : h.row ≡ s.row
  pub offset : h.offset ≡ s.offset

-- one to three heads that can be written, and the segments that they announce
pub record AreHeads (extended : ℕ) (heads : List SegmentHead)
    (segments : List Segment) : Type 0 where
  pub extended_fits : extended < 2 ^ 16
  pub some : 0 < length heads
  pub few : length heads ≤ most_segments
  pub fields : AllByRecursion HeadFits heads
  pub announce : AllZip Announces heads segments

-- the octets of segments, one after another (RFC 4175, 4.3)
abbrev pub data_text : List Segment → List ℕ
data_text segments = flat_map (λ s. s.octets) segments

-- what the grammar asks of segments beside: whole pgroups, at one, inside the raster
abbrev pub AreInside : List Segment → Format → Type 0
AreInside segments f = AllByRecursion (λ s. 0 < length s.octets → IsInside s f) segments

-- a payload with nothing behind its segments
pub record IsWholePayload (payload : List ℕ) (f : Format) (extended : ℕ)
    (segments : List Segment) : Type 0 where
  pub is_payload : IsPayload payload f extended segments
  pub no_rest : is_payload.rest ≡ []
