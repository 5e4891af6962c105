-- The grammar of a payload: what octets are a payload with these segments (RFC 4175, 4.2 and 4.3;
-- SMPTE ST 2110-20, packets and pixel groups).
use Rattle.std.specs.Prelude.{◌≡◌, ℕ, ◌+◌, ◌*◌, ◌/◌, ◌%◌, ◌^◌, ◌<◌, ◌≤◌, Bool, true, false}
use Rattle.std.specs.Prelude.{if◌then◌else◌, List, [], ◌∷◌, ◌++◌, length}
use Rattle.std.specs.List.{flat_map, AllByRecursion, AllZip}
use Rattle.std.specs.Int.{w16, to_be_bytes}
use Rattle.st_format.specs.declared.format.Format.{Format}
use Rattle.st_format.specs.Pgroup.{Group, pixel_group}
use Rattle.st_format.specs.Raster.{Segment}
use Rattle.payload_header.specs.declared.payload.Segment.{Segment as SegmentView}

-- the pgroup of a format (SMPTE ST 2110-20, pixel groups)
abbrev pub group_of : Format → Group
group_of f = pixel_group f.sampling f.depth

-- A segment with octets has whole pgroups, begins at one, and lies in the raster (RFC 4175,
-- 4.2 and 4.3; SMPTE ST 2110-20, pixel groups).
pub record IsInside (s : Segment) (f : Format) : Type 0 where
  pub whole_groups : length s.octets % (group_of f).octets ≡ 0
  pub at_group : s.offset % (group_of f).pixels ≡ 0
  pub row : s.row < f.height
  pub columns : s.offset + length s.octets / (group_of f).octets * (group_of f).pixels ≤ f.width

-- The fields of a segment's header: Length, F, row, C and Offset (RFC 4175, 4.2)
pub record Header : Type 0 where
  pub octets : ℕ
  pub second_field : Bool
  pub row : ℕ
  pub more : Bool
  pub offset : ℕ

-- the fields have 16, 15 and 15 bits
pub record HeaderFits (h : Header) : Type 0 where
  pub octets : h.octets < 2 ^ 16
  pub row : h.row < 2 ^ 15
  pub offset : h.offset < 2 ^ 15

-- 15 bits behind a flag, the highest bit of 16
abbrev pub flagged_number : Bool → ℕ → List ℕ
flagged_number flag n = to_be_bytes w16 ((if flag then 2 ^ 15 else 0) + n)

-- the six octets of a header: Length; F and row; C and Offset (RFC 4175, 4.2)
abbrev pub header_text : Header → List ℕ
header_text h = to_be_bytes w16 h.octets ++ flagged_number h.second_field h.row
    ++ flagged_number h.more h.offset

-- one header or more, of which all but the last say by C that another follows (RFC 4175, 4.2)
abbrev pub IsChain : List Header → Type 0
IsChain [] = ⊥
IsChain (h ∷ []) = h.more ≡ false
IsChain (h ∷ k ∷ hs) = (h.more ≡ true) × IsChain (k ∷ hs)

-- A header describes a segment of the first field. One without octets is free in its field, row and
-- offset (own).
pub record IsHeaderOf (h : Header) (f : Format) (s : Segment) : Type 0 where
  pub octets : h.octets ≡ length s.octets
  pub row : h.row ≡ s.row
  pub offset : h.offset ≡ s.offset
  pub first_field : 0 < length s.octets → h.second_field ≡ false
  pub inside : 0 < length s.octets → IsInside s f

-- up to this many segments (SMPTE ST 2110-20, packets)
abbrev pub most_segments : ℕ
most_segments = 3

-- The extended number, the headers, the segments' octets in the order of the headers (RFC 4175, 4.2
-- and 4.3), and any rest (own)
pub record IsPayload (payload : List ℕ) (f : Format) (extended : ℕ)
    (segments : List Segment) : Type 0 where
  pub headers : List Header
  pub rest : List ℕ
  pub extended_fits : extended < 2 ^ 16
  pub headers_fit : AllByRecursion HeaderFits headers
  pub few : length headers ≤ most_segments
  pub chain : IsChain headers
  pub described : AllZip (λ h s. IsHeaderOf h f s) headers segments
  pub whole : payload
      ≡ to_be_bytes w16 extended ++
      (flat_map header_text headers ++ (flat_map (λ s. s.octets) segments ++ rest))

-- a segment without where its octets lie in memory
abbrev pub seen_segment : SegmentView → Segment
seen_segment s = record { row = s.row; offset = s.offset; octets = s.octets.now }
