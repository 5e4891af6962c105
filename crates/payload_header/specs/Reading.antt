-- A walk over a payload from the left, as the code walks, which tells the first fault (RFC 4175,
-- 4.2 and 4.3; the order of the tests is own). What a payload is says Payload, and which octets
-- have a fault says Faults; laws join the three.
use Rattle.std.specs.Prelude.{ℕ, zero, suc, ◌+◌, ◌*◌, ◌/◌, ◌%◌, ◌^◌, Bool, not, nat_lt, nat_le}
use Rattle.std.specs.Prelude.{◌==◌, if◌then◌else◌, List, [], ◌∷◌, length, take, drop, sum_by}
use Rattle.std.specs.Prelude.{Option, Some, None, Result, Ok, Err}
use Rattle.std.specs.Int.{w16, from_be_bytes}
use Rattle.st_format.specs.declared.format.Format.{Format}
use Rattle.st_format.specs.Raster.{Segment}
use Rattle.st_format.specs.Reading.{◌>>=◌}
use Rattle.payload_header.specs.declared.reading.Header.{Header as HeaderCode}
use Rattle.payload_header.specs.declared.payload.PayloadFault.{PayloadFault}
use Rattle.payload_header.specs.declared.payload.PayloadFault.TheVariants.{ShortPayloadHeader}
use Rattle.payload_header.specs.declared.payload.PayloadFault.TheVariants.{TooManySegments}
use Rattle.payload_header.specs.declared.payload.PayloadFault.TheVariants.{SecondField, BadLength}
use Rattle.payload_header.specs.declared.payload.PayloadFault.TheVariants.{BadOffset, RowOutside}
use Rattle.payload_header.specs.declared.payload.PayloadFault.TheVariants.{ColumnsOutside}
use Rattle.payload_header.specs.declared.payload.PayloadFault.TheVariants.{ShortData}
use Rattle.payload_header.specs.Payload.{group_of, Header, most_segments}

-- the number in two octets, and what follows
abbrev pub number_at : List ℕ → Result (ℕ × List ℕ) PayloadFault
number_at octets =
    if nat_lt (length octets) 2 then Err ShortPayloadHeader
    else Ok (from_be_bytes w16 (take 2 octets), drop 2 octets)

-- a header of six octets
unfoldable pub header_of : List ℕ → Header
header_of six =
    let row : ℕ = from_be_bytes w16 (take 2 (drop 2 six)) in
    let offset : ℕ = from_be_bytes w16 (drop 4 six) in
    record {
      octets = from_be_bytes w16 (take 2 six);
      second_field = nat_le (2 ^ 15) row;
      row = row % 2 ^ 15;
      more = nat_le (2 ^ 15) offset;
      offset = offset % 2 ^ 15;
    }

-- the headers, and what follows them
unfoldable pub headers_at : ℕ → List ℕ → Result (List Header × List ℕ) PayloadFault
headers_at zero octets = Err TooManySegments
headers_at (suc n) octets =
    if nat_lt (length octets) 6 then Err ShortPayloadHeader else (
    let h : Header = header_of (take 6 octets) in
    if h.more then (headers_at n (drop 6 octets) >>= λ r. Ok (h ∷ r.0, r.1))
    else Ok (h ∷ [], drop 6 octets))

-- the fault of the first test that holds
abbrev pub first_of : List (Bool × PayloadFault) → Option PayloadFault
first_of [] = None
first_of (t ∷ ts) = if t.0 then Some t.1 else first_of ts

-- The faults of a header, in their order; none where it has no octets
abbrev pub header_fault : Format → Header → Option PayloadFault
header_fault f h = if h.octets == 0 then None else first_of (
    (h.second_field, SecondField)
    ∷ (not (h.octets % (group_of f).octets == 0), BadLength)
    ∷ (not (h.offset % (group_of f).pixels == 0), BadOffset)
    ∷ (nat_le f.height h.row, RowOutside)
    ∷ (
      nat_lt f.width (h.offset + h.octets / (group_of f).octets * (group_of f).pixels),
      ColumnsOutside,
    )
    ∷ [])

-- the first of two faults, where there is one
abbrev pub option_or : Option PayloadFault → Option PayloadFault → Option PayloadFault
option_or None later = later
option_or (Some e) later = Some e

-- the first fault of the headers in turn
abbrev pub headers_fault : Format → List Header → Option PayloadFault
headers_fault f [] = None
headers_fault f (h ∷ hs) = option_or (header_fault f h) (headers_fault f hs)

-- a fault, where there is one, and else what comes behind it
abbrev pub fault_or : {A : Type 0} → Option PayloadFault → Result A PayloadFault
    → Result A PayloadFault
fault_or None later = later
fault_or (Some e) later = Err e

-- each header's octets, taken from the data in order
abbrev pub segments_at : List Header → List ℕ → List Segment
segments_at [] octets = []
segments_at (h ∷ hs) octets =
    record { row = h.row; offset = h.offset; octets = take h.octets octets } ∷ segments_at hs
    (drop h.octets octets)

-- how many octets headers announce: the sum of their Lengths
abbrev pub counted_octets : List Header → ℕ
counted_octets hs = sum_by (λ h. h.octets) hs

-- the segments that headers announce, where all their octets are there
abbrev pub data_at : List Header → List ℕ → Result (List Segment) PayloadFault
data_at hs octets =
    if nat_lt (length octets) (counted_octets hs) then Err ShortData else Ok (segments_at hs octets)

-- The walk: the extended number and the segments, or the first fault.
unfoldable pub payload_walk : Format → List ℕ → Result (ℕ × List Segment) PayloadFault
payload_walk f octets = do
  extended ← number_at octets
  headers ← headers_at most_segments extended.1
  segments ← fault_or (headers_fault f headers.0) (data_at headers.0 headers.1)
  Ok (extended.0, segments)

-- the fields that the code keeps
abbrev pub fields : HeaderCode → Header
fields h =
    record {
      octets = h.octets;
      second_field = h.second_field;
      row = h.row;
      more = h.more;
      offset =
          h.offset;
    }
