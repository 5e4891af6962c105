-- When octets are refused: one condition for each fault, over the whole list of headers (RFC 4175,
-- 4; the order of the faults is own).
use Rattle.std.specs.Prelude.{◌≡◌, ◌≢◌, ℕ, ◌+◌, ◌*◌, ◌/◌, ◌%◌, ◌^◌, ◌<◌, ◌≤◌, ◌⊎◌, true, List, ◌∷◌}
use Rattle.std.specs.Prelude.{◌++◌, length, codes}
use Rattle.std.specs.List.{flat_map, AllByRecursion}
use Rattle.std.specs.Int.{w16, to_be_bytes}
use Rattle.st_format.specs.declared.format.Format.{Format}
use Rattle.payload_header.specs.declared.payload.PayloadFault.{PayloadFault}
use Rattle.payload_header.specs.declared.payload.PayloadFault.TheVariants.{ShortPayloadHeader}
use Rattle.payload_header.specs.declared.payload.PayloadFault.TheVariants.{TooManySegments}
use Rattle.payload_header.specs.declared.payload.PayloadFault.TheVariants.{SecondField, BadLength}
use Rattle.payload_header.specs.declared.payload.PayloadFault.TheVariants.{BadOffset, RowOutside}
use Rattle.payload_header.specs.declared.payload.PayloadFault.TheVariants.{ColumnsOutside}
use Rattle.payload_header.specs.declared.payload.PayloadFault.TheVariants.{ShortData}
use Rattle.payload_header.specs.Payload.{group_of, Header, HeaderFits, header_text, IsChain}
use Rattle.payload_header.specs.Payload.{most_segments}
use Rattle.payload_header.specs.Reading.{counted_octets}

-- the faults in their order (own)
abbrev pub payload_fault_number : PayloadFault → ℕ
payload_fault_number ShortPayloadHeader = 1
payload_fault_number TooManySegments = 2
payload_fault_number SecondField = 3
payload_fault_number BadLength = 4
payload_fault_number BadOffset = 5
payload_fault_number RowOutside = 6
payload_fault_number ColumnsOutside = 7
payload_fault_number ShortData = 8

-- their names, as `name` answers them (own)
abbrev pub payload_fault_name : PayloadFault → List ℕ
payload_fault_name ShortPayloadHeader = codes "ShortPayloadHeader"
payload_fault_name TooManySegments = codes "TooManySegments"
payload_fault_name SecondField = codes "SecondField"
payload_fault_name BadLength = codes "BadLength"
payload_fault_name BadOffset = codes "BadOffset"
payload_fault_name RowOutside = codes "RowOutside"
payload_fault_name ColumnsOutside = codes "ColumnsOutside"
payload_fault_name ShortData = codes "ShortData"

-- The octets are an extended number, the texts of these headers (RFC 4175, 4.2), and some more.
pub record BeginsWith (octets : List ℕ) (headers : List Header) (more : List ℕ) : Type 0 where
  pub extended : ℕ
  pub extended_fits : extended < 2 ^ 16
  pub headers_fit : AllByRecursion HeaderFits headers
  pub parts : octets ≡ to_be_bytes w16 extended ++ (flat_map header_text headers ++ more)

-- each says by C that another header follows (RFC 4175, 4.2)
abbrev pub AllGoOn : List Header → Type 0
AllGoOn headers = AllByRecursion (λ h. h.more ≡ true) headers

-- A header is missing, or cut: fewer than three headers, all of which say that another follows, and
-- behind them less than a header.
pub record LacksHeader (octets : List ℕ) : Type 0 where
  pub headers : List Header
  pub more : List ℕ
  pub begins : BeginsWith octets headers more
  pub go_on : AllGoOn headers
  pub few : length headers < most_segments
  pub short : length more < 6

-- three headers, all of which say that another follows (SMPTE ST 2110-20, packets)
pub record GoesPastThree (octets : List ℕ) : Type 0 where
  pub headers : List Header
  pub more : List ℕ
  pub begins : BeginsWith octets headers more
  pub go_on : AllGoOn headers
  pub as_many : length headers ≡ most_segments

-- Whole headers: one to three, of which all but the last say that another follows, and the data
-- behind them
pub record HasHeaders (octets : List ℕ) (headers : List Header) (more : List ℕ) : Type 0 where
  pub begins : BeginsWith octets headers more
  pub chain : IsChain headers
  pub few : length headers ≤ most_segments

-- what can be wrong with the fields of a header (RFC 4175, 4.2; SMPTE ST 2110-20, pixel groups)
abbrev pub IsWrong : Header → Format → PayloadFault → Type 0
IsWrong h f SecondField = h.second_field ≡ true
IsWrong h f BadLength = h.octets % (group_of f).octets ≢ 0
IsWrong h f BadOffset = h.offset % (group_of f).pixels ≢ 0
IsWrong h f RowOutside = f.height ≤ h.row
IsWrong h f ColumnsOutside =
    f.width < h.offset + h.octets / (group_of f).octets * (group_of f).pixels
IsWrong h f ShortPayloadHeader = ⊥
IsWrong h f TooManySegments = ⊥
IsWrong h f ShortData = ⊥

-- A header with octets has nothing wrong; one without octets may have anything (own).
abbrev pub IsSoundHeader : Header → Format → Type 0
IsSoundHeader h f = 0 < h.octets → (fault : PayloadFault) → IsWrong h f fault → ⊥

-- A header has octets, and this is the first that is wrong with it.
pub record HasFirst (h : Header) (f : Format) (fault : PayloadFault) : Type 0 where
  pub some : 0 < h.octets
  pub wrong : IsWrong h f fault
  pub first : (earlier : PayloadFault) → payload_fault_number earlier < payload_fault_number fault
      → IsWrong h f earlier → ⊥

-- Whole headers, and of the first in turn that isn't sound this is the first that is wrong.
pub record HasPayloadFault (octets : List ℕ) (f : Format) (fault : PayloadFault) : Type 0 where
  pub before : List Header
  pub header : Header
  pub after : List Header
  pub more : List ℕ
  pub whole : HasHeaders octets (before ++ header ∷ after) more
  pub sound : AllByRecursion (λ h. IsSoundHeader h f) before
  pub has : HasFirst header f fault

-- Whole headers, all sound, and fewer octets behind them than the sum of their Lengths
pub record LacksData (octets : List ℕ) (f : Format) : Type 0 where
  pub headers : List Header
  pub more : List ℕ
  pub whole : HasHeaders octets headers more
  pub sound : AllByRecursion (λ h. IsSoundHeader h f) headers
  pub short : length more < counted_octets headers

-- Why octets are refused. ShortPayloadHeader also stands for less than an extended number.
abbrev pub IsRefusedPayload : List ℕ → Format → PayloadFault → Type 0
IsRefusedPayload octets f ShortPayloadHeader = (length octets < 2) ⊎ LacksHeader octets
IsRefusedPayload octets f TooManySegments = GoesPastThree octets
IsRefusedPayload octets f SecondField = HasPayloadFault octets f SecondField
IsRefusedPayload octets f BadLength = HasPayloadFault octets f BadLength
IsRefusedPayload octets f BadOffset = HasPayloadFault octets f BadOffset
IsRefusedPayload octets f RowOutside = HasPayloadFault octets f RowOutside
IsRefusedPayload octets f ColumnsOutside = HasPayloadFault octets f ColumnsOutside
IsRefusedPayload octets f ShortData = LacksData octets f
