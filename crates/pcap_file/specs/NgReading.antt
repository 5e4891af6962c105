-- Blocks read from the left, one after another.
use Rattle.std.specs.Prelude.{ℕ, ◌-◌, nat_lt, ◌==◌, ◌||◌, if◌then◌else◌, Bool, true, false}
use Rattle.std.specs.Prelude.{List, [], ◌∷◌, length, take, drop, Option, None, Some, Result, Ok}
use Rattle.std.specs.Prelude.{Err}
use Rattle.st_format.specs.Reading.{◌>>=◌}
use Rattle.pcap_file.specs.declared.fault.RecordingFault.{RecordingFault}
use Rattle.pcap_file.specs.declared.fault.RecordingFault.TheVariants.{Truncated, BadMagic, BadBlock}
use Rattle.pcap_file.specs.declared.fault.RecordingFault.TheVariants.{PacketTooLong}
use Rattle.pcap_file.specs.declared.order.ByteOrder.{ByteOrder}
use Rattle.pcap_file.specs.Orders.{long_at}
use Rattle.pcap_file.specs.BlockReading.{body_of_total, order_of, section_of}
use Rattle.pcap_file.specs.Fields.{field_at}
use Rattle.st_format.specs.Given.{with_rest}

-- so many octets that are passed over
unfoldable pub skip_at : ℕ → List ℕ → Result (Unit {0} × List ℕ) RecordingFault
skip_at n octets = if nat_lt (length octets) n then Err Truncated else Ok (tt, drop n octets)

-- the order that a section's number tells; BadMagic where it tells none
abbrev pub order_or : Option ByteOrder → Result ByteOrder RecordingFault
order_or (Some order) = Ok order
order_or None = Err BadMagic

-- the order of a section
unfoldable pub order_at : List ℕ → Result (ByteOrder × List ℕ) RecordingFault
order_at octets = field_at 4 octets >>= λ x. with_rest (order_or (order_of x.0)) x.1

-- its version, and the eight octets behind it
unfoldable pub version_at : ByteOrder → List ℕ → Result (Unit {0} × List ℕ) RecordingFault
version_at order octets = field_at 12 octets >>= λ x. with_rest (section_of order x.0) x.1

-- the last four octets of a block say its length once more; BadBlock where they say another
abbrev pub again_of : ByteOrder → ℕ → List ℕ → Result (Unit {0}) RecordingFault
again_of order total four = if long_at order 0 four == total then Ok tt else Err BadBlock

-- a block's length, again
unfoldable pub trailer_at : ByteOrder → ℕ → List ℕ → Result (Unit {0} × List ℕ) RecordingFault
trailer_at order total octets = field_at 4 octets >>= λ x. with_rest (again_of order total x.0) x.1

-- what is left of a block that is passed over
unfoldable pub passed_at : ByteOrder → ℕ → ℕ → List ℕ → Result (Unit {0} × List ℕ) RecordingFault
passed_at order total count octets =
    skip_at count octets >>= λ x. trailer_at order total x.1

-- what is left of a section's block behind its order
unfoldable pub section_rest_at : ByteOrder → ℕ → ℕ → List ℕ
    → Result (Unit {0} × List ℕ) RecordingFault
section_rest_at order total count octets =
    version_at order octets >>= λ x. passed_at order total count x.1

-- a body, where there is room for it
unfoldable pub body_at : ℕ → ℕ → List ℕ → Result (List ℕ × List ℕ) RecordingFault
body_at room count octets =
    if nat_lt room count then Err PacketTooLong else field_at count octets

-- a body, and the block's length again
unfoldable pub kept_at : ByteOrder → ℕ → ℕ → ℕ → List ℕ
    → Result (List ℕ × List ℕ) RecordingFault
kept_at order total room count octets =
    body_at room count octets >>= λ x. trailer_at order total x.1 >>= λ y. Ok (x.0, y.1)

-- ---- whole blocks

-- how many octets of options a section has, by the length of its block
abbrev pub section_count : ℕ → Result ℕ RecordingFault
section_count total =
    body_of_total total >>= λ count. if nat_lt count 16 then Err BadBlock else Ok (count - 16)

-- what is left of a section's block behind its order, by the block's first eight octets
unfoldable pub section_by : ByteOrder → List ℕ → List ℕ → Result (Unit {0} × List ℕ) RecordingFault
section_by order front octets =
    section_count (long_at order 4 front) >>=
    λ count. section_rest_at order (long_at order 4 front) count octets

-- what is left of a section's block behind its first eight octets
unfoldable pub section_at : List ℕ → List ℕ → Result (ByteOrder × List ℕ) RecordingFault
section_at front octets =
    order_at octets >>= λ x. section_by x.0 front x.1 >>= λ y. Ok (x.0, y.1)

-- the types of blocks that are read: of interfaces, and of obsolete, simple and enhanced packets
abbrev pub is_read : ℕ → Bool
is_read type = type == 1 || type == 2 || type == 3 || type == 6

-- what is left of a block behind its first eight octets: its body, if it is read
unfoldable pub block_by : ByteOrder → ℕ → ℕ → ℕ → ℕ → List ℕ
    → Result (Option (List ℕ) × List ℕ) RecordingFault
block_by order type total room count octets =
    if is_read type
    then (kept_at order total room count octets >>= λ x. Ok (Some x.0, x.1))
    else (passed_at order total count octets >>= λ x. Ok (None, x.1))

-- what is left of the block that begins with these eight octets
unfoldable pub block_at : ByteOrder → ℕ → List ℕ → List ℕ
    → Result (Option (List ℕ) × List ℕ) RecordingFault
block_at order room front octets =
    body_of_total (long_at order 4 front) >>=
    λ count. block_by order (long_at order 0 front) (long_at order 4 front) room count octets

-- the first eight octets of a block; or the end
unfoldable pub front_at : List ℕ → Result (Option (List ℕ) × List ℕ) RecordingFault
front_at [] = Ok (None, [])
front_at (x ∷ xs) = field_at 8 (x ∷ xs) >>= λ y. Ok (Some y.0, y.1)

-- a body that stands at the front of a buffer
abbrev pub body_in : Option ℕ → List ℕ → Option (List ℕ)
body_in None buffer = None
body_in (Some count) buffer = Some (take count buffer)

-- octets that were read into a buffer, or none
abbrev pub front_in : Bool → List ℕ → Option (List ℕ)
front_in true buffer = Some buffer
front_in false buffer = None
