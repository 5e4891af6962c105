-- Recordings in blocks. The draft of pcapng (draft-ietf-opsawg-pcapng): blocks, options, and the
-- blocks of sections, interfaces, enhanced packets, simple packets and obsolete packets.
use Rattle.std.specs.Prelude.{◌≡◌, ◌≢◌, ℕ, ◌+◌, ◌-◌, ◌*◌, ◌/◌, ◌%◌, ◌^◌, ◌≤◌, ◌⊎◌, max, min}
use Rattle.std.specs.Prelude.{nat_lt, ◌==◌, if◌then◌else◌, List, [], ◌∷◌, ◌++◌, length}
use Rattle.std.specs.Prelude.{take, slice_get, Option, Some, None}
use Rattle.std.specs.Int.{w64}
use Rattle.std.specs.List.{concat, AllByRecursion}
use Rattle.interface_name.specs.declared.name.InterfaceName.{InterfaceName}
use Rattle.interface_name.specs.Name.{name_of}
use Rattle.pcap_file.specs.Orders.{long_at, number_by, short_at}
use Rattle.pcap_file.specs.declared.blocks.Interface.{Interface}
use Rattle.pcap_file.specs.declared.order.ByteOrder.{ByteOrder}
use Rattle.pcap_file.specs.declared.pcap.PacketHead.{PacketHead}

-- the octets that a block has at most (own)
abbrev pub most_octets : ℕ
most_octets = 0x100_0000

-- the number that tells a section's order
abbrev pub order_number : ℕ
order_number = 0x1a2b_3c4d

-- a length that a block with a body of so many octets can have
pub record IsTotal (total count : ℕ) : Type 0 where
  pub counted : total ≡ 12 + count
  pub fours : total % 4 ≡ 0
  pub few : total ≤ most_octets

-- A block: its type and length, its body, and its length again.
pub record IsBlock (order : ByteOrder) (octets : List ℕ) (type : ℕ) (body : List ℕ)
    (rest : List ℕ) : Type 0 where
  pub front : List ℕ
  pub trailer : List ℕ
  pub front_octets : length front ≡ 8
  pub trailer_octets : length trailer ≡ 4
  pub type_is : type ≡ long_at order 0 front
  pub total : IsTotal (long_at order 4 front) (length body)
  pub again : long_at order 0 trailer ≡ long_at order 4 front
  pub whole : octets ≡ front ++ (body ++ (trailer ++ rest))

-- What is behind the order's four octets in a section's body: the version 1.0 or 1.2, eight octets
-- of length, of which nothing is made, and options.
pub record IsSection (order : ByteOrder) (body : List ℕ) : Type 0 where
  pub major : short_at order 0 body ≡ 1
  pub minor : (short_at order 2 body ≡ 0) ⊎ (short_at order 2 body ≡ 2)

-- ---- options

-- the octets of an option with a value of so many, filled up to a multiple of 4
abbrev pub option_octets : ℕ → ℕ
option_octets count = 4 + (count + 3) / 4 * 4

-- An option: its code, the length of its value, the value, and up to three octets more.
pub record IsOption (order : ByteOrder) (octets : List ℕ) (code : ℕ) (value : List ℕ) : Type 0 where
  pub front : List ℕ
  pub padding : List ℕ
  pub front_octets : length front ≡ 4
  pub code_is : code ≡ short_at order 0 front
  pub counted : length value ≡ short_at order 2 front
  pub whole_octets : length octets ≡ option_octets (length value)
  pub whole : octets ≡ front ++ (value ++ padding)

-- an option of another code, which doesn't end the options
pub record IsOtherOption (order : ByteOrder) (code : ℕ) (octets : List ℕ) : Type 0 where
  pub found : ℕ
  pub value : List ℕ
  pub is : IsOption order octets found value
  pub other : found ≢ code
  pub goes_on : found ≢ 0

-- Options of other codes, and what is behind them.
pub record SkipsTo (order : ByteOrder) (code : ℕ) (octets rest : List ℕ) : Type 0 where
  pub others : List (List ℕ)
  pub each : AllByRecursion (IsOtherOption order code) others
  pub parts : octets ≡ concat others ++ rest

-- the first option of a code, which isn't 0, has this value
pub record HasOption (order : ByteOrder) (code : ℕ) (octets value : List ℕ) : Type 0 where
  pub option : List ℕ
  pub rest : List ℕ
  pub skips : SkipsTo order code octets (option ++ rest)
  pub is : IsOption order option code value
  pub goes_on : code ≢ 0

-- There is none: the octets or the options end before.
pub record LacksOption (order : ByteOrder) (code : ℕ) (octets : List ℕ) : Type 0 where
  pub rest : List ℕ
  pub skips : SkipsTo order code octets rest
  pub ends : (rest ≡ []) ⊎ ((4 ≤ length rest) × (short_at order 0 rest ≡ 0))

-- ---- interfaces and times

-- How many units of time a second has: a power of ten, or with the highest bit set of two; none
-- where they are finer than 10^-19 or 2^-63 seconds (own).
abbrev pub per_second_of : ℕ → Option ℕ
per_second_of resolution =
    if nat_lt resolution 128 then (if nat_lt 19 resolution then None else Some (10 ^ resolution))
    else (if nat_lt 191 resolution then None else Some (2 ^ (resolution - 128)))

-- the units of a second are those that the option says, or a million
abbrev pub IsUnit : ByteOrder → List ℕ → ℕ → Type 0
IsUnit order options per_second =
    (LacksOption order 9 options × (per_second ≡ 1000000))
    ⊎ ((resolution : ℕ) × HasOption order 9 options (resolution ∷ [])
    × (per_second_of resolution ≡ Some per_second))

-- the seconds that belong to times are those that the option says, or none
abbrev pub IsOffset : ByteOrder → List ℕ → ℕ → Type 0
IsOffset order options offset =
    (LacksOption order 14 options × (offset ≡ 0))
    ⊎ ((value : List ℕ) × HasOption order 14 options value × (length value ≡ 8)
    × (offset ≡ number_by order w64 value))

-- a text up to the first zero, which ends it (Options)
abbrev pub before_zero : List ℕ → List ℕ
before_zero [] = []
before_zero (x ∷ xs) = if x == 0 then [] else (x ∷ before_zero xs)

-- The name is that which the option if_name says, or none: also where it is no name as words of
-- commands can have it (own).
abbrev pub IsNamed : ByteOrder → List ℕ → Option InterfaceName → Type 0
IsNamed order options name =
    (LacksOption order 2 options × (name ≡ None))
    ⊎ ((value : List ℕ) × HasOption order 2 options value × (name ≡ name_of (before_zero value)))

-- The body of a block that describes an interface: the link layer, two octets, how much of a packet
-- is kept, and options.
pub record IsInterface (order : ByteOrder) (body : List ℕ) (i : Interface) : Type 0 where
  pub fixed : List ℕ
  pub options : List ℕ
  pub fixed_octets : length fixed ≡ 8
  pub link : i.link ≡ short_at order 0 fixed
  pub snap : i.snap ≡ long_at order 4 fixed
  pub unit : IsUnit order options i.per_second
  pub offset : IsOffset order options i.offset
  pub name : IsNamed order options i.name
  pub whole : body ≡ fixed ++ options

-- nanoseconds in so many units
abbrev pub since_of : Interface → ℕ → ℕ
since_of i units = units * 1000000000 / max i.per_second 1

-- a number of nanoseconds below 2^64
abbrev pub told_time : ℕ → Option ℕ
told_time time = if nat_lt time (2 ^ 64) then Some time else None

-- The time of so many units: nanoseconds since 1970, with the interface's seconds, which are below
-- 0 from 2^63 on.
abbrev pub time_at : Interface → ℕ → Option ℕ
time_at i units =
    if nat_lt i.offset (2 ^ 63) then told_time (since_of i units + i.offset * 1000000000) else
    (if nat_lt (since_of i units) ((2 ^ 64 - i.offset) * 1000000000) then None
    else told_time (since_of i units - (2 ^ 64 - i.offset) * 1000000000))

-- ---- packets

-- The body of a block with a packet and its time: the number of the interface in the first four
-- octets, the time in two halves, how many octets were kept and how many there were, the octets,
-- and any octets behind them.
pub record IsStamped (number : List ℕ → ℕ) (order : ByteOrder) (interfaces : List Interface)
    (body : List ℕ) (p : PacketHead) (octets : List ℕ) : Type 0 where
  pub front : List ℕ
  pub behind : List ℕ
  pub interface : Interface
  pub front_octets : length front ≡ 20
  pub interface_is : slice_get interfaces (number front) ≡ Some interface
  pub time : p.time ≡ time_at interface (long_at order 4 front * 2 ^ 32 + long_at order 8 front)
  pub told : (t : ℕ) × (p.time ≡ Some t)
  pub link : p.link ≡ interface.link
  pub captured : p.captured ≡ long_at order 12 front
  pub counted : length octets ≡ p.captured
  pub original : p.original ≡ long_at order 16 front
  pub named : p.interface ≡ interface.name
  pub whole : body ≡ front ++ (octets ++ behind)

-- the number of the interface in all four octets, or in the first two of them
abbrev pub long_number : ByteOrder → List ℕ → ℕ
long_number order front = long_at order 0 front

-- the number of the interface in two octets, as obsolete packet blocks have it
abbrev pub short_number : ByteOrder → List ℕ → ℕ
short_number order front = short_at order 0 front

-- The body of an enhanced packet block: the number of the interface has four octets.
abbrev pub IsEnhanced : ByteOrder → List Interface → List ℕ → PacketHead → List ℕ → Type 0
IsEnhanced order interfaces body p octets =
    IsStamped (long_number order) order interfaces body p octets

-- The body of an obsolete packet block: the number of the interface has two octets, and the two
-- behind it count the packets that were lost before, of which nothing is made.
abbrev pub IsObsolete : ByteOrder → List Interface → List ℕ → PacketHead → List ℕ → Type 0
IsObsolete order interfaces body p octets =
    IsStamped (short_number order) order interfaces body p octets

-- how many octets of so many are kept, where 0 is no limit
abbrev pub kept_of : ℕ → ℕ → ℕ
kept_of original snap = if snap == 0 then original else min original snap

-- The body of a simple packet block: how many octets the packet had, those that were kept, and any
-- octets behind them.
pub record IsSimple (order : ByteOrder) (interfaces : List Interface) (body : List ℕ)
    (p : PacketHead) (octets : List ℕ) : Type 0 where
  pub front : List ℕ
  pub behind : List ℕ
  pub interface : Interface
  pub front_octets : length front ≡ 4
  pub interface_is : slice_get interfaces 0 ≡ Some interface
  pub time : p.time ≡ None
  pub link : p.link ≡ interface.link
  pub original : p.original ≡ long_at order 0 front
  pub captured : p.captured ≡ kept_of p.original interface.snap
  pub named : p.interface ≡ interface.name
  pub counted : length octets ≡ p.captured
  pub whole : body ≡ front ++ (octets ++ behind)

-- The block that begins a section, whose type is the same in either order: the order's number, the
-- version and the section's length, options, and the block's length again.
pub record IsSectionBlock (octets : List ℕ) (order : ByteOrder) (rest : List ℕ) : Type 0 where
  pub front : List ℕ
  pub four : List ℕ
  pub version : List ℕ
  pub options : List ℕ
  pub trailer : List ℕ
  pub front_octets : length front ≡ 8
  pub four_octets : length four ≡ 4
  pub version_octets : length version ≡ 12
  pub trailer_octets : length trailer ≡ 4
  pub type_is : take 4 front ≡ 0x0a ∷ 0x0d ∷ 0x0d ∷ 0x0a ∷ []
  pub order_is : long_at order 0 four ≡ order_number
  pub is : IsSection order version
  pub total : IsTotal (long_at order 4 front) (16 + length options)
  pub again : long_at order 0 trailer ≡ long_at order 4 front
  pub whole : octets ≡ front ++ (four ++ (version ++ (options ++ (trailer ++ rest))))
