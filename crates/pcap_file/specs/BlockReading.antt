-- Blocks read from the left, with the first fault, as the code reads. What blocks say stands in
-- Blocks.
use Rattle.std.specs.Prelude.{ℕ, zero, suc, ◌+◌, ◌-◌, ◌*◌, ◌%◌, ◌^◌, ◌||◌, ◌&&◌, not, nat_lt}
use Rattle.std.specs.Prelude.{◌==◌, if◌then◌else◌, List, [], ◌∷◌, length, take, drop, slice_index}
use Rattle.std.specs.Prelude.{slice_get, Option, Some, None, Result, Ok, Err}
use Rattle.std.specs.Int.{w64}
use Rattle.st_format.specs.Reading.{◌>>=◌}
use Rattle.interface_name.specs.declared.name.InterfaceName.{InterfaceName}
use Rattle.interface_name.specs.Name.{name_of}
use Rattle.pcap_file.specs.Blocks.{before_zero, kept_of, long_number, most_octets, option_octets}
use Rattle.pcap_file.specs.Blocks.{order_number, per_second_of, short_number, time_at}
use Rattle.pcap_file.specs.Orders.{long_at, number_by, short_at}
use Rattle.pcap_file.specs.declared.blocks.Interface.{Interface}
use Rattle.pcap_file.specs.declared.fault.RecordingFault.{RecordingFault}
use Rattle.pcap_file.specs.declared.fault.RecordingFault.TheVariants.{BadBlock, BadVersion}
use Rattle.pcap_file.specs.declared.fault.RecordingFault.TheVariants.{BadInterface, BadTime}
use Rattle.pcap_file.specs.declared.order.ByteOrder.{ByteOrder}
use Rattle.pcap_file.specs.declared.order.ByteOrder.TheVariants.{Big, Little}
use Rattle.pcap_file.specs.declared.pcap.PacketHead.{PacketHead}

-- how many octets the body of a block of this length has; BadBlock where no block has this length
abbrev pub body_of_total : ℕ → Result ℕ RecordingFault
body_of_total total =
    if nat_lt total 12 || not (total % 4 == 0) || nat_lt most_octets total then Err BadBlock
    else Ok (total - 12)

-- the order in which four octets are the number that tells a section's order, if they are in one
abbrev pub order_of : List ℕ → Option ByteOrder
order_of octets =
    if long_at Big 0 octets == order_number then Some Big
    else (if long_at Little 0 octets == order_number then Some Little else None)

-- BadVersion where what is behind the order in a section doesn't begin with version 1.0 or 1.2
abbrev pub section_of : ByteOrder → List ℕ → Result (Unit {0}) RecordingFault
section_of order body =
    if not (short_at order 0 body == 1)
    || (not (short_at order 2 body == 0) && not (short_at order 2 body == 2)) then Err BadVersion
    else Ok tt

-- one option, or what is behind it
abbrev pub option_by : ByteOrder → ℕ → List ℕ
    → (List ℕ → Result (Option (List ℕ)) RecordingFault)
    → Result (Option (List ℕ)) RecordingFault
option_by order code octets later =
    if nat_lt (length octets) 4 then Err BadBlock else
    (if short_at order 0 octets == 0 then Ok None else
    (if nat_lt (length octets) (option_octets (short_at order 2 octets)) then Err BadBlock else
    (if short_at order 0 octets == code
    then Ok (Some (take (short_at order 2 octets) (drop 4 octets)))
    else later (drop (option_octets (short_at order 2 octets)) octets))))

-- the value of the first option of a code, among at most so many
unfoldable pub options_at : ℕ → ByteOrder → ℕ → List ℕ → Result (Option (List ℕ)) RecordingFault
options_at n order code [] = Ok None
options_at zero order code (x ∷ xs) = Err BadBlock
options_at (suc n) order code (x ∷ xs) =
    option_by order code (x ∷ xs) (λ rest. options_at n order code rest)

-- an option has at least four octets, so these are all
abbrev pub option_at : ByteOrder → ℕ → List ℕ → Result (Option (List ℕ)) RecordingFault
option_at order code octets = options_at (length octets) order code octets

-- the units of a second that an option says; BadInterface where they are too fine (own)
abbrev pub per_second_by : Option ℕ → Result ℕ RecordingFault
per_second_by (Some units) = Ok units
per_second_by None = Err BadInterface

-- the units of a second, by the value of the option if_tsresol: a million where there is none
abbrev pub resolution_of : Option (List ℕ) → Result ℕ RecordingFault
resolution_of None = Ok 1000000
resolution_of (Some value) =
    if not (length value == 1) then Err BadInterface
    else per_second_by (per_second_of (slice_index value 0))

-- the seconds that belong to times, by the value of the option if_tsoffset: 0 where there is none
abbrev pub offset_of : ByteOrder → Option (List ℕ) → Result ℕ RecordingFault
offset_of order None = Ok 0
offset_of order (Some value) =
    if not (length value == 8) then Err BadInterface else Ok (number_by order w64 value)

-- an interface's name, by the value of the option if_name up to its first zero, if it can be one
abbrev pub name_by : Option (List ℕ) → Option InterfaceName
name_by None = None
name_by (Some value) = name_of (before_zero value)

-- an interface, by the eight octets before the options of its block and by its options
abbrev pub interface_by : ByteOrder → List ℕ → List ℕ → Result Interface RecordingFault
interface_by order fixed options =
    option_at order 9 options >>= λ r. resolution_of r >>= λ per_second.
    option_at order 14 options >>= λ o. offset_of order o >>= λ offset.
    option_at order 2 options >>= λ n.
    Ok (record {
      link = short_at order 0 fixed;
      snap = long_at order 4 fixed;
      per_second = per_second;
      offset = offset;
      name = name_by n;
    })

-- the interface that the body of its block describes (draft-ietf-opsawg-pcapng, 4.2)
unfoldable pub interface_of : ByteOrder → List ℕ → Result Interface RecordingFault
interface_of order body =
    if nat_lt (length body) 8 then Err BadBlock
    else interface_by order (take 8 body) (drop 8 body)

-- what stands before a packet's octets, by its time and interface and how many octets were kept and
-- there were; BadTime where the time can't be told
abbrev pub packet_by : Option ℕ → Interface → ℕ → ℕ → Result PacketHead RecordingFault
packet_by None i captured original = Err BadTime
packet_by (Some t) i captured original =
    Ok (record {
      time = Some t;
      link = i.link;
      captured = captured;
      original = original;
      interface = i.name;
    })

-- what stands before a packet's octets, by its interface, if there is one, and the first 20 octets
-- of the block's body
abbrev pub stamped_by : ByteOrder → Option Interface → List ℕ → Result PacketHead RecordingFault
stamped_by order None front = Err BadInterface
stamped_by order (Some i) front =
    packet_by (time_at i (long_at order 4 front * 2 ^ 32 + long_at order 8 front)) i
    (long_at order 12 front) (long_at order 16 front)

-- a packet with its time, of the interface of this number
abbrev pub stamped_in : ByteOrder → ℕ → List Interface → List ℕ → List ℕ
    → Result PacketHead RecordingFault
stamped_in order number interfaces front octets =
    if nat_lt (length octets) (long_at order 12 front) then Err BadBlock
    else stamped_by order (slice_get interfaces number) front

-- the head of a packet, from the body of a block that has a time, and its interface so numbered
unfoldable pub stamped_of : (List ℕ → ℕ) → ByteOrder → List Interface → List ℕ
    → Result PacketHead RecordingFault
stamped_of number order interfaces body =
    if nat_lt (length body) 20 then Err BadBlock
    else stamped_in order (number (take 20 body)) interfaces (take 20 body) (drop 20 body)

-- the packet in the body of an enhanced packet block, whose interface has a number of four octets
abbrev pub enhanced_of : ByteOrder → List Interface → List ℕ → Result PacketHead RecordingFault
enhanced_of order interfaces body = stamped_of (long_number order) order interfaces body

-- the packet in the body of an obsolete packet block, whose interface has a number of two octets
abbrev pub obsolete_of : ByteOrder → List Interface → List ℕ → Result PacketHead RecordingFault
obsolete_of order interfaces body = stamped_of (short_number order) order interfaces body

-- a packet without a time, by its interface, if there is one, and the four octets that say how many
-- the packet had
abbrev pub simple_by : ByteOrder → Option Interface → List ℕ → List ℕ
    → Result PacketHead RecordingFault
simple_by order None front octets = Err BadInterface
simple_by order (Some i) front octets =
    if nat_lt (length octets) (kept_of (long_at order 0 front) i.snap) then Err BadBlock
    else Ok (record {
      time = None;
      link = i.link;
      captured = kept_of (long_at order 0 front) i.snap;
      original = long_at order 0 front;
      interface = i.name;
    })

-- the head of a packet of the body of a simple block, of the first interface
-- (draft-ietf-opsawg-pcapng, 4.4)
unfoldable pub simple_of : ByteOrder → List Interface → List ℕ → Result PacketHead RecordingFault
simple_of order interfaces body =
    if nat_lt (length body) 4 then Err BadBlock
    else simple_by order (slice_get interfaces 0) (take 4 body) (drop 4 body)
