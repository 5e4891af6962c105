-- The classic layout of recordings: a head of 24 octets, and for each packet 16 octets and its own.
-- The draft of pcap (draft-ietf-opsawg-pcap): the file header and the packet record.
use Rattle.std.specs.Prelude.{◌≡◌, ◌≢◌, ℕ, ◌+◌, ◌*◌, ◌%◌, ◌^◌, ◌⊎◌, Bool, true, false, ◌||◌, not}
use Rattle.std.specs.Prelude.{◌==◌, if◌then◌else◌, List, Option, Some, None}
use Rattle.std.specs.Prelude.{Result, Ok, Err}
use Rattle.pcap_file.specs.Orders.{long_at, short_at}
use Rattle.pcap_file.specs.declared.fault.RecordingFault.{RecordingFault}
use Rattle.pcap_file.specs.declared.fault.RecordingFault.TheVariants.{BadMagic, BadVersion, Packed}
use Rattle.pcap_file.specs.declared.order.ByteOrder.{ByteOrder}
use Rattle.pcap_file.specs.declared.order.ByteOrder.TheVariants.{Big, Little}
use Rattle.pcap_file.specs.declared.pcap.PacketHead.{PacketHead}
use Rattle.pcap_file.specs.declared.pcap.PcapHead.{PcapHead}

-- the number that a file begins with, by its unit of time: nanoseconds or microseconds
abbrev pub magic_number : Bool → ℕ
magic_number true = 0xa1b2_3c4d
magic_number false = 0xa1b2_c3d4

-- The 24 octets before the packets: the magic number, the version 2.4, eight octets without
-- meaning, how much of a packet was kept, and the link layer in the low 16 bits.
pub record IsPcapHead (octets : List ℕ) (head : PcapHead) : Type 0 where
  pub magic : long_at head.order 0 octets ≡ magic_number head.nanoseconds
  pub major : short_at head.order 4 octets ≡ 2
  pub minor : short_at head.order 6 octets ≡ 4
  pub snap : head.snap ≡ long_at head.order 16 octets
  pub link : head.link ≡ long_at head.order 20 octets % 2 ^ 16

-- the number in the first two octets of a file that gzip has packed. RFC 1952, 2.3.1
abbrev pub gzip_number : ℕ
gzip_number = 0x1f8b

-- They don't begin with a magic number of either order.
abbrev pub LacksMagic : List ℕ → Type 0
LacksMagic octets =
    (order : ByteOrder) (nanoseconds : Bool) → long_at order 0 octets ≢ magic_number nanoseconds

-- They don't, and gzip has not packed them.
pub record IsBadMagic (octets : List ℕ) : Type 0 where
  pub lacks : LacksMagic octets
  pub other : short_at Big 0 octets ≢ gzip_number

-- They don't, and gzip has packed them.
pub record IsGzipped (octets : List ℕ) : Type 0 where
  pub lacks : LacksMagic octets
  pub gzip : short_at Big 0 octets ≡ gzip_number

-- They do begin with such a number, and the version is another.
pub record IsBadVersion (octets : List ℕ) : Type 0 where
  pub order : ByteOrder
  pub nanoseconds : Bool
  pub magic : long_at order 0 octets ≡ magic_number nanoseconds
  pub other : (short_at order 4 octets ≢ 2) ⊎ (short_at order 6 octets ≢ 4)

-- nanoseconds in the unit of a file's fractions of a second
abbrev pub unit_of : Bool → ℕ
unit_of nanoseconds = if nanoseconds then 1 else 1000

-- The 16 octets before a packet's own: seconds, the fraction of a second, how many octets were
-- kept, and how many there were. No interface is named.
pub record IsPacketHead (head : PcapHead) (octets : List ℕ) (p : PacketHead) : Type 0 where
  pub time : p.time ≡ Some
      (long_at head.order 0 octets * 1000000000
      + long_at head.order 4 octets * unit_of head.nanoseconds)
  pub link : p.link ≡ head.link
  pub captured : p.captured ≡ long_at head.order 8 octets
  pub original : p.original ≡ long_at head.order 12 octets
  pub unnamed : p.interface ≡ None

-- ---- reading

-- the order and the unit of time that the first four octets say
abbrev pub magic_of : List ℕ → Option (ByteOrder × Bool)
magic_of octets =
    if long_at Big 0 octets == 0xa1b2_c3d4 then Some (Big, false) else
    (if long_at Big 0 octets == 0xa1b2_3c4d then Some (Big, true) else
    (if long_at Little 0 octets == 0xa1b2_c3d4 then Some (Little, false) else
    (if long_at Little 0 octets == 0xa1b2_3c4d then Some (Little, true) else None)))

-- whether gzip has packed what begins so
abbrev pub is_packed : List ℕ → Bool
is_packed octets = short_at Big 0 octets == gzip_number

-- the fault of octets that begin no recording
abbrev pub foreign_of : List ℕ → RecordingFault
foreign_of octets = if is_packed octets then Packed else BadMagic

-- what 24 octets say in the order and unit of time of their magic number, or the first fault
abbrev pub pcap_head_by : Option (ByteOrder × Bool) → List ℕ → Result PcapHead RecordingFault
pcap_head_by None octets = Err (foreign_of octets)
pcap_head_by (Some x) octets =
    if not (short_at x.0 4 octets == 2) || not (short_at x.0 6 octets == 4) then Err BadVersion
    else Ok (record {
      order = x.0;
      nanoseconds = x.1;
      snap = long_at x.0 16 octets;
      link = long_at x.0 20 octets % 2 ^ 16;
    })

-- what 24 octets say, or the first fault
abbrev pub pcap_head_of : List ℕ → Result PcapHead RecordingFault
pcap_head_of octets = pcap_head_by (magic_of octets) octets

-- what 16 octets say
abbrev pub record_head_of : PcapHead → List ℕ → PacketHead
record_head_of head octets =
    record {
      time = Some
          (long_at head.order 0 octets * 1000000000
          + long_at head.order 4 octets * unit_of head.nanoseconds);
      link = head.link;
      captured = long_at head.order 8 octets;
      original = long_at head.order 12 octets;
      interface = None;
    }
