-- A recording in blocks, one block after another: what each does to what is known of the section.
use Rattle.std.specs.Prelude.{ℕ, ◌+◌, ◌≤◌, ◌==◌, not, nat_lt, if◌then◌else◌, List, [], ◌∷◌, ◌++◌}
use Rattle.std.specs.Prelude.{length, take, drop, ⊤, Option, None, Some, Result, Ok, Err}
use Rattle.st_format.specs.Reading.{◌>>=◌}
use Rattle.pcap_file.specs.declared.blocks.Interface.{Interface}
use Rattle.pcap_file.specs.declared.fault.RecordingFault.{RecordingFault}
use Rattle.pcap_file.specs.declared.fault.RecordingFault.TheVariants.{TooManyInterfaces}
use Rattle.pcap_file.specs.declared.order.ByteOrder.{ByteOrder}
use Rattle.pcap_file.specs.declared.order.ByteOrder.TheVariants.{Big}
use Rattle.pcap_file.specs.declared.pcap.PacketHead.{PacketHead}
use Rattle.pcap_file.specs.declared.section.Section.{Section}
use Rattle.pcap_file.specs.declared.section.Step.{Step}
use Rattle.pcap_file.specs.declared.section.Step.TheVariants.{End, Passed, Packet}
use Rattle.pcap_file.specs.Orders.{long_at}
use Rattle.pcap_file.specs.BlockReading.{enhanced_of, interface_of, obsolete_of, simple_of}
use Rattle.pcap_file.specs.Fields.{field_at}
use Rattle.st_format.specs.Given.{GaveValue, GaveWhole, with_rest}
use Rattle.pcap_file.specs.NgReading.{block_at, front_at, is_read, section_at}
use Rattle.pcap_file.specs.Pcap.{foreign_of}
use Rattle.pcap_file.specs.PcapReading.{Recorded}

-- what is known of a section: the order of its numbers, and its interfaces so far
pub record Known : Type 0 where
  pub order : ByteOrder
  pub interfaces : List Interface

-- what is known of a section that the code keeps
abbrev pub known : Section → Known
known s = record { order = s.order; interfaces = s.interfaces.items }

-- the beginning of a section
abbrev pub fresh : ByteOrder → Known
fresh order = record { order = order; interfaces = [] }

-- what a step answers: nothing at the end; a block without a packet; a packet
abbrev pub Stepped : Type 0
Stepped = Option (Option Recorded)

-- a packet whose octets stand in a buffer behind so many others
abbrev pub recorded_at : PacketHead → ℕ → List ℕ → Recorded
recorded_at p at buffer = record { head = p; octets = take p.captured (drop at buffer) }

-- what a step of the code answers, by the buffer in which its packet's octets stand
abbrev pub step_seen : Step → List ℕ → Stepped
step_seen End buffer = None
step_seen Passed buffer = Some None
step_seen (Packet p at) buffer = Some (Some (recorded_at p at buffer))

-- a packet's octets lie in so many
abbrev pub IsPacketWithin : Step → ℕ → Type 0
IsPacketWithin End room = ⊤
IsPacketWithin Passed room = ⊤
IsPacketWithin (Packet p at) room = at + p.captured ≤ room

-- a step that isn't the end
abbrev pub GoesOn : Step → Type 0
GoesOn End = ⊥
GoesOn _ = ⊤

-- A source gave octets that are a step; where it is the end, the source has ended.
abbrev pub GaveStep : (List ℕ → Result ((Known × Stepped) × List ℕ) RecordingFault) → List ℕ
    → List ℕ → Type 0 → Known → Stepped → Type 0
GaveStep reading before now ended k None = GaveWhole reading before now ended (k, None)
GaveStep reading before now ended k (Some s) = GaveValue reading before now (k, Some s)

-- the interfaces of a section that are kept at most (own)
abbrev pub most_interfaces : ℕ
most_interfaces = 64

-- an interface more, and no packet; TooManyInterfaces where there is no room for it
abbrev pub with_interface : Known → Interface → Result (Known × Stepped) RecordingFault
with_interface k i =
    if nat_lt (length k.interfaces) most_interfaces
    then Ok (record { order = k.order; interfaces = k.interfaces ++ i ∷ [] }, Some None)
    else Err TooManyInterfaces

-- a packet whose octets stand in a body behind so many; what is known stays
abbrev pub with_packet : Known → ℕ → List ℕ → PacketHead → Result (Known × Stepped) RecordingFault
with_packet k at body p = Ok (k, Some (Some (recorded_at p at body)))

-- what the body of a block does that describes an interface
abbrev pub describe_of : Known → List ℕ → Result (Known × Stepped) RecordingFault
describe_of k body = interface_of k.order body >>= λ i. with_interface k i

-- the step of a packet that was read, or the fault
abbrev pub packet_step : Result PacketHead RecordingFault → ℕ → Result Step RecordingFault
packet_step (Ok p) at = Ok (Packet p at)
packet_step (Err f) at = Err f

-- what a block's body does
unfoldable pub enter_of : Known → ℕ → List ℕ → Result (Known × Stepped) RecordingFault
enter_of k type body =
    if type == 1 then describe_of k body else
    (if type == 2
    then (obsolete_of k.order k.interfaces body >>= λ p. with_packet k 20 body p) else
    (if type == 3
    then (simple_of k.order k.interfaces body >>= λ p. with_packet k 4 body p) else
    (if type == 6
    then (enhanced_of k.order k.interfaces body >>= λ p. with_packet k 20 body p)
    else Ok (k, Some None))))

-- what a block of this type does, by its body; one that was passed over does nothing
abbrev pub entered : Known → ℕ → Option (List ℕ) → Result (Known × Stepped) RecordingFault
entered k type None = Ok (k, Some None)
entered k type (Some body) = enter_of k type body

-- the type of a block that begins a section
abbrev pub section_type : ℕ
section_type = 0x0a0d_0d0a

-- the next section
unfoldable pub section_step : List ℕ → List ℕ → Result ((Known × Stepped) × List ℕ) RecordingFault
section_step front octets = section_at front octets >>= λ x. Ok ((fresh x.0, Some None), x.1)

-- another block
unfoldable pub other_step : ℕ → Known → List ℕ → List ℕ
    → Result ((Known × Stepped) × List ℕ) RecordingFault
other_step room k front octets =
    block_at k.order room front octets >>=
    λ x. with_rest (entered k (long_at k.order 0 front) x.0) x.1

-- the next block, by its first eight octets; or the end, where there are none
abbrev pub step_by : ℕ → Known → Option (List ℕ) → List ℕ
    → Result ((Known × Stepped) × List ℕ) RecordingFault
step_by room k None octets = Ok ((k, None), octets)
step_by room k (Some front) octets =
    if long_at k.order 0 front == section_type then section_step front octets
    else other_step room k front octets

-- the next block
unfoldable pub step_at : ℕ → Known → List ℕ → Result ((Known × Stepped) × List ℕ) RecordingFault
step_at room k octets = front_at octets >>= λ x. step_by room k x.0 x.1

-- the first section, by its block's first eight octets
abbrev pub first_by : List ℕ → List ℕ → Result (Known × List ℕ) RecordingFault
first_by front octets =
    if not (long_at Big 0 front == section_type) then Err (foreign_of front)
    else (section_at front octets >>= λ x. Ok (fresh x.0, x.1))

-- the beginning of a recording
unfoldable pub first_at : List ℕ → Result (Known × List ℕ) RecordingFault
first_at octets = field_at 8 octets >>= λ x. first_by x.0 x.1

-- the body of a block, if its type is read
abbrev pub body_read : ℕ → List ℕ → Option (List ℕ)
body_read type body = if is_read type then Some body else None
