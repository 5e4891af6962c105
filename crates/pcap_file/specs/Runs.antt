-- A whole recording, in either layout: its packets up to its end or its first fault, and what a run
-- over a source has made of what the source gave.
use Rattle.std.specs.Prelude.{◌≡◌, ℕ, zero, suc, ◌==◌, if◌then◌else◌, List, [], ◌∷◌, ◌++◌, Option}
use Rattle.std.specs.Prelude.{None, Some, Result, Ok, Err, Bool}
use Rattle.st_format.specs.Reading.{◌>>=◌}
use Rattle.pcap_file.specs.declared.fault.RecordingFault.{RecordingFault}
use Rattle.pcap_file.specs.declared.fault.RecordingFault.TheVariants.{TooManyBlocks}
use Rattle.pcap_file.specs.declared.order.ByteOrder.{ByteOrder}
use Rattle.pcap_file.specs.declared.order.ByteOrder.TheVariants.{Big}
use Rattle.pcap_file.specs.declared.pcap.PcapHead.{PcapHead}
use Rattle.pcap_file.specs.declared.recording.Layout.{Layout}
use Rattle.pcap_file.specs.declared.recording.Layout.TheVariants.{Pcap, Blocks}
use Rattle.pcap_file.specs.declared.recording.Packet.{Packet}
use Rattle.pcap_file.specs.declared.section.Step.{Step}
use Rattle.pcap_file.specs.declared.section.Step.TheVariants.{End, Passed, Packet as Found}
use Rattle.pcap_file.specs.Orders.{long_at}
use Rattle.pcap_file.specs.Fields.{IfContent, field_at}
use Rattle.pcap_file.specs.NgSteps.{Known, Stepped, first_at, known, recorded_at, section_type}
use Rattle.pcap_file.specs.NgSteps.{step_at}
use Rattle.pcap_file.specs.Pcap.{foreign_of, magic_of}
use Rattle.pcap_file.specs.PcapReading.{Recorded, pcap_at, record_at}

-- ---- from one record or block to the next

-- the layout, and what stands before what is to come
pub data Laid : Type 0 where
  InPcap : PcapHead → Laid
  InBlocks : Known → Laid

-- What was read of a recording so far, and how many records or blocks may still come.
pub record Seen : Type 0 where
  pub laid : Laid
  pub left : ℕ

-- the records or blocks that a recording has at most, with its end as one (own)
abbrev pub most_blocks : ℕ
most_blocks = 0xffff_ffff_ffff_ffff

-- The octets of a packet or a block that a reader of files has room for (own)
abbrev pub most_packet : ℕ
most_packet = 1048576

-- in the classic layout, or in blocks
abbrev pub in_pcap : PcapHead → ℕ → Seen
in_pcap file left = record { laid = InPcap file; left = left }

-- a recording in blocks, of whose section this is known, and of which so many blocks may still come
abbrev pub in_blocks : Known → ℕ → Seen
in_blocks k left = record { laid = InBlocks k; left = left }

-- what was read of a recording so far, by the layout that the code keeps
abbrev pub layout_seen : Layout → Seen
layout_seen (Pcap file left) = in_pcap file left
layout_seen (Blocks section left) = in_blocks (known section) left

-- a packet that was read into a buffer
abbrev pub packet_seen : Packet → List ℕ → Recorded
packet_seen p buffer = recorded_at p.head p.place buffer

-- a recording in blocks begins with the block of a section
abbrev pub blocks_begun : Result (Known × List ℕ) RecordingFault
    → Result (Laid × List ℕ) RecordingFault
blocks_begun r = r >>= λ x. Ok (InBlocks x.0, x.1)

-- one in the classic layout begins with 24 octets
abbrev pub pcap_begun : Result (PcapHead × List ℕ) RecordingFault
    → Result (Laid × List ℕ) RecordingFault
pcap_begun r = r >>= λ x. Ok (InPcap x.0, x.1)

-- where its first four octets are a magic number it is in the classic layout, and else it is none
abbrev pub pcap_if : Option (ByteOrder × Bool) → List ℕ → List ℕ
    → Result (Laid × List ℕ) RecordingFault
pcap_if None four octets = Err (foreign_of four)
pcap_if (Some kind) four octets = pcap_begun (pcap_at octets)

-- its first four octets say which of them it is
abbrev pub laid_by : List ℕ → List ℕ → Result (Laid × List ℕ) RecordingFault
laid_by four octets =
    if long_at Big 0 four == section_type then blocks_begun (first_at octets)
    else pcap_if (magic_of four) four octets

-- what stands before all packets
unfoldable pub opened_at : List ℕ → Result (Laid × List ℕ) RecordingFault
opened_at octets = field_at 4 octets >>= λ x. laid_by x.0 octets

-- a record has a packet
abbrev pub step_of : Option Recorded → Stepped
step_of None = None
step_of (Some p) = Some (Some p)

-- the next record or block: what is behind it, and its packet, if it has one; or the end
unfoldable pub laid_step : ℕ → Laid → List ℕ → Result ((Laid × Stepped) × List ℕ) RecordingFault
laid_step room (InPcap file) octets =
    record_at room file octets >>= λ x. Ok ((InPcap file, step_of x.0), x.1)
laid_step room (InBlocks k) octets =
    step_at room k octets >>= λ x. Ok ((InBlocks x.0.0, x.0.1), x.1)

-- ---- all packets

-- packets, and the fault behind them, if there is one
pub record Run : Type 0 where
  pub packets : List Recorded
  pub fault : Option RecordingFault

-- no packet more: the end, or this fault
abbrev pub stopped_by : Option RecordingFault → Run
stopped_by fault = record { packets = []; fault = fault }

-- packets that come before those of a run
abbrev pub led_by : List Recorded → Run → Run
led_by packets run = record { packets = packets ++ run.packets; fault = run.fault }

-- what a step has, and then what is behind it
abbrev pub run_by : Result ((Laid × Stepped) × List ℕ) RecordingFault → (Laid → List ℕ → Run)
    → Run
run_by (Err f) later = stopped_by (Some f)
run_by (Ok ((laid, None), rest)) later = stopped_by None
run_by (Ok ((laid, Some None), rest)) later = later laid rest
run_by (Ok ((laid, Some (Some p)), rest)) later = led_by (p ∷ []) (later laid rest)

-- of so many records or blocks
unfoldable pub run_at : ℕ → ℕ → Laid → List ℕ → Run
run_at zero room laid octets = stopped_by (Some TooManyBlocks)
run_at (suc left) room laid octets =
    run_by (laid_step room laid octets) (λ l rest. run_at left room l rest)

-- All packets of what is still to come of a recording, up to its end or its first fault, where
-- there is room for so many octets; and the fault.
abbrev pub packets_behind : ℕ → Seen → List ℕ → List Recorded
packets_behind room seen octets = (run_at seen.left room seen.laid octets).packets

-- the first fault of what is still to come of a recording; none where it ends without one
abbrev pub fault_behind : ℕ → Seen → List ℕ → Option RecordingFault
fault_behind room seen octets = (run_at seen.left room seen.laid octets).fault

-- a recording that begins, or none
abbrev pub run_behind : ℕ → Result (Laid × List ℕ) RecordingFault → Run
run_behind room (Err f) = stopped_by (Some f)
run_behind room (Ok (laid, rest)) = run_at most_blocks room laid rest

-- All packets of a recording, up to its end or its first fault, where there is room for so many
-- octets; and the fault.
abbrev pub packets_in : ℕ → List ℕ → List Recorded
packets_in room octets = (run_behind room (opened_at octets)).packets

-- the first fault of a recording; none where it ends without one
abbrev pub fault_in : ℕ → List ℕ → Option RecordingFault
fault_in room octets = (run_behind room (opened_at octets)).fault

-- ---- what a run has made of what a source gave

-- A source gave a recording's octets as far as these packets and what is seen, whatever is behind
-- them: what it gave so far was `before`, and is `now`.
pub record HasRead (room : ℕ) (before now : List ℕ) (seen : Seen) (packets : List Recorded) : Type 0
  where
    pub part : List ℕ
    pub grown : now ≡ before ++ part
    pub packets_are : (behind : List ℕ)
        → packets_in room (part ++ behind) ≡ packets ++ packets_behind room seen behind
    pub fault_is : (behind : List ℕ)
        → fault_in room (part ++ behind) ≡ fault_behind room seen behind

-- A source gave all octets of a recording of these packets, and has ended.
pub record HasReadAll (room : ℕ) (before now : List ℕ) (ended : Type 0) (packets : List Recorded)
    : Type 0 where
  pub part : List ℕ
  pub grown : now ≡ before ++ part
  pub over : ended
  pub packets_are : packets_in room part ≡ packets
  pub none : fault_in room part ≡ None

-- A source gave octets of a recording that begins with these packets, whatever is behind the
-- octets. If the fault is the recording's, it is the first, behind these packets: whatever is
-- behind the octets, and nothing is where the source has ended.
pub record HasFailed (room : ℕ) (before now : List ℕ) (ended : Type 0) (f : RecordingFault)
    (packets : List Recorded) : Type 0 where
  pub part : List ℕ
  pub grown : now ≡ before ++ part
  pub begins : (behind : List ℕ) → (more : List Recorded)
      × (packets_in room (part ++ behind) ≡ packets ++ more)
  pub says : (behind : List ℕ) → (ended → behind ≡ [])
      → IfContent f ((packets_in room (part ++ behind) ≡ packets)
      × (fault_in room (part ++ behind) ≡ Some f))

-- What a run has read, whatever it was before, is now this: the same packets, and more octets; a
-- packet more; all; a fault behind it.
abbrev pub ReadsOn : ℕ → List ℕ → List ℕ → Seen → Seen → Type 0
ReadsOn room old new was seen =
    (before : List ℕ) (packets : List Recorded) → HasRead room before old was packets
    → HasRead room before new seen packets

-- A run has read this packet behind those that it had read before.
abbrev pub ReadsPacket : ℕ → List ℕ → List ℕ → Seen → Seen → Recorded → Type 0
ReadsPacket room old new was seen p =
    (before : List ℕ) (packets : List Recorded) → HasRead room before old was packets
    → HasRead room before new seen (packets ++ p ∷ [])

-- A run had read all packets of the recording, and the source has ended.
abbrev pub ReadsToEnd : ℕ → List ℕ → List ℕ → Type 0 → Seen → Type 0
ReadsToEnd room old new ended was =
    (before : List ℕ) (packets : List Recorded) → HasRead room before old was packets
    → HasReadAll room before new ended packets

-- A run has come to this fault, behind the packets that it had read before.
abbrev pub ReadsFault : ℕ → List ℕ → List ℕ → Type 0 → Seen → RecordingFault → Type 0
ReadsFault room old new ended was f =
    (before : List ℕ) (packets : List Recorded) → HasRead room before old was packets
    → HasFailed room before new ended f packets

-- by what a call answers
abbrev pub ReadsNext : ℕ → List ℕ → List ℕ → Type 0 → Seen → Seen → Option Packet → List ℕ
    → Type 0
ReadsNext room old new ended was seen None buffer = ReadsToEnd room old new ended was
ReadsNext room old new ended was seen (Some p) buffer =
    ReadsPacket room old new was seen (packet_seen p buffer)

-- what a run has read, by the step that a call answers: the end, a block without a packet, a packet
abbrev pub ReadsStep : ℕ → List ℕ → List ℕ → Type 0 → Seen → Seen → Step → List ℕ → Type 0
ReadsStep room old new ended was seen End buffer = ReadsToEnd room old new ended was
ReadsStep room old new ended was seen Passed buffer = ReadsOn room old new was seen
ReadsStep room old new ended was seen (Found p place) buffer =
    ReadsPacket room old new was seen (recorded_at p place buffer)
