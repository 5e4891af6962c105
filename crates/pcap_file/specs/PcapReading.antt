-- Recordings in the classic layout: which octets are one, and how they are read from the left.
use Rattle.std.specs.Prelude.{◌≡◌, ℕ, nat_lt, if◌then◌else◌, List, [], ◌∷◌, ◌++◌, length, take}
use Rattle.std.specs.Prelude.{◌≤◌, Option, None, Some, Result, Ok, Err}
use Rattle.std.specs.List.{AllByRecursion}
use Rattle.st_format.specs.Reading.{◌>>=◌}
use Rattle.pcap_file.specs.declared.fault.RecordingFault.{RecordingFault}
use Rattle.pcap_file.specs.declared.fault.RecordingFault.TheVariants.{PacketTooLong}
use Rattle.pcap_file.specs.declared.pcap.PacketHead.{PacketHead}
use Rattle.pcap_file.specs.declared.pcap.PcapHead.{PcapHead}
use Rattle.pcap_file.specs.Fields.{field_at}
use Rattle.st_format.specs.Given.{with_rest}
use Rattle.pcap_file.specs.Pcap.{IsPacketHead, IsPcapHead, pcap_head_of, record_head_of}

-- ---- what a recording is

-- a packet of a recording: what stands before its octets, and those that were kept
pub record Recorded : Type 0 where
  pub head : PacketHead
  pub octets : List ℕ

-- A packet's record: 16 octets, and as many as they count.
pub record IsRecord (file : PcapHead) (octets : List ℕ) (p : Recorded) : Type 0 where
  pub front : List ℕ
  pub front_octets : length front ≡ 16
  pub is : IsPacketHead file front p.head
  pub counted : length p.octets ≡ p.head.captured
  pub whole : octets ≡ front ++ p.octets

-- Records of these packets, one after the other, and nothing behind them.
abbrev pub AreRecords : PcapHead → List ℕ → List Recorded → Type 0
AreRecords file octets [] = octets ≡ []
AreRecords file octets (p ∷ ps) =
    (text : List ℕ) × (rest : List ℕ) × IsRecord file text p × (octets ≡ text ++ rest)
    × AreRecords file rest ps

-- The octets are a recording of these packets: 24 octets, and the packets' records.
pub record IsPcap (octets : List ℕ) (packets : List Recorded) : Type 0 where
  pub file : PcapHead
  pub front : List ℕ
  pub rest : List ℕ
  pub front_octets : length front ≡ 24
  pub is : IsPcapHead front file
  pub records : AreRecords file rest packets
  pub whole : octets ≡ front ++ rest

-- ---- reading

-- what stands before the packets
unfoldable pub pcap_at : List ℕ → Result (PcapHead × List ℕ) RecordingFault
pcap_at octets = field_at 24 octets >>= λ x. with_rest (pcap_head_of x.0) x.1

-- what 16 octets say of a packet, and what is behind them
abbrev pub head_by : PcapHead → List ℕ → List ℕ
    → Result (Option PacketHead × List ℕ) RecordingFault
head_by file front rest = Ok (Some (record_head_of file front), rest)

-- what stands before a packet's octets; or the end
unfoldable pub head_at : PcapHead → List ℕ → Result (Option PacketHead × List ℕ) RecordingFault
head_at file [] = Ok (None, [])
head_at file (x ∷ xs) = field_at 16 (x ∷ xs) >>= λ y. head_by file y.0 y.1

-- a packet's octets, where there is room for so many
unfoldable pub octets_at : ℕ → PacketHead → List ℕ → Result (List ℕ × List ℕ) RecordingFault
octets_at room p octets =
    if nat_lt room p.captured then Err PacketTooLong else field_at p.captured octets

-- a packet whose octets stand at the front of a buffer
abbrev pub recorded_in : PacketHead → List ℕ → Recorded
recorded_in p buffer = record { head = p; octets = take p.captured buffer }

-- a packet, if there is one, whose octets stand at the front of a buffer
abbrev pub option_recorded : Option PacketHead → List ℕ → Option Recorded
option_recorded None buffer = None
option_recorded (Some p) buffer = Some (recorded_in p buffer)

-- a packet, where there is room for so many octets, by what stood before them; or the end
abbrev pub packet_behind : ℕ → Option PacketHead → List ℕ
    → Result (Option Recorded × List ℕ) RecordingFault
packet_behind room None octets = Ok (None, octets)
packet_behind room (Some p) octets =
    octets_at room p octets >>= λ y. Ok (Some (record { head = p; octets = y.0 }), y.1)

-- the next packet, where there is room for so many of its octets; or the end
unfoldable pub record_at : ℕ → PcapHead → List ℕ
    → Result (Option Recorded × List ℕ) RecordingFault
record_at room file octets = head_at file octets >>= λ x. packet_behind room x.0 x.1

-- ---- a whole recording

-- there is room for the octets of each packet
abbrev pub HaveRoom : ℕ → List Recorded → Type 0
HaveRoom room packets = AllByRecursion (λ p. p.head.captured ≤ room) packets

-- Step by step the octets give these packets, and then the end.
abbrev pub GivesPackets : ℕ → PcapHead → List ℕ → List Recorded → Type 0
GivesPackets room file octets [] = record_at room file octets ≡ Ok (None, [])
GivesPackets room file octets (p ∷ ps) =
    (rest : List ℕ) × (record_at room file octets ≡ Ok (Some p, rest))
    × GivesPackets room file rest ps

-- The octets are read from the front to the end, and give these packets.
abbrev pub GivesPcap : ℕ → List ℕ → List Recorded → Type 0
GivesPcap room octets packets =
    (file : PcapHead) × (rest : List ℕ) × (pcap_at octets ≡ Ok (file, rest))
    × GivesPackets room file rest packets
