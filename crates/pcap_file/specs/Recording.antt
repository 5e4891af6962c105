-- What a recording is, in either layout: octets, and the packets in them.
use Rattle.std.specs.Prelude.{◌≡◌, ◌≢◌, ℕ, ◌<◌, ◌⊎◌, false, List, [], ◌∷◌, ◌++◌, length, Option}
use Rattle.std.specs.Prelude.{None}
use Rattle.std.specs.Prelude.{Some, Ok}
use Rattle.std.specs.List.{filter_map}
use Rattle.pcap_file.specs.declared.blocks.Interface.{Interface}
use Rattle.pcap_file.specs.declared.order.ByteOrder.{ByteOrder}
use Rattle.pcap_file.specs.declared.pcap.PacketHead.{PacketHead}
use Rattle.pcap_file.specs.Blocks.{IsBlock, IsInterface, IsSectionBlock, IsSimple, IsStamped}
use Rattle.pcap_file.specs.Blocks.{long_number, short_number}
use Rattle.pcap_file.specs.NgReading.{is_read}
use Rattle.pcap_file.specs.NgSteps.{Known, first_at, fresh, most_interfaces, section_type}
use Rattle.pcap_file.specs.NgSteps.{step_at}
use Rattle.pcap_file.specs.PcapReading.{IsPcap, Recorded}

-- a packet with these octets
abbrev pub recorded : PacketHead → List ℕ → Option Recorded
recorded p octets = Some (record { head = p; octets = octets })

-- A body describes an interface more.
pub record Describes (k : Known) (body : List ℕ) (after : Known)
    (s : Option Recorded) : Type 0 where
  pub interface : Interface
  pub is : IsInterface k.order body interface
  pub room : length k.interfaces < most_interfaces
  pub after_is : after
      ≡ record { order = k.order; interfaces = k.interfaces ++ interface ∷ [] }
  pub none : s ≡ None

-- A body has a packet without a time.
pub record HasSimple (k : Known) (body : List ℕ) (after : Known)
    (s : Option Recorded) : Type 0 where
  pub head : PacketHead
  pub octets : List ℕ
  pub is : IsSimple k.order k.interfaces body head octets
  pub after_is : after ≡ k
  pub packet : s ≡ recorded head octets

-- A body has a packet with its time.
pub record HasStamped (number : List ℕ → ℕ) (k : Known) (body : List ℕ) (after : Known)
    (s : Option Recorded) : Type 0 where
  pub head : PacketHead
  pub octets : List ℕ
  pub is : IsStamped number k.order k.interfaces body head octets
  pub after_is : after ≡ k
  pub packet : s ≡ recorded head octets

-- its interface has a number of four octets, or of two
abbrev pub HasEnhanced : Known → List ℕ → Known → Option Recorded → Type 0
HasEnhanced k body after s = HasStamped (long_number k.order) k body after s

-- A body has a packet with its time, whose interface has a number of two octets.
abbrev pub HasObsolete : Known → List ℕ → Known → Option Recorded → Type 0
HasObsolete k body after s = HasStamped (short_number k.order) k body after s

-- What a block of a type does to what is known, and the packet in it, if there is one. One of
-- another type does nothing.
abbrev pub Does : Known → ℕ → List ℕ → Known → Option Recorded → Type 0
Does k type body after s =
    ((type ≡ 1) × Describes k body after s)
    ⊎ (((type ≡ 2) × HasObsolete k body after s)
    ⊎ (((type ≡ 3) × HasSimple k body after s)
    ⊎ (((type ≡ 6) × HasEnhanced k body after s)
    ⊎ ((is_read type ≡ false) × (after ≡ k) × (s ≡ None)))))

-- the next block begins a section
pub record BeginsSection (octets : List ℕ) (after : Known) (s : Option Recorded)
    (rest : List ℕ) : Type 0 where
  pub order : ByteOrder
  pub is : IsSectionBlock octets order rest
  pub after_is : after ≡ fresh order
  pub none : s ≡ None

-- the next block is another
pub record IsOtherBlock (k : Known) (octets : List ℕ) (after : Known) (s : Option Recorded)
    (rest : List ℕ) : Type 0 where
  pub type : ℕ
  pub body : List ℕ
  pub is : IsBlock k.order octets type body rest
  pub other : type ≢ section_type
  pub does : Does k type body after s

-- the next block does this to what is known, has this packet or none, and has this rest behind it
abbrev pub IsNext : Known → List ℕ → Known → Option Recorded → List ℕ → Type 0
IsNext k octets after s rest = BeginsSection octets after s rest ⊎ IsOtherBlock k octets after s
    rest

-- blocks, one after the other, and nothing behind them; with what each has
abbrev pub AreBlocks : Known → List ℕ → List (Option Recorded) → Type 0
AreBlocks k octets [] = octets ≡ []
AreBlocks k octets (s ∷ ss) =
    (after : Known) × (rest : List ℕ) × IsNext k octets after s rest × AreBlocks after rest ss

-- The octets are a recording in blocks of these packets: a section first.
pub record IsBlocks (octets : List ℕ) (packets : List Recorded) : Type 0 where
  pub order : ByteOrder
  pub rest : List ℕ
  pub found : List (Option Recorded)
  pub begins : IsSectionBlock octets order rest
  pub blocks : AreBlocks (fresh order) rest found
  pub packets_are : packets ≡ filter_map (λ s. s) found

-- The octets are a recording of these packets, in either layout.
abbrev pub IsRecording : List ℕ → List Recorded → Type 0
IsRecording octets packets = IsPcap octets packets ⊎ IsBlocks octets packets

-- ---- what reading gives of one

-- Block by block the octets give these, and then the end.
abbrev pub GivesSteps : ℕ → Known → List ℕ → List (Option Recorded) → Type 0
GivesSteps room k octets [] = step_at room k octets ≡ Ok ((k, None), [])
GivesSteps room k octets (s ∷ ss) =
    (after : Known) × (rest : List ℕ) × (step_at room k octets ≡ Ok ((after, Some s), rest))
    × GivesSteps room after rest ss

-- The octets are read from the first section to the end, and give these packets.
abbrev pub GivesBlocks : ℕ → List ℕ → List Recorded → Type 0
GivesBlocks room octets packets =
    (order : ByteOrder) × (rest : List ℕ) × (found : List (Option Recorded))
    × (first_at octets ≡ Ok (fresh order, rest)) × GivesSteps room (fresh order) rest found
    × (packets ≡ filter_map (λ s. s) found)
