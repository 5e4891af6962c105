-- What the sender of a schedule sends, and what its frames have of it (own).
use Rattle.std.specs.Prelude.{◌≡◌, ◌↔◌, ℕ, ◌+◌, ◌%◌, ◌^◌, List, [], ◌∷◌, ◌++◌, length, Some}
use Rattle.st_format.specs.declared.cell.Cell.TheVariants.{Missing}
use Rattle.st_format.specs.Picture.{Values}
use Rattle.st_format.specs.Position.{Position, IsPosition}
use Rattle.st_format.specs.Raster.{Raster, cell_at}
use Rattle.packet_plan.specs.declared.run.PacketRun.{PacketRun}
use Rattle.packet_plan.specs.declared.stamp.Stamp.{Stamp}
use Rattle.packet_plan.specs.Plan.{RasterPlan}
use Rattle.packet_plan.specs.Sender.{IsSenderList, Sender, stamp_of}
use Rattle.packet_plan.specs.Sent.{IsSentPicture}
use Rattle.packet_plan.specs.Text.{datagram_texts}
use Rattle.path_receiver.specs.Offers.{Carries}
use Rattle.path_receiver.specs.Sender.{AreAmong, IsSendersCell}
use Rattle.path_merge.specs.declared.schedule.event.Event.{Event}
use Rattle.path_merge.specs.Stays.{Stay}
use Rattle.path_merge.specs.Reached.{Scene, Reaches}

-- the sender of pictures by a plan, the first picture's stamp given
abbrev pub sender_of : RasterPlan → Stamp → Sender
sender_of plan stamp = record {
  format = plan.format;
  base = stamp.timestamp;
  payload_type = stamp.payload_type;
  ssrc = stamp.ssrc;
}

-- the datagrams of pictures from the k-th on, by packets, the first packet's number given
abbrev pub texts_from : Sender → List (List PacketRun) → ℕ → ℕ → List Values → List (List ℕ)
texts_from s packets k first [] = []
texts_from s packets k first (p ∷ ps) =
    datagram_texts p (stamp_of s k first) 0 packets
    ++ texts_from s packets (k + 1) ((first + length packets) % 2 ^ 32) ps

-- The datagrams of picture k by the very packets of a plan, and then others
pub record IsNextBy (s : Sender) (plan : RasterPlan) (k first : ℕ) (p : Values)
    (later : List (List ℕ) → Type 0) (datagrams : List (List ℕ)) : Type 0 where
  pub mine : List (List ℕ)
  pub others : List (List ℕ)
  pub picture : IsSentPicture mine p (stamp_of s k first) plan.max_octets plan.packets
  pub rest : later others
  pub whole : datagrams ≡ mine ++ others

-- Datagrams are those of pictures from the k-th on, each picture's by the very packets of one plan,
-- numbers running on from the first (SMPTE ST 2110-20, packets; ST 2110-10, RTP timestamps)
abbrev pub AreSentBy : List (List ℕ) → Sender → RasterPlan → ℕ → ℕ → List Values → Type 0
AreSentBy datagrams s plan k first [] = datagrams ≡ []
AreSentBy datagrams s plan k first (p ∷ ps) =
    IsNextBy s plan k first p
    (λ ds. AreSentBy ds s plan (k + 1) ((first + length plan.packets) % 2 ^ 32) ps) datagrams

-- the receivers take the sender's datagrams alone: its format, payload type and source are pinned
abbrev pub scene_of : RasterPlan → List Values → Stamp → List ℕ → ℕ → Scene
scene_of plan pictures stamp window receivers = record {
  opening = record {
    format = plan.format;
    payload_type = stamp.payload_type;
    ssrc = Some stamp.ssrc;
    window = window;
  };
  receivers = receivers;
  sent = texts_from (sender_of plan stamp) plan.packets 0 stamp.first pictures;
}

-- All that a schedule sends is of one sender's list, whose format its receivers have.
pub record IsOfSender (s : Scene) (sender : Sender) (pictures : List Values) : Type 0 where
  pub first : ℕ
  pub datagrams : List (List ℕ)
  pub list : IsSenderList datagrams sender first pictures
  pub format : sender.format ≡ s.opening.format
  pub among : AreAmong s.sent datagrams

-- A stay's frame has at each position the sender's value or nothing, and nothing exactly where no
-- datagram that reached the stay carries the position.
pub record IsSendersFrame (frame : Raster) (stay : Stay) (sender : Sender) (pictures : List Values)
    (s : Scene) (events : List Event) : Type 0 where
  pub cells : (at : Position) → IsSendersCell (cell_at frame at) sender pictures stay.timestamp at
  pub missing : (at : Position) → IsPosition at s.opening.format
      → (cell_at frame at ≡ Missing)
      ↔ ((octets : List ℕ) → Reaches octets stay s events
      → Carries octets s.opening stay.timestamp at → ⊥)
