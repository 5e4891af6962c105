-- What each event does to the receivers (own).
use Rattle.std.specs.Prelude.{◌≡◌, ◌≢◌, ◌==◌, if◌then◌else◌, ℕ, ◌+◌, ◌%◌, ◌^◌, List, [], ◌∷◌, ◌++◌}
use Rattle.std.specs.Prelude.{length, drop, Some, slice_get, slice_set, Vec}
use Rattle.st_format.specs.Member.{IsMember}
use Rattle.st_format.specs.Picture.{Values}
use Rattle.st_format.specs.Device.{AreOctets}
use Rattle.packet_plan.specs.declared.stamp.Stamp.{Stamp}
use Rattle.packet_plan.specs.Plan.{RasterPlan, packet_at}
use Rattle.packet_plan.specs.Sender.{stamp_of}
use Rattle.packet_plan.specs.Text.{datagram_text, datagram_texts}
use Rattle.path_receiver.specs.Frames.{State, IsReceiver, frames_of, joined_frames}
use Rattle.path_receiver.specs.Sliding.{slid_state}
use Rattle.path_merge.specs.declared.schedule.played.Handed.{Handed}
use Rattle.path_merge.specs.declared.schedule.sending.Next.{Next}
use Rattle.path_merge.specs.Sent.{sender_of, texts_from}

-- a datagram of those sent arrived at a receiver
pub record Arrives {A : Type 0} (to number : ℕ) (sent : List (Vec ℕ A))
    (old new : List State) : Type 0 where
  pub datagram : Vec ℕ A
  pub sent_is : slice_get sent number ≡ Some datagram
  pub octets : AreOctets datagram.items
  pub before : State
  pub there : slice_get old to ≡ Some before
  pub after : State
  pub opening : after.opening ≡ before.opening
  pub frames : after.frames
      ≡ joined_frames before.frames (frames_of before.opening (datagram.items ∷ []))
  pub receiver : IsReceiver after
  pub all : new ≡ slice_set old to after

-- a receiver's window moved on, and its first frame was handed out
pub record SlidesOut {A : Type 0} (at next : ℕ) (old new : List State) (h : Handed A) : Type 0 where
  pub before : State
  pub there : slice_get old at ≡ Some before
  pub fresh : IsMember next before.opening.window → ⊥
  pub handed : h.receiver ≡ at
  pub first : slice_get before.opening.window 0 ≡ Some h.timestamp
  pub frame : slice_get before.frames 0 ≡ Some h.frame
  pub receiver : IsReceiver (slid_state before next)
  pub all : new ≡ slice_set old at (slid_state before next)

-- the same of the receiver alone
pub record SlidesOne {A : Type 0} (at next : ℕ) (old new : State) (h : Handed A) : Type 0 where
  pub fresh : IsMember next old.opening.window → ⊥
  pub handed : h.receiver ≡ at
  pub first : slice_get old.opening.window 0 ≡ Some h.timestamp
  pub frame : slice_get old.frames 0 ≡ Some h.frame
  pub receiver : IsReceiver new
  pub all : new ≡ slid_state old next

-- a receiver was merged into another
pub record MergesInto (into from : ℕ) (old new : List State) : Type 0 where
  pub two : into ≢ from
  pub before : State
  pub there : slice_get old into ≡ Some before
  pub other : State
  pub there_too : slice_get old from ≡ Some other
  pub alike : before.opening ≡ other.opening
  pub after : State
  pub opening : after.opening ≡ before.opening
  pub frames : after.frames ≡ joined_frames before.frames other.frames
  pub receiver : IsReceiver after
  pub all : new ≡ slice_set old into after

-- the datagrams of pictures from the k-th on that are still to be sent, of the first of them from a
-- packet on
abbrev pub texts_behind : RasterPlan → Stamp → ℕ → ℕ → ℕ → List Values → List (List ℕ)
texts_behind plan stamp k index first [] = []
texts_behind plan stamp k index first (p ∷ ps) =
    datagram_texts p (stamp_of (sender_of plan stamp) k first) index (drop index plan.packets)
    ++ texts_from (sender_of plan stamp) plan.packets (k + 1)
    ((first + length plan.packets) % 2 ^ 32) ps

-- the datagrams of pictures that a plan has still to send, in order
abbrev pub to_come : RasterPlan → Stamp → List Values → Next → List (List ℕ)
to_come plan stamp pictures next =
    texts_behind plan stamp next.picture next.index next.first (drop next.picture pictures)

-- what comes next after a packet, where each picture has so many
abbrev pub after_packet : ℕ → Next → Next
after_packet count next =
    if next.index + 1 == count
    then record { picture = next.picture + 1; index = 0; first = (next.first + count) % 2 ^ 32 }
    else record { picture = next.picture; index = next.index + 1; first = next.first }

-- the datagram of a packet of a plan
unfoldable pub datagram_at : RasterPlan → Values → Stamp → ℕ → List ℕ
datagram_at plan picture stamp index =
    datagram_text picture stamp index (index + 1 == length plan.packets) (packet_at plan index)
