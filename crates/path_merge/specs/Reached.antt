-- Which datagrams reach a stay (own).
use Rattle.std.specs.Prelude.{◌≡◌, ◌↔◌, ◌≢◌, ℕ, ◌<◌, suc, List, [], ◌∷◌, length, take, Some}
use Rattle.std.specs.Prelude.{slice_get, ⊤}
use Rattle.std.specs.List.{flat_map}
use Rattle.st_format.specs.declared.path.Path.{Path}
use Rattle.st_format.specs.Member.{IsMember}
use Rattle.st_format.specs.Raster.{Raster, raster_of}
use Rattle.path_receiver.specs.Frames.{State}
use Rattle.path_receiver.specs.Grammar.{Datagram, IsFor}
use Rattle.path_receiver.specs.Offers.{offers}
use Rattle.path_receiver.specs.Opening.{Opening}
use Rattle.path_receiver.specs.Sliding.{with_window}
use Rattle.path_merge.specs.declared.schedule.event.Event.{Event}
use Rattle.path_merge.specs.declared.schedule.event.Event.TheVariants.{Send, Arrive, Slide, Merge}
use Rattle.path_merge.specs.Stays.{Stay, Lasts, slide_timestamps, window_after}

-- What a schedule starts from: what all receivers are opened with, how many there are, and the
-- datagrams that Sends make, in order
pub record Scene : Type 0 where
  pub opening : Opening
  pub receivers : ℕ
  pub sent : List (List ℕ)

-- A chain by which a datagram, by its number among those sent, comes to a stay, and the place of
-- its last event: an Arrive of it at the stay's receiver while the stay lasts; or a chain to
-- another stay of the same timestamp, and at a later place a Merge from that stay's receiver into
-- this one's while both last.
pub data Chain (window : List ℕ) (events : List Event) (number : ℕ) : Stay → ℕ → Type 0 where
  Arrived : (place : ℕ) (path : Path) (stay : Stay)
      → slice_get events place ≡ Some (Arrive stay.receiver path number)
      → Lasts stay window (take place events)
      → Chain window events number stay place
  Merged : (earlier place : ℕ) (from stay : Stay)
      → Chain window events number from earlier
      → earlier < place
      → slice_get events place ≡ Some (Merge stay.receiver from.receiver)
      → Lasts from window (take place events)
      → Lasts stay window (take place events)
      → from.timestamp ≡ stay.timestamp
      → Chain window events number stay place

-- octets are a datagram for a receiver, of this timestamp
pub record IsDatagramFor (octets : List ℕ) (o : Opening) (timestamp : ℕ) : Type 0 where
  pub datagram : Datagram
  pub is_for : IsFor octets o datagram
  pub time : datagram.timestamp ≡ timestamp

-- Reached: a datagram reaches a stay of its timestamp where a chain of events brings it there.
pub record Reaches (octets : List ℕ) (stay : Stay) (s : Scene) (events : List Event) : Type 0 where
  pub number : ℕ
  pub sent : slice_get s.sent number ≡ Some octets
  pub is_of : IsDatagramFor octets s.opening stay.timestamp
  pub place : ℕ
  pub chain : Chain s.opening.window events number stay place

-- A stay's frame has at each position the cell of the offers of all datagrams that reach it.
pub record IsFrameOf (frame : Raster) (stay : Stay) (s : Scene) (events : List Event) : Type 0 where
  pub reached : List (List ℕ)
  pub each : (octets : List ℕ) → IsMember octets reached ↔ Reaches octets stay s events
  pub frame_is : frame
      ≡ raster_of s.opening.format (flat_map (offers s.opening) reached) stay.timestamp

-- frames of the stays of a receiver from a number on, whose timestamps are these
abbrev pub AreFrames : Scene → List Event → ℕ → ℕ → List ℕ → List Raster → Type 0
AreFrames s events receiver number [] [] = ⊤
AreFrames s events receiver number [] (q ∷ qs) = ⊥
AreFrames s events receiver number (t ∷ w) [] = ⊥
AreFrames s events receiver number (t ∷ w) (q ∷ qs) =
    IsFrameOf q (record { receiver = receiver; number = number; timestamp = t }) s events
    × AreFrames s events receiver (suc number) w qs

-- A receiver after some events: its window has the timestamps of the stays that last, and its
-- frames are theirs.
pub record IsAt (state : State) (receiver : ℕ) (s : Scene) (events : List Event) : Type 0 where
  pub opening : state.opening
      ≡ with_window s.opening (window_after s.opening.window receiver events)
  pub frames : AreFrames s events receiver (length (slide_timestamps receiver events))
      (window_after s.opening.window receiver events) state.frames

-- One event more: a chain whose last step is that event.
pub data LastStep (window : List ℕ) (before : List Event) (event : Event) (number : ℕ)
    (stay : Stay) : Type 0 where
  By_arrive : (path : Path)
      → event ≡ Arrive stay.receiver path number
      → Lasts stay window before
      → LastStep window before event number stay
  By_merge : (from : Stay) (earlier : ℕ)
      → event ≡ Merge stay.receiver from.receiver
      → Lasts from window before
      → Lasts stay window before
      → from.timestamp ≡ stay.timestamp
      → Chain window before number from earlier
      → LastStep window before event number stay

-- An event leaves a receiver that it isn't about, and a Send leaves each.
abbrev pub Spares : Event → ℕ → Type 0
Spares Send receiver = ⊤
Spares (Arrive to path number) receiver = to ≢ receiver
Spares (Slide at next) receiver = at ≢ receiver
Spares (Merge into from) receiver = into ≢ receiver
