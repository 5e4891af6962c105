-- What a schedule hands out, and what its receivers have in the end (own).
use Rattle.std.specs.Prelude.{◌≡◌, ℕ, ◌<◌, ◌≤◌, List, [], ◌∷◌, ◌++◌, length, All, Some, slice_get}
use Rattle.std.specs.Prelude.{slice_index}
use Rattle.std.specs.List.{AllZip}
use Rattle.st_format.specs.declared.format.Format.{Format}
use Rattle.st_format.specs.Picture.{Values}
use Rattle.path_receiver.specs.Frames.{State}
use Rattle.path_merge.specs.declared.schedule.event.Event.{Event}
use Rattle.path_merge.specs.declared.schedule.event.Event.TheVariants.{Send, Arrive, Slide, Merge}
use Rattle.path_merge.specs.declared.schedule.played.Handed.{Handed}
use Rattle.path_merge.specs.declared.schedule.played.Played.{Played}
use Rattle.path_merge.specs.Stays.{Stay, HasLeft, slide_timestamps}
use Rattle.path_merge.specs.Reached.{Scene, IsFrameOf, IsAt}
use Rattle.path_merge.specs.Admitted.{AreAdmittedTo}

-- pictures of one format, at most 10,000
pub record ArePictures (pictures : List Values) (format : Format) : Type 0 where
  pub few : length pictures ≤ 10000
  pub of_format : All (λ p. p.format ≡ format) pictures

-- there may be 1 to 8 receivers
pub record IsReceiverCount (count : ℕ) : Type 0 where
  pub some : 0 < count
  pub most : count ≤ 8

-- the stay that an event ends: a Slide ends the earliest one that lasts
abbrev pub stays_ended_by : List ℕ → List Event → Event → List Stay
stays_ended_by window before Send = []
stays_ended_by window before (Arrive to path number) = []
stays_ended_by window before (Slide at next) =
    let number : ℕ = length (slide_timestamps at before) in
    let timestamp : ℕ = slice_index (window ++ slide_timestamps at before) number in
    record { receiver = at; number = number; timestamp = timestamp } ∷ []
stays_ended_by window before (Merge into from) = []

-- the stays that events end, in order, behind others that were before
abbrev pub stays_ended_behind : List ℕ → List Event → List Event → List Stay
stays_ended_behind window before [] = []
stays_ended_behind window before (event ∷ events) =
    stays_ended_by window before event ++ stays_ended_behind window (before ++ event ∷ []) events

-- the stays that events end, in order, from the first event on
abbrev pub ended_stays : List ℕ → List Event → List Stay
ended_stays window events = stays_ended_behind window [] events

-- A stay that has ended was handed out with its frame.
pub record IsHanded {A : Type 0} (s : Scene) (events : List Event) (stay : Stay)
    (h : Handed A) : Type 0 where
  pub receiver : h.receiver ≡ stay.receiver
  pub timestamp : h.timestamp ≡ stay.timestamp
  pub over : HasLeft stay events
  pub frame : IsFrameOf h.frame stay s events

-- The frames handed out are those of the stays that ended, in order; the receivers have the
-- others'.
pub record IsPlayed {A : Type 0} (played : Played A) (s : Scene)
    (events : List Event) : Type 0 where
  pub admitted : AreAdmittedTo events s (length events)
  pub handed : AllZip (IsHanded s events) (ended_stays s.opening.window events) played.handed.items
  pub count : length played.receivers.items ≡ s.receivers
  pub receivers : (r : ℕ) (state : State) → slice_get played.receivers.items r ≡ Some state →
      IsAt state r s events
