-- The stays of timestamps in the windows of receivers (own).
use Rattle.std.specs.Prelude.{◌≡◌, ℕ, ◌==◌, ◌≤◌, ◌<◌, if◌then◌else◌, List, [], ◌∷◌, ◌++◌, length}
use Rattle.std.specs.Prelude.{drop, Some, slice_get}
use Rattle.std.specs.List.{flat_map}
use Rattle.path_merge.specs.declared.schedule.event.Event.{Event}
use Rattle.path_merge.specs.declared.schedule.event.Event.TheVariants.{Send, Arrive, Slide, Merge}

-- the timestamp that an event brings into a receiver's window
abbrev pub slide_timestamp : ℕ → Event → List ℕ
slide_timestamp receiver Send = []
slide_timestamp receiver (Arrive to path number) = []
slide_timestamp receiver (Slide at next) = if at == receiver then next ∷ [] else []
slide_timestamp receiver (Merge into from) = []

-- the timestamps that events bring into it, in order
abbrev pub slide_timestamps : ℕ → List Event → List ℕ
slide_timestamps receiver events = flat_map (slide_timestamp receiver) events

-- A stay of a timestamp at a receiver. The stays at a receiver are numbered as they begin: those of
-- the window that it was opened with, and then one for each of its Slides.
pub record Stay : Type 0 where
  pub receiver : ℕ
  pub number : ℕ
  pub timestamp : ℕ

-- A stay lasts after some events: it has begun, and each Slide at its receiver ended one stay
-- before it.
pub record Lasts (stay : Stay) (window : List ℕ) (events : List Event) : Type 0 where
  pub begun : slice_get (window ++ slide_timestamps stay.receiver events) stay.number
      ≡ Some stay.timestamp
  pub not_ended : length (slide_timestamps stay.receiver events) ≤ stay.number

-- the window of a receiver after some events: the timestamps of the stays that last
abbrev pub window_after : List ℕ → ℕ → List Event → List ℕ
window_after window receiver events =
    let brought : List ℕ = slide_timestamps receiver events in
    drop (length brought) (window ++ brought)

-- a stay has ended: a Slide at its receiver ended it
abbrev pub HasLeft : Stay → List Event → Type 0
HasLeft stay events = stay.number < length (slide_timestamps stay.receiver events)
