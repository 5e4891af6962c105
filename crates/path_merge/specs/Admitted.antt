-- Which events a schedule admits (own).
use Rattle.std.specs.Prelude.{◌≡◌, ◌≢◌, ℕ, ◌<◌, suc, List, [], ◌∷◌, length, take, Some, slice_get}
use Rattle.st_format.specs.Member.{IsMember}
use Rattle.path_merge.specs.declared.schedule.event.Event.{Event}
use Rattle.path_merge.specs.declared.schedule.event.Event.TheVariants.{Send, Arrive, Slide, Merge}
use Rattle.st_format.specs.Device.{AreOctets}
use Rattle.path_receiver.specs.Opening.{IsWindow}
use Rattle.path_merge.specs.Stays.{window_after}
use Rattle.path_merge.specs.Reached.{Scene}

-- how many datagrams events make
abbrev pub send_count : List Event → ℕ
send_count [] = 0
send_count (Send ∷ events) = suc (send_count events)
send_count (Arrive to path number ∷ events) = send_count events
send_count (Slide at next ∷ events) = send_count events
send_count (Merge into from ∷ events) = send_count events

-- what an Arrive needs: a receiver, and a datagram that was sent
pub record CanArrive (s : Scene) (before : List Event) (to number : ℕ) : Type 0 where
  pub receiver : to < s.receivers
  pub sent : number < send_count before

-- what a Slide needs: a receiver whose window hasn't the timestamp
pub record CanSlide (s : Scene) (before : List Event) (at next : ℕ) : Type 0 where
  pub receiver : at < s.receivers
  pub new : IsMember next (window_after s.opening.window at before) → ⊥

-- what a Merge needs: two receivers of one window
pub record CanMerge (s : Scene) (before : List Event) (into from : ℕ) : Type 0 where
  pub receiver : into < s.receivers
  pub other : from < s.receivers
  pub two : into ≢ from
  pub alike : window_after s.opening.window into before ≡ window_after s.opening.window from before

-- An event is admitted after others.
abbrev pub IsAdmitted : Event → Scene → List Event → Type 0
IsAdmitted Send s before = send_count before < length s.sent
IsAdmitted (Arrive to path number) s before = CanArrive s before to number
IsAdmitted (Slide at next) s before = CanSlide s before at next
IsAdmitted (Merge into from) s before = CanMerge s before into from

-- each event of a list up to a place is admitted after those before it
abbrev pub AreAdmittedTo : List Event → Scene → ℕ → Type 0
AreAdmittedTo events s end = (place : ℕ) (event : Event) →
    place < end → slice_get events place ≡ Some event → IsAdmitted event s (take place events)

-- the first event that isn't admitted stands at this place
pub record IsFirstBad (place : ℕ) (s : Scene) (events : List Event) : Type 0 where
  pub event : Event
  pub there : slice_get events place ≡ Some event
  pub bad : IsAdmitted event s (take place events) → ⊥
  pub before : AreAdmittedTo events s place

-- A schedule that can be played: its receivers have a window, what it sends are octets, and each of
-- its events is admitted.
pub record IsSchedule (events : List Event) (s : Scene) : Type 0 where
  pub window : IsWindow s.opening.window
  pub octets : (n : ℕ) (octets : List ℕ) → slice_get s.sent n ≡ Some octets → AreOctets octets
  pub admitted : AreAdmittedTo events s (length events)
