-- What a follower makes of the turns of a source (own).
use Rattle.std.specs.Prelude.{◌≡◌, ℕ, ◌<◌, ◌≤◌, ◌++◌, Bool, true, false, ⊤, List, [], length, Some}
use Rattle.std.specs.Prelude.{Option, Result, Ok, Err}
use Rattle.st_format.specs.declared.path.Path.{Path}
use Rattle.st_format.specs.declared.device.SourceFault.{SourceFault}
use Rattle.st_format.specs.Device.{CountsOne}
use Rattle.st_format.specs.Member.{IsMember}
use Rattle.st_format.specs.Raster.{Raster}
use Rattle.st_format.specs.Turns.{Due, GivesTurns, came_of, datagrams_of}
use Rattle.path_receiver.specs.declared.answer.Refusal.{Refusal}
use Rattle.path_receiver.specs.declared.receiving.Received.{Received}
use Rattle.following.specs.declared.answer.Followed.{Followed}
use Rattle.following.specs.declared.answer.Followed.TheVariants.{Far, Late}
use Rattle.following.specs.declared.fault.StreamFault.{StreamFault}
use Rattle.following.specs.declared.fault.StreamFault.TheVariants.{Source, Sink}
use Rattle.following.specs.Follower.{Following}
use Rattle.following.specs.Following.{Handed}
use Rattle.following.specs.Turned.{handed_as, handed_early, state_early}

-- how many datagrams were delivered
abbrev pub delivered_by : Result Received StreamFault → ℕ
delivered_by (Ok r) = r.delivered
delivered_by (Err (Source e)) = e.delivered
delivered_by (Err (Sink e)) = e.delivered

-- the frame that the sink did not take, where it failed
abbrev pub not_shown : Result Received StreamFault → Raster → List Handed
not_shown (Ok r) frame = []
not_shown (Err (Source e)) frame = []
not_shown (Err (Sink e)) frame = handed_as (Some e.timestamp) frame

-- the complete frames behind that one, which are still in
abbrev pub still_early : Bool → Result Received StreamFault → Following → List Handed
still_early eager (Ok r) s = []
still_early eager (Err (Source e)) s = []
still_early eager (Err (Sink e)) s = handed_early eager s

-- the follower when they have gone too
abbrev pub without_early : Bool → Result Received StreamFault → Following → Following
without_early eager (Ok r) s = s
without_early eager (Err (Source e)) s = s
without_early eager (Err (Sink e)) s = state_early eager s

-- so many turns as the limit; or fewer, where the source ended
abbrev pub AreEnough : ℕ → Bool → ℕ → Type 0
AreEnough limit false turns = turns ≡ limit
AreEnough limit true turns = turns < limit

-- how many turns were taken: as many as the limit, or fewer where the next was the end or a fault
abbrev pub AreTakenTurns : ℕ → Result Received StreamFault → ℕ → Type 0
AreTakenTurns limit (Ok r) turns = AreEnough limit r.ended turns
AreTakenTurns limit (Err (Source e)) turns = turns < limit
AreTakenTurns limit (Err (Sink e)) turns = turns ≤ limit

-- what the source has still to tell, which is not said where it failed
abbrev pub IsLeft : Result Received StreamFault → Option (List Due) → Option (List Due) → Type 0
IsLeft (Ok r) rest new = rest ≡ new
IsLeft (Err (Source e)) rest new = ⊤
IsLeft (Err (Sink e)) rest new = rest ≡ new

-- Turns of a source were taken, and the datagrams among them came of it.
pub record TookTurns (limit : ℕ) (r : Result Received StreamFault) (old new : Option (List Due))
    (before now : List (Path × List ℕ)) : Type 0 where
  pub due : List Due
  pub rest : Option (List Due)
  pub given : GivesTurns old rest due
  pub left : IsLeft r rest new
  pub turns : AreTakenTurns limit r (length due)
  pub delivered : length (datagrams_of due) ≡ delivered_by r
  pub came : now ≡ before ++ came_of due

-- the source's count of failures: one more where it failed
abbrev pub CountsSource : Result Received StreamFault → ℕ → ℕ → Type 0
CountsSource (Ok r) old new = new ≡ old
CountsSource (Err (Source e)) old new = CountsOne old new
CountsSource (Err (Sink e)) old new = new ≡ old

-- its last fault, where it failed
abbrev pub TellsSourceFault : Result Received StreamFault → Option SourceFault → Option SourceFault
    → Type 0
TellsSourceFault (Ok r) old new = new ≡ old
TellsSourceFault (Err (Source e)) old new = new ≡ Some e.fault
TellsSourceFault (Err (Sink e)) old new = new ≡ old

-- the sink's count of failures: one more where it failed
abbrev pub CountsSink : Result Received StreamFault → ℕ → ℕ → Type 0
CountsSink (Ok r) old new = new ≡ old
CountsSink (Err (Source e)) old new = new ≡ old
CountsSink (Err (Sink e)) old new = CountsOne old new

-- none of these answers is Late or Far
abbrev pub NoneDropped : List (Result Followed Refusal) → Type 0
NoneDropped answers = (a : Result Followed Refusal) → IsMember a answers
    → (a ≡ Ok Late → ⊥) × (a ≡ Ok Far → ⊥)

-- a sink was shown all of these frames but the one that it did not take
abbrev pub ShowsAll : List Handed → List Handed → List Handed → List Handed → Type 0
ShowsAll old new missed handed = new ++ missed ≡ old ++ handed
