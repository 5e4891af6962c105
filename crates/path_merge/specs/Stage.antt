-- What is kept while a schedule is played (own).
use Rattle.std.specs.Prelude.{◌≡◌, ℕ, ◌<◌, List, [], ◌∷◌, ◌++◌, length, map, take, Some, slice_get}
use Rattle.std.specs.Prelude.{Vec}
use Rattle.std.specs.List.{AllZip}
use Rattle.st_format.specs.Memory.{octets_of}
use Rattle.st_format.specs.Picture.{Values}
use Rattle.packet_plan.specs.declared.stamp.Stamp.{Stamp}
use Rattle.packet_plan.specs.Plan.{RasterPlan}
use Rattle.packet_plan.specs.Sending.{EachHasRoom}
use Rattle.path_receiver.specs.Frames.{Holds, State}
use Rattle.path_receiver.specs.Opening.{Opening}
use Rattle.path_merge.specs.declared.schedule.event.Event.{Event}
use Rattle.path_merge.specs.declared.schedule.stage.Stage.{Stage}
use Rattle.path_merge.specs.Reached.{Scene, IsAt}
use Rattle.path_merge.specs.Admitted.{AreAdmittedTo, IsAdmitted, IsFirstBad, send_count}
use Rattle.path_merge.specs.Played.{IsHanded, ended_stays}
use Rattle.path_merge.specs.Steps.{SlidesOut, to_come}
use Rattle.path_merge.specs.declared.schedule.played.Handed.{Handed}

-- After some events: the receivers are where the events leave them, the stays that ended were
-- handed out, and what was sent and what is to come make the whole.
pub record IsStage {A : Type 0} (plan : RasterPlan) (stamp : Stamp) (pictures : List Values)
    (s : Scene) (events : List Event) (stage : Stage A) : Type 0 where
  pub count : length stage.receivers.items ≡ s.receivers
  pub receivers : (r : ℕ) (state : State) → slice_get stage.receivers.items r ≡ Some state →
      IsAt state r s events
  pub handed : AllZip (IsHanded s events) (ended_stays s.opening.window events) stage.handed.items
  pub sent : map octets_of stage.sent.items ++ to_come plan stamp pictures stage.next ≡ s.sent
  pub sends : length stage.sent.items ≡ send_count events

-- what the sender needs
pub record IsReadyStage {A : Type 0} (plan : RasterPlan) (stage : Stage A) : Type 0 where
  pub room : EachHasRoom plan (length stage.buf.items)
  pub index : stage.next.index < length plan.packets

-- the next datagram was sent
pub record SendsOne {A : Type 0} (plan : RasterPlan) (stamp : Stamp) (pictures : List Values)
    (old new : Stage A) : Type 0 where
  pub datagram : Vec ℕ A
  pub is_next : to_come plan stamp pictures old.next
      ≡ datagram.items ∷ to_come plan stamp pictures new.next
  pub sent : new.sent.items ≡ old.sent.items ++ datagram ∷ []
  pub receivers : new.receivers.items ≡ old.receivers.items
  pub handed : new.handed.items ≡ old.handed.items

-- a receiver's window moved on, and its first frame was handed out
pub record HandsOut {A : Type 0} (at next : ℕ) (old new : Stage A) : Type 0 where
  pub out : Handed A
  pub slides : SlidesOut at next old.receivers.items new.receivers.items out
  pub handed : new.handed.items ≡ old.handed.items ++ out ∷ []
  pub sent : new.sent.items ≡ old.sent.items

-- an event was admitted and followed
pub record IsFollowed {A : Type 0} (plan : RasterPlan) (stamp : Stamp) (pictures : List Values)
    (s : Scene) (before : List Event) (event : Event) (new : Stage A) : Type 0 where
  pub admitted : IsAdmitted event s before
  pub stage : IsStage plan stamp pictures s (before ++ event ∷ []) new

-- so it is whatever the events before were
abbrev pub IsFollowedBy : {A : Type 0} → RasterPlan → Stamp → List Values → Event → Stage A
    → Stage A
    → Type 0
IsFollowedBy plan stamp pictures event old new =
    (s : Scene) (before : List Event) → 0 < length s.opening.window
    → IsStage plan stamp pictures s before old → IsFollowed plan stamp pictures s before event new

-- an event is not admitted, whatever the events before were
abbrev pub NeverFits : {A : Type 0} → RasterPlan → Stamp → List Values → Event → Stage A → Type 0
NeverFits plan stamp pictures event old = (s : Scene) (before : List Event) →
    IsStage plan stamp pictures s before old → IsAdmitted event s before → ⊥

-- a receiver that was just opened
pub record IsOpened (o : Opening) (state : State) : Type 0 where
  pub opening : state.opening ≡ o
  pub blank : Holds state []

-- events were all admitted and followed, from the first on
pub record AllFollowed {A : Type 0} (plan : RasterPlan) (stamp : Stamp) (pictures : List Values)
    (s : Scene) (events : List Event) (count : ℕ) (new : Stage A) : Type 0 where
  pub admitted : AreAdmittedTo events s count
  pub stage : IsStage plan stamp pictures s (take count events) new

-- from the stage before the first event, so many events were all admitted and followed
abbrev pub FollowsTo : {A : Type 0} → RasterPlan → Stamp → List Values → List Event → ℕ
    → Stage A → Stage A → Type 0
FollowsTo plan stamp pictures events count old new = (s : Scene) → 0 < length s.opening.window →
    IsStage plan stamp pictures s [] old → AllFollowed plan stamp pictures s events count new

-- the same of all events
abbrev pub FollowsAll : {A : Type 0} → RasterPlan → Stamp → List Values → List Event
    → Stage A → Stage A → Type 0
FollowsAll plan stamp pictures events old new =
    FollowsTo plan stamp pictures events (length events) old new

-- the first that is not admitted stands at this place
abbrev pub RefusesAt : {A : Type 0} → RasterPlan → Stamp → List Values → List Event → ℕ
    → Stage A → Type 0
RefusesAt plan stamp pictures events place old = (s : Scene) → 0 < length s.opening.window →
    IsStage plan stamp pictures s [] old → IsFirstBad place s events
