-- What the code that follows a stream keeps, and what it tells.
use Rattle.std.specs.Prelude.{◌≡◌, ℕ, Bool, List, [], ◌∷◌, ◌++◌}
use Rattle.following.specs.Follower.{IsFollower}
use Rattle.following.specs.Following.{Handed, frames_in}
use Rattle.following.specs.Turned.{handed_early, state_early}
use Rattle.path_receiver.specs.Opening.{Opening}
use Rattle.path_receiver.specs.Sliding.{with_window}
use Rattle.side_by_side.specs.declared.steering.Steering.{Steering}
use Rattle.follow_engine.specs.Events.{Anew, Event, Running, anew, behind, events_at}
use Rattle.follow_engine.specs.Events.{frames_of_events}
use Rattle.follow_engine.specs.Events.{leaving, turn_left, turn_taken, without}
use Rattle.follow_engine.specs.Shown.{GrowsSome, TakesEachFrame, TakesSome}
use Rattle.follow_engine.specs.Telling.{events_text}
use Rattle.follow_engine.specs.declared.running.Run.{Run}

-- what the code has noted of the stream, as the stream's own state
abbrev pub running_of : {A : Type 0} → Run A → Running
running_of r = record {
  follower = r.follower;
  tally = r.tally;
  need = r.need;
  since = r.restarts.since;
  frames = r.frames;
  late = r.late;
}

-- whose timestamps steer the files that a stream comes from: its own
abbrev pub steering_of : Opening → Steering
steering_of o = record { payload_type = o.payload_type; ssrc = o.ssrc }

-- what is always so of it
pub record IsSoundRun {A : Type 0} (r : Run A) : Type 0 where
  pub follower : IsFollower r.follower
  pub format : r.frame.format ≡ r.follower.opening.format
  pub bound : r.restarts.bound ≡ r.follower.most_ahead
  pub steering : r.steering ≡ steering_of r.follower.opening

-- Events were told: their lines were printed, and the frames among them were shown.
pub record TellsEvents {K : Type 0} (takes : K → Handed → K → Type 0) (old new : K)
    (took took' : List ℕ) (events : List Event) : Type 0 where
  pub printed : took' ≡ took ++ events_text events
  pub shown : TakesEachFrame takes old (frames_of_events events) new

-- Some first of events were told, and no more: a first part of their lines was printed, and some
-- first of the frames among them were shown.
pub record TellsSome {K : Type 0} (takes fails : K → Handed → K → Type 0) (old new : K)
    (took took' : List ℕ) (events : List Event) : Type 0 where
  pub printed : GrowsSome took took' (events_text events)
  pub shown : TakesSome takes fails old (frames_of_events events) new

-- These frames left a stream, and were told.
pub record LeavesWith {K : Type 0} (takes : K → Handed → K → Type 0) (r r' : Running)
    (hs : List Handed) (old new : K) (took took' : List ℕ) : Type 0 where
  pub running : r' ≡ without r hs r.follower
  pub told : TellsEvents takes old new took took' (leaving r.late hs)

-- These frames left a stream, and behind them those that go early, and were told.
pub record LeavesTurn {K : Type 0} (takes : K → Handed → K → Type 0) (eager : Bool)
    (r r' : Running) (hs : List Handed) (old new : K) (took took' : List ℕ) : Type 0 where
  pub running : r' ≡ without r (hs ++ handed_early eager r.follower) (state_early eager r.follower)
  pub told : TellsEvents takes old new took took'
      (leaving r.late (hs ++ handed_early eager r.follower))

-- All frames left that were in, and were told.
pub record Finishes {A K : Type 0} (takes : K → Handed → K → Type 0) (r r' : Run A) (old new : K)
    (took took' : List ℕ) : Type 0 where
  pub run : IsSoundRun r'
  pub none : r'.follower.opening.window ≡ []
  pub opening : with_window r'.follower.opening [] ≡ with_window r.follower.opening []
  pub size : r'.follower.size ≡ r.follower.size
  pub ahead : r'.follower.most_ahead ≡ r.follower.most_ahead
  pub running : running_of r' ≡ without (running_of r) (frames_in r.follower) r'.follower
  pub told : TellsEvents takes old new took took' (leaving r.late (frames_in r.follower))

-- So they did, and it was told that the stream is followed anew, from this timestamp on.
pub record BeginsAnew {A K : Type 0} (takes : K → Handed → K → Type 0) (timestamp : ℕ)
    (r r' : Run A) (old new : K) (took took' : List ℕ) : Type 0 where
  pub run : IsSoundRun r'
  pub running : running_of r' ≡ anew (running_of r)
  pub told : TellsEvents takes old new took took' (leaving r.late (frames_in r.follower)
      ++ Anew timestamp ∷ [])

-- A datagram was taken in its turn, and the frames that left were told.
pub record TellsDatagram {K : Type 0} (takes : K → Handed → K → Type 0) (eager : Bool)
    (r r' : Running) (octets : List ℕ) (old new : K) (took took' : List ℕ) : Type 0 where
  pub running : r' ≡ turn_taken eager r octets
  pub told : TellsEvents takes old new took took' (turn_left eager r octets)

-- So it was, and where the stream is followed anew behind it, that was told too.
pub record FollowsDatagram {K : Type 0} (takes : K → Handed → K → Type 0) (eager : Bool)
    (r r' : Running) (octets : List ℕ) (old new : K) (took took' : List ℕ) : Type 0 where
  pub running : r' ≡ behind eager r octets
  pub told : TellsEvents takes old new took took' (events_at eager r octets)
