-- What a follower hands out of a whole list of datagrams.
use Rattle.std.specs.Prelude.{ℕ, Bool, true, false, if◌then◌else◌, List, [], ◌∷◌, ◌++◌, take}
use Rattle.std.specs.Prelude.{map, IsTrue, Option, Some, Result, Ok, Err, ⊤}
use Rattle.st_format.specs.Raster.{Raster}
use Rattle.path_receiver.specs.declared.answer.Refusal.{Refusal}
use Rattle.path_receiver.specs.Grammar.{Datagram}
use Rattle.following.specs.declared.answer.Followed.{Followed}
use Rattle.following.specs.declared.answer.Followed.TheVariants.{Kept, Due, Late, Far}
use Rattle.following.specs.declared.standing.Standing.{Standing}
use Rattle.following.specs.declared.standing.Standing.TheVariants.{Beyond, Inside, New, Waits}
use Rattle.following.specs.declared.standing.Standing.TheVariants.{Nowhere}
use Rattle.following.specs.Standing.{is_behind}
use Rattle.following.specs.Follower.{Following, standing_of, reading_of, state_after}
use Rattle.following.specs.Follower.{without_oldest}

-- a frame that was handed out, with its timestamp
pub record Handed : Type 0 where
  pub timestamp : ℕ
  pub frame : Raster

-- the frames of a window, each with its timestamp
abbrev pub with_timestamps : List ℕ → List Raster → List Handed
with_timestamps [] rs = []
with_timestamps (t ∷ w) [] = []
with_timestamps (t ∷ w) (r ∷ rs) =
    record { timestamp = t; frame = r } ∷ with_timestamps w rs

-- the frames that are in, oldest first
abbrev pub frames_in : Following → List Handed
frames_in s = with_timestamps s.opening.window s.frames

-- a timestamp that stands so waits for the oldest frame to go
abbrev pub is_waiting : Standing → Bool
is_waiting (Inside place) = false
is_waiting (New place) = false
is_waiting Waits = true
is_waiting Nowhere = false
is_waiting Beyond = false

-- what was read is a datagram whose timestamp waits for the oldest frame to go
abbrev pub waits_for : Following → Result Datagram Refusal → Bool
waits_for s (Ok d) = is_waiting (standing_of s d.timestamp)
waits_for s (Err e) = false

-- the oldest frame is to go before a datagram is taken
abbrev pub is_due : Following → List ℕ → Bool
is_due s octets = waits_for s (reading_of s.opening octets)

-- what is handed out before a datagram is taken
abbrev pub handed_before : Following → List ℕ → List Handed
handed_before s octets = if is_due s octets then take 1 (frames_in s) else []

-- the follower as a datagram finds it: without its oldest frame, where that was due
abbrev pub ready_for : Following → List ℕ → Following
ready_for s octets = if is_due s octets then without_oldest s else s

-- What a follower hands out of a list of datagrams that are taken one after the other, up to its
-- end: the oldest frame each time that it is due, and what is in at the end.
abbrev pub handed_out : Following → List (List ℕ) → List Handed
handed_out s [] = frames_in s
handed_out s (octets ∷ datagrams) =
    handed_before s octets ++ handed_out (state_after (ready_for s octets) octets) datagrams

-- the timestamps of frames that were handed out
abbrev pub stamps_of : List Handed → List ℕ
stamps_of hs = map (λ h. h.timestamp) hs

-- each is newer than the one before, the first than what has gone
abbrev pub RiseFrom : Option ℕ → List ℕ → Type 0
RiseFrom before [] = ⊤
RiseFrom before (t ∷ ts) = IsTrue (is_behind before t) × RiseFrom (Some t) ts

-- what becomes of a datagram says that the oldest frame is due
abbrev pub is_due_by : Followed → Bool
is_due_by (Kept number) = false
is_due_by Due = true
is_due_by Late = false
is_due_by Far = false

-- the answer says that the oldest frame is due
abbrev pub is_due_answer : Result Followed Refusal → Bool
is_due_answer (Ok f) = is_due_by f
is_due_answer (Err e) = false
