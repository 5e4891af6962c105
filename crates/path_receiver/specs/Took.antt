-- What `receive` does with the turns of a source (own).
use Rattle.std.specs.Prelude.{◌≡◌, ℕ, ◌+◌, ◌<◌, ◌++◌, Bool, true, false, List, []}
use Rattle.std.specs.Prelude.{◌∷◌, drop, fold, length, map, Option, Result, Ok, Err}
use Rattle.std.specs.List.{flat_map}
use Rattle.st_format.specs.Device.{capped}
use Rattle.st_format.specs.declared.path.Path.{Path}
use Rattle.st_format.specs.Turns.{Due, Comes, Nothing, GivesTurns, HasEnded, came_of, datagrams_of}
use Rattle.path_receiver.specs.declared.receiving.ReceiveFault.{ReceiveFault}
use Rattle.path_receiver.specs.declared.receiving.Received.{Received}
use Rattle.path_receiver.specs.declared.answer.Refusal.{Refusal}
use Rattle.path_receiver.specs.declared.answer.Taken.{Taken}
use Rattle.path_receiver.specs.Answers.{last_64, taken_at}
use Rattle.path_receiver.specs.Opening.{Opening}
use Rattle.path_receiver.specs.Frames.{State, frames_of, joined_frames}

-- the refusal that is answered, with its path
abbrev pub refused_by : Path → Result Taken Refusal → List (Path × Refusal)
refused_by path (Ok t) = []
refused_by path (Err e) = (path, e) ∷ []

-- the refusal of a turn's datagram, where it is refused
abbrev pub refusal_of : Opening → Due → List (Path × Refusal)
refusal_of o (Comes path octets) = refused_by path (taken_at o octets)
refusal_of o Nothing = []

-- A receiver took the datagrams among turns, so many, one after the other: their frames are joined
-- to its own, and of its refusals and theirs the last 64 stay.
pub record TakesDue (due : List Due) (delivered : ℕ) (before after : State) : Type 0 where
  pub count : length (datagrams_of due) ≡ delivered
  pub opening : after.opening ≡ before.opening
  pub frames : after.frames
      ≡ joined_frames before.frames (frames_of before.opening (datagrams_of due))
  pub refusals : after.refusals
      ≡ last_64 (before.refusals ++ flat_map (refusal_of before.opening) due)

-- As many turns as the limit were taken, or fewer where the next was the end.
abbrev pub AreTurns : ℕ → Bool → List Due → Type 0
AreTurns limit false due = length due ≡ limit
AreTurns limit true due = length due < limit

-- The turns of a source were taken up to the limit or the end. A source that doesn't tell its turns
-- still gave some.
pub record Took (limit : ℕ) (r : Received) (old new : Option (List Due))
    (before after : State) : Type 0 where
  pub due : List Due
  pub given : GivesTurns old new due
  pub turns : AreTurns limit r.ended due
  pub ended : r.ended ≡ true → HasEnded new
  pub taken : TakesDue due r.delivered before after

-- The turns of a source were taken up to a fault: fewer than the limit. What it then has to tell is
-- not said; `rest` were the turns to come before it failed.
pub record TookUpTo (limit delivered : ℕ) (old : Option (List Due))
    (before after : State) : Type 0 where
  pub due : List Due
  pub rest : Option (List Due)
  pub given : GivesTurns old rest due
  pub turns : length due < limit
  pub taken : TakesDue due delivered before after

-- the answers to the datagrams among turns, in order
abbrev pub answers_to : Opening → List Due → List (Result Taken Refusal)
answers_to opening due = map (taken_at opening) (datagrams_of due)

-- An observer was told the answers to the datagrams among turns, one after the other, and became by
-- each what an answer makes of it.
abbrev pub HearsAll : {O : Type 0} → (O → Result Taken Refusal → O) → Opening → List Due → O → O
    → Type 0
HearsAll after opening due old new = new ≡ fold after old (answers_to opening due)

-- what came of a source so far grew by the datagrams among turns
abbrev pub ComesMore : List (Path × List ℕ) → List (Path × List ℕ) → List Due → Type 0
ComesMore old new due = new ≡ old ++ came_of due

-- the datagrams that came of a source from one moment to the next, by what came so far
abbrev pub datagrams_since : List (Path × List ℕ) → List (Path × List ℕ) → List (List ℕ)
datagrams_since before now = map (λ (d : Path × List ℕ). d.1) (drop (length before) now)

-- how many datagrams were delivered
abbrev pub delivered_in : Result Received ReceiveFault → ℕ
delivered_in (Ok r) = r.delivered
delivered_in (Err e) = e.delivered

-- so many more, but at most 2^64 - 1
pub record CountsAll (count old new : ℕ) : Type 0 where
  pub none : count ≡ 0 → new ≡ old
  pub some : 0 < count → new ≡ capped (old + count)
