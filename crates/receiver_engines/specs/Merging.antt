-- What `merge` writes. The octets that were read are told by a predicate: it holds of any that
-- begin with those, and of no other where the source has ended.
use Rattle.std.specs.Prelude.{◌≡◌, ℕ, ◌⊎◌, List, [], ◌++◌}
use Rattle.media_file.specs.StateFile.{state_text}
use Rattle.path_receiver.specs.Frames.{Holds, State, joined_frames}
use Rattle.run_outcome.specs.AtFault.{WrittenAtFault}
use Rattle.run_outcome.specs.Frames.{frame_lines}
use Rattle.receiver_file.specs.Saved.{IsReceiverFile, IsWritable, kept_of}
use Rattle.st_format.specs.Device.{Failed}

-- what was read can be the file of this receiver, which can be written
pub record GivesReceiver (told : List ℕ → Type 0) (s : State) : Type 0 where
  pub read : told (state_text (kept_of s))
  pub writable : IsWritable s

-- what was read is the file of a receiver, which can be written
abbrev pub SaysReceiver : (List ℕ → Type 0) → State → Type 0
SaysReceiver told r = (octets : List ℕ) → told octets → IsReceiverFile octets r

-- a receiver was opened as another, and has its frames
pub record IsAgain (s r : State) : Type 0 where
  pub opening : r.opening ≡ s.opening
  pub frames : r.frames ≡ s.frames

-- two receivers as one: each frame is the join of theirs
abbrev pub merged_state : State → State → State
merged_state s t =
    record { opening = s.opening; frames = joined_frames s.frames t.frames; refusals = [] }

-- A sink took the file of two receivers merged, which are opened alike. So it is the file of one
-- that holds the datagrams of both.
pub record SavesMerged (s t : State) (old new : List ℕ) : Type 0 where
  pub alike : s.opening ≡ t.opening
  pub taken : new ≡ old ++ state_text (kept_of (merged_state s t))
  pub holds : (xs ys : List (List ℕ)) → Holds s xs → Holds t ys
      → Holds (merged_state s t) (xs ++ ys)

-- What was read of two sources are the files of receivers, and a sink took that of the two merged.
pub record MergesFiles (left right : List ℕ → Type 0) (old new : List ℕ) : Type 0 where
  pub first : State
  pub second : State
  pub first_is : SaysReceiver left first
  pub second_is : SaysReceiver right second
  pub taken : SavesMerged first second old new
  -- so whichever receivers' files they are
  pub saved : (s t : State) → GivesReceiver left s → GivesReceiver right t → SavesMerged s t old new

-- the same of a receiver that was not written yet
pub record JoinsFirst (left right : List ℕ → Type 0) (m : State) : Type 0 where
  pub first : State
  pub second : State
  pub first_is : SaysReceiver left first
  pub second_is : SaysReceiver right second
  pub both : (first.opening ≡ second.opening) × IsAgain (merged_state first second) m
  pub joined : (s t : State) → GivesReceiver left s → GivesReceiver right t
      → (s.opening ≡ t.opening) × IsAgain (merged_state s t) m

-- a sink took the file of a receiver, which can be written
pub record Saves (old new : List ℕ) : Type 0 where
  pub receiver : State
  pub writable : IsWritable receiver
  pub taken : new ≡ old ++ state_text (kept_of receiver)

-- What was read of two sources are the files of receivers, and a line was printed for each frame of
-- the two merged.
pub record PrintsMerged (left right : List ℕ → Type 0) (old new : List ℕ) : Type 0 where
  pub first : State
  pub second : State
  pub first_is : SaysReceiver left first
  pub second_is : SaysReceiver right second
  pub alike : first.opening ≡ second.opening
  pub printed : new ≡ old ++ frame_lines (merged_state first second)

-- What was printed where a run fails: nothing; or a line for each frame of a receiver that is so,
-- all of them; or a first part of these, since the output failed.
abbrev pub PrintsMergedPart : {O : Type 0} → (O → List ℕ) → (O → ℕ) → (State → Type 0) → O → O
    → Type 0
PrintsMergedPart took failures Is old new =
    (new ≡ old)
    ⊎ ((receiver : State) × Is receiver
    × WrittenAtFault (Failed (failures old) (failures new)) (took old) (took new)
    (frame_lines receiver))
