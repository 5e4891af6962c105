-- Devices that may not be there, and what is written of a receiver.
use Rattle.std.specs.Prelude.{◌≡◌, ℕ, ◌⊎◌, Bool, List, ◌++◌}
use Rattle.media_file.specs.StateFile.{state_text}
use Rattle.path_receiver.specs.Frames.{State}
use Rattle.receiver_file.specs.Saved.{IsWritable, kept_of}
use Rattle.run_outcome.specs.AtFault.{WrittenAtFault}
use Rattle.st_format.specs.Device.{Failed}
use Rattle.capture_engines.specs.Printed.{received_text, tally_text}
use Rattle.path_receiver.specs.declared.tally.Tally.{Tally}

-- the lines of a receiver were printed, with those of some counts, where these are wanted; and then
-- a sink took the receiver's file, which can be written
pub record SavesShown (wanted : Bool) (shown shown' old new : List ℕ) : Type 0 where
  pub receiver : State
  pub delivered : ℕ
  pub tally : Tally
  pub writable : IsWritable receiver
  pub printed : shown' ≡ shown ++ received_text wanted delivered (tally_text tally) receiver
  pub taken : new ≡ old ++ state_text (kept_of receiver)

-- What was printed where a run fails: nothing; or the lines of a receiver that is so, with those of
-- some counts, where these are wanted, all of them; or a first part, since the output failed.
abbrev pub ShowsPart : {O : Type 0} → (O → List ℕ) → (O → ℕ) → Bool → (State → Type 0) → O → O
    → Type 0
ShowsPart took failures wanted Is old new =
    (new ≡ old)
    ⊎ ((receiver : State) × Is receiver × ((delivered : ℕ) × (tally : Tally)
    × WrittenAtFault (Failed (failures old) (failures new)) (took old) (took new)
    (received_text wanted delivered (tally_text tally) receiver)))
