-- What a sink takes of a receiver's file where not all of it is written.
use Rattle.std.specs.Prelude.{◌≡◌, ℕ, List, ◌⊎◌}
use Rattle.media_file.specs.StateFile.{state_text}
use Rattle.path_receiver.specs.Frames.{State}
use Rattle.receiver_file.specs.Saved.{kept_of}
use Rattle.st_format.specs.Device.{GrowsPart}

-- a sink took nothing, or a first part of the file of a receiver that is so, and not all
abbrev pub SavesPart : (State → Type 0) → List ℕ → List ℕ → Type 0
SavesPart Is old new = (new ≡ old)
    ⊎ ((receiver : State) × Is receiver × GrowsPart old new (state_text (kept_of receiver)))
