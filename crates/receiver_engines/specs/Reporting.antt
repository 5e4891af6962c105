-- What `report` writes (own).
use Rattle.std.specs.Prelude.{◌≡◌, ℕ, List, ◌++◌, ◌⊎◌}
use Rattle.receiver_engines.specs.Merging.{GivesReceiver, IsAgain, SaysReceiver}
use Rattle.frame_report.specs.Report.{report_text}
use Rattle.path_receiver.specs.Frames.{State}
use Rattle.st_format.specs.Device.{GrowsPart}

-- What was read is the file of a receiver, and its report was written; so whichever receiver's it
-- is.
pub record Reports (read : List ℕ → Type 0) (old new : List ℕ) : Type 0 where
  pub receiver : State
  pub says : SaysReceiver read receiver
  pub again : (s : State) → GivesReceiver read s → IsAgain s receiver
  pub written : new ≡ old ++ report_text receiver

-- a sink took nothing, or a first part of the report of the receiver that was read, and not all
abbrev pub ReportsPart : (List ℕ → Type 0) → List ℕ → List ℕ → Type 0
ReportsPart read old new =
    (new ≡ old)
    ⊎ ((receiver : State) × SaysReceiver read receiver
    × GrowsPart old new (report_text receiver))
