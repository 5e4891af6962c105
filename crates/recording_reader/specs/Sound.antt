-- What holds of each reader of a file of datagrams.
use Rattle.std.specs.Prelude.{◌≡◌, ℕ, List, length, Option}
use Rattle.flow.specs.declared.flows.Flows.{Flows}
use Rattle.media_file.specs.Records.{Entry}
use Rattle.recording_reader.specs.Came.{AreNoted}
use Rattle.recording_reader.specs.Ways.{HasSpace, IsAtHand, WayStands}
use Rattle.recording_reader.specs.declared.came.Came.{Came}
use Rattle.recording_reader.specs.declared.found.Found.{Found}
use Rattle.recording_reader.specs.declared.way.Standing.{Standing}
use Rattle.recording_reader.specs.declared.way.FileKind.{FileKind}

-- Its source gave `before` when it was opened, and `now` since; the file has this text, and these
-- are the records that it gave.
pub record IsSound (way : FileKind) (flows : Option Flows) (standing : Standing) (before now : List ℕ)
    (ended : Type 0) (text : List ℕ) (records : List Entry) (found : Option Found) (count : ℕ)
    (came : Came) (text_len : ℕ) : Type 0 where
  pub stands : WayStands way flows standing before now ended text records
  pub roomy : HasSpace way count
  pub hand : IsAtHand standing found
  pub noted : AreNoted came records
  pub text_is : length text ≡ text_len
