-- What `receive` counts of the datagrams that it was given (own).
use Rattle.std.specs.Prelude.{◌≡◌, ℕ, List, Option, Some, Result, length, map}
use Rattle.std.specs.List.{AllZip}
use Rattle.flow.specs.declared.flows.Flows.{Flows}
use Rattle.st_format.specs.Device.{capped}
use Rattle.path_receiver.specs.Answers.{taken_at}
use Rattle.path_receiver.specs.Opening.{Opening}
use Rattle.run_outcome.specs.Sources.{IsSourceText}
use Rattle.run_outcome.specs.Timestamps.{AreTimestamps}
use Rattle.run_outcome.specs.declared.refusal.Refusal.{Refusal}
use Rattle.capture_engines.specs.Files.{files_datagrams}
use Rattle.capture_engines.specs.Taking.{AnnouncesStream, said_behind}
use Rattle.path_receiver.specs.Tallied.{Tallies}
use Rattle.capture_engines.specs.declared.reception.Reception.{Reception}

-- So many datagrams were delivered, and these are the counts of what a receiver answers to them
-- that was opened with this window and source, and by the SDP text that is so.
pub record CountsHolding (window source : List ℕ) (IsText : List ℕ → Type 0)
    (datagrams : List (List ℕ)) (r : Reception) : Type 0 where
  pub opening : Opening
  pub window_is : AreTimestamps window opening.window
  pub source_is : IsSourceText source opening.ssrc
  pub announced : (text : List ℕ) → IsText text → AnnouncesStream text opening
  pub tallied : Tallies r.tally (map (taken_at opening) datagrams)
  pub delivered : r.delivered ≡ capped (length datagrams)

-- so it is of what was read of files, each taken so: the datagrams are all of theirs
pub record CountsReceived {S : Type 0} (window source : List ℕ)
    (sdp : Option (List ℕ)) (ways : List (Result Flows Refusal)) (told : S → List ℕ → Type 0)
    (files : List S) (r : Reception) : Type 0 where
  pub counted : (octets : List (List ℕ)) → AllZip told files octets
      → CountsHolding window source (λ text. said_behind sdp octets ≡ Some text)
      (files_datagrams ways octets) r
