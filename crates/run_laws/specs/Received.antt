-- A received file (own): what `receive` writes, by the words, the SDP text and the datagrams that
-- it was given. Which files brought them, in which order, by which path and how often, does not
-- enter.
use Rattle.std.specs.Prelude.{ℕ, List, Option, None, Some, map}
use Rattle.std.specs.List.{flat_map}
use Rattle.st_format.specs.History.{since}
use Rattle.path_receiver.specs.Frames.{Holds, State}
use Rattle.receiver_file.specs.Saved.{IsReceiverFile}
use Rattle.run_outcome.specs.Sources.{IsSourceText}
use Rattle.run_outcome.specs.Timestamps.{AreTimestamps}
use Rattle.capture_engines.specs.Files.{capture_datagrams}
use Rattle.capture_engines.specs.Taking.{AnnouncesStream, said_behind}

-- Octets are the file of a receiver that was opened with the timestamps and the source that these
-- words say and the stream that an SDP text announces, and that holds the Frames of datagrams.
pub record IsReceivedFile (window source text : List ℕ) (datagrams : List (List ℕ))
    (file : List ℕ) : Type 0 where
  pub receiver : State
  pub window_is : AreTimestamps window receiver.opening.window
  pub source_is : IsSourceText source receiver.opening.ssrc
  pub announced : AnnouncesStream text receiver.opening
  pub holds : Holds receiver datagrams
  pub file_is : IsReceiverFile file receiver

-- ---- what a run read

-- the octets that a source gave between two moments
abbrev pub read_of : {S : Type 0} → (S → List ℕ) → S × S → List ℕ
read_of gave s = since (gave s.0) (gave s.1)

-- those that each source gave
abbrev pub all_read : {S : Type 0} → (S → List ℕ) → List (S × S) → List (List ℕ)
all_read gave sources = map (read_of gave) sources

-- the datagrams of the captures that were read
abbrev pub datagrams_read : {S : Type 0} → (S → List ℕ) → List (S × S) → List (List ℕ)
datagrams_read gave captures = flat_map capture_datagrams (all_read gave captures)

-- the SDP text by which a run opened its receiver: that which was read of the source that is given;
-- or, where none is given, that of the first capture
abbrev pub text_read : {S : Type 0} → (S → List ℕ) → Option (S × S) → List (S × S)
    → Option (List ℕ)
text_read gave None captures = said_behind None (all_read gave captures)
text_read gave (Some sdp) captures = Some (read_of gave sdp)
