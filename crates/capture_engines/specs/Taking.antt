-- Which datagrams `receive` takes. What was read is told by a predicate: it holds of any octets
-- that begin with it, and of no others where the source has ended.
use Rattle.std.specs.Prelude.{◌≡◌, ℕ, ◌+◌, List, [], ◌∷◌, ◌++◌, length, ⊤}
use Rattle.std.specs.Prelude.{Bool, Option, None, Some, Result, map, MatchOption, ◌≤◌}
use Rattle.std.specs.List.{AllZip, flat_map}
use Rattle.sdp_format.specs.Bytes.{lines}
use Rattle.sdp_format.specs.Grammar.{IsDescribed}
use Rattle.sdp_format.specs.Sections.{Description, video_sections}
use Rattle.st_format.specs.Fields.{fields_of}
use Rattle.st_format.specs.Device.{capped}
use Rattle.flow.specs.declared.flows.Flows.{Flows}
use Rattle.recording_reader.specs.Files.{text_of_file}
use Rattle.run_outcome.specs.declared.refusal.Refusal.{Refusal}
use Rattle.capture_engines.specs.Files.{AreReadWhole, IsReadWhole, capture_datagrams}
use Rattle.capture_engines.specs.Files.{file_datagrams, files_datagrams}
use Rattle.capture_engines.specs.declared.way.Way.{Way}
use Rattle.media_file.specs.StateFile.{state_text}
use Rattle.path_receiver.specs.Answers.{taken_at}
use Rattle.path_receiver.specs.Frames.{Holds, State}
use Rattle.path_receiver.specs.Opening.{Opening}
use Rattle.receiver_file.specs.Saved.{kept_of}
use Rattle.run_outcome.specs.Sources.{IsSourceText}
use Rattle.run_outcome.specs.Timestamps.{AreTimestamps}
use Rattle.capture_engines.specs.declared.receiving.Asked.{Asked}
use Rattle.capture_engines.specs.declared.intake.Intake.{Intake}
use Rattle.capture_engines.specs.Printed.{taken_text}
use Rattle.path_receiver.specs.Tallied.{Tallies}

-- the SDP text by which a receiver is open behind files: that by which it was open before them, or
-- else that of the first
abbrev pub said_behind : Option (List ℕ) → List (List ℕ) → Option (List ℕ)
said_behind (Some text) captures = Some text
said_behind None [] = None
said_behind None (octets ∷ captures) = Some (text_of_file octets)

-- An SDP text announces what a receiver takes: the text says its format and its payload type.
pub record AnnouncesStream (text : List ℕ) (opening : Opening) : Type 0 where
  pub description : Description
  pub described : IsDescribed (video_sections (lines text)) description
  pub format : fields_of opening.format ≡ description.leg.format
  pub payload_type : opening.payload_type ≡ description.leg.payload_type

-- an intake's tally counts the answers to these datagrams
abbrev pub CountsAnswers : {A : Type 0} → Intake A → List (List ℕ) → Type 0
CountsAnswers s datagrams = Tallies s.tally (map (taken_at s.receiver.opening) datagrams)

-- ---- one file

-- An intake took these datagrams more: what its receiver holds, what its tally counts, and how many
-- were delivered.
pub record TakesDatagrams {A : Type 0} (datagrams : List (List ℕ)) (before after : Intake A)
    : Type 0 where
  pub opening : after.receiver.opening ≡ before.receiver.opening
  pub holds : (earlier : List (List ℕ)) → Holds before.receiver earlier
      → Holds after.receiver (earlier ++ datagrams)
  pub tallied : (earlier : List (List ℕ)) → CountsAnswers before earlier
      → CountsAnswers after (earlier ++ datagrams)
  pub delivered : (count : ℕ) → before.delivered ≡ capped count
      → after.delivered ≡ capped (count + length datagrams)

-- ---- files, one after the other

-- An intake's receiver was opened with what the words and this SDP text said, it holds the Frames
-- of these datagrams, its tally counts the answers to them, and so many were delivered.
pub record HoldsBy {A : Type 0} (o : Asked A) (text : List ℕ) (s : Intake A)
    (datagrams : List (List ℕ)) : Type 0 where
  pub window : s.receiver.opening.window ≡ o.window.items
  pub ssrc : s.receiver.opening.ssrc ≡ o.ssrc
  pub announced : AnnouncesStream text s.receiver.opening
  pub holds : Holds s.receiver datagrams
  pub tallied : CountsAnswers s datagrams
  pub delivered : s.delivered ≡ capped (length datagrams)

-- the same of an intake, or that none has begun, by no text
abbrev pub Stands : {A : Type 0} → Asked A → Option (Intake A) → Option (List ℕ)
    → List (List ℕ) → Type 0
Stands o None None datagrams = datagrams ≡ []
Stands o None (Some text) datagrams = ⊥
Stands o (Some s) None datagrams = ⊥
Stands o (Some s) (Some text) datagrams = HoldsBy o text s datagrams

-- the SDP text by which one is open behind a file with this text
abbrev pub said_by : Option (List ℕ) → List ℕ → Option (List ℕ)
said_by None text = Some text
said_by (Some said) text = Some said

-- what holds of the SDP text by which one is open, if one is, and of the datagrams that were taken
abbrev pub Holding : Type 1
Holding = Option (List ℕ) → List (List ℕ) → Type 0

-- From one moment to the next these datagrams of a file with this text were taken: what held of
-- those before then holds of all.
pub record RecordsGo (text : List ℕ) (datagrams : List (List ℕ)) (Before After : Holding) : Type 0
  where
    pub stands : (said : Option (List ℕ)) (earlier : List (List ℕ)) → Before said earlier
        → After (said_by said text) (earlier ++ datagrams)

-- so of a file that was read, which is taken so
pub record FileGoes (w : Way) (told : List ℕ → Type 0) (Before After : Holding) : Type 0 where
  pub stands : (octets : List ℕ) (said : Option (List ℕ)) (earlier : List (List ℕ))
      → told octets → Before said earlier
      → After (said_behind said (octets ∷ [])) (earlier ++ file_datagrams w octets)

-- so of all files, in their order
pub record FilesGo {S : Type 0} (ways : List (Result Flows Refusal)) (told : S → List ℕ → Type 0)
    (files : List S) (Before After : Holding) : Type 0 where
  pub stands : (octets : List (List ℕ)) (said : Option (List ℕ)) (earlier : List (List ℕ))
      → AllZip told files octets → Before said earlier
      → After (said_behind said octets) (earlier ++ files_datagrams ways octets)

-- the same of an intake: datagrams were taken, a file to its end, and so all files
abbrev pub TakesRecords : {A : Type 0} → Asked A → List ℕ → List (List ℕ) → Option (Intake A)
    → Option (Intake A) → Type 0
TakesRecords o text datagrams before after =
    RecordsGo text datagrams (Stands o before) (Stands o after)

-- so a file was taken, to its end
abbrev pub TakesFile : {A : Type 0} → Asked A → Way → (List ℕ → Type 0) → Option (Intake A)
    → Option (Intake A) → Type 0
TakesFile o w told before after =
    FileGoes w told (Stands o before) (Stands o after) × IsReadWhole w told

-- so all files were, each to its end
abbrev pub TakesFiles : {S A : Type 0} → Asked A → List (Result Flows Refusal)
    → (S → List ℕ → Type 0) → List S → Option (Intake A) → Option (Intake A) → Type 0
TakesFiles o ways told files before after =
    FilesGo ways told files (Stands o before) (Stands o after) × AreReadWhole ways told files

-- ---- the run

-- an SDP text that was read has no more octets than are read of one
abbrev pub IsShortText : (List ℕ → Type 0) → Type 0
IsShortText told = (octets : List ℕ) → told octets → length octets ≤ 16777216

-- the SDP text that was read of a source, where one is given
abbrev pub IsSaidText : {S : Type 0} → (S → List ℕ → Type 0) → Option S → Option (List ℕ) → Type 0
IsSaidText told None None = ⊤
IsSaidText told None (Some text) = ⊥
IsSaidText told (Some sdp) None = ⊥
IsSaidText told (Some sdp) (Some text) =
    ((octets : List ℕ) → told sdp octets → octets ≡ text) × IsShortText (told sdp)

-- the SDP text by which a run opens its receiver: that which was read of the source that is given;
-- or, where none is given, that of the first capture
abbrev pub IsOpeningText : {S : Type 0} → (S → List ℕ → Type 0) → Option S → List (List ℕ)
    → List ℕ → Type 0
IsOpeningText told None captures text = said_behind None captures ≡ Some text
IsOpeningText told (Some sdp) captures text = told sdp text

-- The lines of a receiver were printed, and a sink took its file: it was opened with this window
-- and source, and by the SDP text that is so, and was given these datagrams, of which it holds the
-- Frames.
pub record SavesHolding (window source : List ℕ) (IsText : List ℕ → Type 0)
    (datagrams : List (List ℕ)) (wanted : Bool) (shown shown' old new : List ℕ) : Type 0 where
  pub receiver : State
  pub window_is : AreTimestamps window receiver.opening.window
  pub source_is : IsSourceText source receiver.opening.ssrc
  pub announced : (text : List ℕ) → IsText text → AnnouncesStream text receiver.opening
  pub holds : Holds receiver datagrams
  pub printed : shown' ≡ shown ++ taken_text wanted receiver datagrams
  pub taken : new ≡ old ++ state_text (kept_of receiver)

-- So it is of what was read of the captures: the datagrams are all of theirs, in order. A text is
-- given, or there is a capture; that text isn't too long, and each capture was read to its end.
pub record Receives {S : Type 0} (window source : List ℕ) (sdp : Option S)
    (told : S → List ℕ → Type 0) (captures : List S) (wanted : Bool)
    (shown shown' old new : List ℕ) : Type 0 where
  pub saved : (octets : List (List ℕ)) → AllZip told captures octets
      → SavesHolding window source (IsOpeningText told sdp octets)
      (flat_map capture_datagrams octets) wanted shown shown' old new
  pub opened : sdp ≡ None → captures ≡ [] → ⊥
  pub short : MatchOption sdp ⊤ (λ s. IsShortText (told s))
  pub whole : AreReadWhole [] told captures

-- the same of files, each taken so, where the SDP text is given itself
pub record ReceivesFiles {S : Type 0} (window source : List ℕ) (sdp : Option (List ℕ))
    (ways : List (Result Flows Refusal)) (told : S → List ℕ → Type 0) (files : List S)
    (wanted : Bool) (shown shown' old new : List ℕ) : Type 0 where
  pub saved : (octets : List (List ℕ)) → AllZip told files octets
      → SavesHolding window source (λ text. said_behind sdp octets ≡ Some text)
      (files_datagrams ways octets) wanted shown shown' old new
  pub opened : sdp ≡ None → files ≡ [] → ⊥
  pub whole : AreReadWhole ways told files

-- ---- a receiver of which a first part was written

-- A receiver was opened with this window and source, and by the SDP text that is so, and was given
-- these datagrams, of which it holds the Frames.
pub record IsOpenedHolding (window source : List ℕ) (IsText : List ℕ → Type 0)
    (datagrams : List (List ℕ)) (receiver : State) : Type 0 where
  pub window_is : AreTimestamps window receiver.opening.window
  pub source_is : IsSourceText source receiver.opening.ssrc
  pub announced : (text : List ℕ) → IsText text → AnnouncesStream text receiver.opening
  pub holds : Holds receiver datagrams

-- a receiver is that of a run, by what was read of the captures
abbrev pub IsReceiverOfRun : {S : Type 0} → List ℕ → List ℕ → Option S → (S → List ℕ → Type 0)
    → List S → State → Type 0
IsReceiverOfRun window source sdp told captures receiver = (octets : List (List ℕ))
    → AllZip told captures octets → IsOpenedHolding window source (IsOpeningText told sdp octets)
    (flat_map capture_datagrams octets) receiver

-- the same of files, each taken so, where the SDP text is given itself
abbrev pub IsReceiverOfFiles : {S : Type 0} → List ℕ → List ℕ → Option (List ℕ)
    → List (Result Flows Refusal) → (S → List ℕ → Type 0) → List S → State → Type 0
IsReceiverOfFiles window source sdp ways told files receiver = (octets : List (List ℕ))
    → AllZip told files octets → IsOpenedHolding window source
    (λ text. said_behind sdp octets ≡ Some text) (files_datagrams ways octets) receiver
