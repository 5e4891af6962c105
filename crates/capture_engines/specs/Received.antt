-- Which refusal ends a run of `receive` (own): one that holds, and none before it, in the order in
-- which it looks. What was read is told by a predicate: it holds of any octets that begin with it,
-- and of no others where the source has ended.
use Rattle.std.specs.Prelude.{◌≡◌, ℕ, ◌⊎◌, List, [], ◌∷◌, ◌++◌, length, MatchOption, IsSome, ◌<◌}
use Rattle.std.specs.Prelude.{Option, None, Some, Result, Ok, Err, true, false, ⊤}
use Rattle.flow.specs.declared.flows.Flows.{Flows}
use Rattle.media_file.specs.Fronts.{front_at}
use Rattle.media_file.specs.Reading.{fault_at}
use Rattle.media_file.specs.Records.{AllFit, Entry, records_text}
use Rattle.media_file.specs.declared.fault.FileFault.{FileFault}
use Rattle.media_file.specs.declared.fault.FileFault.TheVariants.{TooManyRecords}
use Rattle.path_receiver.specs.Opening.{AreDifferent, IsWindow, IsWindowSize}
use Rattle.path_receiver.specs.declared.fault.OpenFault.{OpenFault}
use Rattle.path_receiver.specs.declared.fault.OpenFault.TheVariants as open_fault
use Rattle.recording_reader.specs.Files.{AreFirst, IsFileFault, IsFrontFault, records_of_file}
use Rattle.recording_reader.specs.Kinds.{is_recording}
use Rattle.recording_reader.specs.declared.fault.ReadingFault.TheVariants.{Recording}
use Rattle.sdp_format.specs.Bytes.{lines}
use Rattle.sdp_format.specs.Grammar.{IsTextFault}
use Rattle.sdp_format.specs.Reading.{WantsMemory}
use Rattle.sdp_format.specs.Sections.{video_sections}
use Rattle.run_outcome.specs.Timestamps.{AreTimestamps}
use Rattle.run_outcome.specs.TextRefusals.{GivesAbove, IsSdp}
use Rattle.capture_engines.specs.Files.{AreReadWhole, HasFileText, first_way, flows_in, other_ways}
use Rattle.capture_engines.specs.Files.{way_at}
use Rattle.capture_engines.specs.Taking.{IsShortText}
use Rattle.run_outcome.specs.Sources.{IsSourceText}
use Rattle.run_outcome.specs.declared.refusal.Refusal.{Refusal}
use Rattle.run_outcome.specs.declared.refusal.Refusal.TheVariants as refusal
use Rattle.capture_engines.specs.declared.way.Way.{Way}
use Rattle.capture_engines.specs.declared.way.Way.TheVariants as way

-- ---- the words

-- The refusals of the words: the window lists no timestamps; the source is neither a number nor
-- `any`.
abbrev pub IsWordRefusal : List ℕ → List ℕ → Refusal → Type 0
IsWordRefusal window ssrc refusal.ReceiveWindow = (ts : List ℕ) → AreTimestamps window ts → ⊥
IsWordRefusal window ssrc refusal.ReceiveSource = (pin : Option ℕ) → IsSourceText ssrc pin → ⊥
IsWordRefusal window ssrc r = ⊥

-- the window is looked at first: where the source is refused, it lists timestamps
abbrev pub IsBehindWindow : List ℕ → Refusal → Type 0
IsBehindWindow window refusal.ReceiveSource = (ts : List ℕ) × AreTimestamps window ts
IsBehindWindow window r = ⊤

-- the first refusal of the words: of the source only where the window lists timestamps
abbrev pub IsFirstWordRefusal : List ℕ → List ℕ → Refusal → Type 0
IsFirstWordRefusal window ssrc r = IsWordRefusal window ssrc r × IsBehindWindow window r

-- the words ask for these timestamps, and for a source
abbrev pub AskFor : List ℕ → List ℕ → List ℕ → Type 0
AskFor window ssrc ts = AreTimestamps window ts × ((pin : Option ℕ) × IsSourceText ssrc pin)

-- the words ask for some, so they are not refused
abbrev pub SayOpening : List ℕ → List ℕ → Type 0
SayOpening window ssrc = (ts : List ℕ) × AskFor window ssrc ts

-- ---- opening a receiver

-- a receiver is opened by an SDP text: it describes a video, and the window is one
pub record Opens (window text : List ℕ) : Type 0 where
  pub sdp : IsSdp text
  pub is_window : IsWindow window

-- why a window isn't one: it has no timestamp, or more than 16; else one stands in it twice
abbrev pub IsWindowFault : List ℕ → OpenFault → Type 0
IsWindowFault window open_fault.BadWindow = IsWindowSize (length window) → ⊥
IsWindowFault window open_fault.DoubleTimestamp =
    IsWindowSize (length window) × (AreDifferent window → ⊥)
IsWindowFault window open_fault.NoMemory = ⊥

-- the refusals of opening by an SDP text: of the text; of the window, where that describes a video
abbrev pub IsOpeningRefusal : List ℕ → List ℕ → Refusal → Type 0
IsOpeningRefusal window text (refusal.Sdp at) = IsTextFault (video_sections (lines text)) at.fault
IsOpeningRefusal window text (refusal.Open e) = IsSdp text × IsWindowFault window e
IsOpeningRefusal window text r = ⊥

-- Memory is wanted to open a receiver by an SDP text: for what the text says; or for the receiver,
-- where the text describes a video and the window has no fault.
abbrev pub WantsOpening : List ℕ → List ℕ → Type 0
WantsOpening window text = WantsMemory (video_sections (lines text))
    ⊎ (IsSdp text × ((e : OpenFault) → IsWindowFault window e → ⊥))

-- The refusals of an SDP text that was read: that it is too long; else of opening by it.
abbrev pub IsGivenRefusal : List ℕ → (List ℕ → Type 0) → Refusal → Type 0
IsGivenRefusal window told refusal.ReceiveSdp = GivesAbove 16777216 told
IsGivenRefusal window told r = IsShortText told
    × ((octets : List ℕ) → told octets → IsOpeningRefusal window octets r)

-- a receiver is opened by an SDP text that was read, and that isn't too long
abbrev pub GivenOpens : List ℕ → (List ℕ → Type 0) → Type 0
GivenOpens window told = IsShortText told
    × ((octets : List ℕ) → told octets → Opens window octets)

-- the refusals of opening by a capture's text: that there is none; else of opening by it
abbrev pub IsFrontRefusal : List ℕ → List ℕ → Refusal → Type 0
IsFrontRefusal window text refusal.ReceiveNoSdp = text ≡ []
IsFrontRefusal window text r = (text ≡ [] → ⊥) × IsOpeningRefusal window text r

-- so of a file that was read, which is taken so; none is named as a capture's fault
abbrev pub IsFileOpenedRefusal : List ℕ → Way → (List ℕ → Type 0) → Refusal → Type 0
IsFileOpenedRefusal window w told (refusal.Capture f) = ⊥
IsFileOpenedRefusal window w told r = (octets : List ℕ) → told octets
    → (text : List ℕ) × HasFileText w octets text × IsFrontRefusal window text r

-- a receiver is opened by its text
abbrev pub FileOpens : List ℕ → Way → (List ℕ → Type 0) → Type 0
FileOpens window w told = (octets : List ℕ) → told octets
    → (text : List ℕ) × HasFileText w octets text × Opens window text

-- ---- a file

-- What is wrong behind the records at the front of octets: what follows is none by this fault; or
-- they are as many as are taken.
pub record HasRecordFault (octets : List ℕ) (f : FileFault) : Type 0 where
  pub records : List Entry
  pub behind : List ℕ
  pub fit : AllFit records
  pub parts : octets ≡ records_text records ++ behind
  pub fault : (fault_at behind ≡ Some f) ⊎ ((f ≡ TooManyRecords) × (length records ≡ 16777216))

-- what is wrong with a capture: its front, or what is behind its records
abbrev pub HasCaptureFault : List ℕ → FileFault → Type 0
HasCaptureFault octets f = (front_at octets ≡ Err f)
    ⊎ ((x : List ℕ × List ℕ) × (front_at octets ≡ Ok x) × HasRecordFault x.1 f)

-- the refusal of a capture that was read: this is wrong with it
abbrev pub IsCaptureRefusal : (List ℕ → Type 0) → Refusal → Type 0
IsCaptureRefusal told (refusal.Capture f) =
    (octets : List ℕ) → told octets → HasCaptureFault octets f
IsCaptureRefusal told r = ⊥

-- a file that is taken so is a capture: it begins as no recording, or is taken as a capture
-- whatever it begins with
abbrev pub IsCaptureBy : Way → List ℕ → Type 0
IsCaptureBy way.Capture octets = ⊤
IsCaptureBy w octets = is_recording octets ≡ false

-- so of a file that is taken so
abbrev pub IsPlainRefusal : Way → (List ℕ → Type 0) → Refusal → Type 0
IsPlainRefusal w told r = IsCaptureRefusal told r
    × ((octets : List ℕ) → told octets → IsCaptureBy w octets)

-- that of a recording which is taken by flows: its first fault
abbrev pub IsRecordingRefusal : Option Flows → (List ℕ → Type 0) → Refusal → Type 0
IsRecordingRefusal flows told (refusal.Recording f) = IsSome flows
    × ((octets : List ℕ) → told octets → IsFileFault (Recording f) octets)
IsRecordingRefusal flows told r = ⊥

-- The first records of a recording, by flows, are as many as are taken.
pub record HasManyRecords (flows : Option Flows) (octets : List ℕ) : Type 0 where
  pub records : List Entry
  pub kind : is_recording octets ≡ true
  pub first : AreFirst records (records_of_file flows octets)
  pub count : length records ≡ 16777216

-- that a recording has so many
abbrev pub IsManyRefusal : Option Flows → (List ℕ → Type 0) → Refusal → Type 0
IsManyRefusal flows told r = (r ≡ refusal.Capture TooManyRecords) × IsSome flows
    × ((octets : List ℕ) → told octets → HasManyRecords flows octets)

-- that a recording is not taken, so
abbrev pub IsUntakenRefusal : Way → (List ℕ → Type 0) → Refusal → Type 0
IsUntakenRefusal (way.Refused e) told r =
    (r ≡ e) × ((octets : List ℕ) → told octets → is_recording octets ≡ true)
IsUntakenRefusal w told r = ⊥

-- what stops a file that is taken so
abbrev pub StopsFile : Way → (List ℕ → Type 0) → Refusal → Type 0
StopsFile w told r = IsPlainRefusal w told r ⊎ IsRecordingRefusal (flows_in w) told r
    ⊎ IsManyRefusal (flows_in w) told r ⊎ IsUntakenRefusal w told r

-- The refusals of a file: what stops it; and of opening by it, where no receiver is open yet.
abbrev pub IsTakeRefusal : {X : Type 0} → List ℕ → Way → Option X → (List ℕ → Type 0) → Refusal
    → Type 0
IsTakeRefusal window w begun told r =
    StopsFile w told r ⊎ ((begun ≡ None) × IsFileOpenedRefusal window w told r)

-- ---- files

-- one of some files that are taken so is this
abbrev pub OneFileIs : {S : Type 0} → (Way → S → Type 0) → List (Result Flows Refusal) → List S
    → Type 0
OneFileIs Is ways [] = ⊥
OneFileIs Is ways (s ∷ ss) = Is (first_way ways) s ⊎ OneFileIs Is (other_ways ways) ss

-- the refusals of opening by the first of some files: there may be none
abbrev pub FirstFileRefuses : {S : Type 0} → List ℕ → List (Result Flows Refusal)
    → (S → List ℕ → Type 0) → List S → Refusal → Type 0
FirstFileRefuses window ways f [] r = r ≡ refusal.ReceiveNoSdp
FirstFileRefuses window ways f (s ∷ ss) r = IsFileOpenedRefusal window (first_way ways) (f s) r

-- The refusals of files: what stops one; and of opening by the first, where no receiver is open
-- yet.
abbrev pub IsFilesRefusal : {S X : Type 0} → List ℕ → Option X → List (Result Flows Refusal)
    → (S → List ℕ → Type 0) → List S → Refusal → Type 0
IsFilesRefusal window begun ways f files r = OneFileIs (λ w s. StopsFile w (f s) r) ways files
    ⊎ ((begun ≡ None) × FirstFileRefuses window ways f files r)

-- ---- the first refusal of files

-- a capture's front is at fault
abbrev pub IsCaptureFrontRefusal : (List ℕ → Type 0) → Refusal → Type 0
IsCaptureFrontRefusal told (refusal.Capture f) =
    (octets : List ℕ) → told octets → front_at octets ≡ Err f
IsCaptureFrontRefusal told r = ⊥

-- so of a file that is taken so
abbrev pub IsPlainFrontRefusal : Way → (List ℕ → Type 0) → Refusal → Type 0
IsPlainFrontRefusal w told r = IsCaptureFrontRefusal told r
    × ((octets : List ℕ) → told octets → IsCaptureBy w octets)

-- so is the front of a recording, which is taken by flows
abbrev pub IsRecordingFrontRefusal : Option Flows → (List ℕ → Type 0) → Refusal → Type 0
IsRecordingFrontRefusal flows told (refusal.Recording f) = IsSome flows
    × ((octets : List ℕ) → told octets → IsFrontFault (Recording f) octets)
IsRecordingFrontRefusal flows told r = ⊥

-- what stops a file that is taken so at its front
abbrev pub StopsFront : Way → (List ℕ → Type 0) → Refusal → Type 0
StopsFront w told r = IsPlainFrontRefusal w told r ⊎ IsRecordingFrontRefusal (flows_in w) told r
    ⊎ IsUntakenRefusal w told r

-- that it has as many records as are taken; or it has fewer, up to its fault
abbrev pub IsBehindFew : Way → (List ℕ → Type 0) → Refusal → Type 0
IsBehindFew w told r = (r ≡ refusal.Capture TooManyRecords)
    ⊎ ((octets : List ℕ) → told octets → length (records_of_file (flows_in w) octets) < 16777216)

-- The refusal of a file, by what is looked at first: what stops it at its front; of opening by its
-- text, where that front has no fault and no receiver is open; and, where one is or is opened by
-- it, what stops it.
abbrev pub IsTurnRefusal : List ℕ → Way → Type 0 → (List ℕ → Type 0) → Refusal → Type 0
IsTurnRefusal window w Unopened told r = StopsFront w told r
    ⊎ (Unopened × IsFileOpenedRefusal window w told r)
    ⊎ ((Unopened → FileOpens window w told) × StopsFile w told r × IsBehindFew w told r)

-- of the first of a list this holds, where there is one
abbrev pub IfFirst : {S : Type 0} → (S → Type 0) → List S → Type 0
IfFirst Is [] = ⊤
IfFirst Is (s ∷ ss) = Is s

-- A file of some is refused, each taken so, and none before it: those were taken to their ends,
-- and, where no receiver was open, by the text of the first.
pub record IsFirstRefused {S : Type 0} (window : List ℕ) (Unopened : Type 0)
    (ways : List (Result Flows Refusal)) (told : S → List ℕ → Type 0) (files : List S) (r : Refusal)
    : Type 0 where
  pub front : List S
  pub at : S
  pub behind : List S
  pub parts : files ≡ front ++ at ∷ behind
  pub whole : AreReadWhole ways told front
  pub opened : Unopened → IfFirst (λ s. FileOpens window (first_way ways) (told s)) front
  pub refused : IsTurnRefusal window (way_at ways (length front)) (Unopened × (front ≡ []))
      (told at) r

-- The first refusal of files: that there is none, and no receiver is open; of one.
abbrev pub IsFirstFilesRefusal : {S X : Type 0} → List ℕ → Option X → List (Result Flows Refusal)
    → (S → List ℕ → Type 0) → List S → Refusal → Type 0
IsFirstFilesRefusal window begun ways told files r =
    ((begun ≡ None) × (files ≡ []) × (r ≡ refusal.ReceiveNoSdp))
    ⊎ IsFirstRefused window (begun ≡ None) ways told files r

-- ---- the run

-- The refusal of the captures, for a window: of the SDP text that is given; else of the captures.
abbrev pub IsGivenCapturesRefusal : {S : Type 0} → List ℕ → Option S → (S → List ℕ → Type 0)
    → List S → Refusal → Type 0
IsGivenCapturesRefusal window sdp told captures r =
    MatchOption sdp ⊥ (λ s. IsGivenRefusal window (told s) r)
    ⊎ (MatchOption sdp ⊤ (λ s. GivenOpens window (told s))
    × IsFirstFilesRefusal window sdp [] told captures r)

-- The refusal of `receive`: of the words; else of the captures, for the timestamps that are asked
-- for.
abbrev pub IsReceiveRefusal : {S : Type 0} → List ℕ → List ℕ → Option S → (S → List ℕ → Type 0)
    → List S → Refusal → Type 0
IsReceiveRefusal window ssrc sdp told captures r = IsFirstWordRefusal window ssrc r
    ⊎ ((ts : List ℕ) × AskFor window ssrc ts × IsGivenCapturesRefusal ts sdp told captures r)

-- so of files, for a window, each taken so, where the SDP text is given itself
abbrev pub IsGivenFilesRefusal : {S : Type 0} → List ℕ → Option (List ℕ)
    → List (Result Flows Refusal) → (S → List ℕ → Type 0) → List S → Refusal → Type 0
IsGivenFilesRefusal window sdp ways told files r =
    MatchOption sdp ⊥ (λ text. IsOpeningRefusal window text r)
    ⊎ (MatchOption sdp ⊤ (λ text. Opens window text)
    × IsFirstFilesRefusal window sdp ways told files r)

-- The refusal of files that are received so: of the words; else of the files, for the timestamps
-- that are asked for.
abbrev pub IsReceivingRefusal : {S : Type 0} → List ℕ → List ℕ → Option (List ℕ)
    → List (Result Flows Refusal) → (S → List ℕ → Type 0) → List S → Refusal → Type 0
IsReceivingRefusal window ssrc sdp ways told files r = IsFirstWordRefusal window ssrc r
    ⊎ ((ts : List ℕ) × AskFor window ssrc ts × IsGivenFilesRefusal ts sdp ways told files r)
