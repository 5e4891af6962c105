-- What the timestamps are found in, and by what (own). What was read is told by a predicate: it
-- holds of any octets that begin with it, and of no others where the source has ended.
use Rattle.std.specs.Prelude.{◌≡◌, ℕ, ◌<◌, ◌≤◌, ◌⊎◌, ⊤, List, [], ◌∷◌, MatchOption, Option, None}
use Rattle.std.specs.Prelude.{Some, Result, length}
use Rattle.std.specs.List.{AllZip}
use Rattle.sdp_format.specs.Bytes.{lines}
use Rattle.sdp_format.specs.Grammar.{IsDescribed}
use Rattle.sdp_format.specs.Sections.{Description, video_sections}
use Rattle.flow.specs.declared.flows.Flows.{Flows}
use Rattle.capture_engines.specs.Files.{AreReadWhole, files_datagrams, first_way}
use Rattle.capture_engines.specs.Received.{FileOpens, IsGivenFilesRefusal, Opens}
use Rattle.capture_engines.specs.Sent.{FirstIs}
use Rattle.capture_engines.specs.Taking.{FileGoes, FilesGo, RecordsGo, said_behind}
use Rattle.capture_engines.specs.declared.way.Way.{Way}
use Rattle.path_receiver.specs.declared.fault.OpenFault.TheVariants as open_fault
use Rattle.run_outcome.specs.declared.refusal.Refusal.{Refusal}
use Rattle.run_outcome.specs.declared.refusal.Refusal.TheVariants as refusal
use Rattle.window_finding.specs.First.{first_timestamps}
use Rattle.window_finding.specs.declared.finder.Finder.{Finder}
use Rattle.window_finding.specs.declared.finder.Sought.{Sought}

-- an SDP text announces this payload type
pub record AnnouncesType (text : List ℕ) (number : ℕ) : Type 0 where
  pub description : Description
  pub described : IsDescribed (video_sections (lines text)) description
  pub payload_type : number ≡ description.leg.payload_type

-- a window is that of the first timestamps of these datagrams, by the payload type that a text
-- announces
pub record IsFirstWindow (count : ℕ) (ssrc : Option ℕ) (said : Option (List ℕ))
    (datagrams : List (List ℕ)) (window : List ℕ) : Type 0 where
  pub payload_type : ℕ
  pub announced : (text : List ℕ) → said ≡ Some text → AnnouncesType text payload_type
  pub first : window ≡ first_timestamps count payload_type ssrc datagrams

-- So it is of what was read of files, each taken so, whatever is behind that: by the SDP text that
-- is given, or, where none is, by that of the first file, and nothing is wrong with it. Where fewer
-- are found than are sought, the files were read to their ends, without a fault.
pub record FindsFirst {S : Type 0} (count : ℕ) (ssrc : Option ℕ) (sdp : Option (List ℕ))
    (ways : List (Result Flows Refusal)) (told : S → List ℕ → Type 0) (files : List S)
    (window : List ℕ) : Type 0 where
  pub found : (octets : List (List ℕ)) → AllZip told files octets
      → IsFirstWindow count ssrc (said_behind sdp octets) (files_datagrams ways octets) window
  pub given : MatchOption sdp ⊤ (λ text. Opens (0 ∷ []) text)
  pub first : sdp ≡ None → FirstIs (λ s. FileOpens (0 ∷ []) (first_way ways) (told s)) files
  pub whole : length window < count → AreReadWhole ways told files

-- ---- on the way there

-- Of these datagrams these timestamps were found, as it was asked for, by what this text announces.
pub record FindsSought {A : Type 0} (o : Sought) (text : List ℕ) (s : Finder A)
    (datagrams : List (List ℕ)) : Type 0 where
  pub sought : s.sought ≡ o
  pub announced : AnnouncesType text s.payload_type
  pub first : s.window.items ≡ first_timestamps o.count s.payload_type o.ssrc datagrams

-- the same, or that the finding has not begun, by no text
abbrev pub FindsSoFar : {A : Type 0} → Sought → Option (Finder A) → Option (List ℕ)
    → List (List ℕ) → Type 0
FindsSoFar o None None datagrams = datagrams ≡ []
FindsSoFar o None (Some text) datagrams = ⊥
FindsSoFar o (Some s) None datagrams = ⊥
FindsSoFar o (Some s) (Some text) datagrams = FindsSought o text s datagrams

-- those of datagrams, of a file, and of all files were
abbrev pub FindsRecords : {A : Type 0} → Sought → List ℕ → List (List ℕ) → Option (Finder A)
    → Option (Finder A) → Type 0
FindsRecords o text datagrams before after =
    RecordsGo text datagrams (FindsSoFar o before) (FindsSoFar o after)

-- the finding goes on over a file that is taken so: what was found then is of its datagrams too
abbrev pub FindsFile : {A : Type 0} → Sought → Way → (List ℕ → Type 0) → Option (Finder A)
    → Option (Finder A) → Type 0
FindsFile o w told before after = FileGoes w told (FindsSoFar o before) (FindsSoFar o after)

-- the finding goes on over files in their order, each taken in its own way
abbrev pub FindsFiles : {S A : Type 0} → Sought → List (Result Flows Refusal)
    → (S → List ℕ → Type 0) → List S → Option (Finder A) → Option (Finder A) → Type 0
FindsFiles o ways told files before after =
    FilesGo ways told files (FindsSoFar o before) (FindsSoFar o after)

-- as many were found as are sought
abbrev pub IsFull : {A : Type 0} → Option (Finder A) → Type 0
IsFull begun = MatchOption begun ⊥ (λ s. s.sought.count ≤ length s.window.items)

-- ---- refusals

-- The refusal of what was read: as `receive` tells it, for a window of one timestamp, with which
-- nothing is wrong: of the SDP text that is given; else of the first of the files that is refused,
-- where those before it were read to their ends.
abbrev pub IsFindingRefusal : {S : Type 0} → Option (List ℕ) → List (Result Flows Refusal)
    → (S → List ℕ → Type 0) → List S → Refusal → Type 0
IsFindingRefusal sdp ways told files r = IsGivenFilesRefusal (0 ∷ []) sdp ways told files r

-- the refusal: of what was read; or, where nothing is wrong with that, that no timestamp came
abbrev pub IsFindRefusal : {S : Type 0} → ℕ → Option ℕ → Option (List ℕ)
    → List (Result Flows Refusal) → (S → List ℕ → Type 0) → List S → Refusal → Type 0
IsFindRefusal count ssrc sdp ways told files r = IsFindingRefusal sdp ways told files r
    ⊎ ((r ≡ refusal.Open open_fault.BadWindow) × FindsFirst count ssrc sdp ways told files [])
