-- What `receive` saves of files of which one is at fault (own).
use Rattle.std.specs.Prelude.{◌≡◌, ◌⊎◌, ◌∷◌, ◌++◌, ℕ, Bool, List, [], Option, None, Some, Result}
use Rattle.std.specs.Prelude.{length, false, IsTrue, MatchOption, ⊤}
use Rattle.std.specs.List.{AllZip}
use Rattle.flow.specs.declared.flows.Flows.{Flows}
use Rattle.path_receiver.specs.Frames.{State}
use Rattle.run_outcome.specs.Fault.{Blames, Failures, NoneFailed}
use Rattle.run_outcome.specs.Moments.{WasRead}
use Rattle.run_outcome.specs.Refusing.{OfRefusal}
use Rattle.run_outcome.specs.declared.fault.Fault.{Fault}
use Rattle.run_outcome.specs.declared.refusal.Refusal.{Refusal}
use Rattle.recording_reader.specs.Files.{text_of_file}
use Rattle.recording_reader.specs.Kinds.{is_recording}
use Rattle.st_format.specs.History.{since}
use Rattle.capture_engines.specs.Counted.{CountsHolding}
use Rattle.capture_engines.specs.Files.{file_datagrams, files_datagrams, way_at}
use Rattle.capture_engines.specs.Received.{IsFirstFilesRefusal}
use Rattle.capture_engines.specs.Taking.{IsOpenedHolding, IsReceiverOfFiles, SavesHolding}
use Rattle.capture_engines.specs.Taking.{TakesFiles, TakesRecords}
use Rattle.capture_engines.specs.Taking.{said_behind, said_by}
use Rattle.capture_engines.specs.declared.intake.Intake.{Intake}
use Rattle.capture_engines.specs.declared.receiving.Asked.{Asked}
use Rattle.capture_engines.specs.declared.reception.Reception.{Reception}
use Rattle.capture_engines.specs.declared.rescuing.Rescue.{Rescue}
use Rattle.capture_engines.specs.declared.rescuing.Rescue.TheVariants.{Whole, Part}
use Rattle.capture_engines.specs.declared.way.Way.{Way}

-- ---- what was taken of a file at fault

-- its text, and datagrams
pub record Front : Type 0 where
  pub text : List ℕ
  pub datagrams : List (List ℕ)

-- Of a file that ended by a fault this was taken: its text, and the first of its datagrams,
-- whatever is behind what was read of it. They are all that this has, but where the device of a
-- recording failed.
pub record IsFrontOf {S : Type 0} (w : Way) (gave : S → List ℕ) (ended : S → Type 0) (f : Fault)
    (s : S × S) (p : Front) : Type 0 where
  pub text : (octets : List ℕ) → WasRead gave ended s octets → text_of_file octets ≡ p.text
  pub first : (octets : List ℕ) → WasRead gave ended s octets
      → (rest : List (List ℕ)) × (file_datagrams w octets ≡ p.datagrams ++ rest)
  pub given : is_recording (since (gave s.0) (gave s.1)) ≡ false
      → file_datagrams w (since (gave s.0) (gave s.1)) ≡ p.datagrams
  pub refused : OfRefusal f
      (λ r. file_datagrams w (since (gave s.0) (gave s.1)) ≡ p.datagrams)

-- a file was taken so; or, where no receiver was opened by it, nothing of it was
abbrev pub MayTake : {S A : Type 0} → Asked A → Way → (S → List ℕ) → (S → Type 0) → Fault
    → Option (Intake A) → Option (Intake A) → S × S → Type 0
MayTake o w gave ended f before after s =
    ((p : Front) × IsFrontOf w gave ended f s p × TakesRecords o p.text p.datagrams before after)
    ⊎ (after ≡ before)

-- Files were taken up to a fault: all before one, that one as far as it was read, and none behind
-- it.
pub record TakesFilesUpTo {S A : Type 0} (o : Asked A) (ways : List (Result Flows Refusal))
    (gave : S → List ℕ) (ended : S → Type 0) (f : Fault) (files : List (S × S))
    (before after : Option (Intake A)) : Type 0 where
  pub front : List (S × S)
  pub at : S × S
  pub behind : List (S × S)
  pub parts : files ≡ front ++ at ∷ behind
  pub between : Option (Intake A)
  pub whole : TakesFiles o ways (WasRead gave ended) front before between
  pub part : MayTake o (way_at ways (length front)) gave ended f between after at

-- what became of files: all were taken, or those up to a fault
abbrev pub IsRescue : {S A : Type 0} → Asked A → List (Result Flows Refusal) → (S → List ℕ)
    → (S → Type 0) → List (S × S) → Option (Intake A) → Rescue A → Type 0
IsRescue o ways gave ended files before (Whole s) =
    TakesFiles o ways (WasRead gave ended) files before (Some s)
IsRescue o ways gave ended files before (Part s f) =
    TakesFilesUpTo o ways gave ended f files before (Some s)
    × OfRefusal f (IsFirstFilesRefusal o.window.items before ways (WasRead gave ended) files)

-- what that says of devices
abbrev pub RescueAccounts : {A : Type 0} → Rescue A → List Failures → Type 0
RescueAccounts (Whole s) devices = NoneFailed devices
RescueAccounts (Part s f) devices = Blames devices f

-- ---- what was saved

-- the SDP text by which a receiver is open behind the part of a file, and the datagrams of that
abbrev pub said_if : Option (List ℕ) → Option Front → Option (List ℕ)
said_if said None = said
said_if said (Some p) = said_by said p.text

-- the datagrams that were taken of a part of a file
abbrev pub datagrams_if : Option Front → List (List ℕ)
datagrams_if None = []
datagrams_if (Some p) = p.datagrams

-- What was saved and printed of files of which one is at fault: what was read of those before it,
-- and of that one, is what a receiver was given.
pub record Rescues {S : Type 0} (window source : List ℕ) (sdp : Option (List ℕ))
    (ways : List (Result Flows Refusal)) (gave : S → List ℕ) (ended : S → Type 0) (f : Fault)
    (files : List (S × S)) (wanted : Bool) (shown shown' old new : List ℕ) (r : Reception)
    : Type 0 where
  pub front : List (S × S)
  pub at : S × S
  pub behind : List (S × S)
  pub parts : files ≡ front ++ at ∷ behind
  pub part : Option Front
  pub part_is : MatchOption part ⊤
      (IsFrontOf (way_at ways (length front)) gave ended f at)
  pub saved : (octets : List (List ℕ)) → AllZip (WasRead gave ended) front octets
      → SavesHolding window source (λ text. said_if (said_behind sdp octets) part ≡ Some text)
      (files_datagrams ways octets ++ datagrams_if part) wanted shown shown' old new
  pub counted : (octets : List (List ℕ)) → AllZip (WasRead gave ended) front octets
      → CountsHolding window source (λ text. said_if (said_behind sdp octets) part ≡ Some text)
      (files_datagrams ways octets ++ datagrams_if part) r

-- ---- a receiver of which a first part was written

-- a receiver is that of files of which one came to a fault, by what was read before the fault
pub record IsReceiverOfPart {S : Type 0} (window source : List ℕ) (sdp : Option (List ℕ))
    (ways : List (Result Flows Refusal)) (gave : S → List ℕ) (ended : S → Type 0)
    (files : List (S × S)) (receiver : State) : Type 0 where
  pub front : List (S × S)
  pub at : S × S
  pub behind : List (S × S)
  pub parts : files ≡ front ++ at ∷ behind
  pub fault : Fault
  pub part : Option Front
  pub part_is : MatchOption part ⊤
      (IsFrontOf (way_at ways (length front)) gave ended fault at)
  pub held : (octets : List (List ℕ)) → AllZip (WasRead gave ended) front octets
      → IsOpenedHolding window source (λ text. said_if (said_behind sdp octets) part ≡ Some text)
      (files_datagrams ways octets ++ datagrams_if part) receiver

-- a receiver is that of all files; or, where what is before a fault is saved too, of those
abbrev pub IsReceiverOfAny : {S : Type 0} → Bool → List ℕ → List ℕ → Option (List ℕ)
    → List (Result Flows Refusal) → (S → List ℕ) → (S → Type 0) → List (S × S) → State → Type 0
IsReceiverOfAny is_sound window source sdp ways gave ended files receiver =
    IsReceiverOfFiles window source sdp ways (WasRead gave ended) files receiver
    ⊎ (IsTrue is_sound × IsReceiverOfPart window source sdp ways gave ended files receiver)
