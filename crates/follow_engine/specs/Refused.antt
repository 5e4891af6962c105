-- Which refusal ends a run of `follow` (own): one that holds, and none before it, in the order in
-- which it looks.
use Rattle.std.specs.Prelude.{◌≡◌, ◌≤◌, ◌<◌, ℕ, ◌⊎◌, ⊤, List, [], ◌∷◌, Option, Some, MatchOption}
use Rattle.std.specs.Prelude.{Result}
use Rattle.std.specs.List.{AllZip}
use Rattle.flow.specs.declared.flows.Flows.{Flows}
use Rattle.capture_engines.specs.Received.{OneFileIs}
use Rattle.capture_engines.specs.Taking.{AnnouncesStream, said_behind}
use Rattle.media_file.specs.Records.{Entry}
use Rattle.media_file.specs.declared.fault.FileFault.TheVariants.{TooManyRecords}
use Rattle.path_receiver.specs.Opening.{IsWindowSize, Opening}
use Rattle.path_receiver.specs.declared.fault.OpenFault.TheVariants as open_fault
use Rattle.recording_engines.specs.Joining.{Strand}
use Rattle.recording_reader.specs.Files.{IsFileFault, text_of_file}
use Rattle.recording_reader.specs.declared.fault.ReadingFault.{ReadingFault}
use Rattle.run_outcome.specs.Sources.{IsSourceText}
use Rattle.run_outcome.specs.TextRefusals.{IsDescriptionRefusal, IsSdp}
use Rattle.run_outcome.specs.declared.fault.Fault.TheVariants.{Refused}
use Rattle.run_outcome.specs.declared.refusal.Refusal.{Refusal}
use Rattle.run_outcome.specs.declared.refusal.Refusal.TheVariants as refusal
use Rattle.side_by_side.specs.Sides.{FirstSideAt, SideGave, strands_of}
use Rattle.side_by_side.specs.declared.side.Side.{Side}
use Rattle.side_by_side.specs.declared.steering.Steering.{Steering}
use Rattle.run_outcome.specs.LowerFaults.{reading_fault}
use Rattle.follow_engine.specs.Fronts.{HaveSoundFronts, StopsFirstFront}
use Rattle.follow_engine.specs.Order.{GoesToFault, GoesToMost, most_datagrams, strands_by}
use Rattle.follow_engine.specs.Running.{steering_of}

-- ---- the words

-- The refusals of the words: no frames, or more than 16; a source that is neither a number nor
-- `any`.
abbrev pub IsFollowWordRefusal : ℕ → List ℕ → Refusal → Type 0
IsFollowWordRefusal frames ssrc (refusal.Open open_fault.BadWindow) = IsWindowSize frames → ⊥
IsFollowWordRefusal frames ssrc refusal.ReceiveSource = (pin : Option ℕ) → IsSourceText ssrc pin → ⊥
IsFollowWordRefusal frames ssrc r = ⊥

-- the number of frames is looked at first: where the source is refused, it is one
abbrev pub IsBehindFrames : ℕ → Refusal → Type 0
IsBehindFrames frames refusal.ReceiveSource = IsWindowSize frames
IsBehindFrames frames r = ⊤

-- the first refusal of the words: of the source only where there are 1 to 16 frames
abbrev pub IsFirstOfWords : ℕ → List ℕ → Refusal → Type 0
IsFirstOfWords frames ssrc r = IsFollowWordRefusal frames ssrc r × IsBehindFrames frames r

-- the words ask for 1 to 16 frames, and for a source
abbrev pub AskForFrames : ℕ → List ℕ → Type 0
AskForFrames frames ssrc = IsWindowSize frames × ((pin : Option ℕ) × IsSourceText ssrc pin)

-- ---- the SDP text

-- the refusals of the first file's, where none is given: that it has none, or of what it says
abbrev pub IsFirstRefusal : List ℕ → Refusal → Type 0
IsFirstRefusal text r = ((r ≡ refusal.ReceiveNoSdp) × (text ≡ []))
    ⊎ ((text ≡ [] → ⊥) × IsDescriptionRefusal text r)

-- so of the first of some files, by what it told; there may be none
abbrev pub FirstRefuses : {S : Type 0} → (S → List ℕ → Type 0) → List S → Refusal → Type 0
FirstRefuses told [] r = r ≡ refusal.ReceiveNoSdp
FirstRefuses told (s ∷ ss) r =
    (octets : List ℕ) → told s octets → IsFirstRefusal (text_of_file octets) r

-- there is one, and its text describes a video
abbrev pub FirstDescribes : {S : Type 0} → (S → List ℕ → Type 0) → List S → Type 0
FirstDescribes told [] = ⊥
FirstDescribes told (s ∷ ss) = (octets : List ℕ) → told s octets → IsSdp (text_of_file octets)

-- ---- files

-- what stops files that are read, behind so many datagrams: the fault of the first that is at one,
-- behind fewer than are counted; or no more are counted
abbrev pub StopsFollowing : {A S : Type 0} → ℕ → List (Side A S) → Refusal → Type 0
StopsFollowing count sides r =
    ((f : ReadingFault) × (reading_fault f ≡ Refused r) × FirstSideAt f sides
    × (count < most_datagrams))
    ⊎ ((r ≡ refusal.Capture TooManyRecords) × (most_datagrams ≤ count))

-- so by what was read of them: all records went up to the fault; or as many as are counted
abbrev pub StopsReadSides : {A S : Type 0} → (S → List ℕ) → (S → Type 0) → Steering
    → List (Side A S) → Refusal → Type 0
StopsReadSides gave ended steering sides r =
    ((f : ReadingFault) × (reading_fault f ≡ Refused r) × FirstSideAt f sides
    × (entries : List Entry)
    × ((octets : List (List ℕ)) → AllZip (SideGave gave ended) sides octets
    → GoesToFault f steering (strands_of sides octets) entries))
    ⊎ ((r ≡ refusal.Capture TooManyRecords) × (entries : List Entry)
    × ((octets : List (List ℕ)) → AllZip (SideGave gave ended) sides octets
    → GoesToMost steering (strands_of sides octets) entries))

-- so of what was read: one file has this as its first fault
abbrev pub IsFileRefusal : (List ℕ → Type 0) → Refusal → Type 0
IsFileRefusal told r = (f : ReadingFault) × (reading_fault f ≡ Refused r)
    × ((octets : List ℕ) → told octets → IsFileFault f octets)

-- ---- the run

-- By an opening that the words and the SDP text say this holds of the files that are read side by
-- side, and of the records that went of them.
pub record GoesSoFar {S : Type 0} (ssrc : List ℕ) (sdp : Option (List ℕ))
    (ways : List (Result Flows Refusal)) (told : S → List ℕ → Type 0) (files : List S)
    (Goes : Steering → List Strand → List Entry → Type 0) : Type 0 where
  pub opening : Opening
  pub entries : List Entry
  pub source_is : IsSourceText ssrc opening.ssrc
  pub announced : (octets : List (List ℕ)) (text : List ℕ) → AllZip told files octets
      → said_behind sdp octets ≡ Some text → AnnouncesStream text opening
  pub goes : (octets : List (List ℕ)) → AllZip told files octets
      → Goes (steering_of opening) (strands_by ways octets) entries

-- This is the fault of the file whose turn it is: all records that go side by side went until one
-- is at a fault, and of those that are at one this is the first file's.
abbrev pub IsInTurnFault : {S : Type 0} → List ℕ → Option (List ℕ) → List (Result Flows Refusal)
    → (S → List ℕ → Type 0) → List S → Refusal → Type 0
IsInTurnFault ssrc sdp ways told files r = (f : ReadingFault) × (reading_fault f ≡ Refused r)
    × GoesSoFar ssrc sdp ways told files (GoesToFault f)

-- as many records went as are counted, and no file came to its fault before
abbrev pub AreTooMany : {S : Type 0} → List ℕ → Option (List ℕ) → List (Result Flows Refusal)
    → (S → List ℕ → Type 0) → List S → Type 0
AreTooMany ssrc sdp ways told files = GoesSoFar ssrc sdp ways told files GoesToMost

-- The refusals of the files' records: the first fault of the one whose turn it is; that there are
-- too many.
abbrev pub IsRecordsRefusal : {S : Type 0} → List ℕ → Option (List ℕ)
    → List (Result Flows Refusal) → (S → List ℕ → Type 0) → List S → Refusal → Type 0
IsRecordsRefusal ssrc sdp ways told files r =
    (OneFileIs (λ w s. IsFileRefusal (told s) r) ways files
    × IsInTurnFault ssrc sdp ways told files r)
    ⊎ ((r ≡ refusal.Capture TooManyRecords) × AreTooMany ssrc sdp ways told files)

-- The refusal of files: of the first front that has one; else of the first file's SDP text, where
-- none is given; else of the records.
abbrev pub IsFollowedRefusal : {S : Type 0} → List ℕ → Option (List ℕ)
    → List (Result Flows Refusal) → (S → List ℕ → Type 0) → List S → Refusal → Type 0
IsFollowedRefusal ssrc sdp ways told files r = StopsFirstFront ways told files r
    ⊎ (HaveSoundFronts ways told files
    × (MatchOption sdp (FirstRefuses told files r) (λ _. ⊥)
    ⊎ (MatchOption sdp (FirstDescribes told files) (λ _. ⊤)
    × IsRecordsRefusal ssrc sdp ways told files r)))

-- The refusal of `follow`: of the words; else of the SDP text that is given; else of the files.
abbrev pub IsFollowRefusal : {S : Type 0} → ℕ → List ℕ → Option (List ℕ)
    → List (Result Flows Refusal) → (S → List ℕ → Type 0) → List S → Refusal → Type 0
IsFollowRefusal frames ssrc sdp ways told files r = IsFirstOfWords frames ssrc r
    ⊎ (AskForFrames frames ssrc
    × (MatchOption sdp ⊥ (λ text. IsDescriptionRefusal text r)
    ⊎ (MatchOption sdp ⊤ (λ text. IsSdp text) × IsFollowedRefusal ssrc sdp ways told files r)))
