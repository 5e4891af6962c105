-- What `import` writes (own). What was read is told by a predicate: it holds of any octets that
-- begin with it, and of no others where the source has ended. A list of sources is one of pairs:
-- each source as it was before the run, and as it is behind it.
use Rattle.std.specs.Prelude.{◌≡◌, ◌≢◌, ◌≤◌, ℕ, ◌⊎◌, List, [], ◌∷◌, ◌++◌, length, Option, None}
use Rattle.std.specs.Prelude.{Some, ⊤}
use Rattle.std.specs.List.{AllByRecursion, AllZip, zip}
use Rattle.flow.specs.Flow.{IsOnePlace}
use Rattle.flow.specs.FlowText.{IsFlowText}
use Rattle.flow.specs.declared.flows.Flow.{Flow}
use Rattle.flow.specs.declared.flows.Flows.{Flows}
use Rattle.recording_counts.specs.LeftOut.{left_out_of}
use Rattle.media_file.specs.Fronts.{front_text}
use Rattle.media_file.specs.Records.{Entry, records_text}
use Rattle.media_file.specs.declared.front.Version.TheVariants.{Two}
use Rattle.run_outcome.specs.AtFault.{WrittenAtFault}
use Rattle.run_outcome.specs.Line.{line_text}
use Rattle.run_outcome.specs.TextRefusals.{IsCaptureText, IsTextRefusal}
use Rattle.run_outcome.specs.declared.fault.Fault.TheVariants.{Refused}
use Rattle.run_outcome.specs.declared.line.Line.TheVariants as line
use Rattle.run_outcome.specs.declared.refusal.Refusal.{Refusal}
use Rattle.run_outcome.specs.declared.refusal.Refusal.TheVariants as refusal
use Rattle.run_outcome.specs.LowerFaults.{reading_fault}
use Rattle.sdp_format.specs.Bytes.{lines}
use Rattle.sdp_format.specs.Destinations.{AreFlows, IsFlowsFault}
use Rattle.st_format.specs.declared.path.Path.TheVariants.{A, B}
use Rattle.st_format.specs.Device.{capped}
use Rattle.recording_reader.specs.declared.fault.ReadingFault.{ReadingFault}
use Rattle.recording_engines.specs.Joining.{GoFurther, IsOver, JoinsTo, OneAt, Strand}
use Rattle.recording_engines.specs.Opened.{BeginsUnrefused, IsFirstStop}
use Rattle.recording_engines.specs.Progress.{count_of_path}
use Rattle.recording_engines.specs.Strands.{IsTakenBy, TakesBy, left_out_in, omissions_in}
use Rattle.recording_engines.specs.Strands.{strands_in}
use Rattle.recording_engines.specs.declared.importing.ImportCounts.{ImportCounts}

-- ---- the flows

-- the flow of a path by its word, where there is one
abbrev pub IsAsked : Option (List ℕ) → Option Flow → Type 0
IsAsked None None = ⊤
IsAsked None (Some f) = ⊥
IsAsked (Some text) None = ⊥
IsAsked (Some text) (Some f) = IsFlowText text f

-- the flows of an SDP's one or two sections: the first is path A's, the second path B's
abbrev pub AreOf : List Flow → Flows → Type 0
AreOf [] flows = ⊥
AreOf (f ∷ []) flows = flows ≡ record { a = Some f; b = None }
AreOf (f ∷ g ∷ hs) flows = flows ≡ record { a = Some f; b = Some g }

-- where an SDP says that its video is sent to
abbrev pub SaysFlows : List ℕ → Flows → Type 0
SaysFlows said flows = (fs : List Flow) × AreFlows (lines said) fs × AreOf fs flows

-- The flows of a run: by its words, where there are any, and else those of the SDP.
abbrev pub AsksFlows : Option (List ℕ) → Option (List ℕ) → List ℕ → Flows → Type 0
AsksFlows None None said flows = SaysFlows said flows
AsksFlows None (Some text) said flows = (flows.a ≡ None) × IsAsked (Some text) flows.b
AsksFlows (Some text) b said flows = IsAsked (Some text) flows.a × IsAsked b flows.b

-- ---- the run

-- nothing is left of any
abbrev pub AreOver : List Strand → Type 0
AreOver left = AllByRecursion IsOver left

-- A text was read whole, and it was written, and behind it the records of files, of recordings by
-- the flows that were asked for, joined so; how many they are was answered, and why packets were
-- left out; and it was printed.
pub record Imports {S : Type 0} (a b : Option (List ℕ)) (Said : List ℕ → Type 0)
    (told : S → List ℕ → Type 0) (files : List S) (took took' shown shown' : List ℕ)
    (counts : ImportCounts) : Type 0
  where
    pub text : List ℕ
    pub flows : Flows
    pub each : List (Option Flows)
    pub entries : List Entry
    pub said : Said text
    pub described : IsCaptureText text
    pub asked : AsksFlows a b text flows
    pub taken_by : TakesBy flows (length files) each
    pub by_flows : (octets : List (List ℕ)) → AllZip told files octets
        → AllZip IsTakenBy each octets
    pub joined : (octets : List (List ℕ)) → AllZip told files octets
        → JoinsTo AreOver (strands_in each octets) entries
    pub few : length entries ≤ 16777216
    pub taken : took' ≡ took ++ (front_text Two text ++ records_text entries)
    pub by_a : counts.a ≡ count_of_path A entries
    pub by_b : counts.b ≡ count_of_path B entries
    pub left_out : (octets : List (List ℕ)) → AllZip told files octets
        → counts.left_out ≡ left_out_of (omissions_in each octets)
    pub printed : (octets : List (List ℕ)) → AllZip told files octets → shown' ≡ shown
        ++ (line_text (line.Recorded (count_of_path A entries) (count_of_path B entries)
        (capped (left_out_in each octets))) ++ 10 ∷ [])

-- What was written where it fails: the text that was read, and behind it the first of the records
-- to which the files are joined, of recordings by the flows that were asked for, all of it; or the
-- sink failed, and has a first part.
pub record ImportsPart {S : Type 0} (a b : Option (List ℕ)) (Said : List ℕ → Type 0)
    (told : S → List ℕ → Type 0) (Fails : Type 0) (files : List S) (took took' : List ℕ)
    : Type 0
  where
    pub text : List ℕ
    pub flows : Flows
    pub each : List (Option Flows)
    pub entries : List Entry
    pub said : Said text
    pub described : IsCaptureText text
    pub asked : AsksFlows a b text flows
    pub taken_by : TakesBy flows (length files) each
    pub joined : (octets : List (List ℕ)) → AllZip told files octets
        → JoinsTo (λ left. ⊤) (strands_in each octets) entries
    pub few : length entries ≤ 16777216
    pub taken : WrittenAtFault Fails took took' (front_text Two text ++ records_text entries)

-- so much, or nothing
abbrev pub ImportsUpTo : {S : Type 0} → Option (List ℕ) → Option (List ℕ) → (List ℕ → Type 0)
    → (S → List ℕ → Type 0) → Type 0 → List S → List ℕ → List ℕ → Type 0
ImportsUpTo a b Said told Fails files took took' =
    (took' ≡ took) ⊎ ImportsPart a b Said told Fails files took took'

-- ---- refusals

-- a word is no flow's
abbrev pub IsNoFlowRefusal : Option (List ℕ) → Refusal → Type 0
IsNoFlowRefusal None r = ⊥
IsNoFlowRefusal (Some text) r = (r ≡ refusal.ImportFlow) × ((f : Flow) → IsFlowText text f → ⊥)

-- the SDP's flows have this fault
abbrev pub IsSdpFlowsRefusal : List ℕ → Refusal → Type 0
IsSdpFlowsRefusal said (refusal.Flows f) = IsFlowsFault (lines said) f
IsSdpFlowsRefusal said r = ⊥

-- The refusals of flows: of a word; where there is none, of the SDP's.
abbrev pub IsImportFlowsRefusal : Option (List ℕ) → Option (List ℕ) → List ℕ → Refusal → Type 0
IsImportFlowsRefusal None None said r = IsSdpFlowsRefusal said r
IsImportFlowsRefusal a b said r = IsNoFlowRefusal a r ⊎ IsNoFlowRefusal b r

-- both paths have one place, and there aren't two recordings
abbrev pub IsPlacesRefusal : Flows → ℕ → Refusal → Type 0
IsPlacesRefusal flows count r = (r ≡ refusal.ImportPlaces) × IsOnePlace flows × (count ≢ 2)

-- None of files was refused before its first record; records were joined and written behind the
-- text, and it ended so.
pub record StopsImport {S : Type 0} (Ends : List Strand → Type 0) (Number : ℕ → Type 0)
    (told : S → List ℕ → Type 0) (each : List (Option Flows)) (text : List ℕ) (files : List S)
    (took took' : List ℕ) : Type 0 where
  pub begun : (octets : List (List ℕ)) → AllZip told files octets
      → AllZip BeginsUnrefused each octets
  pub entries : List Entry
  pub joined : (octets : List (List ℕ)) → AllZip told files octets
      → JoinsTo Ends (strands_in each octets) entries
  pub number : Number (length entries)
  pub taken : took' ≡ took ++ (front_text Two text ++ records_text entries)

-- The refusals of files that are written: the fault of the one whose turn it is, where no other is
-- at a fault; that there are too many records, where none is.
abbrev pub IsLateRefusal : {S : Type 0} → (S → List ℕ → Type 0) → List (Option Flows) → List ℕ
    → List S → List ℕ → List ℕ → Refusal → Type 0
IsLateRefusal told each text files took took' r =
    ((f : ReadingFault) × (reading_fault f ≡ Refused r)
    × StopsImport (OneAt f) (λ n. ⊤) told each text files took took')
    ⊎ ((r ≡ refusal.ImportRecords)
    × StopsImport GoFurther (λ n. n ≡ 16777216) told each text files took took')

-- The refusals of files by these flows: the first of one before its first record, and then nothing
-- is written; and where there is none such, one behind that.
abbrev pub IsInputsRefusal : {S : Type 0} → (S → List ℕ → Type 0) → Flows → List ℕ → List S
    → List ℕ → List ℕ → Refusal → Type 0
IsInputsRefusal told flows text files took took' r =
    (each : List (Option Flows)) × TakesBy flows (length files) each
    × (((took' ≡ took) × IsFirstStop told (zip files each) r)
    ⊎ IsLateRefusal told each text files took took' r)

-- The refusals of `import`, in their order, the first that there is: of the SDP text; of the flows;
-- of the files.
abbrev pub IsImportRefusal : {S : Type 0} → Option (List ℕ) → Option (List ℕ)
    → (List ℕ → Type 0) → (List ℕ → Type 0) → (S → List ℕ → Type 0) → List S → List ℕ → List ℕ
    → Refusal → Type 0
IsImportRefusal a b sdp Said told files took took' r =
    ((took' ≡ took) × IsTextRefusal refusal.ImportSdp sdp r)
    ⊎ ((text : List ℕ) × Said text × IsCaptureText text
    × (((took' ≡ took) × IsImportFlowsRefusal a b text r)
    ⊎ ((flows : Flows) × AsksFlows a b text flows
    × IsInputsRefusal told flows text files took took' r)))
