-- What nothing speaks against: a file that was taken to its end, and a window of a receiver.
use Rattle.std.proofs.Common.{◌≡◌, ◌∙◌, ℕ, ◌<◌, ◌⊎◌, inl, inr, Bool, true, false, cond, List, []}
use Rattle.std.proofs.Common.{◌++◌, length, length-append, Option, None, Some}
use Rattle.std.proofs.Common.{refl, sym, ap, arith}
use Rattle.std.specs.Prelude.{IsSome}
use Rattle.flow.specs.declared.flows.Flows.{Flows}
use Rattle.media_file.specs.Fronts.{front_at}
use Rattle.media_file.specs.Reading.{entries_in, fault_at}
use Rattle.media_file.specs.Records.{Entry}
use Rattle.media_file.specs.declared.fault.FileFault.{FileFault}
use Rattle.media_file.specs.declared.fault.FileFault.TheVariants.{TooManyRecords}
use Rattle.media_file.proofs.Cuts.{entries_front}
use Rattle.path_receiver.specs.Opening.{IsWindow}
use Rattle.path_receiver.specs.declared.fault.OpenFault.{OpenFault}
use Rattle.path_receiver.specs.declared.fault.OpenFault.TheVariants as open_fault
use Rattle.recording_reader.specs.Files.{IsFileFault, IsWholeFile, capture_records, records_behind}
use Rattle.recording_reader.specs.Files.{records_by, records_of_file, text_before, text_of_file}
use Rattle.recording_reader.specs.Kinds.{is_recording}
use Rattle.recording_reader.specs.declared.fault.ReadingFault.{ReadingFault}
use Rattle.recording_reader.specs.declared.fault.ReadingFault.TheVariants.{Capture, Recording}
use Rattle.run_outcome.specs.declared.refusal.Refusal.{Refusal}
use Rattle.run_outcome.specs.declared.refusal.Refusal.TheVariants as why
use Rattle.recording_engines.proofs.FileFaults.{fault_is, fault_none}
use Rattle.recording_engines.specs.Strands.{fault_of_file}
use Rattle.capture_engines.specs.Files.{HasFileText, IsTakenWhole, flows_in}
use Rattle.capture_engines.specs.Received.{HasCaptureFault, IsCaptureBy, IsManyRefusal}
use Rattle.capture_engines.specs.Received.{IsPlainRefusal, IsRecordingRefusal, IsUntakenRefusal}
use Rattle.capture_engines.specs.Received.{IsWindowFault, StopsFile}
use Rattle.capture_engines.specs.declared.way.Way.{Way}
use Rattle.capture_engines.specs.declared.way.Way.TheVariants as way

-- ---- a file that was taken to its end

abbrev pub none_flows : Option Flows
none_flows = None

pub no_flows : IsSome none_flows → ⊥
no_flows is = cc

abbrev failed : ReadingFault → Option ReadingFault
failed f = Some f

no_fault : (f : ReadingFault) → (let none : Option ReadingFault = None in none ≡ failed f) → ⊥
no_fault f e = cc

pub not_both : (b : Bool) → b ≡ true → b ≡ false → ⊥
not_both b t f = cc

-- a file has one first fault, or none
pub fault_never : (octets : List ℕ) (f : ReadingFault) → fault_of_file octets ≡ None
    → IsFileFault f octets → ⊥
fault_never octets f none wrong = no_fault f (sym none ∙ fault_is f octets wrong)

-- a whole file has none
pub fault_twice : (octets : List ℕ) (f : ReadingFault) → IsWholeFile octets
    → IsFileFault f octets → ⊥
fault_twice octets f whole wrong = fault_never octets f (fault_none octets whole) wrong

-- Octets are a file that is taken so, without a fault, and fewer records than are taken.
pub record IsFaultless (w : Way) (octets : List ℕ) : Type 0 where
  pub none : fault_of_file octets ≡ None
  pub few : length (records_of_file (flows_in w) octets) < 16777216
  pub by_flows : is_recording octets ≡ true → IsSome (flows_in w)

faultless : (w : Way) (octets : List ℕ) → IsTakenWhole w octets → IsFaultless w octets
faultless w octets is = record {
  none = fault_none octets is.whole;
  few = is.few;
  by_flows = is.by_flows;
}

-- what is taken by no flows isn't a recording
not_recording : (w : Way) (octets : List ℕ) → (is_recording octets ≡ true → IsSome (flows_in w))
    → IsCaptureBy w octets → is_recording octets ≡ true → ⊥
not_recording way.Capture octets by capture kind = no_flows (by kind)
not_recording (way.Flows f) octets by capture kind = not_both (is_recording octets) kind capture
not_recording (way.Refused r) octets by capture kind = not_both (is_recording octets) kind capture

-- a capture without a fault, of few records
capture_not : (flows : Option Flows) (octets : List ℕ) (f : FileFault)
    → is_recording octets ≡ false → fault_of_file octets ≡ None
    → length (records_of_file flows octets) < 16777216 → HasCaptureFault octets f → ⊥
capture_not flows octets f kind none few (inl front) =
    fault_never octets (Capture f) none (kind, inl front)
capture_not flows octets f kind none few (inr (x, front, wrong)) = by wrong.fault
  where
    by : (fault_at wrong.behind ≡ Some f)
        ⊎ ((f ≡ TooManyRecords) × (length wrong.records ≡ 16777216)) → ⊥
    by (inl at) =
        fault_never octets (Capture f) none (
          kind,
          inr (
            x,
            front,
            record {
              records = wrong.records;
              behind = wrong.behind;
              fit = wrong.fit;
              parts = wrong.parts;
              fault = at;
            },
          ),
        )
    by (inr (same, many)) =
        let all : records_of_file flows octets ≡ wrong.records ++ entries_in wrong.behind =
        ap (λ (b : Bool). cond b (records_by flows octets) (capture_records octets)) kind
        ∙ ap records_behind front ∙ ap entries_in wrong.parts
        ∙ entries_front wrong.records wrong.behind wrong.fit in
        omega (
          arith,
          few,
          many,
          ap (λ (es : List Entry). length es) all,
          length-append wrong.records (entries_in wrong.behind),
        )

module _ (w : Way) (told : List ℕ → Type 0) (octets : List ℕ) (there : told octets)
    (is : IsFaultless w octets)
  where
    plain_by : (f : FileFault) → IsPlainRefusal w told (why.Capture f) → (b : Bool)
        → is_recording octets ≡ b → ⊥
    plain_by f wrong true kind =
        not_recording w octets is.by_flows (wrong.1 octets there) kind
    plain_by f wrong false kind =
        capture_not (flows_in w) octets f kind is.none is.few (wrong.0 octets there)

    plain_never : (r : Refusal) → IsPlainRefusal w told r → ⊥
    plain_never (why.Capture f) wrong = plain_by f wrong (is_recording octets) refl
    plain_never r wrong = absurd wrong.0

    recording_never : (r : Refusal) → IsRecordingRefusal (flows_in w) told r → ⊥
    recording_never (why.Recording f) wrong =
        fault_never octets (Recording f) is.none (wrong.1 octets there)
    recording_never r wrong = absurd wrong

    many_never : (r : Refusal) → IsManyRefusal (flows_in w) told r → ⊥
    many_never r wrong =
        let has = wrong.2 octets there in
        omega (
          arith,
          is.few,
          ap (λ (es : List Entry). length es) has.first.1,
          length-append has.records has.first.0,
          has.count,
        )

untaken_not : (w : Way) (told : List ℕ → Type 0) (octets : List ℕ) (r : Refusal) → told octets
    → (is_recording octets ≡ true → IsSome (flows_in w)) → IsUntakenRefusal w told r → ⊥
untaken_not (way.Refused e) told octets r there by wrong = no_flows (by (wrong.1 octets there))
untaken_not (way.Flows f) told octets r there by wrong = absurd wrong
untaken_not way.Capture told octets r there by wrong = absurd wrong

-- nothing stops it
pub stops_never : (w : Way) (told : List ℕ → Type 0) (octets : List ℕ) (r : Refusal) → told octets
    → IsFaultless w octets → StopsFile w told r → ⊥
stops_never w told octets r there is (inl wrong) = plain_never w told octets there is r wrong
stops_never w told octets r there is (inr (inl wrong)) =
    recording_never w told octets there is r wrong
stops_never w told octets r there is (inr (inr (inl wrong))) =
    many_never w told octets there is r wrong
stops_never w told octets r there is (inr (inr (inr wrong))) =
    untaken_not w told octets r there is.by_flows wrong

-- so of one that was taken to its end
pub stops_not : (w : Way) (told : List ℕ → Type 0) (octets : List ℕ) (r : Refusal) → told octets
    → IsTakenWhole w octets → StopsFile w told r → ⊥
stops_not w told octets r there is wrong =
    stops_never w told octets r there (faultless w octets is) wrong

-- the text of a file is the one that it is said to have
pub text_is : (w : Way) (octets text : List ℕ) → HasFileText w octets text
    → text_of_file octets ≡ text
text_is w octets text (inl (kind, flows, none, front)) =
    ap (λ (b : Bool). cond b [] (text_before (front_at octets))) kind ∙ sym none
text_is w octets text (inr (rest, kind, front)) =
    ap (λ (b : Bool). cond b [] (text_before (front_at octets))) kind ∙ ap text_before front

-- ---- a window

pub window_not : (e : OpenFault) (window : List ℕ) → IsWindow window → IsWindowFault window e → ⊥
window_not open_fault.BadWindow window is wrong = wrong is.size
window_not open_fault.DoubleTimestamp window is wrong = wrong.1 is.different
window_not open_fault.NoMemory window is wrong = wrong
