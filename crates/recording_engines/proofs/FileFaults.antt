-- The first fault of a file, and what it is as a fault that ends a run.
use Rattle.std.proofs.Common.{◌≡◌, ℕ, zero, suc, ◌≤◌, inl, inr, List, [], ◌∷◌, ◌++◌}
use Rattle.std.proofs.Common.{Bool, true, false, Option, None, Some, Result, Ok, Err, length}
use Rattle.std.proofs.Common.{append-nil, append_assoc, arith, refl, sym, ap, ◌∙◌}
use Rattle.std.proofs.lemmas.List.{length-append}
use Rattle.std.specs.Option.{option_map}
use Rattle.std.specs.Prelude.{if◌then◌else◌}
use Rattle.flow.specs.declared.flows.Flows.{Flows}
use Rattle.media_file.specs.Fronts.{front_at}
use Rattle.media_file.specs.Reading.{fault_at, fault_by, rest_at}
use Rattle.media_file.specs.Records.{AllFit, Entry, Fits, record_text, records_text, rest_text}
use Rattle.media_file.specs.declared.fault.FileFault.{FileFault}
use Rattle.media_file.specs.declared.fault.FileFault.TheVariants as file
use Rattle.media_file.proofs.Entries.{rest_again, rest_shrinks}
use Rattle.pcap_file.specs.Runs.{fault_in, packets_in, most_packet}
use Rattle.pcap_file.specs.declared.fault.RecordingFault.{RecordingFault}
use Rattle.pcap_file.specs.declared.fault.RecordingFault.TheVariants as recording
use Rattle.recording_reader.specs.Files.{HasWrongPart, IfFile, IsFileFault, records_of_file}
use Rattle.recording_reader.specs.Files.{IsFrontFault, IsWholeBy, IsWholeCapture, IsWholeFile}
use Rattle.recording_reader.specs.Files.{capture_records, records_behind, records_by}
use Rattle.recording_reader.specs.Kinds.{is_recording}
use Rattle.recording_reader.specs.Opening.{CountsOpening}
use Rattle.recording_reader.specs.Records.{records_of}
use Rattle.recording_reader.specs.declared.fault.FileOpeningFault.{FileOpeningFault}
use Rattle.recording_reader.specs.declared.fault.FileOpeningFault.TheVariants.{NoFlows, NoMemory}
use Rattle.recording_reader.specs.declared.fault.FileOpeningFault.TheVariants.{Reading}
use Rattle.recording_reader.specs.declared.fault.ReadingFault.{ReadingFault}
use Rattle.recording_reader.specs.declared.fault.ReadingFault.TheVariants.{Capture, Recording}
use Rattle.recording_reader.proofs.Files.{front_first, front_packets}
use Rattle.run_outcome.specs.Fault.{Blames, counts}
use Rattle.run_outcome.specs.Refusing.{OfRefusal}
use Rattle.run_outcome.specs.declared.fault.Fault.{Fault}
use Rattle.run_outcome.specs.declared.fault.Fault.TheVariants.{Refused, Device, Memory}
use Rattle.run_outcome.specs.declared.refusal.Refusal.{Refusal}
use Rattle.run_outcome.specs.LowerFaults.{reading_fault}
use Rattle.run_outcome.proofs.Blaming.{reading_blames}
use Rattle.recording_engines.specs.Faults.{opening_fault}
use Rattle.recording_engines.specs.Joining.{Strand}
use Rattle.recording_engines.specs.Strands.{fault_behind, fault_of_file, fault_past, fault_up_to}
use Rattle.recording_engines.specs.Strands.{records_fault, strand_in}

-- ---- behind records

bound_by : (n m : ℕ) (r : Result (Entry × List ℕ) FileFault) (octets : List ℕ)
    → ((x : Entry × List ℕ) → r ≡ Ok x → length x.1 ≤ length octets) → length octets ≤ n
    → length octets ≤ m
    → ((o : List ℕ) → length o ≤ n → length o ≤ m → fault_up_to n o ≡ fault_up_to m o)
    → fault_past r (fault_up_to n) ≡ fault_past r (fault_up_to m)
bound_by n m (Ok x) octets shrinks p q same =
    let s : length x.1 ≤ length octets = shrinks x refl in
    same x.1 (omega (arith, s, p)) (omega (arith, s, q))
bound_by n m (Err f) octets shrinks p q same = refl

-- a bound that is as long as the octets is as good as another
bound : (n m : ℕ) (octets : List ℕ) → length octets ≤ n → length octets ≤ m
    → fault_up_to n octets ≡ fault_up_to m octets
unfolding fault_up_to
bound zero zero octets p q = refl
bound zero (suc m) [] p q = refl
bound zero (suc m) (x ∷ octets) p q = absurd (omega arith)
bound (suc n) zero [] p q = refl
bound (suc n) zero (x ∷ octets) p q = absurd (omega arith)
bound (suc n) (suc m) [] p q = refl
bound (suc n) (suc m) (x ∷ octets) p q =
    bound_by n m (rest_at x octets) octets (λ y e. rest_shrinks x octets y e) (omega arith)
    (omega arith) (λ o a b. bound n m o a b)

-- a record at the front is none
one_past : (e : Entry) (behind : List ℕ) → Fits e
    → records_fault (record_text e ++ behind) ≡ records_fault behind
unfolding fault_up_to
one_past e behind fits =
    let rest : List ℕ = rest_text e ++ behind in
    ap (λ (r : Result (Entry × List ℕ) FileFault). fault_past r (fault_up_to (length rest)))
    (rest_again e behind fits)
    ∙ bound (length rest) (length behind) behind
    (omega (arith, length-append (rest_text e) behind)) (omega arith)

records_past : (es : List Entry) (behind : List ℕ) → AllFit es
    → records_fault (records_text es ++ behind) ≡ records_fault behind
records_past [] behind fit = refl
records_past (e ∷ es) behind fit =
    ap records_fault (append_assoc (record_text e) (records_text es) behind)
    ∙ one_past e (records_text es ++ behind) fit.0 ∙ records_past es behind fit.1

none_past : records_fault [] ≡ None
unfolding fault_up_to
none_past = refl

here_by : (r : Result (Entry × List ℕ) FileFault) (n : ℕ) (f : FileFault) → fault_by r ≡ Some f
    → fault_past r (fault_up_to n) ≡ Some f
here_by (Ok x) n f is = absurd cc
here_by (Err g) n f is = is

fault_here : (behind : List ℕ) (f : FileFault) → fault_at behind ≡ Some f
    → records_fault behind ≡ Some f
unfolding fault_up_to fault_at
fault_here [] f is = absurd cc
fault_here (x ∷ octets) f is = here_by (rest_at x octets) (length octets) f is

-- ---- of a capture

wrong_part : (octets : List ℕ) (f : FileFault) → HasWrongPart octets f
    → fault_behind (front_at octets) ≡ Some f
wrong_part octets f (inl is) = ap fault_behind is
wrong_part octets f (inr (x, front, wrong)) =
    ap fault_behind front ∙ ap records_fault wrong.parts
    ∙ records_past wrong.records wrong.behind wrong.fit ∙ fault_here wrong.behind f wrong.fault

whole_capture : (octets : List ℕ) → IsWholeCapture octets → fault_behind (front_at octets) ≡ None
whole_capture octets whole =
    ap fault_behind whole.front
    ∙ ap records_fault (sym (append-nil (records_text whole.records)))
    ∙ records_past whole.records [] whole.fit ∙ none_past

-- ---- of a file

abbrev of_capture : Option FileFault → Option ReadingFault
of_capture f = option_map (λ (g : FileFault). Capture g) f

abbrev of_recording : Option RecordingFault → Option ReadingFault
of_recording f = option_map (λ (g : RecordingFault). Recording g) f

abbrev fault_by_kind : Bool → List ℕ → Option ReadingFault
fault_by_kind b octets =
    if b then of_recording (fault_in most_packet octets)
    else of_capture (fault_behind (front_at octets))

pub fault_is : (f : ReadingFault) (octets : List ℕ) → IsFileFault f octets
    → fault_of_file octets ≡ Some f
fault_is (Capture f) octets (kind, wrong) =
    ap (λ (b : Bool). fault_by_kind b octets) kind ∙ ap of_capture (wrong_part octets f wrong)
fault_is (Recording f) octets (kind, is) =
    ap (λ (b : Bool). fault_by_kind b octets) kind ∙ ap of_recording is

none_by : (b : Bool) (octets : List ℕ) → IsWholeBy b octets → fault_by_kind b octets ≡ None
none_by true octets is = ap of_recording is
none_by false octets whole = ap of_capture (whole_capture octets whole)

pub fault_none : (octets : List ℕ) → IsWholeFile octets → fault_of_file octets ≡ None
fault_none octets whole = none_by (is_recording octets) octets whole

abbrev records_by_kind : Bool → Option Flows → List ℕ → List Entry
records_by_kind b flows octets =
    if b then records_by flows octets else capture_records octets

no_packets : (flows : Option Flows) (octets : List ℕ) → packets_in most_packet octets ≡ []
    → records_by flows octets ≡ []
no_packets None octets is = refl
no_packets (Some flows) octets is = ap (records_of flows) is

abbrev pub strand : List Entry → Option ReadingFault → Strand
strand es f = record { entries = es; fault = f }

pub strand_by : (flows : Option Flows) (octets : List ℕ) (es : List Entry) (f : Option ReadingFault)
    → records_of_file flows octets ≡ es → fault_of_file octets ≡ f
    → strand_in flows octets ≡ strand es f
strand_by flows octets es f entries fault =
    ap (λ (l : List Entry). strand l (fault_of_file octets)) entries ∙ ap (strand es) fault

-- a fault before all records
pub front_strand : (flows : Option Flows) (f : ReadingFault) (octets : List ℕ)
    → IsFrontFault f octets → strand_in flows octets ≡ strand [] (Some f)
front_strand flows (Capture f) octets (kind, front) =
    strand_by flows octets [] (Some (Capture f))
    (ap (λ (b : Bool). records_by_kind b flows octets) kind ∙ ap records_behind front)
    (fault_is (Capture f) octets (kind, inl front))
front_strand flows (Recording f) octets (kind, wrong) =
    strand_by flows octets [] (Some (Recording f))
    (ap (λ (b : Bool). records_by_kind b flows octets) kind
    ∙ no_packets flows octets (front_packets octets f wrong))
    (fault_is (Recording f) octets (kind, front_first octets f wrong))

-- ---- as a fault that ends a run

pub not_memory : (r : Refusal) → Memory ≡ Refused r → ⊥
not_memory r is = cc

pub not_device : (r : Refusal) → Device ≡ Refused r → ⊥
not_device r is = cc

-- a refusal is told of a fault of the file
pub of_file : (P : Type 0) (f : ReadingFault) (r : Refusal) → reading_fault f ≡ Refused r
    → IfFile f P → P
of_file P (Capture file.NoMemory) r told is = absurd (not_memory r told)
of_file P (Capture file.Device) r told is = absurd (not_device r told)
of_file P (Capture file.BadName) r told is = is
of_file P (Capture file.BadVersion) r told is = is
of_file P (Capture file.Truncated) r told is = is
of_file P (Capture file.BadField) r told is = is
of_file P (Capture file.TrailingBytes) r told is = is
of_file P (Capture file.MixedGroup) r told is = is
of_file P (Capture file.TooManyRecords) r told is = is
of_file P (Recording recording.Device) r told is = absurd (not_device r told)
of_file P (Recording recording.Truncated) r told is = is
of_file P (Recording recording.BadMagic) r told is = is
of_file P (Recording recording.BadVersion) r told is = is
of_file P (Recording recording.BadBlock) r told is = is
of_file P (Recording recording.BadInterface) r told is = is
of_file P (Recording recording.TooManyInterfaces) r told is = is
of_file P (Recording recording.BadTime) r told is = is
of_file P (Recording recording.PacketTooLong) r told is = is
of_file P (Recording recording.Packed) r told is = is
of_file P (Recording recording.TooManyBlocks) r told is = is

-- so where a file isn't opened
pub opening_blames : (f : FileOpeningFault) (old new : ℕ) → CountsOpening f old new
    → Blames (counts old new ∷ []) (opening_fault f)
opening_blames NoFlows old new is = is
opening_blames NoMemory old new is = is
opening_blames (Reading f) old new is = reading_blames f old new is

-- what holds of each refusal that a fault is
pub of_each : (P : Refusal → Type 0) (f : Fault) → ((r : Refusal) → f ≡ Refused r → P r)
    → OfRefusal f P
of_each P (Refused r) is = is r refl
of_each P Device is = tt
of_each P Memory is = tt
