-- What `import` takes of files: the records of captures, and those of the datagrams of recordings
-- (own).
use Rattle.std.specs.Prelude.{◌≡◌, ◌≢◌, ℕ, zero, suc, ◌⊎◌, if◌then◌else◌, List, [], ◌∷◌, ◌++◌}
use Rattle.std.specs.Prelude.{Option, None, Some, IsSome, Result, Ok, Err, length, replicate, true}
use Rattle.std.specs.Option.{option_map}
use Rattle.flow.specs.Flow.{IsOnePlace}
use Rattle.flow.specs.declared.flows.Flows.{Flows}
use Rattle.recording_counts.specs.declared.omission.Omission.{Omission}
use Rattle.media_file.specs.Fronts.{front_at}
use Rattle.media_file.specs.Reading.{rest_at}
use Rattle.media_file.specs.Records.{Entry}
use Rattle.media_file.specs.declared.fault.FileFault.{FileFault}
use Rattle.pcap_file.specs.Runs.{fault_in, most_packet}
use Rattle.recording_engines.specs.Joining.{Strand}
use Rattle.recording_reader.specs.Files.{omissions_of_file, records_of_file}
use Rattle.recording_reader.specs.Kinds.{is_recording}
use Rattle.recording_reader.specs.declared.fault.ReadingFault.{ReadingFault}
use Rattle.recording_reader.specs.declared.fault.ReadingFault.TheVariants.{Capture, Recording}

-- ---- the fault of a file

-- The fault behind the records at the front of octets, of which there are at most so many; none
-- where they are all.
abbrev pub fault_past : Result (Entry × List ℕ) FileFault → (List ℕ → Option FileFault)
    → Option FileFault
fault_past (Ok x) next = next x.1
fault_past (Err f) next = Some f

-- the fault behind the first records of octets, at most so many; none where they are all
unfoldable pub fault_up_to : ℕ → List ℕ → Option FileFault
fault_up_to zero octets = None
fault_up_to (suc n) [] = None
fault_up_to (suc n) (first ∷ octets) = fault_past (rest_at first octets) (fault_up_to n)

-- a record has at least one octet
abbrev pub records_fault : List ℕ → Option FileFault
records_fault octets = fault_up_to (length octets) octets

-- the first fault of a capture: of its front, or behind its records
abbrev pub fault_behind : Result (List ℕ × List ℕ) FileFault → Option FileFault
fault_behind (Ok x) = records_fault x.1
fault_behind (Err f) = Some f

-- The first fault of a file, if it has one: of a recording of another tool, or of a capture.
abbrev pub fault_of_file : List ℕ → Option ReadingFault
fault_of_file octets =
    if is_recording octets then option_map (λ f. Recording f) (fault_in most_packet octets)
    else option_map (λ f. Capture f) (fault_behind (front_at octets))

-- ---- the records of files

-- the records of a file's octets, up to their end or their fault
abbrev pub strand_in : Option Flows → List ℕ → Strand
strand_in flows octets =
    record {
      entries = records_of_file flows octets;
      fault = fault_of_file octets;
    }

-- those of files, each by flows of its own
abbrev pub strands_in : List (Option Flows) → List (List ℕ) → List Strand
strands_in [] octets = []
strands_in (f ∷ fs) [] = []
strands_in (f ∷ fs) (o ∷ os) = strand_in f o ∷ strands_in fs os

-- why packets of files are left out
abbrev pub omissions_in : List (Option Flows) → List (List ℕ) → List Omission
omissions_in [] octets = []
omissions_in (f ∷ fs) [] = []
omissions_in (f ∷ fs) (o ∷ os) = omissions_of_file f o ++ omissions_in fs os

-- how many packets of files are left out
abbrev pub left_out_in : List (Option Flows) → List (List ℕ) → ℕ
left_out_in each octets = length (omissions_in each octets)

-- ---- the flows of files

-- the flow of one path alone
abbrev pub only_a : Flows → Flows
only_a flows = record { a = flows.a; b = None }

-- the flow of path B alone
abbrev pub only_b : Flows → Flows
only_b flows = record { a = None; b = flows.b }

-- a file is taken by flows, or is no recording
abbrev pub IsTakenBy : Option Flows → List ℕ → Type 0
IsTakenBy flows octets = is_recording octets ≡ true → IsSome flows

-- The flows by which so many recordings are taken: all flows for each of them; or where both paths
-- have one place, A's for the first of two, and B's for the second.
abbrev pub TellsPaths : Flows → ℕ → List Flows → Type 0
TellsPaths flows n each =
    (IsOnePlace flows × (n ≡ 2) × (each ≡ only_a flows ∷ only_b flows ∷ []))
    ⊎ ((IsOnePlace flows → ⊥) × (each ≡ replicate n flows))

-- The flows by which so many files are taken where they are recordings: all flows for each of them;
-- or where both paths have one place, A's for the first of two, and B's for the second, and none of
-- other numbers of files.
abbrev pub TakesBy : Flows → ℕ → List (Option Flows) → Type 0
TakesBy flows n each =
    ((IsOnePlace flows → ⊥) × (each ≡ replicate n (Some flows)))
    ⊎ ((IsOnePlace flows × (n ≡ 2)
    × (each ≡ Some (only_a flows) ∷ Some (only_b flows) ∷ []))
    ⊎ (IsOnePlace flows × (n ≢ 2) × (each ≡ replicate n None)))
