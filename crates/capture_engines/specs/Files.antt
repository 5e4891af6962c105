-- Files of datagrams, as they are taken (own): a capture, or a recording of another tool by the
-- flows of two paths.
use Rattle.std.specs.Prelude.{◌≡◌, ℕ, zero, suc, ◌⊎◌, List, [], ◌∷◌, ◌++◌, map, Option, None, Some}
use Rattle.std.specs.Prelude.{IsSome, Result, Ok, Err, true, false, ◌<◌, length, ⊤}
use Rattle.flow.specs.declared.flows.Flows.{Flows}
use Rattle.media_file.specs.Fronts.{front_at}
use Rattle.media_file.specs.Records.{Entry}
use Rattle.recording_reader.specs.Files.{HasFrontBy, IsWholeFile, capture_records}
use Rattle.recording_reader.specs.Files.{records_of_file}
use Rattle.recording_reader.specs.Kinds.{is_recording}
use Rattle.run_outcome.specs.declared.refusal.Refusal.{Refusal}
use Rattle.capture_engines.specs.declared.way.Way.{Way}
use Rattle.capture_engines.specs.declared.way.Way.TheVariants as way

-- the octets of the datagrams of records
abbrev pub octets_of : List Entry → List (List ℕ)
octets_of records = map (λ e. e.octets) records

-- ---- how a file is taken

-- the flows by which a recording is taken; none where it is refused, or taken as a capture
abbrev pub flows_in : Way → Option Flows
flows_in (way.Flows flows) = Some flows
flows_in (way.Refused r) = None
flows_in way.Capture = None

-- a file is taken by these flows, or a recording is not, for this reason
abbrev pub way_by : Result Flows Refusal → Way
way_by (Ok flows) = way.Flows flows
way_by (Err r) = way.Refused r

-- how the first file is taken, and how the others are; one of which nothing is said as a capture
abbrev pub first_way : List (Result Flows Refusal) → Way
first_way [] = way.Capture
first_way (w ∷ ws) = way_by w

-- how the files behind the first are taken
abbrev pub other_ways : List (Result Flows Refusal) → List (Result Flows Refusal)
other_ways [] = []
other_ways (w ∷ ws) = ws

-- how the file of a place is
abbrev pub way_at : List (Result Flows Refusal) → ℕ → Way
way_at ways zero = first_way ways
way_at ways (suc place) = way_at (other_ways ways) place

-- ---- its text

-- Octets are a file whose front has no fault, with this text before its records, and which is
-- taken so: a recording, by flows, has none, and a capture has it in its front.
abbrev pub HasFileText : Way → List ℕ → List ℕ → Type 0
HasFileText w octets text =
    ((is_recording octets ≡ true) × IsSome (flows_in w) × (text ≡ []) × HasFrontBy true octets)
    ⊎ ((rest : List ℕ) × (is_recording octets ≡ false) × (front_at octets ≡ Ok (text, rest)))

-- ---- its datagrams

-- those of a capture, up to its end or its first fault
abbrev pub capture_datagrams : List ℕ → List (List ℕ)
capture_datagrams octets = octets_of (capture_records octets)

-- those of a file that is taken so, up to its end or its first fault
abbrev pub file_datagrams : Way → List ℕ → List (List ℕ)
file_datagrams w octets = octets_of (records_of_file (flows_in w) octets)

-- those of files, one behind the other
abbrev pub files_datagrams : List (Result Flows Refusal) → List (List ℕ) → List (List ℕ)
files_datagrams ways [] = []
files_datagrams ways (octets ∷ files) =
    file_datagrams (first_way ways) octets ++ files_datagrams (other_ways ways) files

-- ---- files that were taken to their ends

-- Octets are a file that is taken so to its end: it has no fault and fewer records than are taken,
-- and where it is a recording there are flows by which it is.
pub record IsTakenWhole (w : Way) (octets : List ℕ) : Type 0 where
  pub whole : IsWholeFile octets
  pub few : length (records_of_file (flows_in w) octets) < 16777216
  pub by_flows : is_recording octets ≡ true → IsSome (flows_in w)

-- what was read is such a file
abbrev pub IsReadWhole : Way → (List ℕ → Type 0) → Type 0
IsReadWhole w told = (octets : List ℕ) → told octets → IsTakenWhole w octets

-- so it is of each of some files that are taken so
abbrev pub AreReadWhole : {S : Type 0} → List (Result Flows Refusal) → (S → List ℕ → Type 0)
    → List S → Type 0
AreReadWhole ways told [] = ⊤
AreReadWhole ways told (s ∷ ss) =
    IsReadWhole (first_way ways) (told s) × AreReadWhole (other_ways ways) told ss
