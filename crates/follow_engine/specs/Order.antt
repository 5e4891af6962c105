-- The order in which the records of files go into a stream (own).
use Rattle.std.specs.Prelude.{◌≡◌, ◌≤◌, ◌<◌, ◌⊎◌, ℕ, ⊤, List, [], ◌∷◌, Some, length, map, Result}
use Rattle.flow.specs.declared.flows.Flows.{Flows}
use Rattle.media_file.specs.Records.{Entry}
use Rattle.capture_engines.specs.Files.{first_way, flows_in, other_ways}
use Rattle.recording_engines.specs.Joining.{IsAtNoFault, Strand}
use Rattle.recording_engines.specs.Strands.{IsTakenBy, strand_in}
use Rattle.recording_reader.specs.declared.fault.ReadingFault.{ReadingFault}
use Rattle.side_by_side.specs.Strands.{Goes}
use Rattle.side_by_side.specs.declared.steering.Steering.{Steering}
use Rattle.run_outcome.specs.declared.refusal.Refusal.{Refusal}

-- the records of files, each taken so
abbrev pub strands_by : List (Result Flows Refusal) → List (List ℕ) → List Strand
strands_by ways [] = []
strands_by ways (octets ∷ files) =
    strand_in (flows_in (first_way ways)) octets ∷ strands_by (other_ways ways) files

-- each of some files, taken so, is taken by flows, or is no recording
abbrev pub AreTakenBy : List (Result Flows Refusal) → List (List ℕ) → Type 0
AreTakenBy ways [] = ⊤
AreTakenBy ways (octets ∷ files) =
    IsTakenBy (flows_in (first_way ways)) octets × AreTakenBy (other_ways ways) files

-- how many datagrams a run counts
abbrev pub most_datagrams : ℕ
most_datagrams = 18446744073709551615

-- the datagrams of records
abbrev pub datagrams_in : List Entry → List (List ℕ)
datagrams_in entries = map (λ e. e.octets) entries

-- These records are the first that go of files, each file's in its own order; others may be left.
pub record GoesFirst (s : Steering) (strands : List Strand) (entries : List Entry) : Type 0 where
  pub left : List Strand
  pub goes : Goes s strands entries left

-- The first of some files that is at a fault is at this one: none of its records is left. Of each
-- before it one is left, or it has no fault.
abbrev pub FirstIsAt : ReadingFault → List Strand → Type 0
FirstIsAt f [] = ⊥
FirstIsAt f (s ∷ ss) = (s ≡ record { entries = []; fault = Some f })
    ⊎ (IsAtNoFault s × FirstIsAt f ss)

-- These records are all that go of files until one is at a fault, fewer than are counted; of those
-- that are at one then, this is the first file's.
pub record GoesToFault (f : ReadingFault) (s : Steering) (strands : List Strand)
    (entries : List Entry) : Type 0 where
  pub left : List Strand
  pub goes : Goes s strands entries left
  pub at : FirstIsAt f left
  pub few : length entries < most_datagrams

-- These records are the first that go of files, and as many as are counted: no file came to its
-- fault before.
pub record GoesToMost (s : Steering) (strands : List Strand) (entries : List Entry) : Type 0 where
  pub goes : GoesFirst s strands entries
  pub most : most_datagrams ≤ length entries
