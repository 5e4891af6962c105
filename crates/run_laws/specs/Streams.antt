-- What `inspect` tells of streams (own).
use Rattle.std.specs.Prelude.{ℕ, ◌<◌, List, [], ◌∷◌, Result, length, ⊤}
use Rattle.flow.specs.declared.flows.Flows.{Flows}
use Rattle.recording_reader.specs.Files.{records_of_file}
use Rattle.run_outcome.specs.declared.refusal.Refusal.{Refusal}
use Rattle.capture_engines.specs.Files.{first_way, flows_in, other_ways}

-- each of some files, taken so, has fewer records than `receive` takes
abbrev pub HaveFew : List (Result Flows Refusal) → List (List ℕ) → Type 0
HaveFew ways [] = ⊤
HaveFew ways (octets ∷ files) =
    (length (records_of_file (flows_in (first_way ways)) octets) < 16777216)
    × HaveFew (other_ways ways) files
