-- Which packet numbers came, of a run of numbers modulo 2 ^ 32.
use Rattle.std.specs.Prelude.{◌≡◌, ◌↔◌, ℕ, ◌+◌, ◌-◌, ◌%◌, ◌^◌, ◌<◌, ◌≤◌, Bool, true, false, nat_lt}
use Rattle.std.specs.Prelude.{if◌then◌else◌, List, [], ◌∷◌, ◌++◌, length, map, get_or, set, codes}
use Rattle.std.specs.List.Sorted.{IsStrictlyIncreasing}
use Rattle.st_format.specs.Member.{IsMember}
use Rattle.packet_numbers.specs.BitList.{union_of_flags}
use Rattle.packet_numbers.specs.declared.seq_map.SeqMapFault.{SeqMapFault}
use Rattle.packet_numbers.specs.declared.seq_map.SeqMapFault.TheVariants.{NoMemory, BadCount}

-- The first number, and for each place, in order, whether it was noted
pub record Numbers : Type 0 where
  pub first : ℕ
  pub noted : List Bool

-- how many packet numbers a map has places for
abbrev pub number_count : Numbers → ℕ
number_count m = length m.noted

-- how many places a map may have (own)
pub record IsCount (count : ℕ) : Type 0 where
  pub some : 1 ≤ count
  pub most : count ≤ 1048576

-- what is true of every map
pub record IsNumbers (m : Numbers) : Type 0 where
  pub first : m.first < 2 ^ 32
  pub count : IsCount (length m.noted)

-- The place of a packet number is how far it is behind the first, modulo 2 ^ 32.
abbrev pub number_place : Numbers → ℕ → ℕ
number_place m number = (number + (2 ^ 32 - m.first)) % 2 ^ 32

-- Noted: the places that were noted. All are below the count.
abbrev pub IsNoted : Numbers → ℕ → Type 0
IsNoted m place = get_or m.noted place false ≡ true

-- with one place more, where it is below the count
abbrev pub with_place : Numbers → ℕ → Numbers
with_place m place = record { first = m.first; noted = set m.noted place true }

-- a map after these packet numbers were noted, one after the other
abbrev pub after_notes : Numbers → List ℕ → Numbers
after_notes m [] = m
after_notes m (number ∷ numbers) = after_notes (with_place m (number_place m number)) numbers

-- the same first number, and as many places
pub record AreAlike (m n : Numbers) : Type 0 where
  pub first : m.first ≡ n.first
  pub count : number_count m ≡ number_count n

-- the places of both
abbrev pub union : Numbers → Numbers → Numbers
union m n = record { first = m.first; noted = union_of_flags m.noted n.noted }

-- A maximal run of places that were not noted: none of its places was, and those before and behind
-- it were, where there are such places.
pub record IsMissingRun (m : Numbers) (start len : ℕ) : Type 0 where
  pub some : 0 < len
  pub within : start + len ≤ number_count m
  pub missing : (place : ℕ) → start ≤ place → place < start + len → IsNoted m place → ⊥
  pub before : 0 < start → IsNoted m (start - 1)
  pub behind : start + len < number_count m → IsNoted m (start + len)

-- The runs, each by its first packet number and its length, are the maximal runs, no other and each
-- once, from the first number on.
pub record AreMissingRuns (m : Numbers) (runs : List (ℕ × ℕ)) : Type 0 where
  pub each : (number len : ℕ)
      → IsMember (number, len) runs ↔ ((number < 2 ^ 32) × IsMissingRun m
      (number_place m number) len)
  pub order : IsStrictlyIncreasing (map (λ run. number_place m run.0) runs)

-- The same list place by place, of flags from a place on: no place from start up to there was
-- noted. Runs are told by their first place.
abbrev pub closed_run : ℕ → ℕ → List (ℕ × ℕ)
closed_run start end = if nat_lt start end then (start, end - start) ∷ [] else []

-- the runs of flags from a place on, where none was noted from start up to it
abbrev pub runs_from : ℕ → ℕ → List Bool → List (ℕ × ℕ)
runs_from start place [] = closed_run start place
runs_from start place (true ∷ flags) =
    closed_run start place ++ runs_from (place + 1) (place + 1) flags
runs_from start place (false ∷ flags) = runs_from start (place + 1) flags

-- by its first packet number
abbrev pub numbered_run : ℕ → (ℕ × ℕ) → (ℕ × ℕ)
numbered_run first run = ((first + run.0) % 2 ^ 32, run.1)

-- the runs of numbers that never came, as `missing_runs` answers them: first number and count
abbrev pub missing_runs_of : Numbers → List (ℕ × ℕ)
missing_runs_of m = map (numbered_run m.first) (runs_from 0 0 m.noted)

-- the numbers of the refusals
abbrev pub seq_map_fault_number : SeqMapFault → ℕ
seq_map_fault_number NoMemory = 1
seq_map_fault_number BadCount = 2

-- the names of the refusals, as `name` answers them (own)
abbrev pub seq_map_fault_name : SeqMapFault → List ℕ
seq_map_fault_name NoMemory = codes "NoMemory"
seq_map_fault_name BadCount = codes "BadCount"

-- the name of the one refusal of `absorb` (own)
abbrev pub opened_unlike_name : List ℕ
opened_unlike_name = codes "OpenedUnlike"
