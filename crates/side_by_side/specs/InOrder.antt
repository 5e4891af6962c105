-- Which records of files went side by side, as far as these stand (own).
use Rattle.std.specs.Prelude.{ℕ, zero, suc, ◌+◌, ◌-◌, List, [], ◌∷◌, length, Option, None, Some}
use Rattle.media_file.specs.Records.{Entry}
use Rattle.recording_engines.specs.Joining.{Strand}
use Rattle.recording_engines.specs.Steps.{Standing, lefts, wholes}
use Rattle.side_by_side.specs.Going.{first_place}
use Rattle.side_by_side.specs.Strands.{goings_in}
use Rattle.side_by_side.specs.declared.going.Going.{Going}
use Rattle.side_by_side.specs.declared.steering.Steering.{Steering}

-- how many records files have
abbrev pub record_count : List Strand → ℕ
record_count [] = 0
record_count (s ∷ ss) = length s.entries + record_count ss

-- the first of some records, and those behind it
abbrev pub first_entry : List Entry → Option Entry
first_entry [] = None
first_entry (e ∷ es) = Some e

-- some records but the first
abbrev pub tail_of : List Entry → List Entry
tail_of [] = []
tail_of (e ∷ es) = es

-- the first record of the file of a place, and the files without it
abbrev pub first_entry_at : ℕ → List Strand → Option Entry
first_entry_at place [] = None
first_entry_at zero (s ∷ ss) = first_entry s.entries
first_entry_at (suc place) (s ∷ ss) = first_entry_at place ss

-- the files without the first record of the one of this place
abbrev pub without_at : ℕ → List Strand → List Strand
without_at place [] = []
without_at zero (s ∷ ss) = record { entries = tail_of s.entries; fault = s.fault } ∷ ss
without_at (suc place) (s ∷ ss) = s ∷ without_at place ss

-- records with this one before them; where there is none, none
abbrev pub before_rest : Option Entry → List Entry → List Entry
before_rest None rest = []
before_rest (Some e) rest = e ∷ rest

-- the first record of the file that goes first, and those behind it
abbrev pub next_first : Option (ℕ × Going) → List Strand → (List Strand → List Entry) → List Entry
next_first None strands rest = []
next_first (Some x) strands rest =
    before_rest (first_entry_at x.0 strands) (rest (without_at x.0 strands))

-- the first so many records of files, in the order in which they go
unfoldable pub first_in_order : ℕ → Steering → List Strand → List Entry
first_in_order zero s strands = []
first_in_order (suc n) s strands =
    next_first (first_place (goings_in s strands)) strands (first_in_order n s)

-- The records that went of files: as many as were read and aren't left.
unfoldable pub gone_of : Steering → List Standing → List Entry
gone_of s ss =
    first_in_order (record_count (wholes ss []) - record_count (lefts ss [])) s (wholes ss [])
