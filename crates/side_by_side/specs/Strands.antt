-- Records of files in the order in which they go side by side (own).
use Rattle.std.specs.Prelude.{◌≡◌, ℕ, zero, suc, List, [], ◌∷◌, map, Some}
use Rattle.std.specs.List.{AllByRecursion}
use Rattle.media_file.specs.Records.{Entry}
use Rattle.recording_engines.specs.Imported.{AreOver}
use Rattle.recording_engines.specs.Joining.{ComesNoFault, Strand}
use Rattle.side_by_side.specs.Going.{first_place, going_by}
use Rattle.side_by_side.specs.Steering.{stamp_of}
use Rattle.side_by_side.specs.declared.going.Going.{Going}
use Rattle.side_by_side.specs.declared.going.Going.TheVariants.{Never}
use Rattle.side_by_side.specs.declared.steering.Steering.{Steering}

-- when the first of some records goes
abbrev pub going_in : Steering → List Entry → Going
going_in s [] = Never
going_in s (e ∷ es) = going_by (stamp_of s e.octets)

-- so of the records that are left of each file
abbrev pub goings_in : Steering → List Strand → List Going
goings_in s strands = map (λ x. going_in s x.entries) strands

-- no file is at its fault: a record is left of it, or it has none
abbrev pub AllRunning : List Strand → Type 0
AllRunning strands = AllByRecursion (λ x. ComesNoFault x.entries x.fault) strands

-- A record is the first that is left of the file of a place. Without it, these are left.
abbrev pub TakesAt : ℕ → List Strand → Entry → List Strand → Type 0
TakesAt place [] e left = ⊥
TakesAt place (s ∷ ss) e [] = ⊥
TakesAt zero (s ∷ ss) e (l ∷ ls) =
    (s ≡ record { entries = e ∷ l.entries; fault = l.fault }) × (ls ≡ ss)
TakesAt (suc place) (s ∷ ss) e (l ∷ ls) = (l ≡ s) × TakesAt place ss e ls

-- A record is the one that goes next: the first of the file that goes first, while no file is at
-- its fault. Without it, these are left.
pub record GoesNext (s : Steering) (strands : List Strand) (e : Entry) (left : List Strand) : Type 0
  where
    pub place : ℕ
    pub going : Going
    pub first : first_place (goings_in s strands) ≡ Some (place, going)
    pub running : AllRunning strands
    pub takes : TakesAt place strands e left

-- Records of files go in this order, each file's in its own; these are left.
abbrev pub Goes : Steering → List Strand → List Entry → List Strand → Type 0
Goes s strands [] left = left ≡ strands
Goes s strands (e ∷ es) left =
    (behind : List Strand) × GoesNext s strands e behind × Goes s behind es left

-- Records of files go in this order, up to the files' ends: all of all of them, and no file has a
-- fault.
pub record GoesWhole (s : Steering) (strands : List Strand) (entries : List Entry) : Type 0 where
  pub left : List Strand
  pub goes : Goes s strands entries left
  pub over : AreOver left
