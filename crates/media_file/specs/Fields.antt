-- A file read from the left: what its readings are, of those that st_format has for any, by where
-- this file's faults come from.
use Rattle.std.specs.Prelude.{◌≡◌, ℕ, List, [], ◌∷◌, ⊤, Option, Result, Ok, Err}
use Rattle.std.specs.Io.KnownBytes.{Consumes}
use Rattle.st_format.specs.Given.{FailsBy, GaveFaultBy, field_by}
use Rattle.media_file.specs.declared.fault.FileFault.{FileFault}
use Rattle.media_file.specs.declared.fault.FileFault.TheVariants.{Truncated, TrailingBytes}
use Rattle.media_file.specs.Faults.{file_fault_origin}

-- so many octets
abbrev pub field_at : ℕ → List ℕ → Result (List ℕ × List ℕ) FileFault
field_at n octets = field_by Truncated n octets

-- nothing stands behind what was read
abbrev pub nothing_at : List ℕ → Result (⊤ × List ℕ) FileFault
nothing_at [] = Ok (tt, [])
nothing_at (octet ∷ octets) = Err TrailingBytes

-- a fault of the content is the first that the reading finds in what a source was to give
abbrev pub Fails : {X : Type 0} → (List ℕ → Result (X × List ℕ) FileFault) → Option (List ℕ)
    → FileFault → Type 0
Fails reading old f = FailsBy file_fault_origin reading old f

-- a fault of the content is the first that the reading finds in what a source gave
abbrev pub GaveFault : {X : Type 0} → (List ℕ → Result (X × List ℕ) FileFault) → List ℕ → List ℕ
    → Type 0 → FileFault → Type 0
GaveFault reading before now ended f = GaveFaultBy file_fault_origin reading before now ended f

-- A source gave octets of which the reading makes no value: a first part of one, or a wrong one.
pub record GivesPart {X : Type 0} (reading : List ℕ → Result (X × List ℕ) FileFault)
    (old new : Option (List ℕ)) : Type 0 where
  pub part : List ℕ
  pub given : Consumes old new part
  pub fault : FileFault
  pub none : reading part ≡ Err fault
