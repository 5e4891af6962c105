-- What a run wrote and printed that ended by a fault.
use Rattle.std.specs.Prelude.{◌≡◌, ℕ, ◌⊎◌, List, ◌++◌}
use Rattle.st_format.specs.Device.{Failed, GrowsPart}

-- A sink took octets, all; or it failed, as this says, and took a first part of them, and not all
-- (own).
abbrev pub WrittenAtFault : Type 0 → List ℕ → List ℕ → List ℕ → Type 0
WrittenAtFault Fails old new octets = (new ≡ old ++ octets) ⊎ (Fails × GrowsPart old new octets)

-- What a run that ended by a fault printed to its output: nothing; or the output failed, and has a
-- first part of such a text, and not all of it (own).
abbrev pub PrintedAtFault : {O : Type 0} → (O → List ℕ) → (O → ℕ) → (List ℕ → Type 0) → O → O
    → Type 0
PrintedAtFault took failures IsText old new =
    (new ≡ old)
    ⊎ (Failed (failures old) (failures new)
    × ((text : List ℕ) × IsText text × GrowsPart (took old) (took new) text))
