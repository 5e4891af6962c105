-- The pgroups of mark words and packed octets, as they are written (own).
use Rattle.std.specs.Prelude.{◌≡◌, ℕ, Option, List, [], ◌∷◌, ◌++◌, take, drop}
use Rattle.std.specs.Io.KnownBytes.{Appends}
use Rattle.frame_assembly.specs.Marks.{state_of_mark}
use Rattle.receiver_file.specs.Known.{known_text}

-- groups of these mark words, each of so many octets
unfoldable pub marked_text : ℕ → List ℕ → List ℕ → List ℕ
marked_text size [] octets = []
marked_text size (mark ∷ marks) octets =
    known_text (state_of_mark mark) (take size octets) ++ marked_text size marks (drop size octets)

-- Of some octets a sink took the first, and the rest is kept
pub record Passes (old new : Option (List ℕ)) (octets rest : List ℕ) : Type 0 where
  pub first : List ℕ
  pub taken : Appends old new first
  pub whole : octets ≡ first ++ rest
