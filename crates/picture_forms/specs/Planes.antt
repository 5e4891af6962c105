-- Every step-th of a list of samples, as octets.
use Rattle.std.specs.Prelude.{◌≡◌, ℕ, ◌+◌, ◌*◌, ◌/◌, ◌%◌, ◌<◌, ◌≤◌, List, [], ◌∷◌, length}
use Rattle.std.specs.Prelude.{slice_index}
use Rattle.std.specs.List.{flat_map, range_with_len}
use Rattle.picture_forms.specs.declared.planes.Spelling.{Spelling}
use Rattle.picture_forms.specs.declared.planes.Spelling.TheVariants.{One, Little, Big}

-- a sample's octets
abbrev pub sample_text : Spelling → ℕ → List ℕ
sample_text One v = v ∷ []
sample_text Little v = v % 256 ∷ v / 256 ∷ []
sample_text Big v = v / 256 ∷ v % 256 ∷ []

-- how many octets a sample takes
abbrev pub sample_size : Spelling → ℕ
sample_size One = 1
sample_size Little = 2
sample_size Big = 2

-- the values that a spelling has room for
abbrev pub sample_limit : Spelling → ℕ
sample_limit One = 256
sample_limit Little = 65536
sample_limit Big = 65536

-- a sample of a list: the k-th from the first on, each step
abbrev pub every : List ℕ → ℕ → ℕ → ℕ → ℕ
every samples first step k = slice_index samples (first + step * k)

-- the octets of n of them, from the start-th on
unfoldable pub every_text : Spelling → List ℕ → ℕ → ℕ → ℕ → ℕ → List ℕ
every_text s samples first step start n =
    flat_map (λ k. sample_text s (every samples first step k)) (range_with_len start n)

-- a component begins within a step, and all steps of that many samples are in the list
pub record Inside (samples : List ℕ) (first step count : ℕ) : Type 0 where
  pub low : first < step
  pub within : step * count ≤ length samples

-- samples but n of them, from the start-th on, stay as they were
pub record KeepsOthers (old new : List ℕ) (first step start n : ℕ) : Type 0 where
  pub long : length new ≡ length old
  pub others : (j : ℕ) → ((k : ℕ) → start ≤ k → k < start + n → j ≡ first + step * k → ⊥)
      → slice_index new j ≡ slice_index old j
