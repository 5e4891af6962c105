-- One pgroup: which of its samples differ from another's, and samples that are blanked (own).
use Rattle.std.specs.Prelude.{◌≡◌, ◌<◌, ℕ, ◌+◌, ◌*◌, ◌==◌, if◌then◌else◌, List, [], ◌∷◌, length}
use Rattle.std.specs.Prelude.{take, drop, max, slice_index}
use Rattle.std.specs.Int.{bit_at}

-- 1 where the samples of number i differ, else 0. Behind the last sample of both, none differs.
abbrev pub differs_at : List ℕ → List ℕ → ℕ → ℕ
differs_at vs ws i = if slice_index vs i == slice_index ws i then 0 else 1

-- values, the first of them of number i, with 0 for each whose bit of the mask is set
abbrev pub blanked_from : ℕ → ℕ → List ℕ → List ℕ
blanked_from mask i [] = []
blanked_from mask i (v ∷ vs) = (if bit_at mask i == 1 then 0 else v) ∷ blanked_from mask (i + 1) vs

-- all samples of a group, with 0 for each whose bit of the mask is set
abbrev pub blanked_samples : ℕ → List ℕ → List ℕ
blanked_samples mask vs = blanked_from mask 0 vs

-- the samples of one group of groups that have so many each
abbrev pub samples_of : ℕ → ℕ → List ℕ → List ℕ
samples_of samples group vs = take samples (drop (samples * group) vs)

-- Groups' samples, others' samples, and the groups' mark words: each word has the bit more of each
-- sample that differs, and each sample whose bit is then set is 0.
pub record AreContested (samples : ℕ) (vs ws marks new_marks new : List ℕ) : Type 0 where
  pub bits : (group : ℕ) → group < length marks → (i : ℕ)
      → bit_at (slice_index new_marks group) i
      ≡ max (bit_at (slice_index marks group) i)
      (differs_at (samples_of samples group vs) (samples_of samples group ws) i)
  pub blank : (group : ℕ) → group < length marks
      → samples_of samples group new
      ≡ blanked_samples (slice_index new_marks group) (samples_of samples group vs)
