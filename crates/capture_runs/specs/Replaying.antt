-- A file of which octets are given again that were read before (own).
use Rattle.std.specs.Prelude.{◌≡◌, ℕ, ◌<◌, ◌≤◌, List, [], ◌++◌, drop, length, take}
use Rattle.capture_runs.specs.declared.replayed.Keeping.{Keeping}
use Rattle.capture_runs.specs.declared.replayed.Keeping.TheVariants.{Yes}

-- What is remembered of a file is what it gave first; it gave nothing else until that was given
-- again; and nothing else where all is remembered.
pub record IsReplay (gave memory : List ℕ) (at : ℕ) (keeping : Keeping) : Type 0 where
  pub first : gave ≡ memory ++ drop (length memory) gave
  pub within : at ≤ length memory
  pub alone : at < length memory → drop (length memory) gave ≡ []
  pub kept : keeping ≡ Yes → (at ≡ length memory) × (drop (length memory) gave ≡ [])

-- what was given of it: so much of what is remembered, and what came behind that
abbrev pub replay_gave : List ℕ → List ℕ → ℕ → List ℕ
replay_gave gave memory at = take at memory ++ drop (length memory) gave
