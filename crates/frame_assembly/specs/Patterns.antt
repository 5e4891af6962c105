-- Patterns: the values of a fill by the numbers of samples (own).
use Rattle.std.specs.Prelude.{◌≡◌, ℕ, List, map, slice_index}
use Rattle.std.specs.List.{range_with_len}
use Rattle.st_format.specs.declared.sampling.Sampling.{Sampling}
use Rattle.st_format.specs.Position.{component_in_row}
use Rattle.frame_assembly.specs.declared.base.Base.{Base}
use Rattle.frame_assembly.specs.declared.base.Base.TheVariants.{Fill}

-- a pattern for a base: where that is a fill, the value of each sample's component, for as many
-- samples as a block of groups has at most
abbrev pub IsPatternOf : {A : Type 0} → Base A → Sampling → List ℕ → Type 0
IsPatternOf base s pattern =
    (fill : List ℕ) → base ≡ Fill fill
    → pattern ≡ map (λ k. slice_index fill (component_in_row s k)) (range_with_len 0 768)
