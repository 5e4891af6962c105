-- Which refusal ends a run of `loop` (own).
use Rattle.std.specs.Prelude.{ℕ, List}
use Rattle.st_format.specs.declared.format.Format.{Format}
use Rattle.run_outcome.specs.Pictures.{IsPictureRefusal, IsPlanFault, SaysPictureOf}
use Rattle.run_outcome.specs.declared.refusal.Refusal.{Refusal}
use Rattle.run_outcome.specs.declared.refusal.Refusal.TheVariants as refusal

-- The refusals of `loop` in their order: of the picture's file; that its format has no plan.
abbrev pub IsLoopRefusal : ℕ → (List ℕ → Type 0) → Refusal → Type 0
IsLoopRefusal most told (refusal.Picture f) = IsPictureRefusal told (refusal.Picture f)
IsLoopRefusal most told (refusal.Plan e) =
    (format : Format) × SaysPictureOf told format × IsPlanFault most format e
IsLoopRefusal most told r = ⊥
