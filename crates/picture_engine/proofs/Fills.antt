-- Fills of one frame.
use Rattle.std.proofs.Common.{ℕ, List, [], ◌∷◌, arith}
use Rattle.std.specs.Prelude.{slice_index}
use Rattle.std.specs.Borrow.{Bor}
use Rattle.std.specs.List.{AllByRecursion}
use Rattle.st_format.specs.Picture.{FitsDepth}
use Rattle.st_format.specs.Raster.{Raster}
use Rattle.receiver_engines.specs.FillText.{IsFillText}
use Rattle.receiver_engines.specs.Inputs.{AreValues, IsFill}
use Rattle.receiver_engines.specs.Refused.{HasNoFill}
use Rattle.receiver_engines.proofs.Refusals.{unfit_fill}

-- values that fit a frame are a fill of it
pub fit_fill : (text fill : List ℕ) (q : Raster)
    → IsFillText text (slice_index fill 0) (slice_index fill 1) (slice_index fill 2)
    → AreValues fill → AllByRecursion (FitsDepth q.format) fill → IsFill fill text (q ∷ [])
fit_fill text fill q is values fit = record { is = is; values = values; fits = (fit, tt) }

-- where those of the text don't, it has none
pub unfit_frame : (text fill : List ℕ) (q : Bor Raster)
    → IsFillText text (slice_index fill 0) (slice_index fill 1) (slice_index fill 2)
    → AreValues fill → (AllByRecursion (FitsDepth q.now.format) fill → ⊥)
    → HasNoFill text (q.now ∷ [])
unfit_frame text fill q is values unfit =
    unfit_fill text fill (q ∷ []) 0 q (omega arith) is values unfit
