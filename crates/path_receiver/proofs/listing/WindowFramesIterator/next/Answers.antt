use Rattle.std.proofs.Common.{◌≡◌, ◌⊎◌, ◌-◌, ◌∙◌, ℕ, List, arith, drop, inl, inr, length, sym, take}
use Rattle.std.proofs.lemmas.List.{take_rest}
use Rattle.st_format.specs.Raster.{Raster}
use Rattle.path_receiver.proofs.Listed.{zip_first, zip_none}
use Rattle.path_receiver.proofs.listing.WindowFramesIterator.next.Goals as goal
use Rattle.path_receiver.proofs.listing.WindowFramesIterator.next.Goals.{then-timestamps-eq0-via-then-timestamps-eq0, then-timestamps-eq0-via-else-timestamps-eq0+then-frames-eq0}

pub returns-then-timestamps-eq0-clause-steps : goal.returns-then-timestamps-eq0-clause-steps
returns-then-timestamps-eq0-clause-steps g c =
    let ts : List ℕ = c.self.inside.timestamps.now in
    let fs : List Raster = c.self.inside.frames.now in
    let none : (length ts ≡ 0) ⊎ (length fs ≡ 0) =
    elim c.then-timestamps-eq0.branch [
      | then-timestamps-eq0-via-then-timestamps-eq0 w ↦ inl w.if-timestamps-eq0.true
      | then-timestamps-eq0-via-else-timestamps-eq0+then-frames-eq0 w ↦ inr w.if-frames-eq0.true
    ] in
    (sym c.self.view_is ∙ zip_none ts fs none, sym c.self.view_is ∙ zip_none ts fs none)

pub returns-clause-steps : goal.returns-clause-steps
returns-clause-steps g c =
    let ts : List ℕ = c.self.inside.timestamps.now in
    let fs : List Raster = c.self.inside.frames.now in
    sym c.self.view_is
    ∙ zip_first ts (take (length ts - 1) (drop 1 ts)) fs (take (length fs - 1) (drop 1 fs))
    c.index-frames-0.result (omega (arith, c.if-timestamps-eq0.false))
    (omega (arith, c.if-frames-eq0.false)) c.index-frames-0.is (take_rest ts 1) (take_rest fs 1)
