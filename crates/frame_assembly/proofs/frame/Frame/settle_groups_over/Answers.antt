use Rattle.std.proofs.Common.{◌≡◌, ℕ, ◌*◌, List, take, drop, refl, sym, ap, ◌∙◌, subst}
use Rattle.st_format.specs.declared.cell.Cell.{Cell}
use Rattle.st_format.specs.Pgroup.{pixel_group}
use Rattle.st_format.specs.Raster.{Raster}
use Rattle.frame_assembly.specs.Packed.{cells_in}
use Rattle.frame_assembly.specs.Patterns.{IsPatternOf}
use Rattle.frame_assembly.specs.Settled.{IsBaseOf, base_number, settled_numbers, settled_picture}
use Rattle.frame_assembly.proofs.SettledLemmas.{settled_as}
use Rattle.frame_assembly.proofs.frame.Frame.settle_groups_over.Goals as goal

pub returns : goal.returns
returns g c =
    let f = c.self.inside.format in
    let s : ℕ = (pixel_group f.sampling f.depth).samples in
    let items : List Cell =
    cells_in f c.self.inside.marks.items c.self.inside.octets.items in
    let lent : List Cell = cells_in f c.as_slice.result.now c.as_slice-2.result.now in
    let same : lent ≡ items =
    ap (λ (ms : List ℕ). cells_in f ms c.as_slice-2.result.now) c.as_slice.ensures.value
    ∙ ap (cells_in f c.self.inside.marks.items) c.as_slice-2.ensures.value in
    let is_base : IsBaseOf c.args.base f =
    subst (λ (q : Raster). IsBaseOf c.args.base q.format) (sym c.self.view_is)
    c.requires.base in
    record {
      settled =
          c.settle_run_over.ensures.settled
          ∙ ap (λ (xs : List ℕ). take (s * c.args.count) (drop (s * c.args.first) xs))
          (settled_as f items lent (settled_numbers lent (base_number f.sampling c.args.base))
          c.args.base is_base c.self.invariant.frame.whole same refl)
          ∙ ap
          (λ (q : Raster). take ((pixel_group q.format.sampling q.format.depth).samples * c.args.count)
          (drop ((pixel_group q.format.sampling q.format.depth).samples * c.args.first)
          (settled_picture q c.args.base).samples)) c.self.view_is;
    }

pub settle_run_over-requires-clause-pattern : goal.settle_run_over-requires-clause-pattern
settle_run_over-requires-clause-pattern g c =
    subst (λ (q : Raster). IsPatternOf c.args.base q.format.sampling c.args.pattern.now)
    (sym c.self.view_is) c.requires.pattern
