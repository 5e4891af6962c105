use Rattle.std.proofs.Common.{ℕ, ◌*◌, length, ap, ◌∙◌, arith}
use Rattle.st_format.specs.Pgroup.{pixel_group}
use Rattle.frame_assembly.proofs.Segments.{sample_count_groups}
use Rattle.frame_assembly.proofs.frame.Frame.cell.Goals as goal

pub cell_in-requires-clause-below : goal.cell_in-requires-clause-below
cell_in-requires-clause-below g c =
    let f = c.self.inside.format in
    let k : ℕ = (pixel_group c.self.inside.format.sampling c.self.inside.format.depth).samples in
    let e =
    ap (λ (j : ℕ). k * j) (ap length c.as_slice.ensures.value ∙ c.self.invariant.groups)
    ∙ sample_count_groups c.self.inside.format in
    omega (arith, e, c.sample_number-number.ensures.below)
