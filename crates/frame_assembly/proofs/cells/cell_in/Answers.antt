use Rattle.std.proofs.Common.{ℕ, ◌/◌, ◌%◌, get_or, ap, sym, ◌∙◌}
use Rattle.st_format.specs.Pgroup.{pixel_group}
use Rattle.frame_assembly.specs.Packed.{marked}
use Rattle.frame_assembly.proofs.PackedLemmas.{sizes}
use Rattle.frame_assembly.proofs.CellLemmas.{get_or-number}
use Rattle.frame_assembly.proofs.cells.cell_in.Goals as goal

pub returns : goal.returns
returns c =
    let k : ℕ = c.args.number in
    let same = c.pgroup-samples.ensures.samples in
    c.marked_cell.ensures
    ∙ ap
    (λ (s : ℕ). marked (get_or c.args.marks.now (k / s) 0)
    (k % s) c.sample_at-value.result) same
    ∙ ap
    (marked (get_or c.args.marks.now
    (k / (pixel_group c.args.format.now.sampling c.args.format.now.depth).samples) 0)
    (k %
    (pixel_group c.args.format.now.sampling c.args.format.now.depth).samples))
    c.sample_at-value.ensures
    ∙ sym
    (get_or-number _ _ _ k c.args.marks.now c.args.octets.now
    (sizes c.args.format.now.sampling c.args.format.now.depth) c.requires.packed.long
    c.requires.below)
