use Rattle.std.proofs.Common.{ℕ, get_or, sym, ap, ◌∙◌, arith}
use Rattle.st_format.specs.declared.cell.Cell.{Cell}
use Rattle.frame_assembly.specs.Packed.{marked}
use Rattle.frame_assembly.specs.Settled.{settled_cell}
use Rattle.frame_assembly.proofs.Segments.{marked_whole}
use Rattle.frame_assembly.proofs.settling.settle_group.Goals as goal

pub returns-then-mark-eq-PRESENT : goal.returns-then-mark-eq-PRESENT
returns-then-mark-eq-PRESENT c i lt =
    sym (ap
    (λ (m : ℕ). settled_cell (marked m i (get_or c.args.samples.now i 0))
    (get_or c.args.base.now i 0)) c.if-mark-eq-PRESENT.true
    ∙ ap (λ (d : Cell). settled_cell d (get_or c.args.base.now i 0))
    (marked_whole i (get_or c.args.samples.now i 0) (omega arith)))
