use Rattle.std.proofs.Common.{◌≡◌, ℕ, ◌+◌, ◌-◌, ◌*◌, ◌≤◌, List, drop, length, replicate, take}
use Rattle.std.proofs.Common.{refl, ap, ◌∙◌, arith}
use Rattle.std.proofs.lemmas.List.{length-drop, length-replicate, length-take-le}
use Rattle.st_format.specs.declared.cell.Cell.{Cell}
use Rattle.st_format.specs.declared.format.Format.{Format}
use Rattle.st_format.specs.Pgroup.{bits_of, pixel_group}
use Rattle.frame_assembly.specs.Packed.{ArePacked, cells_in, whole_marks}
use Rattle.frame_assembly.specs.Rows.{replaced_cells}
use Rattle.frame_assembly.proofs.GivenLemmas.{AreReplaced, run_replaced}
use Rattle.frame_assembly.proofs.PackedLemmas.{sizes}
use Rattle.frame_assembly.proofs.Runs.{part_between}
use Rattle.frame_assembly.proofs.Segments.{whole_cells, whole_packed}
use borrow.Rule.Slice.PartMut.{put_mid}
use Rattle.frame_assembly.proofs.rows.set_groups_of.Goals as goal

-- the marks that were written
filled : (first count : ℕ) (marks new : List ℕ) → first + count ≤ length marks
    → new ≡ replicate (length (take (first + count - first) (drop first marks))) 32768
    → new ≡ whole_marks count
filled first count marks new le e =
    e ∙ ap (λ (k : ℕ). replicate {A = ℕ} k 32768)
    (length-take-le (first + count - first) (drop first marks)
    (omega (arith, length-drop first marks)) ∙ omega arith)

-- what is left, over plain variables
whole_replaced : (f : Format) (first count z : ℕ) (from marks octets new_marks new_octets : List ℕ)
    → z ≡ (pixel_group f.sampling f.depth).octets → first + count ≤ length marks
    → length from ≡ (pixel_group f.sampling f.depth).octets * count → ArePacked f marks octets
    → new_marks ≡ replicate (length (take (first + count - first) (drop first marks))) 32768
    → new_octets ≡ from
    → AreReplaced (bits_of f.depth) (pixel_group f.sampling f.depth).octets
    (pixel_group f.sampling f.depth).samples first (whole_marks count) from marks octets
    (put_mid first (first + count - first) marks new_marks)
    (put_mid (z * first) (z * (first + count) - z * first) octets new_octets)
whole_replaced f first count z from marks octets new_marks new_octets same le long packed is_marks
    is_octets =
    run_replaced _ _ _ first count _ _ _ _ (whole_marks count) from marks octets new_marks
    new_octets (part_between _ z first count (first + count) same refl)
    (sizes f.sampling f.depth) le (length-replicate count 32768) packed
    (whole_packed _ _ _ count from (sizes f.sampling f.depth) long)
    (filled first count marks new_marks le is_marks) is_octets

pub returns-clause-packed : goal.returns-clause-packed
returns-clause-packed c =
    (whole_replaced c.args.format.now c.args.first c.args.count c.pgroup-size.result.octets
    c.args.from.now c.args.marks.now c.args.octets.now c.fill.new.self c.copy_from_slice.new.self
    c.pgroup-size.ensures.octets c.requires.inside c.requires.octets c.requires.packed
    (c.fill.ensures.after (λ y e. e)) c.copy_from_slice.ensures.after).packed

pub returns-clause-cells : goal.returns-clause-cells
returns-clause-cells c =
    let f : Format = c.args.format.now in
    let old : List Cell = cells_in f c.args.marks.now c.args.octets.now in
    (whole_replaced f c.args.first c.args.count c.pgroup-size.result.octets
    c.args.from.now c.args.marks.now c.args.octets.now c.fill.new.self c.copy_from_slice.new.self
    c.pgroup-size.ensures.octets c.requires.inside c.requires.octets c.requires.packed
    (c.fill.ensures.after (λ y e. e)) c.copy_from_slice.ensures.after).cells
    ∙ ap
    (λ (cs : List Cell). replaced_cells
    ((pixel_group f.sampling f.depth).samples * c.args.first) cs old)
    (whole_cells _ _ _ c.args.count c.args.from.now (sizes f.sampling f.depth) c.requires.octets)
