use Rattle.std.proofs.Common.{arith, ℕ, ◌*◌, ◌∷◌, [], Bool, List, take, replicate, bit_or, ap, sym}
use Rattle.std.proofs.Common.{◌∙◌, subst}
use Rattle.st_format.specs.declared.cell.Cell.{Cell}
use Rattle.st_format.specs.Pgroup.{bits_of, pixel_group}
use Rattle.st_format.specs.Samples.{values_in}
use Rattle.st_format.specs.Position.{group_start}
use Rattle.frame_assembly.specs.Packed.{ArePacked, cells_in}
use Rattle.frame_assembly.specs.Rows.{given_cells, replaced_cells}
use Rattle.frame_assembly.proofs.PackedLemmas.{sizes}
use Rattle.frame_assembly.proofs.GivenLemmas.{given_is, given_packed, missing_is, missing_packed}
use Rattle.frame_assembly.proofs.GivenLemmas.{none_from}
use Rattle.frame_assembly.proofs.rows.set_group_of.Goals as goal

pub put_group-requires-clause-group : goal.put_group-requires-clause-group
put_group-requires-clause-group c =
    subst (λ (m : ℕ). ArePacked c.args.format.now (m ∷ []) c.args.from.now)
    (sym c.mark-mark.ensures.mark)
    (given_packed _ _ _ c.args.contested c.args.from.now
    (sizes c.args.format.now.sampling c.args.format.now.depth) c.requires.octets
    c.requires.bits c.requires.zero)

pub put_group-requires-else-present-clause-group : goal.put_group-requires-else-present-clause-group
put_group-requires-else-present-clause-group c =
    let none : List ℕ = take {A = ℕ} c.pgroup.result.octets (replicate 15 0) in
    subst (λ (m : ℕ). ArePacked c.args.format.now (m ∷ []) none) (sym c.mark.ensures.mark)
    (missing_packed _ _ _ _ (sizes c.args.format.now.sampling c.args.format.now.depth)
    (none_from _ _ c.pgroup.ensures.octets
    (omega (arith, c.pgroup.ensures.most, c.pgroup.ensures.octets))))

pub returns-then-present-clause-cells : goal.returns-then-present-clause-cells
returns-then-present-clause-cells c =
    let old : List Cell = cells_in c.args.format.now c.args.marks.now c.args.octets.now in
    let vs : List ℕ = values_in (bits_of c.args.format.now.depth) c.args.from.now in
    c.put_group.ensures.cells
    ∙ ap
    (λ (m : ℕ). replaced_cells
    ((pixel_group c.args.format.now.sampling c.args.format.now.depth).samples *
    c.group_place-at.result) (cells_in c.args.format.now (m ∷ []) c.args.from.now) old)
    c.mark-mark.ensures.mark
    ∙ ap
    (λ (k : ℕ). replaced_cells
    ((pixel_group c.args.format.now.sampling c.args.format.now.depth).samples * k)
    (cells_in c.args.format.now
    (bit_or 32768 c.args.contested ∷ []) c.args.from.now) old) c.group_place-at.ensures.place
    ∙ ap
    (λ (cs : List Cell). replaced_cells
    (group_start c.args.format.now c.args.row c.args.group) cs old)
    (given_is _ _ _ c.args.contested c.args.from.now
    (sizes c.args.format.now.sampling c.args.format.now.depth) c.requires.octets)
    ∙ ap
    (λ (b : Bool). replaced_cells (group_start c.args.format.now c.args.row c.args.group)
    (given_cells b c.args.contested vs) old) (sym c.if-present.true)

pub returns-else-present-clause-cells : goal.returns-else-present-clause-cells
returns-else-present-clause-cells c =
    let old : List Cell = cells_in c.args.format.now c.args.marks.now c.args.octets.now in
    let vs : List ℕ = values_in (bits_of c.args.format.now.depth) c.args.from.now in
    let none : List ℕ = take {A = ℕ} c.pgroup.result.octets (replicate 15 0) in
    c.put_group-else-present.ensures.cells
    ∙ ap
    (λ (m : ℕ). replaced_cells
    ((pixel_group c.args.format.now.sampling c.args.format.now.depth).samples *
    c.group_place-at.result) (cells_in c.args.format.now (m ∷ []) none) old) c.mark.ensures.mark
    ∙ ap
    (λ (k : ℕ). replaced_cells
    ((pixel_group c.args.format.now.sampling c.args.format.now.depth).samples * k)
    (cells_in c.args.format.now (0 ∷ []) none) old) c.group_place-at.ensures.place
    ∙ ap
    (λ (cs : List Cell). replaced_cells
    (group_start c.args.format.now c.args.row c.args.group) cs old)
    (missing_is _ _ _ none c.args.from.now
    (sizes c.args.format.now.sampling c.args.format.now.depth)
    (none_from _ _ c.pgroup.ensures.octets
    (omega (arith, c.pgroup.ensures.most, c.pgroup.ensures.octets))) c.requires.octets)
    ∙ ap
    (λ (b : Bool). replaced_cells (group_start c.args.format.now c.args.row c.args.group)
    (given_cells b c.args.contested vs) old) (sym c.if-present.false)
