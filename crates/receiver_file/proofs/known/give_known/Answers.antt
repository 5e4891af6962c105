use Rattle.std.proofs.Common.{◌≡◌, ◌*◌, ◌∙◌, ℕ, List, arith, length, subst, sym}
use Rattle.st_format.specs.declared.cell.Cell.{Cell}
use Rattle.st_format.specs.declared.format.Format.{Format}
use Rattle.st_format.specs.Samples.{values_in}
use Rattle.frame_assembly.specs.Rows.{replaced_cells}
use Rattle.frame_assembly.specs.declared.state.GroupState.{GroupState}
use Rattle.media_file.specs.Groups.{Shape, cells_by}
use Rattle.receiver_file.specs.Known.{cells_known, shape_in}
use Rattle.receiver_file.specs.Taking.{IsGivenGroup}
use Rattle.media_file.proofs.Once.{shape_is}
use Rattle.receiver_file.proofs.GroupsFound.{values_long}
use Rattle.receiver_file.proofs.TakenGroups.{given_missing, given_replaced, start_inside}
use Rattle.receiver_file.proofs.WholeRuns.{length-cells_by, valued_cells, valued_long}
use Rattle.receiver_file.proofs.known.give_known.Goals as goal

-- a group of a state, which a match found
of_state : (s : Shape) (number : ℕ) (state found : GroupState) (octets : List ℕ)
    (old new : List Cell) → state ≡ found
    → IsGivenGroup s number (cells_known s found octets) old new
    → IsGivenGroup s number (cells_known s state octets) old new
of_state s number state found octets old new e p =
    subst (λ (x : GroupState). IsGivenGroup s number (cells_known s x octets) old new) (sym e) p

pub returns-in-Gone-clause-given : goal.returns-in-Gone-clause-given
returns-in-Gone-clause-given g c =
    of_state (shape_in c.args.format.now) c.args.number c.args.state _ c.args.octets.now _ _
    c.in-Gone.is
    (given_missing (shape_in c.args.format.now) c.args.number c.args.groups c.args.frame.now.cells
    c.requires.number c.requires.blank)

pub returns-in-Whole-clause-given : goal.returns-in-Whole-clause-given
returns-in-Whole-clause-given g c =
    let f : Format = c.args.format.now in
    let s = shape_in f in
    let n : ℕ = c.args.number in
    let o : List ℕ = c.args.octets.now in
    let old : List Cell = c.args.frame.now.cells in
    let new : List Cell = c.set_groups.new.self.cells in
    let one : length o ≡ s.octets * 1 = omega (arith, c.requires.octets) in
    let long : length (valued_cells s o) ≡ s.samples =
    (let e = valued_long s 1 o (shape_is f.sampling f.depth) one in omega (arith, e)) in
    of_state s n c.args.state _ o old new c.in-Whole.is
    (given_replaced s n (valued_cells s o) old new long
    (start_inside c.args.frame.now f n c.facts.ensures.whole c.requires.format
    (omega (arith, c.requires.number, c.requires.groups)))
    (subst (λ (h : Format). new
    ≡ replaced_cells ((shape_in h).samples * n) (valued_cells (shape_in h) o) old)
    c.requires.format c.set_groups.ensures.cells))

pub returns-in-Mixed-clause-given : goal.returns-in-Mixed-clause-given
returns-in-Mixed-clause-given g c =
    let f : Format = c.args.format.now in
    let s = shape_in f in
    let n : ℕ = c.args.number in
    let o : List ℕ = c.args.octets.now in
    let old : List Cell = c.args.frame.now.cells in
    let new : List Cell = c.give_mixed.new.frame.cells in
    of_state s n c.args.state _ o old new c.in-Mixed.is
    (given_replaced s n (cells_by c.in-Mixed.mask (values_in s.bits o)) old new
    (length-cells_by c.in-Mixed.mask (values_in s.bits o)
    ∙ values_long s o (shape_is f.sampling f.depth) c.requires.octets)
    (start_inside c.args.frame.now f n c.facts.ensures.whole c.requires.format
    (omega (arith, c.requires.number, c.requires.groups)))
    c.give_mixed.ensures.cells)
