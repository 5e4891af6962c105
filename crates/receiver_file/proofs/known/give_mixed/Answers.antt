use Rattle.std.proofs.Common.{◌≡◌, ◌+◌, ◌*◌, ◌/◌, ◌%◌, ◌<◌, ◌∙◌, ℕ, List, ap, arith}
use Rattle.std.proofs.Common.{◌≤◌, subst, sym, true}
use Rattle.std.specs.Int.{bit_at}
use Rattle.st_format.specs.declared.cell.Cell.{Cell}
use Rattle.st_format.specs.declared.format.Format.{Format}
use Rattle.st_format.specs.Position.{group_start}
use Rattle.st_format.specs.Samples.{values_in}
use Rattle.pgroup_pack.specs.Groups.{blanked_samples}
use Rattle.frame_assembly.specs.declared.state.GroupState.TheVariants.{Mixed}
use Rattle.frame_assembly.specs.Rows.{given_cells, replaced_cells}
use Rattle.receiver_file.specs.Known.{shape_in}
use Rattle.receiver_file.proofs.Knowing.{given_mixed}
use Rattle.receiver_file.proofs.KnownReads.{known_bits, known_zero}
use Rattle.receiver_file.proofs.known.give_mixed.Goals as goal

pub set_group-requires-clause-bits : goal.set_group-requires-clause-bits
set_group-requires-clause-bits g c =
    subst (λ (h : Format). (i : ℕ) → (shape_in h).samples ≤ i → bit_at c.args.mask i ≡ 0)
    (sym c.requires.format)
    (known_bits (shape_in c.args.format.now) (Mixed c.args.mask) c.args.octets.now
    c.requires.known)

pub set_group-requires-clause-zero : goal.set_group-requires-clause-zero
set_group-requires-clause-zero g c =
    subst (λ (h : Format). values_in (shape_in h).bits c.args.octets.now
    ≡ blanked_samples c.args.mask (values_in (shape_in h).bits c.args.octets.now))
    (sym c.requires.format)
    (known_zero (shape_in c.args.format.now) (Mixed c.args.mask) c.args.octets.now
    c.requires.known)

pub returns-clause-cells : goal.returns-clause-cells
returns-clause-cells g c =
    let f : Format = c.args.format.now in
    let s = shape_in f in
    let n : ℕ = c.args.number in
    let per : ℕ = c.row_groups-per_row.result in
    let old : List Cell = c.args.frame.now.cells in
    let vs : List ℕ = values_in s.bits c.args.octets.now in
    let some : 0 < per =
    subst (λ (k : ℕ). 0 < k) (sym c.row_groups-per_row.ensures.value)
    c.row_groups-per_row.ensures.some in
    let at : n / per * per + n % per ≡ n = omega (arith, some) in
    let place : group_start f (n / per) (n % per) ≡ s.samples * n =
    ap (λ (k : ℕ). s.samples * (n / per * k + n % per)) (sym c.row_groups-per_row.ensures.value)
    ∙ ap (λ (k : ℕ). s.samples * k) at in
    subst (λ (h : Format). c.set_group.new.self.cells
    ≡ replaced_cells (group_start h (n / per) (n % per))
    (given_cells true c.args.mask (values_in (shape_in h).bits c.args.octets.now)) old)
    c.requires.format c.set_group.ensures.cells
    ∙ ap (λ (k : ℕ). replaced_cells k (given_cells true c.args.mask vs) old) place
    ∙ ap (λ (cells : List Cell). replaced_cells (s.samples * n) cells old)
    (given_mixed c.args.mask vs)
