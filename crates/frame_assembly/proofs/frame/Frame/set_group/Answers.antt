use Rattle.std.proofs.Common.{◌≡◌, ℕ, ◌<◌, ◌≤◌, List, length, sym, ap, ◌∙◌, subst, arith}
use Rattle.std.specs.Int.{bit_at}
use Rattle.pgroup_pack.specs.Groups.{blanked_samples}
use Rattle.st_format.specs.declared.cell.Cell.{Cell}
use Rattle.st_format.specs.declared.format.Format.{Format}
use Rattle.st_format.specs.Pgroup.{bits_of, pixel_group}
use Rattle.st_format.specs.Position.{group_start, row_groups}
use Rattle.st_format.specs.Raster.{Raster}
use Rattle.st_format.specs.Samples.{values_in}
use Rattle.frame_assembly.specs.Packed.{ArePacked, cells_in}
use Rattle.frame_assembly.specs.Rows.{given_cells, replaced_cells}
use Rattle.frame_assembly.proofs.Kept.{cells_back, kept, kept_back}
use Rattle.frame_assembly.proofs.WholeGroups.{whole_groups}
use Rattle.frame_assembly.proofs.frame.Frame.set_group.Goals as goal

pub invariant_of-self : goal.invariant_of-self
invariant_of-self g c =
    kept_back c.self.inside.format c.self.inside.marks.len c.self.inside.octets.len
    c.self.inside.marks.items c.self.inside.octets.items c.set_group_of.new.marks
    c.set_group_of.new.octets (omega arith) (omega arith)
    (kept c.self.inside.format c.set_group_of.new.marks c.set_group_of.new.octets
    (c.set_group_of.auto.marks ∙ ap length c.as_mut_slice.ensures.value
    ∙ c.self.invariant.groups) c.set_group_of.ensures.packed)

pub returns-clause-whole : goal.returns-clause-whole
returns-clause-whole g c = (invariant_of-self g c).frame.whole

pub returns-clause-fit : goal.returns-clause-fit
returns-clause-fit g c = (invariant_of-self g c).frame.fit

pub returns-clause-groups : goal.returns-clause-groups
returns-clause-groups g c = whole_groups _ _ _ (invariant_of-self g c)

pub set_group_of-requires-clause-whole : goal.set_group_of-requires-clause-whole
set_group_of-requires-clause-whole g c =
    ap length c.as_mut_slice.ensures.value ∙ c.self.invariant.groups

pub set_group_of-requires-clause-packed : goal.set_group_of-requires-clause-packed
set_group_of-requires-clause-packed g c =
    subst (λ (ms : List ℕ). ArePacked c.self.inside.format ms c.as_mut_slice-2.result.now)
    (sym c.as_mut_slice.ensures.value)
    (subst (λ (os : List ℕ). ArePacked c.self.inside.format c.self.inside.marks.items os)
    (sym c.as_mut_slice-2.ensures.value) c.self.invariant.packed)

pub returns-clause-format : goal.returns-clause-format
returns-clause-format g c =
    ap (λ (r : Raster). r.format) c.self.view_is

pub set_group_of-requires-clause-row : goal.set_group_of-requires-clause-row
set_group_of-requires-clause-row g c =
    subst (λ (r : Raster). c.args.row < r.format.height)
    (sym c.self.view_is) c.requires.row

pub set_group_of-requires-clause-group : goal.set_group_of-requires-clause-group
set_group_of-requires-clause-group g c =
    subst (λ (r : Raster). c.args.group < row_groups r.format)
    (sym c.self.view_is) c.requires.group

pub set_group_of-requires-clause-octets : goal.set_group_of-requires-clause-octets
set_group_of-requires-clause-octets g c =
    subst (λ (r : Raster). length c.args.octets.now
    ≡ (pixel_group r.format.sampling r.format.depth).octets)
    (sym c.self.view_is) c.requires.octets

pub set_group_of-requires-clause-bits : goal.set_group_of-requires-clause-bits
set_group_of-requires-clause-bits g c =
    subst (λ (r : Raster). (i : ℕ)
    → (pixel_group r.format.sampling r.format.depth).samples ≤ i → bit_at c.args.contested i ≡ 0)
    (sym c.self.view_is) c.requires.bits

pub set_group_of-requires-clause-zero : goal.set_group_of-requires-clause-zero
set_group_of-requires-clause-zero g c =
    subst (λ (r : Raster). values_in (bits_of r.format.depth) c.args.octets.now
    ≡ blanked_samples c.args.contested (values_in (bits_of r.format.depth) c.args.octets.now))
    (sym c.self.view_is) c.requires.zero

pub returns-clause-cells : goal.returns-clause-cells
returns-clause-cells g c =
    let f : Format = c.self.inside.format in
    let given : Format → List Cell =
    λ h. given_cells c.args.present c.args.contested
    (values_in (bits_of h.depth) c.args.octets.now) in
    cells_back f c.self.inside.marks.len c.self.inside.octets.len c.self.inside.marks.items
    c.self.inside.octets.items c.set_group_of.new.marks c.set_group_of.new.octets (omega arith)
    (omega arith)
    ∙ c.set_group_of.ensures.cells
    ∙ ap (λ (ms : List ℕ). replaced_cells (group_start f c.args.row c.args.group) (given f)
    (cells_in f ms c.as_mut_slice-2.result.now)) c.as_mut_slice.ensures.value
    ∙ ap (λ (os : List ℕ). replaced_cells (group_start f c.args.row c.args.group) (given f)
    (cells_in f c.self.inside.marks.items os)) c.as_mut_slice-2.ensures.value
    ∙ ap (λ (r : Raster). replaced_cells (group_start r.format c.args.row c.args.group)
    (given r.format) r.cells) c.self.view_is
