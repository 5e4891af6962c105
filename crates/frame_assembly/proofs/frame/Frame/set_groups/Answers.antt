use Rattle.std.proofs.Common.{◌≡◌, ℕ, ◌+◌, ◌*◌, ◌≤◌, List, length, map, sym, ap, ◌∙◌, subst, arith}
use Rattle.st_format.specs.declared.cell.Cell.{Cell}
use Rattle.st_format.specs.declared.cell.Cell.TheVariants.{Value}
use Rattle.st_format.specs.declared.format.Format.{Format}
use Rattle.st_format.specs.Pgroup.{bits_of, pixel_group}
use Rattle.st_format.specs.Position.{group_count}
use Rattle.st_format.specs.Raster.{Raster}
use Rattle.st_format.specs.Samples.{values_in}
use Rattle.frame_assembly.specs.Packed.{ArePacked, cells_in}
use Rattle.frame_assembly.specs.Rows.{replaced_cells}
use Rattle.frame_assembly.proofs.Kept.{cells_back, kept, kept_back}
use Rattle.frame_assembly.proofs.WholeGroups.{whole_groups}
use Rattle.frame_assembly.proofs.frame.Frame.set_groups.Goals as goal

pub invariant_of-self : goal.invariant_of-self
invariant_of-self g c =
    kept_back c.self.inside.format c.self.inside.marks.len c.self.inside.octets.len
    c.self.inside.marks.items c.self.inside.octets.items c.set_groups_of.new.marks
    c.set_groups_of.new.octets (omega arith) (omega arith)
    (kept c.self.inside.format c.set_groups_of.new.marks c.set_groups_of.new.octets
    (c.set_groups_of.auto.marks ∙ ap length c.as_mut_slice.ensures.value
    ∙ c.self.invariant.groups) c.set_groups_of.ensures.packed)

pub returns-clause-whole : goal.returns-clause-whole
returns-clause-whole g c = (invariant_of-self g c).frame.whole

pub returns-clause-fit : goal.returns-clause-fit
returns-clause-fit g c = (invariant_of-self g c).frame.fit

pub returns-clause-groups : goal.returns-clause-groups
returns-clause-groups g c = whole_groups _ _ _ (invariant_of-self g c)

pub set_groups_of-requires-clause-packed : goal.set_groups_of-requires-clause-packed
set_groups_of-requires-clause-packed g c =
    subst (λ (ms : List ℕ). ArePacked c.self.inside.format ms c.as_mut_slice-2.result.now)
    (sym c.as_mut_slice.ensures.value)
    (subst (λ (os : List ℕ). ArePacked c.self.inside.format c.self.inside.marks.items os)
    (sym c.as_mut_slice-2.ensures.value) c.self.invariant.packed)

pub set_groups_of-requires-clause-inside : goal.set_groups_of-requires-clause-inside
set_groups_of-requires-clause-inside g c =
    let inside : c.args.first + c.args.count ≤ group_count c.self.inside.format =
    subst (λ (r : Raster). c.args.first + c.args.count ≤ group_count r.format)
    (sym c.self.view_is) c.requires.inside in
    subst (λ (k : ℕ). c.args.first + c.args.count ≤ k)
    (sym (ap length c.as_mut_slice.ensures.value ∙ c.self.invariant.groups)) inside

pub set_groups_of-requires-clause-octets : goal.set_groups_of-requires-clause-octets
set_groups_of-requires-clause-octets g c =
    subst (λ (r : Raster). length c.args.octets.now
    ≡ (pixel_group r.format.sampling r.format.depth).octets * c.args.count)
    (sym c.self.view_is) c.requires.octets

pub returns-clause-format : goal.returns-clause-format
returns-clause-format g c =
    ap (λ (r : Raster). r.format) c.self.view_is

pub returns-clause-cells : goal.returns-clause-cells
returns-clause-cells g c =
    let f : Format = c.self.inside.format in
    let given : Format → List Cell =
    λ h. map Value (values_in (bits_of h.depth) c.args.octets.now) in
    cells_back f c.self.inside.marks.len c.self.inside.octets.len c.self.inside.marks.items
    c.self.inside.octets.items c.set_groups_of.new.marks c.set_groups_of.new.octets (omega arith)
    (omega arith)
    ∙ c.set_groups_of.ensures.cells
    ∙ ap (λ (ms : List ℕ). replaced_cells
    ((pixel_group f.sampling f.depth).samples * c.args.first) (given f)
    (cells_in f ms c.as_mut_slice-2.result.now)) c.as_mut_slice.ensures.value
    ∙ ap (λ (os : List ℕ). replaced_cells
    ((pixel_group f.sampling f.depth).samples * c.args.first) (given f)
    (cells_in f c.self.inside.marks.items os)) c.as_mut_slice-2.ensures.value
    ∙ ap (λ (r : Raster). replaced_cells
    ((pixel_group r.format.sampling r.format.depth).samples * c.args.first)
    (given r.format) r.cells) c.self.view_is
