use Rattle.std.proofs.Common.{◌≡◌, ℕ, ◌*◌, length, replicate, ap, ◌∙◌, arith}
use Rattle.st_format.specs.Pgroup.{pixel_group}
use Rattle.st_format.specs.Raster.{Raster, blank}
use Rattle.frame_assembly.proofs.Kept.{blank_cells, blank_kept, frame_view}
use Rattle.frame_assembly.proofs.WholeGroups.{whole_groups}
use Rattle.frame_assembly.proofs.frame.Frame.clear.Goals as goal

pub invariant_of-self : goal.invariant_of-self
invariant_of-self g c =
    let size : ℕ = (pixel_group c.self.inside.format.sampling c.self.inside.format.depth).octets in
    let many : c.self.inside.octets.len ≡ size * c.self.inside.marks.len =
    (let e : c.self.inside.octets.len ≡ length c.self.inside.octets.items = omega arith in e)
    ∙ c.self.invariant.packed.long
    ∙ ap (λ (k : ℕ). size * k)
    (let e : length c.self.inside.marks.items ≡ c.self.inside.marks.len = omega arith in e) in
    blank_kept c.self.inside.format c.fill.new.self.items c.fill-2.new.self.items
    c.self.inside.marks.len
    (omega (arith, c.self.invariant.groups)) (c.fill.ensures.items (λ y e. e))
    (c.fill-2.ensures.items (λ y e. e) ∙ ap (λ (k : ℕ). replicate {A = ℕ} k 0) many)

pub returns-clause-blank : goal.returns-clause-blank
returns-clause-blank g c =
    let size : ℕ = (pixel_group c.self.inside.format.sampling c.self.inside.format.depth).octets in
    let many : c.self.inside.octets.len ≡ size * c.self.inside.marks.len =
    (let e : c.self.inside.octets.len ≡ length c.self.inside.octets.items = omega arith in e)
    ∙ c.self.invariant.packed.long
    ∙ ap (λ (k : ℕ). size * k)
    (let e : length c.self.inside.marks.items ≡ c.self.inside.marks.len = omega arith in e) in
    ap (frame_view c.self.inside.format)
    (blank_cells c.self.inside.format c.fill.new.self.items c.fill-2.new.self.items
    c.self.inside.marks.len
    (omega (arith, c.self.invariant.groups)) (c.fill.ensures.items (λ y e. e))
    (c.fill-2.ensures.items (λ y e. e) ∙ ap (λ (k : ℕ). replicate {A = ℕ} k 0) many))
    ∙ ap (λ (r : Raster). blank r.format) c.self.view_is

pub returns-clause-whole : goal.returns-clause-whole
returns-clause-whole g c = (invariant_of-self g c).frame.whole

pub returns-clause-fit : goal.returns-clause-fit
returns-clause-fit g c = (invariant_of-self g c).frame.fit

pub returns-clause-groups : goal.returns-clause-groups
returns-clause-groups g c = whole_groups _ _ _ (invariant_of-self g c)
