use Rattle.std.proofs.Common.{length, ap, ◌∙◌, arith, subst}
use Rattle.st_format.specs.Fit.{IsFrame}
use Rattle.frame_assembly.proofs.Absorbed.{each_absorbed}
use Rattle.frame_assembly.proofs.Kept.{frame_absorb, kept, kept_back}
use Rattle.frame_assembly.proofs.WholeGroups.{whole_groups}
use Rattle.frame_assembly.proofs.frame.Frame.absorb.Goals as goal

pub invariant_of-self : goal.invariant_of-self
invariant_of-self g c =
    kept_back c.self.inside.format c.self.inside.marks.len c.self.inside.octets.len
    c.self.inside.marks.items c.self.inside.octets.items c.join_run.new.marks
    c.join_run.new.octets (omega arith) (omega arith)
    (kept c.self.inside.format c.join_run.new.marks c.join_run.new.octets
    (c.join_run.auto.marks ∙ ap length c.as_mut_slice.ensures.value
    ∙ c.self.invariant.groups) c.join_run.ensures.packed)

pub returns-clause-rasters : goal.returns-clause-rasters
returns-clause-rasters g c =
    frame_absorb c.self.inside.marks.len c.self.inside.octets.len c.self.inside.format
    c.other.inside.format c.args.self.now c.args.other.now c.self.inside.marks.items
    c.self.inside.octets.items
    c.as_mut_slice.result.now c.as_mut_slice-2.result.now c.as_slice.result.now
    c.as_slice-2.result.now c.other.inside.marks.items c.other.inside.octets.items
    c.join_run.new.marks c.join_run.new.octets
    c.self.view_is c.other.view_is c.requires c.as_mut_slice.ensures.value
    c.as_mut_slice-2.ensures.value c.as_slice.ensures.value c.as_slice-2.ensures.value
    (omega arith) (omega arith) c.join_run.ensures.cells

pub returns-clause-each : goal.returns-clause-each
returns-clause-each g c =
    each_absorbed c.args.self.now c.args.other.now _
    (subst IsFrame c.self.view_is c.self.invariant.frame)
    (subst IsFrame c.other.view_is c.other.invariant.frame) c.requires
    (returns-clause-rasters g c)

pub returns-clause-whole : goal.returns-clause-whole
returns-clause-whole g c = (invariant_of-self g c).frame.whole

pub returns-clause-fit : goal.returns-clause-fit
returns-clause-fit g c = (invariant_of-self g c).frame.fit

pub returns-clause-groups : goal.returns-clause-groups
returns-clause-groups g c = whole_groups _ _ _ (invariant_of-self g c)
