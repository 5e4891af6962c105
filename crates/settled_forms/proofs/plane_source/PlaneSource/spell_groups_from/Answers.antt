use Rattle.std.proofs.Common.{◌*◌, ◌∙◌, ℕ}
use Rattle.frame_assembly.specs.Settled.{settled_picture}
use Rattle.st_format.specs.Pgroup.{pixel_group}
use Rattle.st_format.specs.Picture.{Values}
use Rattle.settled_forms.proofs.Groups.{groups_apart, part_fits}
use Rattle.settled_forms.proofs.plane_source.PlaneSource.spell_groups_from.Goals as goal

pub spell_groups-requires-clause-fit : goal.spell_groups-requires-clause-fit
spell_groups-requires-clause-fit g c =
    let v : Values = settled_picture c.args.self.now.frame.now c.args.self.now.base in
    let s : ℕ = (pixel_group v.format.sampling v.format.depth).samples in
    rw c.format-format.ensures.format
    (part_fits v.format v.samples c.settle_groups_over.new.samples (s * c.args.first)
    (s * c.args.count) c.settled_facts.ensures.fit c.settle_groups_over.ensures.settled)

pub spell_groups-requires-clause-room : goal.spell_groups-requires-clause-room
spell_groups-requires-clause-room g c = rw c.format-format.ensures.format c.requires.octets

pub returns : goal.returns
returns g c =
    (rw c.format-format.ensures.format at c.spell_groups.ensures)
    ∙ groups_apart (settled_picture c.args.self.now.frame.now c.args.self.now.base)
    c.args.component c.args.first c.args.count c.settle_groups_over.new.samples
    c.requires.component c.settle_groups_over.ensures.settled
