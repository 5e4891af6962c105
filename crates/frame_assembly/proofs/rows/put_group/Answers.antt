use Rattle.frame_assembly.proofs.PackedLemmas.{sizes}
use Rattle.frame_assembly.proofs.GivenLemmas.{group_replaced}
use Rattle.frame_assembly.proofs.rows.put_group.Goals as goal

pub returns-clause-packed : goal.returns-clause-packed
returns-clause-packed c =
    (group_replaced _ _ _ c.args.at c.args.mark c.pgroup-size.result.octets c.args.from.now
    c.args.marks.now c.args.octets.now c.copy_from_slice.new.self
    (sizes c.args.format.now.sampling c.args.format.now.depth)
    c.requires.inside c.requires.packed c.requires.group c.pgroup-size.ensures.octets
    c.copy_from_slice.ensures.after).packed

pub returns-clause-cells : goal.returns-clause-cells
returns-clause-cells c =
    (group_replaced _ _ _ c.args.at c.args.mark c.pgroup-size.result.octets c.args.from.now
    c.args.marks.now c.args.octets.now c.copy_from_slice.new.self
    (sizes c.args.format.now.sampling c.args.format.now.depth)
    c.requires.inside c.requires.packed c.requires.group c.pgroup-size.ensures.octets
    c.copy_from_slice.ensures.after).cells
