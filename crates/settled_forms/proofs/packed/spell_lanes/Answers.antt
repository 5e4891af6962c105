use Rattle.std.proofs.Common.{arith, rules, sym}
use Rattle.std.proofs.lemmas.Simd.{below_from_Fits}
use mir.Syntax.{w16}
use Rattle.picture_forms.specs.declared.planes.Spelling.TheVariants.{Little}
use Rattle.picture_forms.specs.Layouts.{plane_first, plane_step}
use Rattle.picture_forms.proofs.Texts.{every_none}
use Rattle.st_format.specs.declared.sampling.Sampling.TheVariants.{Ycc422}
use Rattle.st_format.specs.Samples.{values_in}
use Rattle.settled_forms.proofs.PackedSamples.{block_inside, lanes_more}
use Rattle.settled_forms.proofs.packed.spell_lanes.Goals as goal

pub loop-i-init : goal.loop-i-init
loop-i-init c =
    sym (every_none Little (values_in 10 c.args.packed.now) (plane_first Ycc422 c.args.component)
    (plane_step Ycc422 c.args.component) 0)

pub lanes_of-samples-requires-clause-inside : goal.lanes_of-samples-requires-clause-inside
lanes_of-samples-requires-clause-inside c =
    block_inside c.args.component c.loop-i.i c.args.count c.args.packed.now (omega arith)
    c.requires.inside

pub loop-i-preserved : goal.loop-i-preserved
loop-i-preserved c =
    lanes_more c.args.component c.loop-i.i c.args.packed.now c.loop-i.octets
    c.lanes_of-samples.result (below_from_Fits w16 c.lanes_of-samples.result (search rules))
    c.lanes_of-samples.ensures (omega arith)
    c.loop-i.invariant
