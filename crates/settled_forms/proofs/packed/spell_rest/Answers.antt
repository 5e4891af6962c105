use Rattle.std.proofs.Common.{arith}
use Rattle.picture_forms.specs.declared.planes.Spelling.TheVariants.{Little}
use Rattle.picture_forms.specs.Layouts.{plane_first, plane_step}
use Rattle.picture_forms.proofs.Texts.{two_more}
use Rattle.st_format.specs.declared.sampling.Sampling.TheVariants.{Ycc422}
use Rattle.st_format.specs.Samples.{values_in}
use Rattle.settled_forms.proofs.PackedSamples.{sample_in, sample_inside}
use Rattle.settled_forms.proofs.packed.spell_rest.Goals as goal

pub packed_sample-value-requires : goal.packed_sample-value-requires
packed_sample-value-requires c =
    sample_inside c.args.component c.loop-i.i c.args.count c.stride_of-stride.result.first
    c.stride_of-stride.result.step c.args.packed.now c.requires.component (omega arith)
    c.stride_of-stride.ensures.first c.stride_of-stride.ensures.step c.requires.inside

pub loop-i-preserved : goal.loop-i-preserved
loop-i-preserved c =
    two_more Little (values_in 10 c.args.packed.now) c.loop-i.octets
    (plane_first Ycc422 c.args.component) (plane_step Ycc422 c.args.component) 0 c.loop-i.i _ _
    (omega arith) c.loop-i.invariant
    (sample_in c.args.component c.loop-i.i c.stride_of-stride.result.first
    c.stride_of-stride.result.step c.packed_sample-value.result c.args.packed.now
    c.stride_of-stride.ensures.first c.stride_of-stride.ensures.step
    c.packed_sample-value.ensures)
