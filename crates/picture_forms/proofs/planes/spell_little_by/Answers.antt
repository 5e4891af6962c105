use Rattle.std.proofs.Common.{ap, arith, sym}
use Rattle.picture_forms.specs.declared.planes.Spelling.TheVariants.{Little}
use Rattle.picture_forms.specs.Planes.{sample_text}
use Rattle.picture_forms.proofs.Texts.{every_none, two_more}
use Rattle.picture_forms.proofs.planes.spell_little_by.Goals as goal

pub loop-i-init : goal.loop-i-init
loop-i-init c =
    sym (every_none Little c.args.samples.now c.args.stride.first c.args.stride.step c.args.start)

pub loop-i-preserved : goal.loop-i-preserved
loop-i-preserved c =
    two_more Little c.args.samples.now c.loop-i.octets c.args.stride.first c.args.stride.step
    c.args.start c.loop-i.i _ _ (omega arith) c.loop-i.invariant
    (ap (sample_text Little) c.sample_of-value.ensures)
