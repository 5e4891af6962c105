use Rattle.std.proofs.Common.{arith, sym}
use Rattle.picture_forms.specs.declared.planes.Spelling.TheVariants.{One}
use Rattle.picture_forms.proofs.Texts.{every_none, one_more}
use Rattle.picture_forms.proofs.planes.spell_one_by.Goals as goal

pub loop-i-init : goal.loop-i-init
loop-i-init c =
    sym (every_none One c.args.samples.now c.args.stride.first c.args.stride.step c.args.start)

pub loop-i-preserved : goal.loop-i-preserved
loop-i-preserved c =
    one_more c.args.samples.now c.loop-i.octets c.args.stride.first c.args.stride.step
    c.args.start c.loop-i.i c.sample_of.result (omega arith) c.loop-i.invariant
    c.sample_of.ensures
