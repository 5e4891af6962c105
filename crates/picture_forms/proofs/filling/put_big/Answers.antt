use Rattle.std.proofs.Common.{◌+◌, ◌*◌, ◌<◌, get_or, arith, refl, sym, ◌∙◌}
use Rattle.picture_forms.specs.declared.planes.Spelling.TheVariants.{Big}
use Rattle.picture_forms.proofs.Texts.{taken_2}
use Rattle.picture_forms.proofs.Filled.{big_text, inside_long, keeps_more, keeps_none, put_more}
use Rattle.picture_forms.proofs.Filled.{put_none}
use Rattle.picture_forms.proofs.filling.put_big.Goals as goal

pub loop-i-init : goal.loop-i-init
loop-i-init c = record {
  put =
      put_none Big c.args.samples.now c.args.stride.first c.args.stride.step c.args.start;
  others =
      keeps_none c.args.samples.now c.args.stride.first c.args.stride.step c.args.start;
}

pub loop-i-preserved : goal.loop-i-preserved
loop-i-preserved c =
    let i = c.loop-i.i in
    let first = c.args.stride.first in
    let step = c.args.stride.step in
    let low : get_or c.args.octets.now (2 * i) 0 < 256 =
    omega (arith, c.type_inv.octets (2 * i)) in
    let high : get_or c.args.octets.now (2 * i + 1) 0 < 256 =
    omega (arith, c.type_inv.octets (2 * i + 1)) in
    record {
      put =
          put_more Big c.loop-i.samples _ _ first step c.args.start i _
          (c.args.start + c.args.count)
          (inside_long c.args.samples.now c.loop-i.samples first step
          (c.args.start + c.args.count) c.requires.inside c.loop-i.invariant.others.long)
          (omega arith) c.loop-i.invariant.put (big_text _ _ _ low high refl)
          ∙ sym (taken_2 c.args.octets.now i (omega (arith, c.requires.room)));
      others =
          keeps_more c.args.samples.now c.loop-i.samples first step c.args.start i _
          c.loop-i.invariant.others;
    }
