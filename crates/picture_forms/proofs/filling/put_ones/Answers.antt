use Rattle.std.proofs.Common.{ℕ, ◌+◌, [], ◌∷◌, arith, sym, ap, ◌∙◌}
use Rattle.picture_forms.specs.declared.planes.Spelling.TheVariants.{One}
use Rattle.picture_forms.proofs.Texts.{taken_1}
use Rattle.picture_forms.proofs.Filled.{inside_long, keeps_more, keeps_none, put_more, put_none}
use Rattle.picture_forms.proofs.filling.put_ones.Goals as goal

pub loop-i-init : goal.loop-i-init
loop-i-init c = record {
  put =
      put_none One c.args.samples.now c.args.stride.first c.args.stride.step c.args.start;
  others =
      keeps_none c.args.samples.now c.args.stride.first c.args.stride.step c.args.start;
}

pub loop-i-preserved : goal.loop-i-preserved
loop-i-preserved c =
    let i = c.loop-i.i in
    let first = c.args.stride.first in
    let step = c.args.stride.step in
    record {
      put =
          put_more One c.loop-i.samples _ _ first step c.args.start i _
          (c.args.start + c.args.count)
          (inside_long c.args.samples.now c.loop-i.samples first step
          (c.args.start + c.args.count) c.requires.inside c.loop-i.invariant.others.long)
          (omega arith) c.loop-i.invariant.put (ap (λ (v : ℕ). v ∷ []) c.from.ensures)
          ∙ sym (taken_1 c.args.octets.now i (omega (arith, c.requires.room)));
      others =
          keeps_more c.args.samples.now c.loop-i.samples first step c.args.start i _
          c.loop-i.invariant.others;
    }
