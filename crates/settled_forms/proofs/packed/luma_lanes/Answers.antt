use Rattle.std.proofs.Common.{◌+◌, ◌*◌, arith, refl}
use Rattle.settled_forms.proofs.PackedSamples.{luma_samples}
use Rattle.settled_forms.proofs.packed.luma_lanes.Goals as goal

pub returns : goal.returns
returns c =
    let b = c.args.block in
    rw (c.words_in.ensures, c.octets_at-first.ensures, c.octets_at-last.ensures)
    (luma_samples c.args.packed.now b (20 * b) (20 * b + 4)
    (λ j. omega (arith, c.type_inv.packed j)) refl refl c.requires)
