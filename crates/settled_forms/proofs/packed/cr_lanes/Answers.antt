use Rattle.std.proofs.Common.{◌+◌, ◌*◌, arith, refl}
use Rattle.settled_forms.proofs.PackedSamples.{cr_samples}
use Rattle.settled_forms.proofs.packed.cr_lanes.Goals as goal

pub returns : goal.returns
returns c =
    let b = c.args.block in
    rw (
      c.words_in.ensures,
      c.octets_at-first.ensures,
      c.octets_at-middle.ensures,
      c.octets_at-last.ensures,
    ) (cr_samples c.args.packed.now b (40 * b) (40 * b + 15) (40 * b + 24)
    (λ j. omega (arith, c.type_inv.packed j)) refl refl refl c.requires)
