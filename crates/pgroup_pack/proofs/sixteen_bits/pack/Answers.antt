use Rattle.std.proofs.Common.{◌*◌, ◌+◌, arith, refl}
use Rattle.pgroup_pack.proofs.Numbers.{Spells-more}
use Rattle.pgroup_pack.proofs.Units.{taken_1, stored_2, unit_16}
use Rattle.pgroup_pack.proofs.sixteen_bits.pack.Goals as goal

pub loop-i-preserved : goal.loop-i-preserved
loop-i-preserved c =
    let i = c.loop-i.i in
    let fits = c.requires.fit i 0 (omega arith) in
    Spells-more 16 (stored_2 c.loop-i.octets (2 * i) (2 * (i + 1)) _ _ (omega arith) (omega arith))
    (taken_1 c.args.samples.now i (i + 1) refl (omega arith)) c.loop-i.invariant
    (unit_16 _ _ _ (omega (arith, fits)) (omega (arith, fits)) fits (omega arith))
