use Rattle.std.proofs.Common.{◌*◌, ◌+◌, arith, refl}
use Rattle.pgroup_pack.proofs.Numbers.{Spells-more}
use Rattle.pgroup_pack.proofs.Units.{taken_2, wrote, unit_16}
use Rattle.pgroup_pack.proofs.sixteen_bits.unpack_twos.Goals as goal

pub loop-i-preserved : goal.loop-i-preserved
loop-i-preserved c =
    let i = c.loop-i.i in
    let a = c.type_inv.octets (2 * i) in
    let b = c.type_inv.octets (2 * i + 1) in
    Spells-more 16 (taken_2 c.args.octets.now (2 * i) (2 * (i + 1)) (omega arith) (omega arith))
    (wrote c.loop-i.samples i (i + 1) _ (omega arith) refl) c.loop-i.invariant
    (unit_16 _ _ _ (omega (arith, a)) (omega (arith, b)) (omega (arith, a, b)) refl)
