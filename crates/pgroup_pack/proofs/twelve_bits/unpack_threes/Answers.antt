use Rattle.std.proofs.Common.{◌*◌, ◌+◌, arith}
use Rattle.pgroup_pack.proofs.Numbers.{Spells-more}
use Rattle.pgroup_pack.proofs.Units.{taken_3, stored_2, unpacked_12}
use Rattle.pgroup_pack.proofs.twelve_bits.unpack_threes.Goals as goal

pub loop-i-preserved : goal.loop-i-preserved
loop-i-preserved c =
    let i = c.loop-i.i in
    Spells-more 12 (taken_3 c.args.octets.now (3 * i) (3 * (i + 1)) (omega arith) (omega arith))
    (stored_2 c.loop-i.samples (2 * i) (2 * (i + 1)) _ _ (omega arith)
    (omega arith)) c.loop-i.invariant
    (unpacked_12 _ _ _ (omega (arith, c.type_inv.octets (3 * i)))
    (omega (arith, c.type_inv.octets (3 * i + 1)))
    (omega (arith, c.type_inv.octets (3 * i + 2))))
