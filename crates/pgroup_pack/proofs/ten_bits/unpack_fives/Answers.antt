use Rattle.std.proofs.Common.{◌*◌, ◌+◌, arith}
use Rattle.pgroup_pack.proofs.Numbers.{Spells-more}
use Rattle.pgroup_pack.proofs.Units.{taken_5, stored_4, unpacked_10}
use Rattle.pgroup_pack.proofs.ten_bits.unpack_fives.Goals as goal

pub loop-i-preserved : goal.loop-i-preserved
loop-i-preserved c =
    let i = c.loop-i.i in
    Spells-more 10 (taken_5 c.args.octets.now (5 * i) (5 * (i + 1)) (omega arith) (omega arith))
    (stored_4 c.loop-i.samples (4 * i) (4 * (i + 1)) _ _ _ _ (omega arith)
    (omega arith)) c.loop-i.invariant
    (unpacked_10 _ _ _ _ _ (omega (arith, c.type_inv.octets (5 * i)))
    (omega (arith, c.type_inv.octets (5 * i + 1)))
    (omega (arith, c.type_inv.octets (5 * i + 2)))
    (omega (arith, c.type_inv.octets (5 * i + 3)))
    (omega (arith, c.type_inv.octets (5 * i + 4))))
