use Rattle.std.proofs.Common.{◌*◌, ◌+◌, arith}
use Rattle.pgroup_pack.proofs.Numbers.{Spells-more}
use Rattle.pgroup_pack.proofs.Units.{taken_2, stored_3, packed_12}
use Rattle.pgroup_pack.proofs.twelve_bits.pack_twos.Goals as goal

pub loop-i-preserved : goal.loop-i-preserved
loop-i-preserved c =
    let i = c.loop-i.i in
    Spells-more 12
    (stored_3 c.loop-i.octets (3 * i) (3 * (i + 1)) _ _ _ (omega arith) (omega arith))
    (taken_2 c.args.samples.now (2 * i) (2 * (i + 1)) (omega arith)
    (omega arith)) c.loop-i.invariant
    (packed_12 _ _ (c.requires.fit (2 * i) 0 (omega arith))
    (c.requires.fit (2 * i + 1) 0 (omega arith)))
