use Rattle.std.proofs.Common.{◌*◌, ◌+◌, arith}
use Rattle.pgroup_pack.proofs.Numbers.{Spells-more}
use Rattle.pgroup_pack.proofs.Units.{taken_4, stored_5, packed_10}
use Rattle.pgroup_pack.proofs.ten_bits.pack_fours.Goals as goal

pub loop-i-preserved : goal.loop-i-preserved
loop-i-preserved c =
    let i = c.loop-i.i in
    Spells-more 10
    (stored_5 c.loop-i.octets (5 * i) (5 * (i + 1)) _ _ _ _ _ (omega arith) (omega arith))
    (taken_4 c.args.samples.now (4 * i) (4 * (i + 1)) (omega arith)
    (omega arith)) c.loop-i.invariant
    (packed_10 _ _ _ _ (c.requires.fit (4 * i) 0 (omega arith))
    (c.requires.fit (4 * i + 1) 0 (omega arith)) (c.requires.fit (4 * i + 2) 0 (omega arith))
    (c.requires.fit (4 * i + 3) 0 (omega arith)))
