use Rattle.std.proofs.Common.{◌*◌, ◌+◌, ◌-◌, ◌/◌, ◌%◌, sym, arith}
use Rattle.pgroup_pack.proofs.Values.{get_or-values_in}
use Rattle.pgroup_pack.proofs.ten_bits.sample_at.Goals as goal

pub returns : goal.returns
returns c =
    let i = c.args.i in
    sym (get_or-values_in 10 i (i + i / 4) (i % 4 * 2) (6 - i % 4 * 2) c.args.octets.now
    (omega arith) (omega arith) (omega arith) c.requires
    (omega (arith, c.type_inv.octets (i + i / 4 + 1))))
