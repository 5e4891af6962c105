use Rattle.std.proofs.Common.{◌*◌, ◌+◌, ◌<◌, get_or, arith}
use Rattle.pgroup_pack.proofs.Values.{get_or-values_in}
use Rattle.pgroup_pack.proofs.sixteen_bits.sample_at.Goals as goal

pub returns : goal.returns
returns c =
    let i = c.args.i in
    let a : get_or c.args.octets.now (2 * i) 0 < 256 = omega (arith, c.type_inv.octets (2 * i)) in
    let b : get_or c.args.octets.now (2 * i + 1) 0 < 256 =
    omega (arith, c.type_inv.octets (2 * i + 1)) in
    let is =
    get_or-values_in 16 i (2 * i) 0 0 c.args.octets.now (omega arith) (omega arith)
    (omega arith) c.requires b in
    omega (arith, is)
