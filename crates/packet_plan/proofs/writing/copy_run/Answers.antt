use Rattle.std.proofs.Common.{◌≡◌, ◌+◌, ◌-◌, ℕ, length, ap, arith}
use Rattle.std.proofs.lemmas.Slice.{drop-put_mid}
use Rattle.packet_plan.proofs.writing.copy_run.Goals as goal

pub returns-clause-behind : goal.returns-clause-behind
returns-clause-behind g c =
    let at = c.args.at in
    let copied = c.copy_from_slice.new.self in
    let end : ℕ = at + length c.packed_run-octets.result.now in
    let long : length copied ≡ end - at =
    omega (arith, ap length c.copy_from_slice.ensures.after) in
    drop-put_mid at (end - at) c.args.buf.now copied end (omega arith) (omega arith) long
