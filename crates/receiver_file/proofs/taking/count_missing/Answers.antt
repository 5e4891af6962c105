use Rattle.std.proofs.Common.{arith}
use Rattle.receiver_file.proofs.WholeRuns.{zeros_next}
use Rattle.receiver_file.proofs.taking.count_missing.Goals as goal

pub loop-count-preserved : goal.loop-count-preserved
loop-count-preserved c =
    let i = c.loop-count in
    record {
      most = omega arith;
      inside = omega arith;
      zeros =
          zeros_next i.count c.args.octets.now (omega arith)
          c.if-octets-count-eq0.true i.invariant.zeros;
    }
