use Rattle.std.proofs.Common.{ℕ}
use Rattle.frame_assembly.specs.Settled.{base_number}
use Rattle.frame_assembly.proofs.SettledRuns.{run_settled}
use Rattle.frame_assembly.proofs.settling.settle_run_over.Goals as goal

pub returns : goal.returns
returns g c =
    let f = c.args.format.now in
    record {
      settled =
          run_settled f c.args.first c.args.count c.pgroup-size.result.octets c.args.marks.now
          c.args.octets.now c.unpack.new.samples c.settle_over.new.samples
          (base_number f.sampling c.args.base) c.pgroup-size.ensures.octets c.requires.inside
          c.requires.packed c.unpack.ensures.values c.settle_over.ensures.settled;
    }
