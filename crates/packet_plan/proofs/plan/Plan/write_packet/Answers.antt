use Rattle.std.proofs.Common.{◌∙◌}
use Rattle.packet_plan.specs.Plan.{packet_at}
use Rattle.packet_plan.proofs.Texts.{plan_runs, runs_at}
use Rattle.packet_plan.proofs.plan.Plan.write_packet.Goals as goal

pub write_datagram-requires-clause-runs : goal.write_datagram-requires-clause-runs
write_datagram-requires-clause-runs g c =
    runs_at c.args.self.now.format (g.P.Raster.values c.args.picture.now).format
    (packet_at c.args.self.now c.args.index) c.as_slice.result.now c.requires.format
    (c.as_slice.ensures.value ∙ c.packet-runs.ensures)
    (plan_runs c.args.self.now c.args.index c.len-count.ensures.full c.requires.index)

pub returns-clause-runs : goal.returns-clause-runs
returns-clause-runs g c =
    plan_runs c.args.self.now c.args.index c.len-count.ensures.full c.requires.index
