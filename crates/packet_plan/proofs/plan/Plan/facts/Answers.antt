use Rattle.std.proofs.Common.{◌<◌, length, subst}
use Rattle.packet_plan.specs.Plan.{RasterPlan, IsFullPlan}
use Rattle.packet_plan.proofs.Walks.{promised, some_packets}
use Rattle.packet_plan.proofs.plan.Plan.facts.Goals as goal

pub returns-clause-full : goal.returns-clause-full
returns-clause-full g c =
    subst (λ (p : RasterPlan). IsFullPlan p.packets p.format p.max_octets) c.self.view_is
    (promised c.self.inside.format c.self.inside.max_octets c.self.inside.starts.items
    c.self.invariant)

pub returns-clause-some : goal.returns-clause-some
returns-clause-some g c =
    let inside = c.self.inside in
    subst (λ (p : RasterPlan). 0 < length p.packets) c.self.view_is
    (some_packets inside.format inside.max_octets inside.starts.items c.self.invariant.1)
