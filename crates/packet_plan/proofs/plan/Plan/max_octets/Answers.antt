use Rattle.std.proofs.Common.{◌≤◌, ℕ, subst}
use Rattle.packet_plan.specs.Plan.{RasterPlan}
use Rattle.packet_plan.specs.Sending.{EachHasRoom}
use Rattle.packet_plan.proofs.Walks.{promised, size_room}
use Rattle.packet_plan.proofs.plan.Plan.max_octets.Goals as goal

pub returns-clause-room : goal.returns-clause-room
returns-clause-room g c =
    let p = c.self.inside in
    subst (λ (plan : RasterPlan). (octets : ℕ) → p.max_octets ≤ octets
    → EachHasRoom plan octets) c.self.view_is
    (λ octets le. size_room p.format p.max_octets octets _ le
    (promised p.format p.max_octets p.starts.items c.self.invariant).plan.each)
