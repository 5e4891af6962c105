use Rattle.std.proofs.Common.{◌<◌, ◌≤◌, ◌*◌, length, subst, arith}
use Rattle.packet_plan.specs.Plan.{RasterPlan, IsFullPlan}
use Rattle.packet_plan.specs.Greedy.{packet_from}
use Rattle.packet_plan.proofs.Walks.{promised, length-map, some_packets, walk_count}
use Rattle.packet_plan.proofs.Walks.{group_count_most}
use Rattle.packet_plan.proofs.plan.Plan.len.Goals as goal

pub returns-clause-full : goal.returns-clause-full
returns-clause-full g c =
    subst (λ (p : RasterPlan). IsFullPlan p.packets p.format p.max_octets) c.self.view_is
    (promised c.self.inside.format c.self.inside.max_octets c.self.inside.starts.items
    c.self.invariant)

pub returns-clause-most : goal.returns-clause-most
returns-clause-most g c =
    let inside = c.self.inside in
    subst (λ (p : RasterPlan). length p.packets ≤ 8192 * 8192) c.self.view_is
    (omega (
      arith,
      length-map (packet_from inside.format inside.max_octets) inside.starts.items,
      walk_count inside.format inside.max_octets 0 inside.starts.items c.self.invariant.0
          (omega arith) c.self.invariant.1,
      group_count_most inside.format,
    ))

pub returns-clause-some : goal.returns-clause-some
returns-clause-some g c =
    let inside = c.self.inside in
    subst (λ (p : RasterPlan). 0 < length p.packets) c.self.view_is
    (some_packets inside.format inside.max_octets inside.starts.items c.self.invariant.1)

pub overflow_cast-result : goal.overflow_cast-result
overflow_cast-result g c =
    let inside = c.self.inside in
    omega (
      arith,
      walk_count inside.format inside.max_octets 0 inside.starts.items c.self.invariant.0
          (omega arith) c.self.invariant.1,
      group_count_most inside.format,
    )
