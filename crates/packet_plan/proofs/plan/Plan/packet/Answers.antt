use Rattle.std.proofs.Common.{◌≡◌, ◌<◌, ℕ, length, map, get_or, sym, subst, ◌∙◌, arith}
use Rattle.std.proofs.lemmas.List.{get_or_default}
use Rattle.packet_plan.specs.Plan.{RasterPlan}
use Rattle.st_format.specs.Position.{group_count}
use Rattle.packet_plan.specs.Greedy.{packet_from}
use Rattle.packet_plan.proofs.Walks.{walk_below, length-map}
use Rattle.packet_plan.proofs.plan.Plan.packet.Goals as goal

pub runs_from-requires : goal.runs_from-requires
runs_from-requires g c =
    let inside = c.self.inside in
    let seen : c.args.index
    < length (map (packet_from inside.format inside.max_octets) inside.starts.items) =
    subst (λ (p : RasterPlan). c.args.index < length p.packets) (sym c.self.view_is) c.requires in
    let lt : c.args.index < length inside.starts.items =
    omega (
      arith,
      length-map (packet_from inside.format inside.max_octets) inside.starts.items,
    ) in
    let below : get_or inside.starts.items c.args.index 0 < group_count inside.format =
    walk_below inside.format inside.max_octets 0 inside.starts.items
    (group_count inside.format) c.args.index c.self.invariant.1 lt in
    let same : get_or inside.starts.items c.args.index c.index.result.now
    ≡ get_or inside.starts.items c.args.index 0 =
    get_or_default inside.starts.items c.args.index c.index.result.now 0 lt in
    record {
      size = c.self.invariant.0;
      group =
          subst (λ (n : ℕ). n < group_count inside.format) (sym (c.index.ensures ∙ same)) below;
    }
