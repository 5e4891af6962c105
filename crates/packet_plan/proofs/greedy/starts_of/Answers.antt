use Rattle.std.proofs.Common.{arith}
use Rattle.packet_plan.proofs.Walks.{walk_more}
use Rattle.packet_plan.proofs.greedy.starts_of.Goals as goal

pub loop-group-preserved : goal.loop-group-preserved
loop-group-preserved g c = record {
  walk =
      rw (c.in_ok-push.ensures.items, c.next_of-group.ensures.value)
      (walk_more c.args.format.now c.args.max_octets 0 c.loop-group.starts.items c.loop-group.group
      c.loop-group.invariant.walk (omega arith));
  end = omega arith;
}
