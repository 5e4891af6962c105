use Rattle.std.proofs.Common.{arith, refl}
use Rattle.st_format.specs.Position.{row_groups}
use Rattle.packet_plan.proofs.Packets.{code_more, code_over}
use Rattle.packet_plan.proofs.greedy.runs_from.Goals as goal

pub loop-left-preserved : goal.loop-left-preserved
loop-left-preserved c = record {
  cuts =
      code_more (row_groups c.args.format.now) _ _ c.loop-left.row c.loop-left.first
      c.loop-left.left c.min-groups.result c.loop-left.runs.items c.push.new.self.items _ _
      (omega arith) (omega arith)
      (omega arith) c.push.ensures.len refl c.push.ensures.items c.loop-left.invariant.cuts;
  first = omega arith;
  few = omega (arith, c.push.ensures.len);
  rows = omega (arith, c.push.ensures.len);
}

pub returns-else-len-lt3 : goal.returns-else-len-lt3
returns-else-len-lt3 c =
    code_over (row_groups c.args.format.now) _ c.loop-left.row c.loop-left.first c.loop-left.left
    c.loop-left.runs.items _ (λ p q. absurd (omega arith)) c.loop-left.invariant.cuts

pub returns-after-loop-left : goal.returns-after-loop-left
returns-after-loop-left c =
    code_over (row_groups c.args.format.now) _ c.loop-left.row c.loop-left.first c.loop-left.left
    c.loop-left.runs.items _ (λ p q. absurd (omega arith)) c.loop-left.invariant.cuts
