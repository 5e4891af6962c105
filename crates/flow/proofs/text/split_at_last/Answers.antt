use Rattle.flow.proofs.FlowTexts.{one_more}
use Rattle.flow.proofs.text.split_at_last.Goals as goal

pub loop-last-preserved : goal.loop-last-preserved
loop-last-preserved c =
    one_more c.args.mark c.args.text.now c.loop-last.rest.now c.in-Some.less.now
    c.in-Some.last.now c.in-Some.ensures.cases.0 c.loop-last.invariant.0 c.loop-last.invariant.1
    c.if-last-mark.false
