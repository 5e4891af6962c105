use Rattle.std.proofs.Common.{append-nil, sym}
use Rattle.path_receiver.specs.Answers.{all_refusals}
use Rattle.run_outcome.proofs.Printed.{texts_all}
use Rattle.stream_inspection.specs.Told.{refused_line}
use Rattle.stream_inspection.proofs.Refusals.{refusals_more}
use Rattle.stream_inspection.proofs.telling.put_refusals.Goals as goal

pub loop-place-init : goal.loop-place-init
loop-place-init g c = sym (append-nil _)

pub loop-place-preserved : goal.loop-place-preserved
loop-place-preserved g c =
    let l = c.loop-place in
    refusals_more c.args.form c.args.refused.now c.refusal_at.result l.place _ _ _
    c.refusal_at.ensures c.loop-place-test.true l.invariant c.in_ok-put_counted.ensures

pub returns : goal.returns
returns g c =
    let l = c.loop-place in
    texts_all (refused_line c.args.form c.args.refused.now) all_refusals l.place _ _
    c.loop-place-test.false l.invariant
