use Rattle.std.proofs.Common.{arith}
use Rattle.std.proofs.lemmas.Option.{slice_get_within}
use Rattle.path_merge.proofs.StepLemmas.{refused_at, merged_at}
use Rattle.path_merge.proofs.schedule.steps.merge.Goals as goal

pub returns-then-into-receivers-clause-unfit : goal.returns-then-into-receivers-clause-unfit
returns-then-into-receivers-clause-unfit g c state other there there_too two =
    absurd (omega (
      arith,
      slice_get_within c.args.receivers.now c.args.into state there,
      slice_get_within c.args.receivers.now c.args.from other there_too,
      two,
      c.from-into.ensures,
      c.from-from.ensures,
      c.then-into-receivers.either,
    ))

pub returns-clause-merged : goal.returns-clause-merged
returns-clause-merged g c =
    merged_at c.from-into.result c.from-from.result c.args.into c.args.from c.args.receivers.now
    c.merge_two.new.receivers c.merge_two.result c.from-into.ensures c.from-from.ensures
    c.merge_two.ensures.merged

pub returns-clause-unfit : goal.returns-clause-unfit
returns-clause-unfit g c =
    refused_at c.from-into.result c.from-from.result c.args.into c.args.from c.args.receivers.now
    c.merge_two.result c.from-into.ensures c.from-from.ensures c.merge_two.ensures.unfit
