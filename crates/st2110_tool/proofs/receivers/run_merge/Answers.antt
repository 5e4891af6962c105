use Rattle.std.proofs.Common.{List, [], ◌∷◌}
use Rattle.receiver_engines.specs.MergeRefused.{IsMergeRefusal}
use Rattle.run_outcome.specs.Fault.{Failures, counts}
use Rattle.run_outcome.proofs.Ended.{blamed, on_done, on_refused}
use Rattle.run_outcome.proofs.Refusals.{outcome_told}
use Rattle.st_format.specs.History.{IsRead}
use Rattle.st2110_tool.proofs.Unfinished.{on_memory, unfinished}
use Rattle.st2110_tool.proofs.receivers.run_merge.Goals as goal

pub returns-clause-failures : goal.returns-clause-failures
returns-clause-failures g c =
    let run = c.merge-outcome in
    let devices : List Failures =
    counts (g.L.ByteSource.failures c.args.left.now) (g.L.ByteSource.failures run.new.left)
    ∷ counts (g.R.ByteSource.failures c.args.right.now) (g.R.ByteSource.failures run.new.right)
    ∷ counts (g.K.ByteSink.failures c.args.state.now) (g.K.ByteSink.failures run.new.state)
    ∷ counts (g.O.ByteSink.failures c.args.output.now) (g.O.ByteSink.failures run.new.output)
    ∷ [] in
    let last : Failures =
    counts (g.F.ByteSink.failures c.args.faults.now) (g.F.ByteSink.failures c.end.new.faults) in
    blamed run.result devices last c.end.result run.ensures.failures c.end.ensures.failed
    c.end.ensures.worked c.end.ensures.working

pub returns-clause-saved : goal.returns-clause-saved
returns-clause-saved g c =
    let run = c.merge-outcome in
    λ is. on_done run.result _ (c.end.ensures.done is) run.ensures.saved

pub returns-clause-merged : goal.returns-clause-merged
returns-clause-merged g c =
    let run = c.merge-outcome in
    λ is. on_done run.result _ (c.end.ensures.done is) run.ensures.merged

pub returns-clause-refused : goal.returns-clause-refused
returns-clause-refused g c =
    let run = c.merge-outcome in
    λ is. on_refused run.result _ (c.end.ensures.refused is) run.ensures.refused

pub returns-clause-quiet : goal.returns-clause-quiet
returns-clause-quiet g c =
    let run = c.merge-outcome in
    λ is. on_refused run.result _ (c.end.ensures.refused is) run.ensures.quiet

pub returns-clause-told : goal.returns-clause-told
returns-clause-told g c =
    let run = c.merge-outcome in
    let one = run.new.left in
    let two = run.new.right in
    let Is = IsMergeRefusal
    (IsRead (g.L.ByteSource.gave c.args.left.now) (g.L.ByteSource.gave one)
    (g.L.ByteSource.ended one))
    (IsRead (g.R.ByteSource.gave c.args.right.now) (g.R.ByteSource.gave two)
    (g.R.ByteSource.ended two)) in
    λ told. outcome_told Is run.result (g.F.ByteSink.took c.args.faults.now)
    (g.F.ByteSink.took c.end.new.faults) (c.end.ensures.told told) run.ensures.refusal

pub returns-clause-ended : goal.returns-clause-ended
returns-clause-ended g c =
    let run = c.merge-outcome in
    λ is. on_done run.result _ (c.end.ensures.done is) run.ensures.ended

pub returns-clause-printed : goal.returns-clause-printed
returns-clause-printed g c =
    let run = c.merge-outcome in
    λ is. on_done run.result _ (c.end.ensures.done is) run.ensures.printed

pub returns-clause-part : goal.returns-clause-part
returns-clause-part g c =
    let run = c.merge-outcome in
    λ not. unfinished run.result _ c.end.result c.end.ensures.finished not run.ensures.part

pub returns-clause-wanted : goal.returns-clause-wanted
returns-clause-wanted g c =
    let run = c.merge-outcome in
    λ is. on_memory _ run.result (c.end.ensures.wanted is) run.ensures.memory

pub returns-clause-shown : goal.returns-clause-shown
returns-clause-shown g c =
    let run = c.merge-outcome in
    λ not. unfinished run.result _ c.end.result c.end.ensures.finished not run.ensures.shown
