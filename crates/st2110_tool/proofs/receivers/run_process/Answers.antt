use Rattle.std.proofs.Common.{List, [], ◌∷◌}
use Rattle.std.specs.List.{sum_by}
use Rattle.run_outcome.specs.Moments.{WasRead, pair}
use Rattle.std.specs.List.{zip}
use Rattle.receiver_engines.specs.Refused.{IsRunRefusal}
use Rattle.run_outcome.specs.Fault.{Failures, counts, failures_in}
use Rattle.run_outcome.proofs.Ended.{blamed, on_done, on_refused}
use Rattle.run_outcome.proofs.Refusals.{outcome_told}
use Rattle.st2110_tool.proofs.Unfinished.{on_memory, unfinished}
use Rattle.st2110_tool.proofs.receivers.run_process.Goals as goal

pub returns-clause-failures : goal.returns-clause-failures
returns-clause-failures g c =
    let run = c.process-outcome in
    let devices : List Failures =
    counts (sum_by g.S.ByteSource.failures c.args.states.now)
    (sum_by g.S.ByteSource.failures run.new.states)
    ∷ counts (failures_in g.S.ByteSource.failures c.args.hold.now)
    (failures_in g.S.ByteSource.failures run.new.hold)
    ∷ counts (g.K.ByteSink.failures c.args.sink.now) (g.K.ByteSink.failures run.new.sink)
    ∷ counts (g.O.ByteSink.failures c.args.output.now) (g.O.ByteSink.failures run.new.output)
    ∷ [] in
    let last : Failures =
    counts (g.F.ByteSink.failures c.args.faults.now) (g.F.ByteSink.failures c.end.new.faults) in
    blamed run.result devices last c.end.result run.ensures.failures c.end.ensures.failed
    c.end.ensures.worked c.end.ensures.working

pub returns-clause-sent : goal.returns-clause-sent
returns-clause-sent g c =
    let run = c.process-outcome in
    λ is. on_done run.result _ (c.end.ensures.done is) run.ensures.sent

pub returns-clause-refused : goal.returns-clause-refused
returns-clause-refused g c =
    let run = c.process-outcome in
    λ is. on_refused run.result _ (c.end.ensures.refused is) run.ensures.refused

pub returns-clause-quiet : goal.returns-clause-quiet
returns-clause-quiet g c =
    let run = c.process-outcome in
    λ is. on_refused run.result _ (c.end.ensures.refused is) run.ensures.quiet

pub returns-clause-told : goal.returns-clause-told
returns-clause-told g c =
    let run = c.process-outcome in
    let Is = IsRunRefusal (WasRead g.S.ByteSource.gave g.S.ByteSource.ended)
    (zip c.args.states.now run.new.states) (pair c.args.hold.now run.new.hold)
    c.args.wanted in
    λ one. outcome_told Is run.result (g.F.ByteSink.took c.args.faults.now)
    (g.F.ByteSink.took c.end.new.faults) (c.end.ensures.told one) run.ensures.refusal

pub returns-clause-part : goal.returns-clause-part
returns-clause-part g c =
    let run = c.process-outcome in
    λ not. unfinished run.result _ c.end.result c.end.ensures.finished not run.ensures.part

pub returns-clause-wanted : goal.returns-clause-wanted
returns-clause-wanted g c =
    let run = c.process-outcome in
    λ is. on_memory _ run.result (c.end.ensures.wanted is) run.ensures.memory

pub returns-clause-printed : goal.returns-clause-printed
returns-clause-printed g c =
    let run = c.process-outcome in
    λ not. unfinished run.result _ c.end.result c.end.ensures.finished not run.ensures.printed
