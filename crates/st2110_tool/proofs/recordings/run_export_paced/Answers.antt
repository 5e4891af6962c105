use Rattle.std.proofs.Common.{List, [], ◌∷◌}
use Rattle.std.specs.Option.{option_copied}
use Rattle.paced_export.specs.PacedRefused.{IsPacedRefusal}
use Rattle.run_outcome.specs.Fault.{Failures, counts}
use Rattle.run_outcome.proofs.Ended.{blamed, on_done, on_refused}
use Rattle.run_outcome.proofs.Refusals.{outcome_told}
use Rattle.st_format.specs.History.{IsRead}
use Rattle.st2110_tool.proofs.Unfinished.{on_memory, unfinished}
use Rattle.st2110_tool.proofs.recordings.run_export_paced.Goals as goal

pub returns-clause-failures : goal.returns-clause-failures
returns-clause-failures g c =
    let run = c.export_paced-outcome in
    let devices : List Failures =
    counts (g.S.ByteSource.failures c.args.ahead.now) (g.S.ByteSource.failures run.new.ahead)
    ∷ counts (g.S.ByteSource.failures c.args.capture.now)
    (g.S.ByteSource.failures run.new.capture)
    ∷ counts (g.K.ByteSink.failures c.args.sink.now) (g.K.ByteSink.failures run.new.sink)
    ∷ counts (g.O.ByteSink.failures c.args.output.now) (g.O.ByteSink.failures run.new.output)
    ∷ [] in
    let last : Failures =
    counts (g.F.ByteSink.failures c.args.faults.now) (g.F.ByteSink.failures c.end.new.faults) in
    blamed run.result devices last c.end.result run.ensures.failures c.end.ensures.failed
    c.end.ensures.worked c.end.ensures.working

pub returns-clause-exported : goal.returns-clause-exported
returns-clause-exported g c =
    let run = c.export_paced-outcome in
    λ is. on_done run.result _ (c.end.ensures.done is) run.ensures.exported

pub returns-clause-quiet : goal.returns-clause-quiet
returns-clause-quiet g c =
    let run = c.export_paced-outcome in
    λ is. on_refused run.result _ (c.end.ensures.refused is) run.ensures.quiet

pub returns-clause-told : goal.returns-clause-told
returns-clause-told g c =
    let run = c.export_paced-outcome in
    let file = g.S.ByteSource in
    let Is = IsPacedRefusal c.args.wanted.flows.a.now (option_copied c.args.wanted.flows.b)
    (IsRead (file.gave c.args.ahead.now) (file.gave run.new.ahead) (file.ended run.new.ahead))
    (IsRead (file.gave c.args.capture.now) (file.gave run.new.capture)
    (file.ended run.new.capture)) in
    λ one. outcome_told Is run.result (g.F.ByteSink.took c.args.faults.now)
    (g.F.ByteSink.took c.end.new.faults) (c.end.ensures.told one) run.ensures.refusal

pub returns-clause-left : goal.returns-clause-left
returns-clause-left g c =
    let run = c.export_paced-outcome in
    λ not. unfinished run.result _ c.end.result c.end.ensures.finished not run.ensures.left

pub returns-clause-wanted : goal.returns-clause-wanted
returns-clause-wanted g c =
    let run = c.export_paced-outcome in
    λ is. on_memory _ run.result (c.end.ensures.wanted is) run.ensures.memory

pub returns-clause-printed : goal.returns-clause-printed
returns-clause-printed g c =
    let run = c.export_paced-outcome in
    λ not. unfinished run.result _ c.end.result c.end.ensures.finished not run.ensures.printed
