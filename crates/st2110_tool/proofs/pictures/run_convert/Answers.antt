use Rattle.std.proofs.Common.{List, [], ◌∷◌}
use Rattle.convert_engine.specs.Converting.{IsConvertRefusal}
use Rattle.run_outcome.specs.Fault.{Failures, counts}
use Rattle.run_outcome.proofs.Ended.{blamed, on_done, on_refused}
use Rattle.run_outcome.proofs.Refusals.{outcome_told}
use Rattle.st_format.specs.History.{IsRead}
use Rattle.st2110_tool.proofs.Unfinished.{on_memory, unfinished}
use Rattle.st2110_tool.proofs.pictures.run_convert.Goals as goal

pub returns-clause-failures : goal.returns-clause-failures
returns-clause-failures g c =
    let run = c.convert-outcome in
    let devices : List Failures =
    counts (g.S.ByteSource.failures c.args.source.now) (g.S.ByteSource.failures run.new.source)
    ∷ counts (g.K.ByteSink.failures c.args.sink.now) (g.K.ByteSink.failures run.new.sink)
    ∷ [] in
    let last : Failures =
    counts (g.F.ByteSink.failures c.args.faults.now) (g.F.ByteSink.failures c.end.new.faults) in
    blamed run.result devices last c.end.result run.ensures.failures c.end.ensures.failed
    c.end.ensures.worked c.end.ensures.working

pub returns-clause-converted : goal.returns-clause-converted
returns-clause-converted g c =
    let run = c.convert-outcome in
    λ is. on_done run.result _ (c.end.ensures.done is) run.ensures.converted

pub returns-clause-refused : goal.returns-clause-refused
returns-clause-refused g c =
    let run = c.convert-outcome in
    λ is. on_refused run.result _ (c.end.ensures.refused is) run.ensures.refused

pub returns-clause-told : goal.returns-clause-told
returns-clause-told g c =
    let run = c.convert-outcome in
    let file = g.S.ByteSource in
    let Is = IsConvertRefusal c.args.asked
    (IsRead (file.gave c.args.source.now) (file.gave run.new.source)
    (file.ended run.new.source)) in
    λ one. outcome_told Is run.result (g.F.ByteSink.took c.args.faults.now)
    (g.F.ByteSink.took c.end.new.faults) (c.end.ensures.told one) run.ensures.refusal

pub returns-clause-part : goal.returns-clause-part
returns-clause-part g c =
    let run = c.convert-outcome in
    λ not. unfinished run.result _ c.end.result c.end.ensures.finished not run.ensures.part

pub returns-clause-wanted : goal.returns-clause-wanted
returns-clause-wanted g c =
    let run = c.convert-outcome in
    λ is. on_memory _ run.result (c.end.ensures.wanted is) run.ensures.memory
