use Rattle.std.proofs.Common.{List, [], ◌∷◌}
use Rattle.script_engines.specs.Reading.{IsRefusedFor}
use Rattle.script_engines.specs.Traced.{IsUntraced, TracesToFault}
use Rattle.st2110_tool.proofs.ReadScripts.{read_all, read_whole}
use Rattle.run_outcome.specs.Fault.{Failures, counts}
use Rattle.run_outcome.proofs.Ended.{blamed, on_done}
use Rattle.run_outcome.proofs.Refusals.{outcome_told}
use Rattle.st2110_tool.proofs.Unfinished.{unfinished}
use Rattle.st2110_tool.proofs.scripts.run_trace.Goals as goal

pub returns-clause-failures : goal.returns-clause-failures
returns-clause-failures g c =
    let run = c.trace-outcome in
    let devices : List Failures =
    counts (g.S.ByteSource.failures c.args.source.now) (g.S.ByteSource.failures run.new.source)
    ∷ counts (g.O.ByteSink.failures c.args.output.now) (g.O.ByteSink.failures run.new.output)
    ∷ [] in
    let last : Failures =
    counts (g.F.ByteSink.failures c.args.faults.now) (g.F.ByteSink.failures c.end.new.faults) in
    blamed run.result devices last c.end.result run.ensures.failures c.end.ensures.failed
    c.end.ensures.worked c.end.ensures.working

pub returns-clause-traces : goal.returns-clause-traces
returns-clause-traces g c =
    let run = c.trace-outcome in
    λ is. on_done run.result _ (c.end.ensures.done is) run.ensures.traces

pub returns-clause-told : goal.returns-clause-told
returns-clause-told g c =
    let run = c.trace-outcome in
    let Is = IsRefusedFor IsUntraced (g.S.ByteSource.gave c.args.source.now)
    (g.S.ByteSource.gave run.new.source) (g.S.ByteSource.ended run.new.source) in
    λ one. outcome_told Is run.result (g.F.ByteSink.took c.args.faults.now)
    (g.F.ByteSink.took c.end.new.faults) (c.end.ensures.told one) run.ensures.refusal

pub returns-clause-stops : goal.returns-clause-stops
returns-clause-stops g c =
    let run = c.trace-outcome in
    let Is = IsRefusedFor (TracesToFault (g.O.ByteSink.took c.args.output.now)
    (g.O.ByteSink.took run.new.output)) (g.S.ByteSource.gave c.args.source.now)
    (g.S.ByteSource.gave run.new.source) (g.S.ByteSource.ended run.new.source) in
    λ one. outcome_told Is run.result (g.F.ByteSink.took c.args.faults.now)
    (g.F.ByteSink.took c.end.new.faults) (c.end.ensures.told one) run.ensures.stops

pub returns-clause-whole : goal.returns-clause-whole
returns-clause-whole g c =
    let run = c.trace-outcome in
    λ is. read_whole run.result _ _ (c.end.ensures.done is) run.ensures.read

pub returns-clause-read : goal.returns-clause-read
returns-clause-read g c =
    let run = c.trace-outcome in
    λ is. read_all run.result _ _ (c.end.ensures.refused is) run.ensures.read

pub returns-clause-part : goal.returns-clause-part
returns-clause-part g c =
    let run = c.trace-outcome in
    λ not. unfinished run.result _ c.end.result c.end.ensures.finished not run.ensures.part
