use Rattle.std.proofs.Common.{List, [], ◌∷◌}
use Rattle.st_format.specs.History.{IsRead}
use Rattle.capture_engines.specs.Looped.{IsLoopRefusal}
use Rattle.run_outcome.specs.Fault.{Failures, counts}
use Rattle.run_outcome.proofs.Ended.{blamed, on_done, on_refused}
use Rattle.run_outcome.proofs.Refusals.{outcome_told}
use Rattle.st2110_tool.proofs.Unfinished.{on_memory, unfinished}
use Rattle.st2110_tool.proofs.captures.run_loop.Goals as goal

pub returns-clause-failures : goal.returns-clause-failures
returns-clause-failures g c =
    let run = c.loop_back-outcome in
    let devices : List Failures =
    counts (g.S.ByteSource.failures c.args.picture.now) (g.S.ByteSource.failures run.new.source)
    ∷ counts (g.L.DatagramSink.failures c.args.link.now) (g.L.DatagramSink.failures run.new.link)
    ∷ counts (g.O.ByteSink.failures c.args.output.now) (g.O.ByteSink.failures run.new.output)
    ∷ [] in
    let last : Failures =
    counts (g.F.ByteSink.failures c.args.faults.now) (g.F.ByteSink.failures c.end.new.faults) in
    blamed run.result devices last c.end.result run.ensures.failures c.end.ensures.failed
    c.end.ensures.worked c.end.ensures.working

pub returns-clause-looped : goal.returns-clause-looped
returns-clause-looped g c =
    let run = c.loop_back-outcome in
    λ is. on_done run.result _ (c.end.ensures.done is) run.ensures.looped

pub returns-clause-told : goal.returns-clause-told
returns-clause-told g c =
    let run = c.loop_back-outcome in
    let Is =
    IsLoopRefusal c.args.wanted.max_octets
    (IsRead (g.S.ByteSource.gave c.args.picture.now) (g.S.ByteSource.gave run.new.source)
    (g.S.ByteSource.ended run.new.source)) in
    λ one. outcome_told Is run.result (g.F.ByteSink.took c.args.faults.now)
    (g.F.ByteSink.took c.end.new.faults) (c.end.ensures.told one) run.ensures.refusal

pub returns-clause-quiet : goal.returns-clause-quiet
returns-clause-quiet g c =
    let run = c.loop_back-outcome in
    λ is. on_refused run.result _ (c.end.ensures.refused is) run.ensures.quiet

pub returns-clause-apart : goal.returns-clause-apart
returns-clause-apart g c =
    let run = c.loop_back-outcome in
    λ is. on_refused run.result _ (c.end.ensures.refused is) run.ensures.apart

pub returns-clause-wanted : goal.returns-clause-wanted
returns-clause-wanted g c =
    let run = c.loop_back-outcome in
    λ is. on_memory _ run.result (c.end.ensures.wanted is) run.ensures.memory

pub returns-clause-printed : goal.returns-clause-printed
returns-clause-printed g c =
    let run = c.loop_back-outcome in
    λ not. unfinished run.result _ c.end.result c.end.ensures.finished not run.ensures.printed
