use Rattle.std.proofs.Common.{List, [], ◌∷◌}
use Rattle.std.specs.List.{sum_by, zip}
use Rattle.run_outcome.specs.Fault.{Failures, counts}
use Rattle.inspect_engine.specs.Told.{IsInspectRefusal}
use Rattle.run_outcome.specs.Moments.{WasRead}
use Rattle.run_outcome.proofs.Ended.{blamed, on_done}
use Rattle.run_outcome.proofs.Refusals.{outcome_told}
use Rattle.st2110_tool.proofs.recordings.run_inspect.Goals as goal

pub returns-clause-failures : goal.returns-clause-failures
returns-clause-failures g c =
    let run = c.inspect-outcome in
    let devices : List Failures =
    counts (sum_by g.S.ByteSource.failures c.args.recordings.now)
    (sum_by g.S.ByteSource.failures run.new.recordings)
    ∷ counts (g.O.ByteSink.failures c.args.output.now) (g.O.ByteSink.failures run.new.output)
    ∷ [] in
    let last : Failures =
    counts (g.F.ByteSink.failures c.args.faults.now) (g.F.ByteSink.failures c.end.new.faults) in
    blamed run.result devices last c.end.result run.ensures.failures c.end.ensures.failed
    c.end.ensures.worked c.end.ensures.working

pub returns-clause-inspected : goal.returns-clause-inspected
returns-clause-inspected g c =
    let run = c.inspect-outcome in
    λ is. on_done run.result _ (c.end.ensures.done is) run.ensures.told

pub returns-clause-told : goal.returns-clause-told
returns-clause-told g c =
    let run = c.inspect-outcome in
    let file = g.S.ByteSource in
    let Is = IsInspectRefusal c.args.form (WasRead file.gave file.ended)
    (zip c.args.recordings.now run.new.recordings) (g.O.ByteSink.took c.args.output.now)
    (g.O.ByteSink.took run.new.output) in
    λ one. outcome_told Is run.result (g.F.ByteSink.took c.args.faults.now)
    (g.F.ByteSink.took c.end.new.faults) (c.end.ensures.told one) run.ensures.refusal
