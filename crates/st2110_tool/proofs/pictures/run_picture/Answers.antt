use Rattle.std.proofs.Common.{List, [], ◌∷◌}
use Rattle.picture_engine.specs.Refused.{IsShowRefusal}
use Rattle.run_outcome.specs.Fault.{Failures, counts, failures_in}
use Rattle.run_outcome.specs.Moments.{WasRead, pair}
use Rattle.run_outcome.proofs.Ended.{blamed, on_done, on_refused}
use Rattle.run_outcome.proofs.Refusals.{outcome_told}
use Rattle.st_format.specs.History.{IsRead}
use Rattle.st2110_tool.proofs.Unfinished.{unfinished}
use Rattle.st2110_tool.proofs.pictures.run_picture.Goals as goal

pub returns-clause-failures : goal.returns-clause-failures
returns-clause-failures g c =
    let run = c.picture-outcome in
    let devices : List Failures =
    counts (g.S.ByteSource.failures c.args.state.now) (g.S.ByteSource.failures run.new.state)
    ∷ counts (failures_in g.S.ByteSource.failures c.args.hold.now)
    (failures_in g.S.ByteSource.failures run.new.hold)
    ∷ counts (g.K.ByteSink.failures c.args.sink.now) (g.K.ByteSink.failures run.new.sink)
    ∷ [] in
    let last : Failures =
    counts (g.F.ByteSink.failures c.args.faults.now) (g.F.ByteSink.failures c.end.new.faults) in
    blamed run.result devices last c.end.result run.ensures.failures c.end.ensures.failed
    c.end.ensures.worked c.end.ensures.working

pub returns-clause-shown : goal.returns-clause-shown
returns-clause-shown g c =
    let run = c.picture-outcome in
    λ is. on_done run.result _ (c.end.ensures.done is) run.ensures.shown

pub returns-clause-ended : goal.returns-clause-ended
returns-clause-ended g c =
    let run = c.picture-outcome in
    λ is. on_done run.result _ (c.end.ensures.done is) run.ensures.ended

pub returns-clause-refused : goal.returns-clause-refused
returns-clause-refused g c =
    let run = c.picture-outcome in
    λ is. on_refused run.result _ (c.end.ensures.refused is) run.ensures.refused

pub returns-clause-told : goal.returns-clause-told
returns-clause-told g c =
    let run = c.picture-outcome in
    let file = g.S.ByteSource in
    let Is = IsShowRefusal
    (IsRead (file.gave c.args.state.now) (file.gave run.new.state) (file.ended run.new.state))
    (WasRead file.gave file.ended) (pair c.args.hold.now run.new.hold) c.args.asked in
    λ one. outcome_told Is run.result (g.F.ByteSink.took c.args.faults.now)
    (g.F.ByteSink.took c.end.new.faults) (c.end.ensures.told one) run.ensures.refusal

pub returns-clause-part : goal.returns-clause-part
returns-clause-part g c =
    let run = c.picture-outcome in
    λ not. unfinished run.result _ c.end.result c.end.ensures.finished not run.ensures.part
