use Rattle.std.proofs.Common.{List, [], ◌∷◌, length}
use Rattle.std.specs.List.{sum_by, zip}
use Rattle.run_outcome.specs.Moments.{WasRead}
use Rattle.capture_engines.specs.Sent.{IsSendRefusal}
use Rattle.run_outcome.specs.Fault.{Failures, counts, failures_in}
use Rattle.run_outcome.proofs.Ended.{blamed, on_done, on_refused}
use Rattle.run_outcome.proofs.Refusals.{outcome_told}
use Rattle.st2110_tool.proofs.Unfinished.{on_memory, unfinished}
use Rattle.st2110_tool.proofs.captures.run_send.Goals as goal

pub returns-clause-failures : goal.returns-clause-failures
returns-clause-failures g c =
    let run = c.send-outcome in
    let devices : List Failures =
    counts (failures_in g.S.ByteSource.failures c.args.sdp.now)
    (failures_in g.S.ByteSource.failures run.new.sdp)
    ∷ counts (sum_by g.S.ByteSource.failures c.args.pictures.now)
    (sum_by g.S.ByteSource.failures run.new.pictures)
    ∷ counts (g.K.ByteSink.failures c.args.sink.now) (g.K.ByteSink.failures run.new.sink)
    ∷ counts (g.O.ByteSink.failures c.args.output.now) (g.O.ByteSink.failures run.new.output)
    ∷ [] in
    let last : Failures =
    counts (g.F.ByteSink.failures c.args.faults.now) (g.F.ByteSink.failures c.end.new.faults) in
    blamed run.result devices last c.end.result run.ensures.failures c.end.ensures.failed
    c.end.ensures.worked c.end.ensures.working

pub returns-clause-sent : goal.returns-clause-sent
returns-clause-sent g c =
    let run = c.send-outcome in
    λ is. on_done run.result _ (c.end.ensures.done is) run.ensures.sent

pub returns-clause-told : goal.returns-clause-told
returns-clause-told g c =
    let run = c.send-outcome in
    let Is =
    IsSendRefusal c.args.wanted.max_octets (length c.args.pictures.now) c.args.sdp.now
    run.new.sdp (WasRead g.S.ByteSource.gave g.S.ByteSource.ended)
    (zip c.args.pictures.now run.new.pictures) in
    λ one. outcome_told Is run.result (g.F.ByteSink.took c.args.faults.now)
    (g.F.ByteSink.took c.end.new.faults) (c.end.ensures.told one) run.ensures.refusal

pub returns-clause-quiet : goal.returns-clause-quiet
returns-clause-quiet g c =
    let run = c.send-outcome in
    λ is. on_refused run.result _ (c.end.ensures.refused is) run.ensures.quiet

pub returns-clause-wanted : goal.returns-clause-wanted
returns-clause-wanted g c =
    let run = c.send-outcome in
    λ is. on_memory _ run.result (c.end.ensures.wanted is) run.ensures.memory

pub returns-clause-part : goal.returns-clause-part
returns-clause-part g c =
    let run = c.send-outcome in
    λ not. unfinished run.result _ c.end.result c.end.ensures.finished not run.ensures.part

pub returns-clause-printed : goal.returns-clause-printed
returns-clause-printed g c =
    let run = c.send-outcome in
    λ not. unfinished run.result _ c.end.result c.end.ensures.finished not run.ensures.printed
