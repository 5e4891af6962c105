use Rattle.std.proofs.Common.{List, [], ◌∷◌}
use Rattle.run_outcome.specs.Fault.{Failures, counts, failures_in}
use Rattle.run_outcome.specs.Moments.{WasRead}
use Rattle.run_outcome.proofs.Ended.{blamed, on_done, on_refused}
use Rattle.run_outcome.proofs.Refusals.{outcome_told}
use Rattle.st_format.specs.History.{IsRead}
use Rattle.stream_sending.specs.Sent.{IsSentStreamRefusal}
use Rattle.st2110_tool.proofs.Unfinished.{on_memory, unfinished}
use Rattle.st2110_tool.proofs.streams.run_send_stream.Goals as goal

pub returns-clause-failures : goal.returns-clause-failures
returns-clause-failures g c =
    let run = c.send_stream-outcome in
    let devices : List Failures =
    counts (failures_in g.S.ByteSource.failures c.args.sdp.now)
    (failures_in g.S.ByteSource.failures run.new.sdp)
    ∷ counts (g.S.ByteSource.failures c.args.stream.now) (g.S.ByteSource.failures run.new.stream)
    ∷ counts (g.K.ByteSink.failures c.args.sink.now) (g.K.ByteSink.failures run.new.sink)
    ∷ counts (g.O.ByteSink.failures c.args.output.now) (g.O.ByteSink.failures run.new.output)
    ∷ [] in
    let last : Failures =
    counts (g.F.ByteSink.failures c.args.faults.now) (g.F.ByteSink.failures c.end.new.faults) in
    blamed run.result devices last c.end.result run.ensures.failures c.end.ensures.failed
    c.end.ensures.worked c.end.ensures.working

pub returns-clause-sent : goal.returns-clause-sent
returns-clause-sent g c =
    let run = c.send_stream-outcome in
    λ is. on_done run.result _ (c.end.ensures.done is) run.ensures.sent

pub returns-clause-ended : goal.returns-clause-ended
returns-clause-ended g c =
    let run = c.send_stream-outcome in
    λ is. on_done run.result _ (c.end.ensures.done is) run.ensures.ended

pub returns-clause-quiet : goal.returns-clause-quiet
returns-clause-quiet g c =
    let run = c.send_stream-outcome in
    λ is. on_refused run.result _ (c.end.ensures.refused is) run.ensures.quiet

pub returns-clause-told : goal.returns-clause-told
returns-clause-told g c =
    let run = c.send_stream-outcome in
    let file = g.S.ByteSource in
    let Is = IsSentStreamRefusal c.args.wanted.max_octets c.args.sdp.now run.new.sdp
    (WasRead file.gave file.ended)
    (IsRead (file.gave c.args.stream.now) (file.gave run.new.stream)
    (file.ended run.new.stream)) in
    λ one. outcome_told Is run.result (g.F.ByteSink.took c.args.faults.now)
    (g.F.ByteSink.took c.end.new.faults) (c.end.ensures.told one) run.ensures.refusal

pub returns-clause-wanted : goal.returns-clause-wanted
returns-clause-wanted g c =
    let run = c.send_stream-outcome in
    λ is. on_memory _ run.result (c.end.ensures.wanted is) run.ensures.memory

pub returns-clause-part : goal.returns-clause-part
returns-clause-part g c =
    let run = c.send_stream-outcome in
    λ not. unfinished run.result _ c.end.result c.end.ensures.finished not run.ensures.part

pub returns-clause-printed : goal.returns-clause-printed
returns-clause-printed g c =
    let run = c.send_stream-outcome in
    λ not. unfinished run.result _ c.end.result c.end.ensures.finished not run.ensures.printed
