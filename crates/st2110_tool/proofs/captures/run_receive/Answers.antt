use Rattle.std.proofs.Common.{List, [], ◌∷◌}
use Rattle.std.specs.List.{sum_by}
use Rattle.run_outcome.specs.Moments.{WasRead, pair}
use Rattle.capture_engines.specs.Received.{IsReceiveRefusal}
use Rattle.std.specs.List.{zip}
use Rattle.run_outcome.specs.Fault.{Failures, counts, failures_in}
use Rattle.run_outcome.proofs.Ended.{blamed, on_done, on_refused}
use Rattle.run_outcome.proofs.Refusals.{outcome_told}
use Rattle.st2110_tool.proofs.Unfinished.{on_memory, unfinished}
use Rattle.st2110_tool.proofs.captures.run_receive.Goals as goal

pub returns-clause-failures : goal.returns-clause-failures
returns-clause-failures g c =
    let run = c.receive-outcome in
    let devices : List Failures =
    counts (failures_in g.S.ByteSource.failures c.args.sdp.now)
    (failures_in g.S.ByteSource.failures run.new.sdp)
    ∷ counts (sum_by g.S.ByteSource.failures c.args.captures.now)
    (sum_by g.S.ByteSource.failures run.new.captures)
    ∷ counts (g.K.ByteSink.failures c.args.state.now) (g.K.ByteSink.failures run.new.state)
    ∷ counts (g.O.ByteSink.failures c.args.output.now) (g.O.ByteSink.failures run.new.output)
    ∷ [] in
    let last : Failures =
    counts (g.F.ByteSink.failures c.args.faults.now) (g.F.ByteSink.failures c.end.new.faults) in
    blamed run.result devices last c.end.result run.ensures.failures c.end.ensures.failed
    c.end.ensures.worked c.end.ensures.working

pub returns-clause-saved : goal.returns-clause-saved
returns-clause-saved g c =
    let run = c.receive-outcome in
    λ is. on_done run.result _ (c.end.ensures.done is) run.ensures.saved

pub returns-clause-taken : goal.returns-clause-taken
returns-clause-taken g c =
    let run = c.receive-outcome in
    λ is. on_done run.result _ (c.end.ensures.done is) run.ensures.taken

pub returns-clause-refused : goal.returns-clause-refused
returns-clause-refused g c =
    let run = c.receive-outcome in
    λ is. on_refused run.result _ (c.end.ensures.refused is) run.ensures.refused

pub returns-clause-quiet : goal.returns-clause-quiet
returns-clause-quiet g c =
    let run = c.receive-outcome in
    λ is. on_refused run.result _ (c.end.ensures.refused is) run.ensures.quiet

pub returns-clause-told : goal.returns-clause-told
returns-clause-told g c =
    let run = c.receive-outcome in
    let told = g.S.ByteSource in
    let Is = IsReceiveRefusal c.args.wanted.window.now c.args.wanted.ssrc.now
    (pair c.args.sdp.now run.new.sdp) (WasRead told.gave told.ended)
    (zip c.args.captures.now run.new.captures) in
    λ one. outcome_told Is run.result (g.F.ByteSink.took c.args.faults.now)
    (g.F.ByteSink.took c.end.new.faults) (c.end.ensures.told one) run.ensures.refusal

pub returns-clause-part : goal.returns-clause-part
returns-clause-part g c =
    let run = c.receive-outcome in
    λ not. unfinished run.result _ c.end.result c.end.ensures.finished not run.ensures.part

pub returns-clause-wanted : goal.returns-clause-wanted
returns-clause-wanted g c =
    let run = c.receive-outcome in
    λ is. on_memory _ run.result (c.end.ensures.wanted is) run.ensures.memory

pub returns-clause-printed : goal.returns-clause-printed
returns-clause-printed g c =
    let run = c.receive-outcome in
    λ not. unfinished run.result _ c.end.result c.end.ensures.finished not run.ensures.printed
