use Rattle.std.proofs.Common.{List, [], ◌∷◌}
use Rattle.run_outcome.specs.Fault.{Failures, counts}
use Rattle.st_format.specs.History.{IsRead}
use Rattle.run_outcome.specs.Text.{GivesText}
use Rattle.capture_engines.specs.Migrating.{LeavesAt, Passed, passed}
use Rattle.capture_engines.specs.MigrateRefused.{IsMigrateRefusal}
use Rattle.run_outcome.specs.declared.refusal.Refusal.{Refusal}
use Rattle.run_outcome.proofs.Ended.{blamed, on_done, on_refused}
use Rattle.capture_engines.proofs.Leaving.{refused_left, run_left}
use Rattle.run_outcome.proofs.Refusals.{outcome_told}
use Rattle.st2110_tool.proofs.Unfinished.{on_memory, unfinished}
use Rattle.st2110_tool.proofs.captures.run_migrate.Goals as goal

pub returns-clause-failures : goal.returns-clause-failures
returns-clause-failures g c =
    let run = c.migrate-outcome in
    let devices : List Failures =
    counts (g.D.ByteSource.failures c.args.sdp.now) (g.D.ByteSource.failures run.new.sdp)
    ∷ counts (g.S.ByteSource.failures c.args.source.now) (g.S.ByteSource.failures run.new.source)
    ∷ counts (g.K.ByteSink.failures c.args.sink.now) (g.K.ByteSink.failures run.new.sink)
    ∷ counts (g.O.ByteSink.failures c.args.output.now) (g.O.ByteSink.failures run.new.output)
    ∷ [] in
    let last : Failures =
    counts (g.F.ByteSink.failures c.args.faults.now) (g.F.ByteSink.failures c.end.new.faults) in
    blamed run.result devices last c.end.result run.ensures.failures c.end.ensures.failed
    c.end.ensures.worked c.end.ensures.working

pub returns-clause-migrated : goal.returns-clause-migrated
returns-clause-migrated g c =
    let run = c.migrate-outcome in
    λ is. on_done run.result _ (c.end.ensures.done is) run.ensures.migrated

pub returns-clause-left : goal.returns-clause-left
returns-clause-left g c =
    let run = c.migrate-outcome in
    let told = g.S.ByteSource in
    let sink = g.K.ByteSink in
    let sdp = g.D.ByteSource in
    let over = told.ended run.new.source in
    let Said =
    GivesText 65535 (sdp.gave c.args.sdp.now) (sdp.gave run.new.sdp) (sdp.ended run.new.sdp) in
    let old : Passed =
    passed (told.gave c.args.source.now) (told.failures c.args.source.now)
    (sink.took c.args.sink.now) (sink.failures c.args.sink.now) in
    let new : Passed =
    passed (told.gave run.new.source) (told.failures run.new.source)
    (sink.took run.new.sink) (sink.failures run.new.sink) in
    λ _. run_left run.result Said over old new (g.O.ByteSink.took c.args.output.now)
    (g.O.ByteSink.took run.new.output) run.ensures.migrated run.ensures.left

pub returns-clause-told : goal.returns-clause-told
returns-clause-told g c =
    let run = c.migrate-outcome in
    let told = g.S.ByteSource in
    let sink = g.K.ByteSink in
    let sdp = g.D.ByteSource in
    let over = told.ended run.new.source in
    let Said =
    GivesText 65535 (sdp.gave c.args.sdp.now) (sdp.gave run.new.sdp) (sdp.ended run.new.sdp) in
    let old : Passed =
    passed (told.gave c.args.source.now) (told.failures c.args.source.now)
    (sink.took c.args.sink.now) (sink.failures c.args.sink.now) in
    let new : Passed =
    passed (told.gave run.new.source) (told.failures run.new.source)
    (sink.took run.new.sink) (sink.failures run.new.sink) in
    let Is =
    IsMigrateRefusal
    (IsRead (sdp.gave c.args.sdp.now) (sdp.gave run.new.sdp) (sdp.ended run.new.sdp))
    (IsRead (told.gave c.args.source.now) (told.gave run.new.source) over) in
    λ one. outcome_told (λ (r : Refusal). Is r × LeavesAt r Said over old new) run.result
    (g.F.ByteSink.took c.args.faults.now) (g.F.ByteSink.took c.end.new.faults)
    (c.end.ensures.told one)
    (refused_left Is run.result Said over old new run.ensures.refusal run.ensures.left)

pub returns-clause-described : goal.returns-clause-described
returns-clause-described g c =
    let run = c.migrate-outcome in
    λ is. on_done run.result _ (c.end.ensures.done is) run.ensures.described

pub returns-clause-quiet : goal.returns-clause-quiet
returns-clause-quiet g c =
    let run = c.migrate-outcome in
    λ is. on_refused run.result _ (c.end.ensures.refused is) run.ensures.quiet

pub returns-clause-wanted : goal.returns-clause-wanted
returns-clause-wanted g c =
    let run = c.migrate-outcome in
    λ is. on_memory _ run.result (c.end.ensures.wanted is) run.ensures.memory

pub returns-clause-printed : goal.returns-clause-printed
returns-clause-printed g c =
    let run = c.migrate-outcome in
    λ not. unfinished run.result _ c.end.result c.end.ensures.finished not run.ensures.printed
