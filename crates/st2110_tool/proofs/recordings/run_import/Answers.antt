use Rattle.std.proofs.Common.{◌≡◌, ◌⊎◌, List, [], ◌∷◌}
use Rattle.std.specs.List.{sum_by, zip}
use Rattle.run_outcome.specs.Fault.{Failures, counts}
use Rattle.std.specs.Option.{option_copied}
use Rattle.recording_engines.specs.Files.{ended_by, failures_by, gave_by}
use Rattle.recording_engines.specs.Imported.{IsImportRefusal}
use Rattle.recording_engines.specs.Progress.{IsDeviceOrFile}
use Rattle.run_outcome.specs.Moments.{WasRead}
use Rattle.run_outcome.specs.declared.fault.Fault.{Fault}
use Rattle.run_outcome.specs.Text.{GivesFew, GivesText}
use Rattle.run_outcome.proofs.Ended.{blamed, on_done, on_refused}
use Rattle.run_outcome.proofs.Refusals.{outcome_told}
use Rattle.st_format.specs.History.{IsRead}
use Rattle.st2110_tool.proofs.Unfinished.{on_memory, unfinished}
use Rattle.st2110_tool.proofs.recordings.run_import.Goals as goal

pub returns-clause-failures : goal.returns-clause-failures
returns-clause-failures g c =
    let run = c.import_all-outcome in
    let devices : List Failures =
    counts (g.D.ByteSource.failures c.args.sdp.now) (g.D.ByteSource.failures run.new.sdp)
    ∷ counts (sum_by (failures_by g.S.ByteSource.failures) c.args.files.now)
    (sum_by (failures_by g.S.ByteSource.failures) run.new.files)
    ∷ counts (g.K.ByteSink.failures c.args.capture.now) (g.K.ByteSink.failures run.new.capture)
    ∷ counts (g.O.ByteSink.failures c.args.output.now) (g.O.ByteSink.failures run.new.output)
    ∷ [] in
    let last : Failures =
    counts (g.F.ByteSink.failures c.args.faults.now) (g.F.ByteSink.failures c.end.new.faults) in
    blamed run.result devices last c.end.result run.ensures.failures c.end.ensures.failed
    c.end.ensures.worked c.end.ensures.working

pub returns-clause-imported : goal.returns-clause-imported
returns-clause-imported g c =
    let run = c.import_all-outcome in
    λ is. on_done run.result _ (c.end.ensures.done is) run.ensures.imported

pub returns-clause-quiet : goal.returns-clause-quiet
returns-clause-quiet g c =
    let run = c.import_all-outcome in
    λ is. on_refused run.result _ (c.end.ensures.refused is) run.ensures.quiet

pub returns-clause-told : goal.returns-clause-told
returns-clause-told g c =
    let run = c.import_all-outcome in
    let sdp = g.D.ByteSource in
    let file = g.S.ByteSource in
    let sink = g.K.ByteSink in
    let Is = IsImportRefusal (option_copied c.args.wanted.a) (option_copied c.args.wanted.b)
    (IsRead (sdp.gave c.args.sdp.now) (sdp.gave run.new.sdp) (sdp.ended run.new.sdp))
    (GivesText 65535 (sdp.gave c.args.sdp.now) (sdp.gave run.new.sdp) (sdp.ended run.new.sdp))
    (WasRead (gave_by file.gave) (ended_by file.ended)) (zip c.args.files.now run.new.files)
    (sink.took c.args.capture.now) (sink.took run.new.capture) in
    λ one. outcome_told Is run.result (g.F.ByteSink.took c.args.faults.now)
    (g.F.ByteSink.took c.end.new.faults) (c.end.ensures.told one) run.ensures.refusal

pub returns-clause-wanted : goal.returns-clause-wanted
returns-clause-wanted g c =
    let run = c.import_all-outcome in
    let sdp = g.D.ByteSource in
    let Holds : Fault → Type 0 =
    λ f. (run.new.output ≡ c.args.output.now)
    × GivesFew 65535 (sdp.gave c.args.sdp.now) (sdp.gave run.new.sdp)
    × ((run.new.capture ≡ c.args.capture.now) ⊎ IsDeviceOrFile run.new.files f) in
    λ is. on_memory Holds run.result (c.end.ensures.wanted is) run.ensures.memory

pub returns-clause-part : goal.returns-clause-part
returns-clause-part g c =
    let run = c.import_all-outcome in
    λ not. unfinished run.result _ c.end.result c.end.ensures.finished not run.ensures.part

pub returns-clause-printed : goal.returns-clause-printed
returns-clause-printed g c =
    let run = c.import_all-outcome in
    λ not. unfinished run.result _ c.end.result c.end.ensures.finished not run.ensures.printed
