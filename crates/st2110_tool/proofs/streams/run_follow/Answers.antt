use Rattle.std.proofs.Common.{List, [], ◌∷◌}
use Rattle.std.specs.List.{zip}
use Rattle.std.specs.Option.{option_copied}
use Rattle.follow_engine.specs.Refused.{IsFollowRefusal}
use Rattle.follow_engine.specs.Sides.{SideRead}
use Rattle.run_outcome.specs.Fault.{Failures, counts}
use Rattle.run_outcome.proofs.Ended.{blamed, on_done, on_refused}
use Rattle.run_outcome.proofs.Refusals.{outcome_told}
use Rattle.side_by_side.specs.Sides.{failures_each}
use Rattle.st2110_tool.proofs.Unfinished.{unfinished}
use Rattle.st2110_tool.proofs.streams.run_follow.Goals as goal

pub returns-clause-failures : goal.returns-clause-failures
returns-clause-failures g c =
    let run = c.follow_all-outcome in
    let devices : List Failures =
    counts (failures_each g.S.ByteSource.failures c.args.sides.now.items)
    (failures_each g.S.ByteSource.failures run.new.sides.items)
    ∷ counts (g.P.PictureSink.failures c.args.pictures.now)
    (g.P.PictureSink.failures run.new.pictures)
    ∷ counts (g.O.ByteSink.failures c.args.output.now) (g.O.ByteSink.failures run.new.output)
    ∷ [] in
    let last : Failures =
    counts (g.F.ByteSink.failures c.args.faults.now) (g.F.ByteSink.failures c.end.new.faults) in
    blamed run.result devices last c.end.result run.ensures.failures c.end.ensures.failed
    c.end.ensures.worked c.end.ensures.working

pub returns-clause-len : goal.returns-clause-len
returns-clause-len g c = c.follow_all-outcome.ensures.len

pub returns-clause-followed : goal.returns-clause-followed
returns-clause-followed g c =
    let run = c.follow_all-outcome in
    λ is. on_done run.result _ (c.end.ensures.done is) run.ensures.followed

pub returns-clause-told : goal.returns-clause-told
returns-clause-told g c =
    let run = c.follow_all-outcome in
    let wanted = c.args.wanted in
    let file = g.S.ByteSource in
    let Is = IsFollowRefusal wanted.asked.frames wanted.asked.ssrc.now
    (option_copied wanted.sdp) wanted.ways.now (SideRead file.gave file.ended)
    (zip c.args.sides.now.items run.new.sides.items) in
    λ one. outcome_told Is run.result (g.F.ByteSink.took c.args.faults.now)
    (g.F.ByteSink.took c.end.new.faults) (c.end.ensures.told one) run.ensures.refusal

pub returns-clause-before : goal.returns-clause-before
returns-clause-before g c =
    let run = c.follow_all-outcome in
    λ is. on_refused run.result _ (c.end.ensures.refused is) run.ensures.before

pub returns-clause-part : goal.returns-clause-part
returns-clause-part g c =
    let run = c.follow_all-outcome in
    λ not. unfinished run.result _ c.end.result c.end.ensures.finished not run.ensures.part
