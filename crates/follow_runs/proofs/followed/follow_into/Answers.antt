use Rattle.std.proofs.Common.{◌∙◌, ap, subst, sym}
use Rattle.std.specs.List.{zip}
use Rattle.follow_runs.specs.Followed.{FollowsFiles, StopsFiles}
use Rattle.capture_runs.specs.Opened.{said_text}
use Rattle.follow_runs.specs.Outputs.{AreSinksOver, TakesAllOver, sinks_failures}
use Rattle.follow_runs.specs.Outputs.{written_failures}
use Rattle.capture_runs.specs.Replayed.{replayed_ended, replayed_failures, replayed_gave}
use Rattle.follow_runs.specs.declared.outputs.FollowOutputs.{FollowOutputs}
use Rattle.follow_runs.proofs.FileUnder.{accounts_file, follows_files, sinks_after, sinks_before}
use Rattle.devices.specs.Passed.{output_failures, output_took}
use Rattle.follow_engine.specs.Followed.{FollowsWhole, StopsShort}
use Rattle.follow_engine.specs.Sides.{SideRead}
use Rattle.follow_engine.specs.declared.telling.FollowTotals.{FollowTotals}
use Rattle.follow_engine.proofs.Cut.{refused_map}
use Rattle.follow_runs.proofs.Stops.{stops_files}
use Rattle.run_outcome.proofs.Printed.{on_ok}
use Rattle.run_outcome.proofs.Refusals.{if_err_map}
use Rattle.side_by_side.specs.Sides.{failures_each}
use Rattle.follow_runs.proofs.followed.follow_into.Goals as goal

pub sinks_over-sinks-requires : goal.sinks_over-sinks-requires
sinks_over-sinks-requires c = rw c.take-taken.ensures c.requires.unplaced

pub returns-clause-followed : goal.returns-clause-followed
returns-clause-followed c =
    let w = c.args.asked in
    let said = said_text c.args.files.now.said in
    let ways = c.args.files.now.ways.items in
    let files = zip c.args.sides.now.items c.follow-followed.new.sides.items in
    let k = c.sinks_over-sinks.result in
    let l = c.follow-followed.new.sinks in
    let took = output_took c.args.output.now in
    let took' = output_took c.follow-followed.new.output in
    let over : AreSinksOver c.args.filling c.args.fill c.args.outputs.now k =
    subst (λ (x : FollowOutputs). AreSinksOver c.args.filling c.args.fill x k)
    c.take-taken.ensures c.sinks_over-sinks.ensures in
    on_ok c.follow-followed.result
    ((totals : FollowTotals) × FollowsWhole w said ways (SideRead replayed_gave replayed_ended)
    files TakesAllOver k l took took' totals)
    (FollowsFiles w said ways files c.args.filling c.args.fill c.args.outputs.now
    c.outputs_of.result took took')
    (λ is. subst (λ (o : FollowOutputs). FollowsFiles w said ways files c.args.filling c.args.fill
    c.args.outputs.now o took took') (sym c.outputs_of.ensures.files)
    (follows_files w said ways files c.args.filling c.args.fill c.args.outputs.now k l took took'
    is.0 over is.1)) c.follow-followed.ensures.followed

pub returns-clause-owed : goal.returns-clause-owed
returns-clause-owed c =
    let k = c.sinks_over-sinks.result in
    let l = c.follow-followed.new.sinks in
    accounts_file c.follow-followed.result
    (failures_each replayed_failures c.args.sides.now.items)
    (failures_each replayed_failures c.follow-followed.new.sides.items)
    (sinks_failures k) (sinks_failures l)
    (written_failures c.args.outputs.now) (written_failures c.outputs_of.result)
    (output_failures c.args.output.now) (output_failures c.follow-followed.new.output)
    (sinks_before c.args.filling c.args.fill c.args.outputs.now k
    (subst (λ (x : FollowOutputs). AreSinksOver c.args.filling c.args.fill x k)
    c.take-taken.ensures c.sinks_over-sinks.ensures))
    (sinks_after l
    ∙ ap (λ (o : FollowOutputs). written_failures o) (sym c.outputs_of.ensures.files))
    c.follow-followed.ensures.owed

pub returns-clause-before : goal.returns-clause-before
returns-clause-before c =
    let w = c.args.asked in
    let said = said_text c.args.files.now.said in
    let ways = c.args.files.now.ways.items in
    let files = zip c.args.sides.now.items c.follow-followed.new.sides.items in
    let k = c.sinks_over-sinks.result in
    let l = c.follow-followed.new.sinks in
    let took = output_took c.args.output.now in
    let took' = output_took c.follow-followed.new.output in
    let over : AreSinksOver c.args.filling c.args.fill c.args.outputs.now k =
    subst (λ (x : FollowOutputs). AreSinksOver c.args.filling c.args.fill x k)
    c.take-taken.ensures c.sinks_over-sinks.ensures in
    if_err_map c.follow-followed.result
    (λ f. refused_map (StopsShort w said ways (SideRead replayed_gave replayed_ended) files
    TakesAllOver k l took took')
    (StopsFiles w said ways files c.args.filling c.args.fill c.args.outputs.now
    c.outputs_of.result took took') f
    (λ is. subst (λ (o : FollowOutputs). StopsFiles w said ways files c.args.filling c.args.fill
    c.args.outputs.now o took took') (sym c.outputs_of.ensures.files)
    (stops_files w said ways files c.args.filling c.args.fill c.args.outputs.now k l took took'
    over is))) c.follow-followed.ensures.before
