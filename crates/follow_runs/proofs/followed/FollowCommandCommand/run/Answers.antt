use Rattle.std.specs.List.{zip}
use Rattle.std.specs.Prelude.{IfOk}
use Rattle.follow_runs.specs.Followed.{FollowsFiles}
use Rattle.capture_runs.specs.Opened.{said_text}
use Rattle.capture_runs.specs.Replayed.{replayed_failures}
use Rattle.follow_runs.proofs.FileUnder.{done_settled, owed_settled, refused_settled}
use Rattle.follow_runs.proofs.Stops.{settled_stops}
use Rattle.devices.specs.Passed.{output_failures, output_took}
use Rattle.run_outcome.proofs.Printed.{on_ok}
use Rattle.run_outcome.proofs.Refusals.{if_err_map, of_refusal_map}
use Rattle.side_by_side.specs.Sides.{failures_each}
use Rattle.follow_runs.proofs.followed.FollowCommandCommand.run.Goals as goal

pub returns-clause-done : goal.returns-clause-done
returns-clause-done c =
    let was = c.args.self.now in
    let mid = c.follow_opened-outcome.new.self in
    let said = said_text was.files.said in
    let files = zip was.sides.items mid.sides.items in
    let took = output_took was.output in
    let took' = output_took mid.output in
    on_ok c.follow_opened-outcome.result
    (IfOk was.opened (λ fill. FollowsFiles was.asked said was.files.ways.items files was.filling
    fill was.outputs mid.outputs took took'))
    (IfOk was.opened (λ fill. FollowsFiles was.asked said was.files.ways.items files was.filling
    fill was.outputs c.settle.new.self took took'))
    (done_settled was.opened was.asked said was.files.ways.items files was.filling was.outputs
    mid.outputs
    c.settle.new.self took took' c.settle.ensures.same) c.follow_opened-outcome.ensures.done

pub returns-clause-refusal : goal.returns-clause-refusal
returns-clause-refusal c =
    let was = c.args.self.now in
    let mid = c.follow_opened-outcome.new.self in
    let said = said_text was.files.said in
    let files = zip was.sides.items mid.sides.items in
    let took = output_took was.output in
    let took' = output_took mid.output in
    if_err_map c.follow_opened-outcome.result
    (λ f. of_refusal_map f (λ r. refused_settled was.opened _ _ _ r was.outputs mid.outputs
    c.settle.new.self c.settle.ensures.same
    (λ fill is. (
      is.0,
      settled_stops was.asked said was.files.ways.items files was.filling fill
          was.outputs mid.outputs c.settle.new.self took took' is.1 c.settle.ensures.same,
    ))))
    c.follow_opened-outcome.ensures.refusal

pub returns-clause-owed : goal.returns-clause-owed
returns-clause-owed c =
    let was = c.args.self.now in
    let mid = c.follow_opened-outcome.new.self in
    owed_settled was.opened c.follow_opened-outcome.result
    (failures_each replayed_failures was.sides.items)
    (failures_each replayed_failures mid.sides.items) (output_failures was.output)
    (output_failures mid.output) was.outputs mid.outputs c.settle.new.self c.settle.ensures.same
    c.follow_opened-outcome.ensures.owed
