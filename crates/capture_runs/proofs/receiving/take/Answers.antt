use Rattle.std.proofs.Common.{◌∙◌, ◌∷◌, [], List, ap, length, sym}
use Rattle.std.specs.Prelude.{sum_by}
use Rattle.capture_runs.proofs.Told.{left_by}
use Rattle.capture_runs.specs.Replayed.{replayed_failures}
use Rattle.command_end.proofs.Outcomes.{vec_back}
use Rattle.devices.specs.Passed.{output_failures, sink_failures}
use Rattle.run_outcome.specs.Fault.{Failures, counts}
use Rattle.capture_runs.proofs.receiving.take.Goals as goal

pub returns-clause-taken : goal.returns-clause-taken
returns-clause-taken c =
    let same = ap length c.as_mut_slice.ensures.value in
    rw (vec_back c.args.files.now.recordings.len c.args.files.now.recordings.items
    c.receive_files.new.files (sym c.as_mut_slice.ensures.len ∙ same)
    (c.receive_files.ensures.len ∙ same))
    (rw (
      c.as_mut_slice.ensures.value,
      c.window_of.ensures,
      c.text_of.ensures,
      c.as_slice.ensures.value,
    ) at c.receive_files.ensures.taken)

pub returns-clause-counted : goal.returns-clause-counted
returns-clause-counted c =
    let same = ap length c.as_mut_slice.ensures.value in
    rw (vec_back c.args.files.now.recordings.len c.args.files.now.recordings.items
    c.receive_files.new.files (sym c.as_mut_slice.ensures.len ∙ same)
    (c.receive_files.ensures.len ∙ same))
    (rw (
      c.as_mut_slice.ensures.value,
      c.window_of.ensures,
      c.text_of.ensures,
      c.as_slice.ensures.value,
    ) at c.receive_files.ensures.counted)

pub returns-clause-left : goal.returns-clause-left
returns-clause-left c =
    let same = ap length c.as_mut_slice.ensures.value in
    let devices : List Failures =
    counts (sum_by replayed_failures c.args.files.now.recordings.items)
    (sum_by replayed_failures c.receive_files.new.files)
    ∷ counts (sink_failures c.args.state.now) (sink_failures c.receive_files.new.state)
    ∷ counts (output_failures c.args.output.now) (output_failures c.receive_files.new.output)
    ∷ [] in
    rw (vec_back c.args.files.now.recordings.len c.args.files.now.recordings.items
    c.receive_files.new.files (sym c.as_mut_slice.ensures.len ∙ same)
    (c.receive_files.ensures.len ∙ same))
    (left_by c.receive_files.result c.receive_files.new.reception _ _ devices
    (rw c.as_mut_slice.ensures.value at c.receive_files.ensures.failures)
    (rw (
      c.as_mut_slice.ensures.value,
      c.window_of.ensures,
      c.text_of.ensures,
      c.as_slice.ensures.value,
    ) at c.receive_files.ensures.rescued))

pub returns-clause-refusal : goal.returns-clause-refusal
returns-clause-refusal c =
    let same = ap length c.as_mut_slice.ensures.value in
    rw (vec_back c.args.files.now.recordings.len c.args.files.now.recordings.items
    c.receive_files.new.files (sym c.as_mut_slice.ensures.len ∙ same)
    (c.receive_files.ensures.len ∙ same))
    (rw (
      c.as_mut_slice.ensures.value,
      c.window_of.ensures,
      c.text_of.ensures,
      c.as_slice.ensures.value,
    ) at c.receive_files.ensures.refusal)
