use Rattle.std.proofs.Common.{◌∙◌, ap, length, sym}
use Rattle.command_end.proofs.Outcomes.{vec_back}
use Rattle.inspect_runs.proofs.inspecting.tell_stream.Goals as goal

pub returns-clause-told : goal.returns-clause-told
returns-clause-told c =
    let same = ap length c.as_mut_slice.ensures.value in
    rw (vec_back c.args.files.now.recordings.len c.args.files.now.recordings.items
    c.inspect_streams-told.new.files (sym c.as_mut_slice.ensures.len ∙ same)
    (c.inspect_streams-told.ensures.len ∙ same))
    (rw (
      c.as_mut_slice.ensures.value,
      c.form_of_streams-form.ensures,
      c.text_of.ensures,
      c.as_slice.ensures.value,
    ) at c.inspect_streams-told.ensures.told)

pub returns-clause-refusal : goal.returns-clause-refusal
returns-clause-refusal c =
    let same = ap length c.as_mut_slice.ensures.value in
    rw (vec_back c.args.files.now.recordings.len c.args.files.now.recordings.items
    c.inspect_streams-told.new.files (sym c.as_mut_slice.ensures.len ∙ same)
    (c.inspect_streams-told.ensures.len ∙ same))
    (rw (
      c.as_mut_slice.ensures.value,
      c.form_of_streams-form.ensures,
      c.text_of.ensures,
      c.as_slice.ensures.value,
    ) at c.inspect_streams-told.ensures.refusal)
