use Rattle.std.proofs.Common.{◌∙◌, ap, length, sym}
use Rattle.command_end.proofs.Outcomes.{vec_back}
use Rattle.inspect_runs.proofs.inspecting.tell_flows.Goals as goal

pub returns-clause-told : goal.returns-clause-told
returns-clause-told c =
    let same = ap length c.as_mut_slice.ensures.value in
    rw (vec_back c.args.recordings.now.len c.args.recordings.now.items c.inspect-told.new.recordings
    (sym c.as_mut_slice.ensures.len ∙ same) (c.inspect-told.ensures.len ∙ same))
    (rw (c.as_mut_slice.ensures.value, c.form_of_flows-form.ensures) at c.inspect-told.ensures.told)

pub returns-clause-refusal : goal.returns-clause-refusal
returns-clause-refusal c =
    let same = ap length c.as_mut_slice.ensures.value in
    rw (vec_back c.args.recordings.now.len c.args.recordings.now.items c.inspect-told.new.recordings
    (sym c.as_mut_slice.ensures.len ∙ same) (c.inspect-told.ensures.len ∙ same))
    (rw (c.as_mut_slice.ensures.value, c.form_of_flows-form.ensures) at c.inspect-told.ensures.refusal)
