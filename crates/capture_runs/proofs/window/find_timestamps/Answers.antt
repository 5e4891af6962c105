use Rattle.std.proofs.Common.{◌∙◌, ap, length, sym}
use Rattle.command_end.proofs.Outcomes.{vec_back}
use Rattle.capture_runs.proofs.window.find_timestamps.Goals as goal

pub returns-clause-found : goal.returns-clause-found
returns-clause-found c =
    let same = ap length c.as_mut_slice.ensures.value in
    rw (vec_back c.args.files.now.len c.args.files.now.items
    c.find_window.new.files (sym c.as_mut_slice.ensures.len ∙ same)
    (c.find_window.ensures.len ∙ same))
    (rw c.as_mut_slice.ensures.value at c.find_window.ensures.found)

pub returns-clause-refusal : goal.returns-clause-refusal
returns-clause-refusal c =
    let same = ap length c.as_mut_slice.ensures.value in
    rw (vec_back c.args.files.now.len c.args.files.now.items
    c.find_window.new.files (sym c.as_mut_slice.ensures.len ∙ same)
    (c.find_window.ensures.len ∙ same))
    (rw c.as_mut_slice.ensures.value at c.find_window.ensures.refusal)
