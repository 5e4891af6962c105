use Rattle.std.proofs.lemmas.Result.{err_from_is_err_and}
use Rattle.st2110_tool.proofs.streams.follow_all.Goals as goal

pub returns-clause-followed : goal.returns-clause-followed
returns-clause-followed g c =
    (c.in_ok-follow_files.field-0, c.in_ok-follow_files.ensures.followed)

pub returns-clause-failures : goal.returns-clause-failures
returns-clause-failures g c = c.in_ok-follow_files.ensures.failures

pub returns-in_err-follow_files-clause-refusal : goal.returns-in_err-follow_files-clause-refusal
returns-in_err-follow_files-clause-refusal g c =
    let p = err_from_is_err_and c.from_residual.result c.from_residual.ensures.1 in
    rw (p.1, p.2) c.in_err-follow_files.ensures.refusal

pub returns-in_err-follow_files-clause-before : goal.returns-in_err-follow_files-clause-before
returns-in_err-follow_files-clause-before g c =
    let p = err_from_is_err_and c.from_residual.result c.from_residual.ensures.1 in
    rw (p.1, p.2) c.in_err-follow_files.ensures.before

pub returns-in_err-follow_files-clause-part : goal.returns-in_err-follow_files-clause-part
returns-in_err-follow_files-clause-part g c =
    let p = err_from_is_err_and c.from_residual.result c.from_residual.ensures.1 in
    rw (p.1) c.in_err-follow_files.ensures.part

pub returns-in_err-follow_files-clause-failures : goal.returns-in_err-follow_files-clause-failures
returns-in_err-follow_files-clause-failures g c =
    let p = err_from_is_err_and c.from_residual.result c.from_residual.ensures.1 in
    rw (p.1, p.2) c.in_err-follow_files.ensures.failures
