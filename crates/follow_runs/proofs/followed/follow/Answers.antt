use Rattle.std.proofs.lemmas.Result.{err_from_is_err_and}
use Rattle.follow_runs.proofs.FileUnder.{follows_same}
use Rattle.follow_runs.proofs.Stops.{stops_same}
use Rattle.follow_engine.proofs.Cut.{refused_map}
use Rattle.follow_runs.proofs.followed.follow.Goals as goal

pub returns-clause-followed : goal.returns-clause-followed
returns-clause-followed c = (
  c.in_ok-follow_files.field-0,
  follows_same c.args.asked _ _ _ _ _ c.args.sinks.now c.follow_files.new.pictures _ _ _
      c.text_of.ensures c.as_slice.ensures.value c.in_ok-follow_files.ensures.followed,
)

pub returns-clause-owed : goal.returns-clause-owed
returns-clause-owed c = c.in_ok-follow_files.ensures.failures

pub returns-in_err-follow_files-clause-refusal : goal.returns-in_err-follow_files-clause-refusal
returns-in_err-follow_files-clause-refusal c =
    let p = err_from_is_err_and c.from_residual.result c.from_residual.ensures.1 in
    rw (p.1, p.2)
    (rw (c.text_of.ensures, c.as_slice.ensures.value) at c.in_err-follow_files.ensures.refusal)

pub returns-in_err-follow_files-clause-owed : goal.returns-in_err-follow_files-clause-owed
returns-in_err-follow_files-clause-owed c =
    let p = err_from_is_err_and c.from_residual.result c.from_residual.ensures.1 in
    rw (p.1, p.2) c.in_err-follow_files.ensures.failures

pub returns-in_err-follow_files-clause-before : goal.returns-in_err-follow_files-clause-before
returns-in_err-follow_files-clause-before c =
    let p = err_from_is_err_and c.from_residual.result c.from_residual.ensures.1 in
    rw (p.1, p.2)
    (refused_map _ _ c.in_err-follow_files.field-0.0
    (stops_same c.args.asked _ _ _ _ _ c.args.sinks.now c.follow_files.new.pictures _ _
    c.text_of.ensures c.as_slice.ensures.value) c.in_err-follow_files.ensures.before)
