use Rattle.std.proofs.Common.{refl}
use Rattle.follow_runs.proofs.FileUnder.{refused_first}
use Rattle.follow_runs.proofs.Stops.{both_refused}
use Rattle.follow_runs.proofs.followed.FollowCommand.follow_opened.Goals as goal

pub returns-in-Ok-clause-done : goal.returns-in-Ok-clause-done
returns-in-Ok-clause-done c = rw (c.in-Ok.is) c.follow_into.ensures.followed

pub returns-in-Ok-clause-refusal : goal.returns-in-Ok-clause-refusal
returns-in-Ok-clause-refusal c =
    rw (c.in-Ok.is)
    (both_refused _ _ c.follow_into.result c.follow_into.ensures.refusal
    c.follow_into.ensures.before)

pub returns-in-Ok-clause-owed : goal.returns-in-Ok-clause-owed
returns-in-Ok-clause-owed c = rw (c.in-Ok.is) c.follow_into.ensures.owed

pub returns-in-Err-clause-refusal : goal.returns-in-Err-clause-refusal
returns-in-Err-clause-refusal c =
    rw (c.in-Err.is) (refused_first _ _ _)

pub returns-in-Err-clause-owed : goal.returns-in-Err-clause-owed
returns-in-Err-clause-owed c = rw (c.in-Err.is) refl
