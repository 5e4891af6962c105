use Rattle.following.proofs.Complete.{early_complete, no_more}
use Rattle.following.proofs.Turning.{none_waits}
use Rattle.following.proofs.laws.early.Goals as goal

pub returns-clause-complete : goal.returns-clause-complete
returns-clause-complete c = early_complete

pub returns-clause-none_waits : goal.returns-clause-none_waits
returns-clause-none_waits c = none_waits

pub returns-clause-no_more : goal.returns-clause-no_more
returns-clause-no_more c = no_more
