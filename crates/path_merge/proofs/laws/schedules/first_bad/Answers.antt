use Rattle.path_merge.proofs.PlayLemmas.{none_bad, one_bad}
use Rattle.path_merge.proofs.laws.schedules.first_bad.Goals as goal

pub returns-clause-one : goal.returns-clause-one
returns-clause-one c = one_bad

pub returns-clause-none : goal.returns-clause-none
returns-clause-none c = none_bad
