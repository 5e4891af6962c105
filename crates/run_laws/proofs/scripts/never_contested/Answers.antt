use Rattle.run_laws.proofs.Uncontested.{handed_uncontested, receivers_uncontested}
use Rattle.run_laws.proofs.scripts.never_contested.Goals as goal

pub returns-clause-handed : goal.returns-clause-handed
returns-clause-handed g c = handed_uncontested

pub returns-clause-receivers : goal.returns-clause-receivers
returns-clause-receivers g c = receivers_uncontested
