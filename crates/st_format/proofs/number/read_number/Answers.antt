use Rattle.st_format.proofs.Decimals.{same_number}
use Rattle.st_format.proofs.number.read_number.Goals as goal

pub returns-clause-exact : goal.returns-clause-exact
returns-clause-exact c = same_number c.args.text.now c.value_of.result c.value_of.ensures
