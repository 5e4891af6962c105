use Rattle.st_format.proofs.SameFields.{same_told}
use Rattle.st_format.proofs.format.Format.same.Goals as goal

pub returns-clause-exact : goal.returns-clause-exact
returns-clause-exact c = same_told c.equals.result c.args.self.now c.args.other.now c.equals.ensures
