use Rattle.run_laws.proofs.Receiving.{same_file}
use Rattle.run_laws.proofs.laws.one_file.Goals as goal

pub returns : goal.returns
returns c = same_file
