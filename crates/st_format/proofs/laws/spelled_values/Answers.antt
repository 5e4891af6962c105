use Rattle.st_format.proofs.Spelled.{values_in-spelled}
use Rattle.st_format.proofs.laws.spelled_values.Goals as goal

pub returns : goal.returns
returns c = values_in-spelled
