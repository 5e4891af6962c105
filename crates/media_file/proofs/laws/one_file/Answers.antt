use Rattle.media_file.proofs.Once.{state_once}
use Rattle.media_file.proofs.laws.one_file.Goals as goal

pub returns : goal.returns
returns c k l p q e = state_once k l p q e
