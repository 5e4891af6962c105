use Rattle.stream_laws.proofs.Leaving.{none_late}
use Rattle.stream_laws.proofs.laws.none_late.Goals as goal

pub returns : goal.returns
returns c = none_late
