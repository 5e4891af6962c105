use Rattle.path_receiver.proofs.RefusedLemmas.{refusal_is_one}
use Rattle.path_receiver.proofs.laws.refused_once.Goals as goal

pub returns : goal.returns
returns c = refusal_is_one
