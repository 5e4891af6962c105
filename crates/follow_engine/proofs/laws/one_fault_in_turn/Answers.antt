use Rattle.follow_engine.proofs.OneFault.{one_in_turn}
use Rattle.follow_engine.proofs.laws.one_fault_in_turn.Goals as goal

pub returns : goal.returns
returns c = one_in_turn
