use Rattle.receiver_file.proofs.StateFaults.{one_state_fault}
use Rattle.receiver_file.proofs.laws.one_state_fault.Goals as goal

pub returns : goal.returns
returns c f g octets bytes p q = one_state_fault f g octets bytes p q
