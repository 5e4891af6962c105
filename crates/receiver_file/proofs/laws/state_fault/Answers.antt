use Rattle.receiver_file.proofs.StateFaults.{state_fails, state_tells}
use Rattle.receiver_file.proofs.laws.state_fault.Goals as goal

pub returns : goal.returns
returns c f octets bytes = (state_fails f octets bytes, state_tells f octets bytes)
