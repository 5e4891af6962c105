use Rattle.receiver_file.proofs.StateFaults.{state_or_fault}
use Rattle.receiver_file.proofs.laws.state_or_fault.Goals as goal

pub returns : goal.returns
returns c octets bytes = state_or_fault octets bytes
