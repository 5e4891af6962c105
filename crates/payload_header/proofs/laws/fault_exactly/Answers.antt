use Rattle.payload_header.proofs.Both.{is_fault_exactly}
use Rattle.payload_header.proofs.laws.fault_exactly.Goals as goal

pub returns : goal.returns
returns c = is_fault_exactly
