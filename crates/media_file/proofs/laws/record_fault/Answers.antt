use Rattle.media_file.proofs.RecordFaults.{front_fails, front_tells}
use Rattle.media_file.proofs.laws.record_fault.Goals as goal

pub returns : goal.returns
returns c f octets = (front_fails f octets, front_tells f octets)
