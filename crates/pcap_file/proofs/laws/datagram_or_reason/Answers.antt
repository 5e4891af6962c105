use Rattle.pcap_file.proofs.Whole.{apart, one_reason, some}
use Rattle.pcap_file.proofs.laws.datagram_or_reason.Goals as goal

pub returns-clause-some : goal.returns-clause-some
returns-clause-some c = some

pub returns-clause-apart : goal.returns-clause-apart
returns-clause-apart c = apart

pub returns-clause-one : goal.returns-clause-one
returns-clause-one c = one_reason
