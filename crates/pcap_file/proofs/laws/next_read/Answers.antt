use Rattle.pcap_file.proofs.NextSteps.{next_again}
use Rattle.pcap_file.proofs.laws.next_read.Goals as goal

pub returns : goal.returns
returns c = next_again
