use Rattle.pcap_file.proofs.WholeRuns.{whole_again}
use Rattle.pcap_file.proofs.WholeTakes.{whole_takes}
use Rattle.pcap_file.proofs.laws.recording_read.Goals as goal

pub returns-clause-again : goal.returns-clause-again
returns-clause-again c = whole_again

pub returns-clause-takes : goal.returns-clause-takes
returns-clause-takes c = whole_takes
