use Rattle.pcap_file.proofs.WholePcap.{pcap_again, pcap_takes}
use Rattle.pcap_file.proofs.laws.whole_pcap.Goals as goal

pub returns-clause-again : goal.returns-clause-again
returns-clause-again c = pcap_again

pub returns-clause-takes : goal.returns-clause-takes
returns-clause-takes c = pcap_takes
