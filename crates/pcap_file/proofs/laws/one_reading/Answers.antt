use Rattle.pcap_file.proofs.Whole.{one_datagram}
use Rattle.pcap_file.proofs.laws.one_reading.Goals as goal

pub returns : goal.returns
returns c = one_datagram
