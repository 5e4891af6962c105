use Rattle.pcap_file.specs.Writing6.{ends_of}
use Rattle.pcap_file.proofs.Sums.{ip_right, udp_right}
use Rattle.pcap_file.proofs.laws.right_checksums.Goals as goal

pub returns-clause-ip : goal.returns-clause-ip
returns-clause-ip c = ip_right

pub returns-clause-udp : goal.returns-clause-udp
returns-clause-udp c = udp_right

pub returns-clause-udp6 : goal.returns-clause-udp6
returns-clause-udp6 c = λ e payload. udp_right (ends_of e) payload
