use Rattle.std.proofs.Common.{◌≡◌, length}
use Rattle.pcap_file.specs.Reading.{carried_at}
use Rattle.pcap_file.proofs.ip.carried.Given as goal

abbrev pub invariant-loop-rest : goal.invariant-loop-rest
invariant-loop-rest l = carried_at l.next l.rest ≡ carried_at l.first l.octets

abbrev pub decreases-loop-rest : goal.decreases-loop-rest
decreases-loop-rest l = length l.rest
