use Rattle.std.proofs.Common.{◌≡◌, length}
use Rattle.pcap_file.specs.BlockReading.{option_at}
use Rattle.pcap_file.proofs.blocks.option_of.Given as goal

abbrev pub invariant-loop-rest : goal.invariant-loop-rest
invariant-loop-rest l = option_at l.order l.code l.rest ≡ option_at l.order l.code l.octets

abbrev pub decreases-loop-rest : goal.decreases-loop-rest
decreases-loop-rest l = length l.rest
