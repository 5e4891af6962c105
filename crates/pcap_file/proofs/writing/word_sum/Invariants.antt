use Rattle.std.proofs.Common.{◌≡◌, ◌+◌, ◌*◌, ◌≤◌, length}
use Rattle.pcap_file.specs.Writing.{word_sum}
use Rattle.pcap_file.proofs.writing.word_sum.Given as goal

abbrev pub decreases-loop-rest : goal.decreases-loop-rest
decreases-loop-rest l = length l.rest

abbrev pub invariant-loop-rest : goal.invariant-loop-rest
invariant-loop-rest l =
    (l.sum + word_sum l.rest ≡ word_sum l.octets)
    × (l.sum + 65535 * length l.rest ≤ 65535 * length l.octets)
