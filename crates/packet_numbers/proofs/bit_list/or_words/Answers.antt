use Rattle.std.proofs.Common.{◌/◌, arith}
use Rattle.packet_numbers.proofs.BitLemmas.{flag_at_or}
use Rattle.packet_numbers.proofs.bit_list.or_words.Goals as goal

pub returns : goal.returns
returns c = λ k lt.
    flag_at_or c.args.words.now c.args.others.now c.loop-i.words k
    (c.loop-i.invariant.done (k / 64) (omega arith))
