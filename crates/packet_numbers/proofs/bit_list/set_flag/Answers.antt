use Rattle.packet_numbers.proofs.BitLemmas.{flag_at_set}
use Rattle.packet_numbers.proofs.bit_list.set_flag.Goals as goal

pub returns : goal.returns
returns c = λ k. flag_at_set c.args.words.now c.args.place k c.requires
