use Rattle.std.proofs.Common.{length, sym, ap, ◌∙◌}
use Rattle.packet_numbers.proofs.BitLemmas.{length-flags_of}
use Rattle.packet_numbers.proofs.bit_list.BitList.len.Goals as goal

pub returns : goal.returns
returns g c =
    sym (length-flags_of c.self.inside.words.items c.self.inside.count) ∙ ap length c.self.view_is
