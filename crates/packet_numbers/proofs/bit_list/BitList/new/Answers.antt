use Rattle.std.proofs.Common.{ℕ, List, ap, ◌∙◌, rules}
use Rattle.packet_numbers.specs.BitList.{flags_of}
use Rattle.packet_numbers.proofs.BitLemmas.{flags_of-none}
use Rattle.packet_numbers.proofs.bit_list.BitList.new.Goals as goal

pub returns : goal.returns
returns g c =
    ap (λ (ws : List ℕ). flags_of ws c.args.count)
    (c.in_ok-words.ensures.items_if_clones_equal (search rules))
    ∙ flags_of-none c.div_ceil.result c.args.count
