use Rattle.std.proofs.Common.{◌≡◌, length, sym, ap, ◌∙◌, arith}
use Rattle.packet_numbers.proofs.BitLemmas.{length-flags_of, set_back}
use Rattle.packet_numbers.proofs.bit_list.BitList.set.Goals as goal

pub set_flag-requires : goal.set_flag-requires
set_flag-requires g c =
    let n : length c.args.self.now ≡ c.self.inside.count =
    ap length (sym c.self.view_is)
    ∙ length-flags_of c.self.inside.words.items c.self.inside.count in
    let e : length c.as_mut_slice.result.now ≡ length c.self.inside.words.items =
    ap length c.as_mut_slice.ensures.value in
    omega (arith, c.self.invariant, c.requires)

pub returns : goal.returns
returns g c =
    set_back c.self.inside.words.len c.self.inside.count c.args.place c.args.self.now
    c.self.inside.words.items c.as_mut_slice.result.now c.set_flag.new.words
    c.self.view_is c.as_mut_slice.ensures.value (omega arith) c.requires c.set_flag.ensures
