use Rattle.std.proofs.Common.{◌≡◌, ◌<◌, ℕ, Bool, false, List, length, get_or, sym, ap, ◌∙◌, arith}
use Rattle.packet_numbers.specs.BitList.{flag_at}
use Rattle.packet_numbers.proofs.BitLemmas.{length-flags_of, get_or-flags_of}
use Rattle.packet_numbers.proofs.bit_list.BitList.get.Goals as goal

pub is_set-requires : goal.is_set-requires
is_set-requires g c =
    let n : length c.args.self.now ≡ c.self.inside.count =
    ap length (sym c.self.view_is)
    ∙ length-flags_of c.self.inside.words.items c.self.inside.count in
    let e : length c.deref.result.now ≡ length c.self.inside.words.items =
    ap length c.deref.ensures.value in
    omega (arith, c.self.invariant, c.requires)

pub returns : goal.returns
returns g c =
    let place = c.args.place in
    let n : length c.args.self.now ≡ c.self.inside.count =
    ap length (sym c.self.view_is)
    ∙ length-flags_of c.self.inside.words.items c.self.inside.count in
    let lt : place < c.self.inside.count = omega (arith, c.requires) in
    c.is_set.ensures ∙ ap (λ (ws : List ℕ). flag_at ws place) c.deref.ensures.value
    ∙ sym (get_or-flags_of c.self.inside.words.items c.self.inside.count place false lt)
    ∙ ap (λ (xs : List Bool). get_or xs place false) c.self.view_is
