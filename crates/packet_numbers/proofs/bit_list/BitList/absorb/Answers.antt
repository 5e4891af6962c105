use Rattle.std.proofs.Common.{◌≡◌, ℕ, List, length, sym, ap, ◌∙◌, arith}
use Rattle.packet_numbers.specs.BitList.{flags_of}
use Rattle.packet_numbers.proofs.BitLemmas.{length-flags_of, union_back}
use Rattle.packet_numbers.proofs.bit_list.BitList.absorb.Goals as goal

pub or_words-requires : goal.or_words-requires
or_words-requires g c =
    let m : length c.args.self.now ≡ c.self.inside.count =
    ap length (sym c.self.view_is)
    ∙ length-flags_of c.self.inside.words.items c.self.inside.count in
    let n : length c.args.other.now ≡ c.other.inside.count =
    ap length (sym c.other.view_is)
    ∙ length-flags_of c.other.inside.words.items c.other.inside.count in
    let d : length c.as_mut_slice.result.now ≡ length c.self.inside.words.items =
    ap length c.as_mut_slice.ensures.value in
    let e : length c.deref.result.now ≡ length c.other.inside.words.items =
    ap length c.deref.ensures.value in
    omega (arith, c.self.invariant, c.other.invariant, c.requires)

pub returns : goal.returns
returns g c =
    let m : length c.args.self.now ≡ c.self.inside.count =
    ap length (sym c.self.view_is)
    ∙ length-flags_of c.self.inside.words.items c.self.inside.count in
    let n : length c.args.other.now ≡ c.other.inside.count =
    ap length (sym c.other.view_is)
    ∙ length-flags_of c.other.inside.words.items c.other.inside.count in
    let e : c.self.inside.count ≡ c.other.inside.count = omega (arith, c.requires) in
    let is_other : flags_of c.deref.result.now c.self.inside.count ≡ c.args.other.now =
    ap (λ (ws : List ℕ). flags_of ws c.self.inside.count) c.deref.ensures.value
    ∙ ap (flags_of c.other.inside.words.items) e ∙ c.other.view_is in
    union_back c.self.inside.words.len c.self.inside.count c.args.self.now c.args.other.now
    c.self.inside.words.items c.as_mut_slice.result.now c.deref.result.now c.or_words.new.words
    c.self.view_is is_other c.as_mut_slice.ensures.value
    (omega arith) c.self.invariant.0 c.or_words.ensures
