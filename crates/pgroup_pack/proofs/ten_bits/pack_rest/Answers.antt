use Rattle.std.proofs.Common.{◌≡◌, ℕ, ◌-◌, ◌∙◌, List, length, take, drop, sym, ap, subst}
use Rattle.std.proofs.Common.{arith}
use Rattle.std.proofs.lemmas.List.{length-take-le, take_at}
use Rattle.st_format.specs.Samples.{Spells}
use Rattle.pgroup_pack.proofs.Blocks.{in_two, rest_put}
use Rattle.pgroup_pack.proofs.Numbers.{Spells-more}
use Rattle.pgroup_pack.proofs.ten_bits.pack_rest.Goals as goal

pub returns : goal.returns
returns c =
    let samples : List ℕ = c.args.samples.now in
    let from : List ℕ = c.octets_of.result in
    let now : List ℕ = c.store_ten.new.octets in
    let ten = length-take-le 10 from (omega (arith, c.octets_of.ensures.long)) in
    let stored : take 10 now ≡ take 10 from =
    ap (take 10) c.store_ten.ensures
    ∙ take_at (take 10 from) (drop 10 c.args.octets.now) 10 ten in
    let done : Spells 10 (take 10 now) (take 8 samples) =
    subst (λ (xs : List ℕ). Spells 10 xs (take 8 samples))
    (sym stored) c.octets_of.ensures.spelled in
    Spells-more 10 (rest_put 10 (length now - 10) now c.pack_fours-2.new.octets (omega arith))
    (in_two 8 samples) done c.pack_fours-2.ensures
