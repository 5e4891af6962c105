use Rattle.std.proofs.Common.{◌≡◌, ◌+◌, ℕ, ◌==◌, Bool, eqb, w8, map}
use Rattle.std.proofs.Common.{inl, inr, ap, arith, refl, sym, ◌∙◌}
use Rattle.std.proofs.lemmas.Bool.{cases_lt}
use Rattle.std.proofs.lemmas.List.Sums.{position_or_len_is}
use Rattle.std.proofs.lemmas.Simd.{bitmask_splat, length-chunk, none_from_empty_mask}
use Rattle.script_engines.proofs.MaskLemmas.{lowest_set}
use lib.Lanes.{chunk, mask_l}
use lib.Count.{count_trailing_zeros}
use Rattle.script_engines.proofs.line_end.end_in_blocks.Goals as goal

abbrev is_end : ℕ → Bool
is_end octet = octet == 10

pub returns-then-ends-ne0 : goal.returns-then-ends-ne0
returns-then-ends-ne0 c =
    let text = c.args.text.now in
    let at = c.loop-at.at in
    let long = length-chunk at 32 text (omega arith) in
    let mask = bitmask_splat w8 eqb (chunk at 32 text) 32 10 long (omega arith) in
    let run = lowest_set is_end text at 32 _ (omega arith) (omega arith)
    (λ z. c.if-ends-ne0.true (mask ∙ z)) refl in
    ap (λ m. at + count_trailing_zeros 64 m) mask
    ∙ sym (position_or_len_is is_end text _ 0 (omega (arith, run.within))
    (λ k below. elim (cases_lt k at) [
      | inl l ↦ c.loop-at.invariant.before k l
      | inr g ↦ run.before k g below
    ]) (λ h. run.here))

pub loop-at-preserved : goal.loop-at-preserved
loop-at-preserved c =
    let text = c.args.text.now in
    let at = c.loop-at.at in
    let long = length-chunk at 32 text (omega arith) in
    let mask = bitmask_splat w8 eqb (chunk at 32 text) 32 10 long (omega arith) in
    let empty : mask_l (map is_end (chunk at 32 text)) ≡ 0 = sym mask ∙ c.if-ends-ne0.false in
    record {
      within = omega arith;
      before = λ k below. elim (cases_lt k at) [
        | inl l ↦ c.loop-at.invariant.before k l
        | inr g ↦ none_from_empty_mask is_end text at 32 0 (omega arith) empty k g below
      ];
    }
