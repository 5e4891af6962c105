use Rattle.std.proofs.Common.{◌≡◌, ℕ, get_or, ap, inl, inr, arith}
use Rattle.std.proofs.lemmas.Bool.{cases_lt, eqb-true}
use Rattle.settled_forms.proofs.plane_source.are_whole.Goals as goal

pub loop-mark-preserved : goal.loop-mark-preserved
loop-mark-preserved c = record {
  low = λ k lt. elim (cases_lt k c.loop-mark.mark-index) [
    | inl below ↦ let before = c.loop-mark.invariant.low k below in omega arith
    | inr past ↦
        let last : k ≡ c.loop-mark.mark-index = omega arith in
        let here = ap (λ (j : ℕ). get_or c.args.marks.now j 0) last in
        omega arith
  ];
  high = λ k lt. elim (cases_lt k c.loop-mark.mark-index) [
    | inl below ↦ let before = c.loop-mark.invariant.high k below in omega arith
    | inr past ↦
        let last : k ≡ c.loop-mark.mark-index = omega arith in
        let here = ap (λ (j : ℕ). get_or c.args.marks.now j 0) last in
        omega arith
  ];
}

pub returns-then-least : goal.returns-then-least
returns-then-least c = λ yes k lt.
    let most : c.loop-mark.most ≡ 32768 = eqb-true c.loop-mark.most 32768 yes in
    let low = c.loop-mark.invariant.low k (omega arith) in
    let high = c.loop-mark.invariant.high k (omega arith) in
    omega arith
