use Rattle.std.proofs.Common.{◌≡◌, ℕ, get_or, ap, inl, inr, arith}
use Rattle.std.proofs.lemmas.Bool.{cases_lt}
use Rattle.frame_assembly.proofs.settling.are_whole.Goals as goal

pub loop-mark-preserved : goal.loop-mark-preserved
loop-mark-preserved c = record {
  low = λ k lt. elim (cases_lt k c.loop-mark.mark-index) [
    | inl below ↦ let before = c.loop-mark.invariant.low k below in omega arith
    | inr past ↦
        let last : k ≡ c.loop-mark.mark-index = omega arith in
        let here = ap (λ (j : ℕ). get_or c.args.marks.now j 0) last in
        omega arith
  ];
  high = λ k lt. elim (cases_lt k c.loop-mark.mark-index) [
    | inl below ↦ let before = c.loop-mark.invariant.high k below in omega arith
    | inr past ↦
        let last : k ≡ c.loop-mark.mark-index = omega arith in
        let here = ap (λ (j : ℕ). get_or c.args.marks.now j 0) last in
        omega arith
  ];
  least_whole = λ whole.
      let before : c.loop-mark.least ≡ 32768 =
      c.loop-mark.invariant.least_whole (λ k lt. whole k (omega arith)) in
      let here = whole c.loop-mark.mark-index (omega arith) in
      omega arith;
  most_whole = λ whole.
      let before : c.loop-mark.most ≡ 32768 =
      c.loop-mark.invariant.most_whole (λ k lt. whole k (omega arith)) in
      let here = whole c.loop-mark.mark-index (omega arith) in
      omega arith;
}
