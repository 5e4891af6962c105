use Rattle.std.proofs.Common.{ℕ, arith, get_or, inl, inr, subst}
use Rattle.std.proofs.lemmas.Bool.{cases_eq, false≢true}
use Rattle.frame_assembly.specs.ContestedSamples.{HasContested}
use Rattle.frame_assembly.proofs.contested_samples.even_groups.Goals as goal

pub loop-group-preserved : goal.loop-group-preserved
loop-group-preserved c k lt some =
    elim (cases_eq k c.loop-group.group) [
      | inl here ↦
          false≢true (c.if-has_contested.ensures.1
          (subst (λ (j : ℕ). HasContested c.args.size (get_or c.args.marks.now j 0)) here some))
      | inr other ↦ c.loop-group.invariant k (omega (arith, lt, other)) some
    ]

pub returns : goal.returns
returns c = record {
  within = omega arith;
  none = λ g lt. c.loop-group.invariant g (omega (arith, lt, c.loop-group-test.false));
  some = λ lt. absurd (omega (arith, lt));
}
