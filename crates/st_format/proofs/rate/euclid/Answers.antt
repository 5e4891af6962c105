use Rattle.std.proofs.Common.{arith}
use Rattle.std.proofs.lemmas.Nat.Gcd.{IsGcd-from_zero, IsGcd-from_mod}
use Rattle.st_format.proofs.rate.euclid.Goals as goal

pub loop-right-preserved : goal.loop-right-preserved
loop-right-preserved c g h = c.loop-right.invariant g (IsGcd-from_mod _ _ g h)

pub returns : goal.returns
returns c = c.loop-right.invariant _ (IsGcd-from_zero _ _ (omega arith))
