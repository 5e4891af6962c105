use Rattle.std.proofs.Common.{ℕ}
use Rattle.std.specs.Int.{IsGcd}
use Rattle.st_format.proofs.rate.euclid.Given as goal

abbrev pub invariant-loop-right : goal.invariant-loop-right
invariant-loop-right l = (g : ℕ) → IsGcd l.left l.right g → IsGcd l.fn.n l.fn.d g

abbrev pub decreases-loop-right : goal.decreases-loop-right
decreases-loop-right l = l.right
