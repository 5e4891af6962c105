use Rattle.std.proofs.Common.{arith}
use Rattle.paced_export.proofs.PaceLaws.{share_first, share_rises, share_within}
use Rattle.paced_export.proofs.laws.within_active_time.Goals as goal

pub returns-clause-first : goal.returns-clause-first
returns-clause-first c = λ p ts n. omega (arith, share_first p.active n)

pub returns-clause-rises : goal.returns-clause-rises
returns-clause-rises c = λ p ts k l n le. omega (arith, share_rises p.active k l n le)

pub returns-clause-within : goal.returns-clause-within
returns-clause-within c = λ p ts k n lt. omega (arith, share_within p.active k n (omega (arith, lt)))
