use Rattle.std.proofs.Common.{arith, refl}
use Rattle.path_merge.proofs.schedule.check.check_rest.Goals as goal

pub returns-then-receivers-eq0-clause-fault : goal.returns-then-receivers-eq0-clause-fault
returns-then-receivers-eq0-clause-fault g c = (
  record {
    few = omega (arith, c.if-pictures-gt-MOST_PICTURES.false);
    of_format = c.if-not-are_of_format.ensures.all refl;
  },
  λ h. absurd (omega (arith, h.some, h.most, c.then-receivers-eq0.either)),
)

pub returns-clause-fine : goal.returns-clause-fine
returns-clause-fine g c = (
  record {
    few = omega (arith, c.if-pictures-gt-MOST_PICTURES.false);
    of_format = c.if-not-are_of_format.ensures.all refl;
  },
  record { some = omega arith; most = omega arith },
)

pub returns-clause-whole : goal.returns-clause-whole
returns-clause-whole g c = c.if-not-are_of_format.ensures.whole refl
