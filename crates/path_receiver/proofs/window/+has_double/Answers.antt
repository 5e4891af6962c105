use Rattle.path_receiver.proofs.Windows.{double_first, double_later, different_all}
use Rattle.path_receiver.proofs.window.+has_double.Goals as goal

pub returns-then-contains-clause-double : goal.returns-then-contains-clause-double
returns-then-contains-clause-double t c =
    λ _. double_first c.args.window.now c.in-len1-up.len_at_least c.if-contains.ensures.cases

pub returns-else-contains-clause-double : goal.returns-else-contains-clause-double
returns-else-contains-clause-double t c =
    λ h. double_later c.args.window.now c.in-len1-up.len_at_least (c.has_double.ensures.double h)

pub returns-else-contains-clause-different : goal.returns-else-contains-clause-different
returns-else-contains-clause-different t c =
    λ h. different_all c.args.window.now c.in-len1-up.len_at_least c.if-contains.ensures.cases
    (c.has_double.ensures.different h)
