use Rattle.path_receiver.proofs.Offered.{offers-exact, offers-for}
use Rattle.path_receiver.proofs.laws.offered_by_grammar.Goals as goal

pub returns-clause-exact : goal.returns-clause-exact
returns-clause-exact c = offers-exact

pub returns-clause-datagram : goal.returns-clause-datagram
returns-clause-datagram c = offers-for
