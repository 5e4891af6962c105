use Rattle.path_receiver.proofs.RefusedLemmas.{datagram_or_refused, datagram_not_refused}
use Rattle.path_receiver.proofs.laws.datagram_or_refusal.Goals as goal

pub returns-clause-some : goal.returns-clause-some
returns-clause-some c = datagram_or_refused

pub returns-clause-apart : goal.returns-clause-apart
returns-clause-apart c = datagram_not_refused
