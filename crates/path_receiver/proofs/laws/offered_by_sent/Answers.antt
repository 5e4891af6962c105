use Rattle.path_receiver.proofs.SentOffers.{offers-packet, offers-picture}
use Rattle.path_receiver.proofs.laws.offered_by_sent.Goals as goal

pub returns-clause-datagram : goal.returns-clause-datagram
returns-clause-datagram c = offers-packet

pub returns-clause-picture : goal.returns-clause-picture
returns-clause-picture c = offers-picture
