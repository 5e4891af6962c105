use Rattle.run_laws.proofs.SentAgain.{pictures_received, values_received}
use Rattle.run_laws.proofs.sent.sent_and_received.Goals as goal

pub returns-clause-pictures : goal.returns-clause-pictures
returns-clause-pictures c =
    λ wanted text format pictures capture window source said datagrams file k p sent received.
    pictures_received wanted text format pictures capture window source said datagrams file sent
    received k p

pub returns-clause-values : goal.returns-clause-values
returns-clause-values c =
    λ wanted text format pictures capture window source said datagrams file timestamp at sent
    received.
    values_received wanted text format pictures capture window source said datagrams file sent
    received timestamp at
