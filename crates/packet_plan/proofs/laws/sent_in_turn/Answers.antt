use Rattle.packet_plan.proofs.SenderLists.{none_sent, one_more_sent}
use Rattle.packet_plan.proofs.laws.sent_in_turn.Goals as goal

pub returns-clause-none : goal.returns-clause-none
returns-clause-none c = none_sent

pub returns-clause-more : goal.returns-clause-more
returns-clause-more c = one_more_sent
