use Rattle.following.proofs.Orders.{order_members, order_rises}
use Rattle.following.proofs.laws.in_order_is.Goals as goal

pub returns-clause-members : goal.returns-clause-members
returns-clause-members c = order_members

pub returns-clause-rising : goal.returns-clause-rising
returns-clause-rising c = order_rises
