use Rattle.std.proofs.Common.{rules, sym, subst}
use Rattle.path_receiver.specs.Frames.{IsReceiver}
use Rattle.path_receiver.proofs.Joined.{receiver_slid}
use Rattle.path_receiver.proofs.receiver.Receiver.move_on.Goals as goal

pub returns-clause-slid : goal.returns-clause-slid
returns-clause-slid g c = search rules

pub returns-clause-receiver : goal.returns-clause-receiver
returns-clause-receiver g c =
    subst IsReceiver (sym (returns-clause-slid g c))
    (receiver_slid c.args.self.now c.args.next
    (subst IsReceiver c.self.view_is c.self.invariant.0) c.requires.new)

pub invariant_of-self : goal.invariant_of-self
invariant_of-self g c = (returns-clause-receiver g c, c.self.invariant.1)
