use Rattle.std.proofs.Common.{ap, subst, ◌∙◌}
use Rattle.path_receiver.specs.Frames.{IsReceiver, State}
use Rattle.path_receiver.proofs.receiver.Receiver.refusals.Goals as goal

pub returns-clause-refusals : goal.returns-clause-refusals
returns-clause-refusals g c =
    c.of.ensures ∙ c.iter.ensures.rest ∙ ap (λ (s : State). s.refusals) c.self.view_is

pub returns-clause-receiver : goal.returns-clause-receiver
returns-clause-receiver g c = subst IsReceiver c.self.view_is c.self.invariant.0
