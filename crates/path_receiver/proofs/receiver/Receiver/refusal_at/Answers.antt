use Rattle.std.proofs.Common.{ap, sym, subst, ◌∙◌, Option}
use Rattle.std.specs.Option.{option_copied}
use Rattle.std.specs.Prelude.{slice_get}
use Rattle.path_receiver.specs.Frames.{IsReceiver, State}
use Rattle.path_receiver.proofs.receiver.Receiver.refusal_at.Goals as goal

pub returns-clause-refusal : goal.returns-clause-refusal
returns-clause-refusal g c =
    ap (λ (s : State). slice_get s.refusals c.args.place) (sym c.self.view_is)
    ∙ sym c.get.ensures ∙ ap (λ (r : Option _). option_copied r) c.unwrap.ensures

pub returns-clause-receiver : goal.returns-clause-receiver
returns-clause-receiver g c = subst IsReceiver c.self.view_is c.self.invariant.0
