use Rattle.std.proofs.Common.{List, ℕ, ap, subst, ◌∙◌}
use Rattle.std.specs.List.{zip}
use Rattle.st_format.specs.Raster.{Raster}
use Rattle.path_receiver.specs.Frames.{IsReceiver, State}
use Rattle.path_receiver.proofs.receiver.Receiver.frames.Goals as goal

pub returns-clause-frames : goal.returns-clause-frames
returns-clause-frames g c =
    c.of.ensures
    ∙ ap (λ (w : List ℕ). zip w c.as_slice-2.result.now) c.as_slice.ensures.value
    ∙ ap (λ (rs : List Raster). zip c.self.inside.window.items rs) c.as_slice-2.ensures.value
    ∙ ap (λ (s : State). zip s.opening.window s.frames) c.self.view_is

pub returns-clause-receiver : goal.returns-clause-receiver
returns-clause-receiver g c = subst IsReceiver c.self.view_is c.self.invariant.0
