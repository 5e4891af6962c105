use Rattle.std.proofs.Common.{◌≡◌, ◌↔◌, IfOk, length, subst}
use Rattle.std.specs.Prelude.{IsErrOf}
use Rattle.path_receiver.specs.declared.fault.OpenFault.TheVariants.{BadWindow, DoubleTimestamp}
use Rattle.path_receiver.specs.Opening.{AreDifferent, IsWindowSize, Opening}
use Rattle.path_receiver.proofs.opening.Opening.open.Goals as goal

pub returns-clause-opening : goal.returns-clause-opening
returns-clause-opening g c =
    subst (λ (o : Opening). IfOk c.open.result (λ r. r.opening ≡ o)) c.self.view_is
    c.open.ensures.opening

pub returns-clause-size : goal.returns-clause-size
returns-clause-size g c =
    subst (λ (o : Opening).
    IsErrOf c.open.result BadWindow ↔ (IsWindowSize (length o.window) → ⊥)) c.self.view_is
    c.open.ensures.size

pub returns-clause-double : goal.returns-clause-double
returns-clause-double g c =
    subst (λ (o : Opening). IsErrOf c.open.result DoubleTimestamp
    ↔ (IsWindowSize (length o.window) × (AreDifferent o.window → ⊥))) c.self.view_is
    c.open.ensures.double
