-- A frame that is settled, and why it is not.
use Rattle.std.proofs.Common.{◌≡◌, ℕ, List, [], ◌∷◌, Option, None, Some, refl, subst, sym}
use Rattle.std.specs.Borrow.{Bor}
use Rattle.form_files.specs.declared.form.Form.{Form}
use Rattle.receiver_engines.specs.Inputs.{IsHeldFor}
use Rattle.run_outcome.specs.Refusing.{OfRefusal}
use Rattle.run_outcome.specs.declared.fault.Fault.{Fault}
use Rattle.run_outcome.specs.declared.fault.Fault.TheVariants.{Refused}
use Rattle.run_outcome.specs.declared.refusal.Refusal.TheVariants.{FrameFill, FrameHold}
use Rattle.st_format.specs.Picture.{Values}
use Rattle.st_format.specs.Raster.{Raster}
use Rattle.picture_engine.specs.Refused.{IsSettlingRefusal}
use Rattle.picture_engine.specs.Views.{IsFillOf, LacksFill, settled_with}

-- it has the frame's format
pub settled_format : (held : Option Values) (fill : List ℕ) (q : Raster)
    → (settled_with held fill q).format ≡ q.format
settled_format None fill q = refl
settled_format (Some p) fill q = refl

pub settling_fill : (f : Fault) (text : Option (Bor (List ℕ))) (form : Form)
    (held : Option Values) (q : Raster) → (f ≡ Refused FrameFill) × LacksFill text q
    → OfRefusal f (λ r. IsSettlingRefusal text form held r q)
settling_fill f text form held q is =
    subst (λ (g : Fault). OfRefusal g (λ r. IsSettlingRefusal text form held r q)) (sym is.0) is.1

pub settling_held : (f : Fault) (text : Option (Bor (List ℕ))) (form : Form)
    (held : Option Values) (q : Raster) (fill : List ℕ) → IsFillOf text fill q
    → (f ≡ Refused FrameHold) × (IsHeldFor held (q ∷ []) → ⊥)
    → OfRefusal f (λ r. IsSettlingRefusal text form held r q)
settling_held f text form held q fill fill_is is =
    subst (λ (g : Fault). OfRefusal g (λ r. IsSettlingRefusal text form held r q)) (sym is.0)
    ((fill, fill_is), is.1)
