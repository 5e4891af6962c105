-- Which refusal ends a run of `picture`.
use Rattle.std.proofs.Common.{◌≡◌, ℕ, List, Option, None, Some, inl, inr, Result, Ok, Err, refl}
use Rattle.std.proofs.Common.{subst, sym, [], ◌∷◌}
use Rattle.std.specs.Prelude.{IfErr}
use Rattle.std.specs.Borrow.{Bor}
use Rattle.form_files.specs.declared.form.Form.{Form}
use Rattle.path_receiver.specs.Frames.{State, frame_at}
use Rattle.receiver_engines.specs.Merging.{SaysReceiver}
use Rattle.receiver_engines.specs.Reading.{SaysHeld}
use Rattle.receiver_engines.specs.Refused.{IsHeldRefusal}
use Rattle.receiver_engines.specs.States.{IsStateRefusal}
use Rattle.run_outcome.specs.Fault.{Accounts, counts}
use Rattle.run_outcome.specs.Refusing.{OfRefusal}
use Rattle.run_outcome.specs.declared.fault.Fault.{Fault}
use Rattle.run_outcome.specs.declared.fault.Fault.TheVariants as fault
use Rattle.run_outcome.specs.declared.refusal.Refusal.{Refusal}
use Rattle.run_outcome.specs.declared.refusal.Refusal.TheVariants as why
use Rattle.st_format.specs.Member.{IsMember}
use Rattle.st_format.specs.Picture.{Values}
use Rattle.st_format.specs.Raster.{Raster}
use Rattle.picture_engine.specs.declared.asked.PictureAsked.{PictureAsked}
use Rattle.picture_engine.specs.declared.asked.View.{View}
use Rattle.picture_engine.specs.declared.asked.View.TheVariants.{Settled, Marked}
use Rattle.picture_engine.specs.Refused.{IsMarkedRefusal, IsMarkingRefusal, IsSettledRefusal}
use Rattle.picture_engine.specs.Refused.{IsSettlingRefusal, IsShowRefusal, IsViewRefusal}
use Rattle.picture_engine.specs.Views.{SaysFill, SaysNoFill, SaysNoView}

-- ---- of a run with marks

pub marked_file : (read : List ℕ → Type 0) (ts : ℕ) (form : Form) (r : Refusal)
    → IsStateRefusal read r → IsMarkedRefusal read ts form r
marked_file read ts form (why.State f) is = is
marked_file read ts form r is = absurd is

pub marked_timestamp : (f : Fault) (read : List ℕ → Type 0) (ts : ℕ) (form : Form) (s : State)
    → SaysReceiver read s
    → (f ≡ fault.Refused why.FrameTimestamp) × (IsMember ts s.opening.window → ⊥)
    → OfRefusal f (IsMarkedRefusal read ts form)
marked_timestamp f read ts form s says is =
    subst (λ (g : Fault). OfRefusal g (IsMarkedRefusal read ts form)) (sym is.0) (s, says, is.1)

pub marked_frame : (read : List ℕ → Type 0) (ts : ℕ) (form : Form) (s : State) (q : Raster)
    (r : Refusal) → SaysReceiver read s → frame_at s.opening.window s.frames ts ≡ Some q
    → IsMarkingRefusal form r q → IsMarkedRefusal read ts form r
marked_frame read ts form s q (why.State f) says at is = absurd is
marked_frame read ts form s q why.FrameTimestamp says at is = absurd is
marked_frame read ts form s q r says at is =
    (s, says, record { frame = q; is = at; holds = is })

-- ---- of a run that settles

pub settled_text : {S : Type 0} (f : Fault) (read : List ℕ → Type 0) (told : S → List ℕ → Type 0)
    (hold : Option S) (text : Option (Bor (List ℕ))) (ts : ℕ) (form : Form)
    → (f ≡ fault.Refused why.FrameFill) × SaysNoFill text
    → OfRefusal f (IsSettledRefusal read told hold text ts form)
settled_text f read told hold text ts form is =
    subst (λ (g : Fault). OfRefusal g (IsSettledRefusal read told hold text ts form)) (sym is.0)
    (inl is.1)

pub settled_file : {S : Type 0} (read : List ℕ → Type 0) (told : S → List ℕ → Type 0)
    (hold : Option S) (text : Option (Bor (List ℕ))) (ts : ℕ) (form : Form) (r : Refusal)
    → SaysFill text → IsStateRefusal read r → IsSettledRefusal read told hold text ts form r
settled_file read told hold text ts form (why.State f) said is = (said, is)
settled_file read told hold text ts form r said is = absurd is

pub settled_held : {S : Type 0} (read : List ℕ → Type 0) (told : S → List ℕ → Type 0)
    (hold : Option S) (text : Option (Bor (List ℕ))) (ts : ℕ) (form : Form) (r : Refusal)
    (s : State) → SaysFill text → SaysReceiver read s → IsHeldRefusal told hold r
    → IsSettledRefusal read told hold text ts form r
settled_held read told hold text ts form (why.Picture f) s said says is = (said, (s, says, is))
settled_held read told None text ts form r s said says is = absurd is
settled_held read told (Some h) text ts form r s said says is = absurd is

pub settled_timestamp : {S : Type 0} (f : Fault) (read : List ℕ → Type 0)
    (told : S → List ℕ → Type 0) (hold : Option S) (text : Option (Bor (List ℕ))) (ts : ℕ)
    (form : Form) (s : State) (held : Option Values) → SaysFill text → SaysReceiver read s
    → SaysHeld told hold held
    → (f ≡ fault.Refused why.FrameTimestamp) × (IsMember ts s.opening.window → ⊥)
    → OfRefusal f (IsSettledRefusal read told hold text ts form)
settled_timestamp f read told hold text ts form s held said says held_is is =
    subst (λ (g : Fault). OfRefusal g (IsSettledRefusal read told hold text ts form)) (sym is.0)
    (record {
      said = said;
      receiver = s;
      receiver_is = says;
      held = held;
      held_is = held_is;
      holds = is.1;
    })

pub settling_refused : {S : Type 0} (read : List ℕ → Type 0) (told : S → List ℕ → Type 0)
    (hold : Option S) (text : Option (Bor (List ℕ))) (ts : ℕ) (form : Form) (s : State)
    (held : Option Values) (q : Raster) (r : Refusal) → SaysFill text → SaysReceiver read s
    → SaysHeld told hold held → frame_at s.opening.window s.frames ts ≡ Some q
    → IsSettlingRefusal text form held r q → IsSettledRefusal read told hold text ts form r
settling_refused read told hold text ts form s held q (why.State f) said says held_is at is =
    absurd is
settling_refused read told hold text ts form s held q (why.Picture f) said says held_is at is =
    absurd is
settling_refused read told hold text ts form s held q why.FrameTimestamp said says held_is at is =
    absurd is
settling_refused read told hold text ts form s held q why.FrameFill said says held_is at is =
    inr (record {
      said = said;
      receiver = s;
      receiver_is = says;
      held = held;
      held_is = held_is;
      holds = record { frame = q; is = at; holds = is };
    })
settling_refused read told hold text ts form s held q r said says held_is at is =
    record {
      said = said;
      receiver = s;
      receiver_is = says;
      held = held;
      held_is = held_is;
      holds = record { frame = q; is = at; holds = is };
    }

-- ---- by how the frame is shown

pub settled_refusal : {S V : Type 0} (r : Result V Fault) (read : List ℕ → Type 0)
    (told : S → List ℕ → Type 0) (hold : Option S) (w : PictureAsked)
    (text : Option (Bor (List ℕ))) → w.view ≡ Settled text
    → IfErr r (λ f. OfRefusal f (IsSettledRefusal read told hold text w.timestamp w.form))
    → IfErr r (λ f. OfRefusal f (IsShowRefusal read told hold w))
settled_refusal r read told hold w text view is =
    subst (λ (v : View). IfErr r
    (λ f. OfRefusal f (IsViewRefusal read told hold v w.timestamp w.form))) (sym view) is

pub marked_refusal : {S V : Type 0} (r : Result V Fault) (read : List ℕ → Type 0)
    (told : S → List ℕ → Type 0) (hold : Option S) (w : PictureAsked) → w.view ≡ Marked
    → IfErr r (λ f. OfRefusal f (IsMarkedRefusal read w.timestamp w.form))
    → IfErr r (λ f. OfRefusal f (IsShowRefusal read told hold w))
marked_refusal r read told hold w view is =
    subst (λ (v : View). IfErr r
    (λ f. OfRefusal f (IsViewRefusal read told hold v w.timestamp w.form))) (sym view) is

no_view : {S : Type 0} (read : List ℕ → Type 0) (told : S → List ℕ → Type 0) (hold : Option S)
    (view : View) (ts : ℕ) (form : Form) → SaysNoView view
    → IsViewRefusal read told hold view ts form why.FrameFill
no_view read told hold (Settled text) ts form is = inl is
no_view read told hold Marked ts form is = absurd is

-- a refusal of the words alone is one of a run, whatever was read
pub view_refused : {S : Type 0} (read : List ℕ → Type 0) (told : S → List ℕ → Type 0)
    (hold : Option S) (w : PictureAsked) (r : Refusal)
    → (r ≡ why.FrameFill) × SaysNoView w.view → IsShowRefusal read told hold w r
view_refused read told hold w r is =
    subst (λ (x : Refusal). IsShowRefusal read told hold w x) (sym is.0)
    (no_view read told hold w.view w.timestamp w.form is.1)

-- ---- devices

-- a device of three that was not used
pub accounts_between : {V : Type 0} (r : Result V Fault) (a a' b c c' : ℕ)
    → Accounts r (counts a a' ∷ counts c c' ∷ [])
    → Accounts r (counts a a' ∷ counts b b ∷ counts c c' ∷ [])
accounts_between (Ok v) a a' b c c' is = (is.0, (refl, is.1))
accounts_between (Err (fault.Refused r)) a a' b c c' is = (is.0, (refl, is.1))
accounts_between (Err fault.Device) a a' b c c' (inl first) = inl first
accounts_between (Err fault.Device) a a' b c c' (inr last) = inr (inr last)
accounts_between (Err fault.Memory) a a' b c c' is = (is.0, (refl, is.1))
