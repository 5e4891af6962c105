-- What was written in a form, by what holds of the picture; and outcomes.
use Rattle.std.proofs.Common.{◌≡◌, ℕ, List, inl, inr, Option, Result, Ok, Err, subst, sym}
use Rattle.std.specs.Prelude.{OnErr, OnOk}
use Rattle.std.specs.Borrow.{Bor}
use Rattle.form_files.specs.declared.form.Form.{Form}
use Rattle.st_format.specs.Picture.{Values}
use Rattle.picture_engine.specs.declared.asked.PictureAsked.{PictureAsked}
use Rattle.picture_engine.specs.declared.asked.View.{View}
use Rattle.picture_engine.specs.declared.asked.View.TheVariants.{Settled, Marked}
use Rattle.picture_engine.specs.Shown.{IsViewOf, OfFrame, SettlesFiles, ShowsFrame, ShowsPart}
use Rattle.picture_engine.specs.Shown.{WritesForm, WritesFormPart}
use Rattle.picture_engine.specs.Views.{IsMarkedView}

-- what holds of an outcome whatever it is
pub always_ok : {V E : Type 0} (P : Type 0) (r : Result V E) → P → OnOk r P
always_ok P (Ok v) p = p
always_ok P (Err e) p = tt

-- of the picture that was written another thing holds
pub writes_map : {V E : Type 0} (r : Result V E) (form : Form) (P Q : Values → Type 0)
    (old new : List ℕ) → ((v : Values) → P v → Q v) → OnOk r (WritesForm form P old new)
    → OnOk r (WritesForm form Q old new)
writes_map (Ok v) form P Q old new so is = record {
  shown = is.shown;
  is = so is.shown is.is;
  holds = is.holds;
  written = is.written;
}
writes_map (Err e) form P Q old new so is = tt

of_part : (form : Form) (P Q : Values → Type 0) (old new : List ℕ) → ((v : Values) → P v → Q v)
    → WritesFormPart form P old new → WritesFormPart form Q old new
of_part form P Q old new so (inl same) = inl same
of_part form P Q old new so (inr part) = inr (part.0, so part.0 part.1, part.2)

-- so of a part of one
pub part_map : {V E : Type 0} (r : Result V E) (form : Form) (P Q : Values → Type 0)
    (old new : List ℕ) → ((v : Values) → P v → Q v) → OnErr r (WritesFormPart form P old new)
    → OnErr r (WritesFormPart form Q old new)
part_map (Ok v) form P Q old new so is = tt
part_map (Err e) form P Q old new so is = of_part form P Q old new so is

-- ---- by how the frame is shown

pub settled_shown : {S V E : Type 0} (r : Result V E) (read : List ℕ → Type 0)
    (told : S → List ℕ → Type 0) (hold : Option S) (w : PictureAsked)
    (text : Option (Bor (List ℕ))) (old new : List ℕ) → w.view ≡ Settled text
    → OnOk r (WritesForm w.form (OfFrame read w.timestamp (SettlesFiles told hold text)) old new)
    → OnOk r (ShowsFrame read told hold w old new)
settled_shown r read told hold w text old new view is =
    subst (λ (v : View). OnOk r (WritesForm w.form
    (OfFrame read w.timestamp (IsViewOf told hold v)) old new)) (sym view) is

pub marked_shown : {S V E : Type 0} (r : Result V E) (read : List ℕ → Type 0)
    (told : S → List ℕ → Type 0) (hold : Option S) (w : PictureAsked)
    (old new : List ℕ) → w.view ≡ Marked
    → OnOk r (WritesForm w.form (OfFrame read w.timestamp IsMarkedView) old new)
    → OnOk r (ShowsFrame read told hold w old new)
marked_shown r read told hold w old new view is =
    subst (λ (v : View). OnOk r (WritesForm w.form
    (OfFrame read w.timestamp (IsViewOf told hold v)) old new)) (sym view) is

pub settled_part : {S V E : Type 0} (r : Result V E) (read : List ℕ → Type 0)
    (told : S → List ℕ → Type 0) (hold : Option S) (w : PictureAsked)
    (text : Option (Bor (List ℕ))) (old new : List ℕ) → w.view ≡ Settled text
    → OnErr r (WritesFormPart w.form
    (OfFrame read w.timestamp (SettlesFiles told hold text)) old new)
    → OnErr r (ShowsPart read told hold w old new)
settled_part r read told hold w text old new view is =
    subst (λ (v : View). OnErr r (WritesFormPart w.form
    (OfFrame read w.timestamp (IsViewOf told hold v)) old new)) (sym view) is

pub marked_part : {S V E : Type 0} (r : Result V E) (read : List ℕ → Type 0)
    (told : S → List ℕ → Type 0) (hold : Option S) (w : PictureAsked)
    (old new : List ℕ) → w.view ≡ Marked
    → OnErr r (WritesFormPart w.form (OfFrame read w.timestamp IsMarkedView) old new)
    → OnErr r (ShowsPart read told hold w old new)
marked_part r read told hold w old new view is =
    subst (λ (v : View). OnErr r (WritesFormPart w.form
    (OfFrame read w.timestamp (IsViewOf told hold v)) old new)) (sym view) is
