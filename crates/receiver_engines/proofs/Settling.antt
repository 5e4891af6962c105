-- Frames with their bases, settled.
use Rattle.std.proofs.Common.{◌≡◌, ℕ, ◌<◌, List, [], ◌∷◌, length, map, get_or, set, Option, None}
use Rattle.std.proofs.Common.{Some, Result, Ok, Err, IfOk, refl, ap, arith, subst, sym, ◌∙◌}
use Rattle.std.specs.Prelude.{slice_index}
use Rattle.std.specs.List.{AllByRecursion}
use Rattle.std.specs.Borrow.{Bor}
use Rattle.key_mix.specs.Sending.{HasBase, input_formats, settled_inputs}
use Rattle.key_mix.specs.declared.sending.JobInput.{JobInput}
use Rattle.st_format.specs.declared.format.Format.{Format}
use Rattle.st_format.specs.Picture.{Values, value_at}
use Rattle.st_format.specs.Raster.{Raster}
use Rattle.receiver_engines.specs.FillText.{IsFillText}
use Rattle.receiver_engines.specs.Inputs.{AreValues, FitsFrames, FitsLent, IsFill, IsHeldFor}
use Rattle.receiver_engines.specs.Inputs.{filled_input, held_input, frames_lent, raster_formats}
use Rattle.receiver_engines.specs.Inputs.{settled_by_fill, settled_frames, settled_over}

pub filled_bases : (A : Type 0) (fill : List ℕ) (fs : List (Bor Raster)) → FitsLent fill fs
    → AllByRecursion HasBase (map (filled_input {A = A} fill) fs)
filled_bases A fill [] fits = tt
filled_bases A fill (f ∷ fs) fits = (fits.0, filled_bases A fill fs fits.1)

pub filled_settled : (A : Type 0) (fill : List ℕ) (fs : List (Bor Raster))
    → settled_inputs (map (filled_input {A = A} fill) fs)
    ≡ map (settled_by_fill fill) (frames_lent fs)
filled_settled A fill [] = refl
filled_settled A fill (f ∷ fs) =
    ap (λ vs. settled_by_fill fill f.now ∷ vs) (filled_settled A fill fs)

pub some_lent : (fs : List (Bor Raster))
    → map (λ (f : Bor Raster). Some f.now) fs ≡ map Some (frames_lent fs)
some_lent [] = refl
some_lent (f ∷ fs) = ap (λ vs. Some f.now ∷ vs) (some_lent fs)

pub fits_lent : (fill : List ℕ) (fs : List (Bor Raster)) → FitsLent fill fs
    → FitsFrames fill (frames_lent fs)
fits_lent fill [] fits = tt
fits_lent fill (f ∷ fs) fits = (fits.0, fits_lent fill fs fits.1)

-- a fill that was read and fits frames that are lent once more
pub fill_lent : (text fill : List ℕ) (fs again : List (Bor Raster)) → again ≡ fs
    → IsFillText text (slice_index fill 0) (slice_index fill 1) (slice_index fill 2)
    → AreValues fill → FitsLent fill again → IsFill fill text (frames_lent fs)
fill_lent text fill fs again same is values fits = record {
  is = is;
  values = values;
  fits = fits_lent fill fs (subst (λ (l : List (Bor Raster)). FitsLent fill l) same fits);
}

pub if_ok_map : {X E : Type 0} {P Q : X → Type 0} (r : Result X E) → ((x : X) → P x → Q x)
    → IfOk r P → IfOk r Q
if_ok_map (Ok x) f p = f x p
if_ok_map (Err e) f p = p

-- ---- with what is held

pub settled_unheld : (A : Type 0) (fill : List ℕ) (held : Option Values) (fs : List (Bor Raster))
    (items : List (JobInput A)) → ((p : Values) → held ≡ Some p → ⊥)
    → items ≡ map (filled_input fill) fs
    → settled_inputs items ≡ settled_frames held fill (frames_lent fs)
settled_unheld A fill None fs items none is =
    ap settled_inputs is ∙ filled_settled A fill fs
settled_unheld A fill (Some p) fs items none is = absurd (none p refl)

pub settled_held : (A : Type 0) (fill : List ℕ) (held : Option Values) (p : Bor Values)
    (fs : List (Bor Raster)) (f : Bor Raster) (items new : List (JobInput A))
    → held ≡ Some p.now → f ≡ get_or fs 0 f → 0 < length fs
    → items ≡ map (filled_input fill) fs → new ≡ set items 0 (held_input f p)
    → settled_inputs new ≡ settled_frames held fill (frames_lent fs)
settled_held A fill held p [] f items new some first any is set_is = absurd (omega (arith, any))
settled_held A fill held p (g ∷ fs) f items new some first any is set_is =
    let one : new ≡ held_input f p ∷ map (filled_input fill) fs =
    set_is ∙ ap (λ (l : List (JobInput A)). set l 0 (held_input f p)) is in
    let two : settled_inputs new ≡ settled_frames (Some p.now) fill (f.now ∷ frames_lent fs) =
    ap settled_inputs one
    ∙ ap (λ (vs : List Values). settled_over (value_at p.now) f.now ∷ vs)
    (filled_settled A fill fs) in
    two ∙ ap (λ (h : Bor Raster). settled_frames (Some p.now) fill (h.now ∷ frames_lent fs)) first
    ∙ ap (λ (o : Option Values). settled_frames o fill (g.now ∷ frames_lent fs)) (sym some)

pub held_bases : (A : Type 0) (fill : List ℕ) (held : Option Values) (p : Bor Values)
    (fs : List (Bor Raster)) (f : Bor Raster) (items new : List (JobInput A))
    → held ≡ Some p.now → f ≡ get_or fs 0 f → 0 < length fs → FitsLent fill fs
    → IsHeldFor held (frames_lent fs)
    → items ≡ map (filled_input fill) fs → new ≡ set items 0 (held_input f p)
    → AllByRecursion HasBase new
held_bases A fill held p [] f items new some first any fits for is set_is =
    absurd (omega (arith, any))
held_bases A fill held p (g ∷ fs) f items new some first any fits for is set_is =
    let one : held_input f p ∷ map (filled_input fill) fs ≡ new =
    sym (set_is ∙ ap (λ (l : List (JobInput A)). set l 0 (held_input f p)) is) in
    let same : p.now.format ≡ g.now.format =
    subst (λ (o : Option Values). IsHeldFor o (g.now ∷ frames_lent fs)) some for in
    let base : p.now.format ≡ f.now.format =
    same ∙ ap (λ (h : Bor Raster). h.now.format) (sym first) in
    subst (λ (l : List (JobInput A)). AllByRecursion HasBase l) one
    (base, filled_bases A fill fs fits.1)

-- ---- formats

pub filled_formats : (A : Type 0) (fill : List ℕ) (fs : List (Bor Raster))
    → input_formats (map (filled_input {A = A} fill) fs) ≡ raster_formats (frames_lent fs)
filled_formats A fill [] = refl
filled_formats A fill (f ∷ fs) =
    ap (λ (vs : List Format). f.now.format ∷ vs) (filled_formats A fill fs)

pub held_formats : (A : Type 0) (fill : List ℕ) (p : Bor Values) (fs : List (Bor Raster))
    (f : Bor Raster) (items new : List (JobInput A)) → f ≡ get_or fs 0 f → 0 < length fs
    → items ≡ map (filled_input fill) fs → new ≡ set items 0 (held_input f p)
    → input_formats new ≡ raster_formats (frames_lent fs)
held_formats A fill p [] f items new first any is set_is = absurd (omega (arith, any))
held_formats A fill p (g ∷ fs) f items new first any is set_is =
    let one : new ≡ held_input f p ∷ map (filled_input fill) fs =
    set_is ∙ ap (λ (l : List (JobInput A)). set l 0 (held_input f p)) is in
    ap input_formats one
    ∙ ap (λ (vs : List Format). f.now.format ∷ vs) (filled_formats A fill fs)
    ∙ ap (λ (h : Bor Raster). h.now.format ∷ raster_formats (frames_lent fs)) first
