-- What was read of a stream or a pixmap has a picture, or a first fault.
use Rattle.std.proofs.Common.{◌≡◌, ℕ, inl, inr, List, ◌++◌, Result, Ok, Err, append_assoc, sym, ap}
use Rattle.std.proofs.Common.{◌∙◌, subst}
use Rattle.std.specs.Prelude.{IfErr, IfOk}
use Rattle.st_format.specs.declared.format.Format.{Format}
use Rattle.st_format.specs.Fields.{fields_of}
use Rattle.st_format.specs.Given.{GaveValue}
use Rattle.st_format.specs.History.{IsRead}
use Rattle.st_format.specs.Picture.{IsPicture, Values}
use Rattle.st_format.proofs.Histories.{since_is}
use Rattle.picture_forms.specs.declared.fault.FormFault.{FormFault}
use Rattle.picture_forms.specs.Faults.{IfContent}
use Rattle.picture_forms.specs.Heads.{head_walk}
use Rattle.picture_forms.specs.Layouts.{pixels_text, planes_text}
use Rattle.picture_forms.specs.Pixmaps.{pixels_walk, pixmap_head_walk}
use Rattle.picture_forms.specs.Walks.{GaveFault}
use Rattle.picture_forms.proofs.HeadIs as heads
use Rattle.picture_forms.proofs.PixmapAgain as pixmaps
use Rattle.convert_engine.specs.Inputs.{IsInPixmap, IsInStream, IsPixmapFault, IsStreamFault}
use Rattle.convert_engine.specs.Inputs.{frame_at_place}
use Rattle.convert_engine.proofs.Contents.{content_map, content_told}

-- what was read first, then, and is behind it
pub two_parts : (a b c first next octets : List ℕ) (ended : Type 0) → b ≡ a ++ first → c ≡ b ++ next
    → (q : IsRead a c ended octets) → octets ≡ first ++ (next ++ q.behind)
two_parts a b c first next octets ended p r q =
    let grown : c ≡ a ++ (first ++ next) =
    r ∙ ap (λ (l : List ℕ). l ++ next) p ∙ append_assoc a first next in
    q.parts ∙ ap (λ (l : List ℕ). l ++ q.behind) (since_is a c (first ++ next) grown)
    ∙ append_assoc first next q.behind

pub one_part : (a b first octets : List ℕ) (ended : Type 0) → b ≡ a ++ first
    → (q : IsRead a b ended octets) → octets ≡ first ++ q.behind
one_part a b first octets ended p q =
    q.parts ∙ ap (λ (l : List ℕ). l ++ q.behind) (since_is a b first p)

-- ---- streams

stream_says : (place : ℕ) (v : Values) (a b c : List ℕ) (ended : Type 0) → IsPicture v
    → GaveValue head_walk a b (fields_of v.format)
    → GaveValue (frame_at_place v.format place) b c (planes_text v)
    → (octets : List ℕ) → IsRead a c ended octets → IsInStream place octets v
stream_says place v a b c ended whole h g octets q = record {
  picture = whole;
  rest = g.part ++ q.behind;
  behind = q.behind;
  head = heads.head_found octets (g.part ++ q.behind) (fields_of v.format)
      (ap head_walk (two_parts a b c h.part g.part octets ended h.grown g.grown q)
      ∙ h.says (g.part ++ q.behind));
  frame = g.says q.behind;
}

pub stream_said : (place : ℕ) (f : Format) (r : Result Values FormFault) (a b c : List ℕ)
    (ended : Type 0) → GaveValue head_walk a b (fields_of f)
    → IfOk r (λ v. v.format ≡ f) → IfOk r (λ v. IsPicture v)
    → IfOk r (λ v. GaveValue (frame_at_place f place) b c (planes_text v))
    → IfOk r (λ v. (octets : List ℕ) → IsRead a c ended octets → IsInStream place octets v)
stream_said place f (Ok v) a b c ended h same whole g =
    stream_says place v a b c ended whole
    (subst (λ (x : Format). GaveValue head_walk a b (fields_of x)) (sym same) h)
    (subst (λ (x : Format). GaveValue (frame_at_place x place) b c (planes_text v)) (sym same) g)
stream_said place f (Err e) a b c ended h same whole g = tt

pub stream_head_fault : (place : ℕ) (e : FormFault) (a b : List ℕ) (ended : Type 0)
    → GaveFault head_walk a b ended e
    → IfContent e ((octets : List ℕ) → IsRead a b ended octets → IsStreamFault place octets e)
stream_head_fault place e a b ended g =
    content_told e (IsRead a b ended) (λ octets. IsStreamFault place octets e)
    (λ octets q.
    content_map e (head_walk (g.part ++ q.behind) ≡ Err e) (IsStreamFault place octets e)
    (λ x. inl (ap head_walk (one_part a b g.part octets ended g.grown q) ∙ x))
    (g.says q.behind q.all))

frame_wrong : (place : ℕ) (f : Format) (e : FormFault) (a b c : List ℕ) (ended : Type 0)
    → GaveValue head_walk a b (fields_of f) → GaveFault (frame_at_place f place) b c ended e
    → IfContent e ((octets : List ℕ) → IsRead a c ended octets → IsStreamFault place octets e)
frame_wrong place f e a b c ended h g =
    content_told e (IsRead a c ended) (λ octets. IsStreamFault place octets e)
    (λ octets q.
    content_map e (frame_at_place f place (g.part ++ q.behind) ≡ Err e)
    (IsStreamFault place octets e) (λ x. inr (record {
      format = f;
      rest = g.part ++ q.behind;
      head = heads.head_found octets (g.part ++ q.behind) (fields_of f)
          (ap head_walk (two_parts a b c h.part g.part octets ended h.grown g.grown q)
          ∙ h.says (g.part ++ q.behind));
      fault = x;
    })) (g.says q.behind q.all))

pub stream_frame_fault : (place : ℕ) (f : Format) (r : Result Values FormFault) (a b c : List ℕ)
    (ended : Type 0) → GaveValue head_walk a b (fields_of f)
    → IfErr r (λ e. GaveFault (frame_at_place f place) b c ended e)
    → IfErr r (λ e. IfContent e ((octets : List ℕ) → IsRead a c ended octets
    → IsStreamFault place octets e))
stream_frame_fault place f (Ok v) a b c ended h g = tt
stream_frame_fault place f (Err e) a b c ended h g = frame_wrong place f e a b c ended h g

-- ---- pixmaps

pixmap_says : (n d : ℕ) (v : Values) (a b c : List ℕ) (ended : Type 0) → IsPicture v
    → GaveValue (pixmap_head_walk n d) a b (fields_of v.format)
    → GaveValue (pixels_walk v.format) b c (pixels_text v)
    → (octets : List ℕ) → IsRead a c ended octets → IsInPixmap n d octets v
pixmap_says n d v a b c ended whole h g octets q = record {
  picture = whole;
  rest = g.part ++ q.behind;
  behind = q.behind;
  head = pixmaps.head_found n d octets (g.part ++ q.behind) (fields_of v.format)
      (ap (pixmap_head_walk n d)
      (two_parts a b c h.part g.part octets ended h.grown g.grown q)
      ∙ h.says (g.part ++ q.behind));
  samples = g.says q.behind;
}

pub pixmap_said : (n d : ℕ) (f : Format) (r : Result Values FormFault) (a b c : List ℕ)
    (ended : Type 0) → GaveValue (pixmap_head_walk n d) a b (fields_of f)
    → IfOk r (λ v. v.format ≡ f) → IfOk r (λ v. IsPicture v)
    → IfOk r (λ v. GaveValue (pixels_walk f) b c (pixels_text v))
    → IfOk r (λ v. (octets : List ℕ) → IsRead a c ended octets → IsInPixmap n d octets v)
pixmap_said n d f (Ok v) a b c ended h same whole g =
    pixmap_says n d v a b c ended whole
    (subst (λ (x : Format). GaveValue (pixmap_head_walk n d) a b (fields_of x)) (sym same) h)
    (subst (λ (x : Format). GaveValue (pixels_walk x) b c (pixels_text v)) (sym same) g)
pixmap_said n d f (Err e) a b c ended h same whole g = tt

pub pixmap_head_fault : (n d : ℕ) (e : FormFault) (a b : List ℕ) (ended : Type 0)
    → GaveFault (pixmap_head_walk n d) a b ended e
    → IfContent e ((octets : List ℕ) → IsRead a b ended octets → IsPixmapFault n d octets e)
pixmap_head_fault n d e a b ended g =
    content_told e (IsRead a b ended) (λ octets. IsPixmapFault n d octets e)
    (λ octets q.
    content_map e (pixmap_head_walk n d (g.part ++ q.behind) ≡ Err e)
    (IsPixmapFault n d octets e)
    (λ x. inl (ap (pixmap_head_walk n d) (one_part a b g.part octets ended g.grown q) ∙ x))
    (g.says q.behind q.all))

pixels_wrong : (n d : ℕ) (f : Format) (e : FormFault) (a b c : List ℕ) (ended : Type 0)
    → GaveValue (pixmap_head_walk n d) a b (fields_of f) → GaveFault (pixels_walk f) b c ended e
    → IfContent e ((octets : List ℕ) → IsRead a c ended octets → IsPixmapFault n d octets e)
pixels_wrong n d f e a b c ended h g =
    content_told e (IsRead a c ended) (λ octets. IsPixmapFault n d octets e)
    (λ octets q.
    content_map e (pixels_walk f (g.part ++ q.behind) ≡ Err e)
    (IsPixmapFault n d octets e) (λ x. inr (record {
      format = f;
      rest = g.part ++ q.behind;
      head = pixmaps.head_found n d octets (g.part ++ q.behind) (fields_of f)
          (ap (pixmap_head_walk n d)
          (two_parts a b c h.part g.part octets ended h.grown g.grown q)
          ∙ h.says (g.part ++ q.behind));
      fault = x;
    })) (g.says q.behind q.all))

pub pixmap_pixels_fault : (n d : ℕ) (f : Format) (r : Result Values FormFault)
    (a b c : List ℕ) (ended : Type 0) → GaveValue (pixmap_head_walk n d) a b (fields_of f)
    → IfErr r (λ e. GaveFault (pixels_walk f) b c ended e)
    → IfErr r (λ e. IfContent e ((octets : List ℕ) → IsRead a c ended octets
    → IsPixmapFault n d octets e))
pixmap_pixels_fault n d f (Ok v) a b c ended h g = tt
pixmap_pixels_fault n d f (Err e) a b c ended h g = pixels_wrong n d f e a b c ended h g
