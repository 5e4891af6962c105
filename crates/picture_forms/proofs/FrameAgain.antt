-- A frame that is written is read as its picture.
use Rattle.std.proofs.Common.{◌≡◌, ℕ, List, [], ◌++◌, length, Result, Ok, codes}
use Rattle.std.proofs.Common.{append_assoc, refl, ap, ◌∙◌, subst, Bool, false}
use Rattle.std.proofs.Common.{◌∷◌, map}
use Rattle.std.specs.List.{AllByRecursion, flat_map}
use Rattle.std.specs.Prelude.{⊤}
use Rattle.st_format.specs.declared.format.Format.{Format}
use Rattle.st_format.specs.Given.{with_rest}
use Rattle.st_format.specs.Pgroup.{bits_of}
use Rattle.st_format.specs.Picture.{IsPicture, Values}
use Rattle.st_format.specs.Reading.{◌>>=◌}
use Rattle.picture_forms.specs.declared.fault.FormFault.{FormFault}
use Rattle.picture_forms.specs.Frames.{fitting, frame_line_at, frame_mark, frame_walk}
use Rattle.picture_forms.specs.Frames.{parameters_at, planes_at, planes_size}
use Rattle.picture_forms.specs.Layouts.{IsYcc, frame_line, frame_text, planes_text, y4m_spelling}
use Rattle.picture_forms.specs.Streams.{IsOf, frames_by, frames_in}
use Rattle.picture_forms.proofs.Fitted.{planes_fit, planes_long}
use Rattle.picture_forms.proofs.Walked.{field_again}

mark_again : frame_mark (codes "FRAME\n") ≡ Ok false
unfolding frame_mark
mark_again = refl

line_again : (rest : List ℕ) → frame_line_at (frame_line ++ rest) ≡ Ok (tt, rest)
unfolding frame_line_at
line_again rest =
    ap (λ (r : Result (List ℕ × List ℕ) FormFault). r >>= λ x. frame_mark x.0 >>=
    λ more. parameters_at more x.1) (field_again 6 frame_line rest refl)
    ∙ ap (λ (r : Result Bool FormFault). r >>= λ more. parameters_at more rest) mark_again

planes_again : (v : Values) (behind : List ℕ) → IsYcc v.format.sampling → IsPicture v
    → planes_at v.format (planes_text v ++ behind) ≡ Ok (planes_text v, behind)
unfolding planes_at
planes_again v behind is whole =
    ap (λ (r : Result (List ℕ × List ℕ) FormFault). r >>=
    λ x. with_rest (fitting (y4m_spelling v.format.depth) (bits_of v.format.depth) x.0) x.1)
    (field_again (planes_size v.format) (planes_text v) behind (planes_long v is))
    ∙ ap (λ (r : Result (List ℕ) FormFault). with_rest r behind)
    (planes_fit v is whole.whole whole.fit)

pub frame_again : (v : Values) (behind : List ℕ) → IsYcc v.format.sampling → IsPicture v
    → frame_walk v.format (frame_text v ++ behind) ≡ Ok (planes_text v, behind)
unfolding frame_walk
frame_again v behind is whole =
    ap (λ (o : List ℕ). frame_line_at o >>= λ x. planes_at v.format x.1)
    (append_assoc frame_line (planes_text v) behind)
    ∙ ap (λ (r : Result (⊤ × List ℕ) FormFault). r >>= λ x. planes_at v.format x.1)
    (line_again (planes_text v ++ behind))
    ∙ planes_again v behind is whole

-- ---- a stream

one_of : (f : Format) (v : Values) (behind : List ℕ) → IsYcc f.sampling → IsOf f v
    → frame_walk f (frame_text v ++ behind) ≡ Ok (planes_text v, behind)
one_of f v behind is of =
    subst (λ (g : Format). IsYcc g.sampling
    → frame_walk g (frame_text v ++ behind) ≡ Ok (planes_text v, behind)) of.0
    (λ ycc. frame_again v behind ycc of.1) is

pub frames_again : (f : Format) (vs : List Values) (behind : List ℕ) → IsYcc f.sampling
    → AllByRecursion (IsOf f) vs
    → frames_in f (length vs) (flat_map frame_text vs ++ behind) ≡ map planes_text vs
unfolding frames_in
frames_again f [] behind is all = refl
frames_again f (v ∷ vs) behind is all =
    let rest : List ℕ = flat_map frame_text vs ++ behind in
    ap (λ (o : List ℕ). frames_by (frame_walk f o) (frames_in f (length vs)))
    (append_assoc (frame_text v) (flat_map frame_text vs) behind)
    ∙ ap (λ (r : Result (List ℕ × List ℕ) FormFault). frames_by r (frames_in f (length vs)))
    (one_of f v rest is all.0)
    ∙ ap (λ (ps : List (List ℕ)). planes_text v ∷ ps) (frames_again f vs behind is all.1)
