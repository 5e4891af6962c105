-- What is written of frames, one after the other, is the stream of their pictures.
use Rattle.std.proofs.Common.{◌≡◌, ◌∙◌, ℕ, true, List, [], ◌∷◌, ◌++◌, Option, None, Some}
use Rattle.std.proofs.Common.{ap, append-nil, append_assoc, refl, subst, sym}
use Rattle.std.proofs.lemmas.Bool.{cond-true}
use Rattle.std.specs.List.{AllByRecursion, flat_map}
use Rattle.follow_engine.proofs.Grows.{grows_first, grows_then}
use Rattle.follow_engine.specs.Shown.{GrowsSome, TakesEachFrame}
use Rattle.following.specs.Following.{Handed}
use Rattle.frame_sinks.specs.Pictures.{form_head, form_stream, head_as, head_for, held_by}
use Rattle.frame_sinks.specs.Pictures.{picture_of, pictures_of}
use Rattle.frame_sinks.specs.Sinks.{FailsFrame, SinkTakes, text_for}
use Rattle.frame_sinks.specs.declared.filling.Filling.{Filling}
use Rattle.frame_sinks.specs.declared.form_sink.FormSink.{FormSink}
use Rattle.frame_sinks.specs.declared.settling.Settling.{Settling}
use Rattle.frame_sinks.proofs.Written.{picture_format, ycc_form}
use Rattle.picture_forms.specs.Layouts.{IsRgb, IsYcc, frame_text, pixmap_text, y4m_head, y4m_text}
use Rattle.settled_forms.specs.Settled.{form_by, form_text}
use Rattle.st_format.proofs.SameFields.{fields_self}
use Rattle.st_format.specs.declared.format.Format.{Format}
use Rattle.st_format.specs.declared.sampling.Sampling.{Sampling}
use Rattle.st_format.specs.declared.sampling.Sampling.TheVariants.{Ycc422, Ycc444, Rgb}
use Rattle.st_format.specs.Fields.{fields_of, same_fields}
use Rattle.st_format.specs.Picture.{Values}

-- the stream of the pictures of frames, by all that they go by
abbrev rest_of : List Handed → Option Format → Filling → Option (List ℕ) → Option Values → List ℕ
rest_of hs begun filling fill held = form_stream begun (pictures_of filling fill held hs)

-- so of a sink
abbrev rest_by : {K A : Type 0} → FormSink K A → List Handed → List ℕ
rest_by k hs = rest_of hs k.format k.settling.filling k.settling.fill k.settling.held

-- of a sink that took a frame
behind_one : {K A : Type 0} (took : K → List ℕ) (k m : FormSink K A) (h : Handed)
    (hs : List Handed) → SinkTakes took k h m → rest_by k (h ∷ hs) ≡ text_for k h ++ rest_by m hs
behind_one took k m h hs is =
    let s : Settling _ = k.settling in
    let n : Settling _ = m.settling in
    let p : Values = picture_of s.fill s.held h.frame in
    let held : Option Values = held_by s.filling p in
    ap (λ (f : Format). (head_for k.format f ++ form_text p)
    ++ rest_of hs (Some f) s.filling s.fill held) (picture_format s.fill s.held h.frame)
    ∙ ap (λ (t : List ℕ). text_for k h ++ t)
    (sym (ap (λ (x : Option Format). rest_of hs x n.filling n.fill n.held) is.format
    ∙ ap (λ (x : Filling). rest_of hs (Some h.frame.format) x n.fill n.held) is.filling
    ∙ ap (λ (x : Option (List ℕ)). rest_of hs (Some h.frame.format) s.filling x n.held) is.fill
    ∙ ap (λ (x : Option Values). rest_of hs (Some h.frame.format) s.filling s.fill x) is.held))

pub all_written : {K A : Type 0} (took : K → List ℕ) (k l : FormSink K A) (hs : List Handed)
    → TakesEachFrame (SinkTakes took) k hs l
    → took l.sink ≡ took k.sink
    ++ form_stream k.format (pictures_of k.settling.filling k.settling.fill k.settling.held hs)
all_written took k l [] is =
    ap (λ (m : FormSink _ _). took m.sink) is ∙ sym (append-nil (took k.sink))
all_written took k l (h ∷ hs) is =
    let m : FormSink _ _ = is.0 in
    all_written took m l hs is.2
    ∙ ap (λ (t : List ℕ). t ++ rest_by m hs) is.1.written
    ∙ append_assoc (took k.sink) (text_for k h) (rest_by m hs)
    ∙ ap (λ (t : List ℕ). took k.sink ++ t) (sym (behind_one took k m h hs is.1))

-- of one at which the sink failed a first part was written
cut_one : {K A : Type 0} (took : K → List ℕ) (k l : FormSink K A) (h : Handed)
    → FailsFrame took k h l → GrowsSome (took k.sink) (took l.sink) (rest_by k (h ∷ []))
cut_one took k l h is =
    let s : Settling _ = k.settling in
    let p : Values = picture_of s.fill s.held h.frame in
    subst (λ (f : Format). GrowsSome (took k.sink) (took l.sink)
    ((head_for k.format f ++ form_text p) ++ []))
    (sym (picture_format s.fill s.held h.frame))
    (grows_first (took k.sink) (took l.sink) (text_for k h) [] is)

pub cut_written : {K A : Type 0} (took : K → List ℕ) (k m l : FormSink K A) (hs : List Handed)
    (h : Handed) → TakesEachFrame (SinkTakes took) k hs m → FailsFrame took m h l
    → GrowsSome (took k.sink) (took l.sink) (form_stream k.format
    (pictures_of k.settling.filling k.settling.fill k.settling.held (hs ++ h ∷ [])))
cut_written took k m l [] h is cut =
    cut_one took k l h (subst (λ (x : FormSink _ _). FailsFrame took x h l) is cut)
cut_written took k m l (g ∷ hs) h is cut =
    let n : FormSink _ _ = is.0 in
    let more : List Handed = hs ++ h ∷ [] in
    subst (λ (t : List ℕ). GrowsSome (took k.sink) (took l.sink) t)
    (sym (behind_one took k n g more is.1))
    (grows_then (took k.sink) (took n.sink) (took l.sink) (text_for k g) (rest_by n more)
    is.1.written (cut_written took n m l hs h is.2 cut))

-- ---- pictures of one format

rgb_by : (s : Sampling) (p : Values) → IsRgb s → form_by s p ≡ pixmap_text p
rgb_by Ycc422 p is = absurd is
rgb_by Ycc444 p is = absurd is
rgb_by Rgb p is = refl

ycc_text : (f : Format) (p : Values) → IsYcc f.sampling → p.format ≡ f
    → form_text p ≡ frame_text p
unfolding form_text
ycc_text f p is same =
    ycc_form p.format.sampling p (subst (λ (g : Format). IsYcc g.sampling) (sym same) is)

rgb_text : (f : Format) (p : Values) → IsRgb f.sampling → p.format ≡ f
    → form_text p ≡ pixmap_text p
unfolding form_text
rgb_text f p is same =
    rgb_by p.format.sampling p (subst (λ (g : Format). IsRgb g.sampling) (sym same) is)

-- the head of a stream
ycc_head : (s : Sampling) (f : Format) → IsYcc s → head_as s f ≡ y4m_head f
ycc_head Ycc422 f is = refl
ycc_head Ycc444 f is = refl
ycc_head Rgb f is = absurd is

rgb_head : (s : Sampling) (f : Format) → IsRgb s → head_as s f ≡ []
rgb_head Ycc422 f is = absurd is
rgb_head Ycc444 f is = absurd is
rgb_head Rgb f is = refl

-- a stream that was begun has no head more
same_stream : (text : Values → List ℕ) (f : Format) (ps : List Values)
    → ((p : Values) → p.format ≡ f → form_text p ≡ text p)
    → AllByRecursion (λ q. q.format ≡ f) ps → form_stream (Some f) ps ≡ flat_map text ps
same_stream text f [] is all = refl
same_stream text f (p ∷ ps) is all =
    let none : head_for (Some f) p.format ≡ [] =
    cond-true (same_fields (fields_of f) (fields_of p.format)) [] (form_head p.format)
    (subst (λ (g : Format). same_fields (fields_of f) (fields_of g) ≡ true) (sym all.0)
    (fields_self (fields_of f))) in
    ap (λ (t : List ℕ). (t ++ form_text p) ++ form_stream (Some p.format) ps) none
    ∙ ap (λ (t : List ℕ). t ++ form_stream (Some p.format) ps) (is p all.0)
    ∙ ap (λ (g : Format). text p ++ form_stream (Some g) ps) all.0
    ∙ ap (λ (t : List ℕ). text p ++ t) (same_stream text f ps is all.1)

pub ycc_stream : (f : Format) (p : Values) (ps : List Values) → IsYcc f.sampling
    → AllByRecursion (λ q. q.format ≡ f) (p ∷ ps) → form_stream None (p ∷ ps) ≡ y4m_text f (p ∷ ps)
ycc_stream f p ps is all =
    ap (λ (g : Format). (form_head g ++ form_text p) ++ form_stream (Some g) ps) all.0
    ∙ ap (λ (t : List ℕ). (t ++ form_text p) ++ form_stream (Some f) ps)
    (ycc_head f.sampling f is)
    ∙ ap (λ (t : List ℕ). (y4m_head f ++ t) ++ form_stream (Some f) ps) (ycc_text f p is all.0)
    ∙ ap (λ (t : List ℕ). (y4m_head f ++ frame_text p) ++ t)
    (same_stream frame_text f ps (λ q. ycc_text f q is) all.1)
    ∙ append_assoc (y4m_head f) (frame_text p) (flat_map frame_text ps)

pub rgb_stream : (f : Format) (ps : List Values) → IsRgb f.sampling
    → AllByRecursion (λ q. q.format ≡ f) ps → form_stream None ps ≡ flat_map pixmap_text ps
rgb_stream f [] is all = refl
rgb_stream f (p ∷ ps) is all =
    ap (λ (g : Format). (form_head g ++ form_text p) ++ form_stream (Some g) ps) all.0
    ∙ ap (λ (t : List ℕ). (t ++ form_text p) ++ form_stream (Some f) ps)
    (rgb_head f.sampling f is)
    ∙ ap (λ (t : List ℕ). t ++ form_stream (Some f) ps) (rgb_text f p is all.0)
    ∙ ap (λ (t : List ℕ). pixmap_text p ++ t)
    (same_stream pixmap_text f ps (λ q. rgb_text f q is) all.1)
