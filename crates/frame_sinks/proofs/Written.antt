-- What stands before a picture, and what a frame is settled over, by what was tested of formats.
use Rattle.std.proofs.Common.{◌≡◌, ◌∙◌, ℕ, Bool, true, false, List, [], ◌++◌, Option, None, Some}
use Rattle.std.proofs.Common.{ap, append-nil, arith, drop, length, refl, subst, sym, take}
use Rattle.std.proofs.lemmas.List.{drop_all, take_all}
use Rattle.std.proofs.lemmas.Bool.{cond-false, cond-true}
use Rattle.follow_engine.specs.Shown.{GrowsSome}
use Rattle.following.specs.Following.{Handed}
use Rattle.frame_sinks.specs.Fills.{fill_of}
use Rattle.frame_sinks.specs.Pictures.{form_head, head_for, held_by, is_of, picture_of}
use Rattle.frame_sinks.specs.Sinks.{FailsFrame, SinkTakes, text_for}
use Rattle.frame_sinks.specs.declared.filling.Filling.{Filling}
use Rattle.frame_sinks.specs.declared.filling.Filling.TheVariants.{Fill}
use Rattle.frame_sinks.specs.declared.form_sink.FormSink.{FormSink}
use Rattle.frame_sinks.specs.declared.settling.Settling.{Settling}
use Rattle.picture_engine.specs.Views.{settled_with}
use Rattle.picture_engine.proofs.Settled.{settled_format}
use Rattle.picture_forms.specs.Faults.{CountsFault, IsDevice}
use Rattle.picture_forms.specs.Layouts.{IsYcc, frame_text}
use Rattle.picture_forms.specs.declared.fault.FormFault.{FormFault}
use Rattle.picture_forms.specs.declared.fault.FormFault.TheVariants as form
use Rattle.receiver_engines.specs.Inputs.{settled_by_fill, settled_over}
use Rattle.run_outcome.proofs.Blaming.{failed_one}
use Rattle.settled_forms.specs.Settled.{form_by, form_text}
use Rattle.st_format.specs.declared.format.Format.{Format}
use Rattle.st_format.specs.declared.sampling.Sampling.{Sampling}
use Rattle.st_format.specs.declared.sampling.Sampling.TheVariants.{Ycc422, Ycc444, Rgb}
use Rattle.st_format.specs.Device.{Failed}
use Rattle.st_format.specs.Fields.{fields_of, same_fields}
use Rattle.st_format.specs.Picture.{Values, value_at}
use Rattle.st_format.specs.Raster.{Raster}

-- ---- the head

pub no_head : (begun : Option Format) (f : Format) (b : Bool) (took : List ℕ) → b ≡ is_of begun f
    → b ≡ true → took ≡ took ++ head_for begun f
no_head begun f b took is so =
    sym (ap (λ (t : List ℕ). took ++ t) (cond-true (is_of begun f) [] (form_head f) (sym is ∙ so))
    ∙ append-nil took)

pub head_due : (begun : Option Format) (f : Format) (b : Bool) → b ≡ is_of begun f → b ≡ false
    → form_head f ≡ head_for begun f
head_due begun f b is so = sym (cond-false (is_of begun f) [] (form_head f) (sym is ∙ so))

-- ---- the picture

pub picture_held : (fill : Option (List ℕ)) (p : Values) (q : Raster) (b : Bool)
    → b ≡ same_fields (fields_of p.format) (fields_of q.format) → b ≡ true
    → settled_over (value_at p) q ≡ picture_of fill (Some p) q
unfolding picture_of
picture_held fill p q b is so =
    sym (ap (λ (h : Option Values). settled_with h (fill_of fill q.format) q)
    (cond-true (same_fields (fields_of p.format) (fields_of q.format)) (Some p) None
    (sym is ∙ so)))

pub picture_unheld : (fill : Option (List ℕ)) (p : Values) (q : Raster) (b : Bool)
    → b ≡ same_fields (fields_of p.format) (fields_of q.format) → b ≡ false
    → picture_of fill None q ≡ picture_of fill (Some p) q
unfolding picture_of
picture_unheld fill p q b is so =
    sym (ap (λ (h : Option Values). settled_with h (fill_of fill q.format) q)
    (cond-false (same_fields (fields_of p.format) (fields_of q.format)) (Some p) None
    (sym is ∙ so)))

pub picture_filled : (fill : Option (List ℕ)) (values : List ℕ) (q : Raster) (f : Format)
    → values ≡ fill_of fill f → f ≡ q.format → settled_by_fill values q ≡ picture_of fill None q
unfolding picture_of
picture_filled fill values q f is same =
    ap (λ (v : List ℕ). settled_by_fill v q) (is ∙ ap (λ (g : Format). fill_of fill g) same)

pub picture_format : (fill : Option (List ℕ)) (held : Option Values) (q : Raster)
    → (picture_of fill held q).format ≡ q.format
unfolding picture_of
picture_format fill held q = settled_format _ (fill_of fill q.format) q

-- ---- a sink that failed

pub form_failed : (f : FormFault) (old new : ℕ) → IsDevice f → CountsFault f old new
    → Failed old new
form_failed form.NoMemory old new is counted = absurd is
form_failed form.Device old new is counted = failed_one old new counted
form_failed form.BadMagic old new is counted = absurd is
form_failed form.BadHeader old new is counted = absurd is
form_failed form.UnsupportedForm old new is counted = absurd is
form_failed form.BadFormat old new is counted = absurd is
form_failed form.Truncated old new is counted = absurd is
form_failed form.ValueTooLarge old new is counted = absurd is

-- ---- a frame that was taken

abbrev pub values : Format → List ℕ → Values
values f samples = record { format = f; samples = samples }

-- these samples are the picture's
pub picture_is : (f : Format) (samples : List ℕ) (p : Values) → f ≡ p.format
    → samples ≡ p.samples → values f samples ≡ p
picture_is f samples p format is =
    ap (λ (g : Format). values g samples) format ∙ ap (λ (s : List ℕ). values p.format s) is

-- what a vector of so many holds behind a loan of all of it
pub samples_back : (len : ℕ) (items lent : List ℕ) → len ≡ length items
    → length lent ≡ length items → take len (lent ++ drop (length lent) items) ≡ lent
samples_back len items lent is same =
    let none : drop (length lent) items ≡ [] = drop_all (length lent) items (omega arith) in
    ap (λ (t : List ℕ). take len (lent ++ t)) none
    ∙ ap (λ (t : List ℕ). take len t) (append-nil lent) ∙ take_all len lent (omega arith)

-- what is written of a frame is so of its picture
frame_format_is : {K A : Type 0} (k : FormSink K A) (p : Values) (h : Handed)
    → p ≡ picture_of k.settling.fill k.settling.held h.frame → p.format ≡ h.frame.format
frame_format_is k p h is =
    ap (λ (v : Values). v.format) is
    ∙ picture_format k.settling.fill k.settling.held h.frame

frame_text_is : {K A : Type 0} (k : FormSink K A) (p : Values) (h : Handed)
    → p ≡ picture_of k.settling.fill k.settling.held h.frame
    → head_for k.format p.format ++ form_text p ≡ text_for k h
frame_text_is k p h is =
    ap (λ (f : Format). head_for k.format f ++ form_text p) (frame_format_is k p h is)
    ∙ ap (λ (v : Values). head_for k.format h.frame.format ++ form_text v) is

-- A sink failed at a frame, whose picture was settled: its sink of octets took a first part.
pub fails_frame : {K A : Type 0} (took : K → List ℕ) (k l : FormSink K A) (sink : K) (p : Values)
    (h : Handed) → p ≡ picture_of k.settling.fill k.settling.held h.frame
    → GrowsSome (took k.sink) (took sink) (head_for k.format p.format ++ form_text p)
    → l.sink ≡ sink → FailsFrame took k h l
fails_frame took k l sink p h is part sunk =
    subst (λ (t : List ℕ). GrowsSome (took k.sink) (took l.sink) t) (frame_text_is k p h is)
    (subst (λ (x : _). GrowsSome (took k.sink) (took x) (head_for k.format p.format ++ form_text p))
    (sym sunk) part)

-- A sink settled a frame, which made m of what it is settled with; its sink of octets took the
-- picture; and that was kept.
pub takes_frame : {K A : Type 0} (took : K → List ℕ) (k l : FormSink K A) (m : Settling A)
    (sink : K) (p : Values) (h : Handed) → m.filling ≡ k.settling.filling
    → m.fill ≡ k.settling.fill → m.held ≡ k.settling.held
    → p ≡ picture_of k.settling.fill k.settling.held h.frame
    → took sink ≡ took k.sink ++ (head_for k.format p.format ++ form_text p)
    → l.sink ≡ sink → l.format ≡ Some p.format → l.settling.filling ≡ m.filling
    → l.settling.fill ≡ m.fill → l.settling.held ≡ held_by m.filling p → SinkTakes took k h l
takes_frame took k l m sink p h filling fill held is written sunk begun filled by kept = record {
  written = ap took sunk ∙ written ∙ ap (λ (t : List ℕ). took k.sink ++ t) (frame_text_is k p h is);
  format = begun ∙ ap (λ (f : Format). Some f) (frame_format_is k p h is);
  held =
      kept ∙ ap (λ (x : Filling). held_by x p) filling
      ∙ ap (λ (x : Values). held_by k.settling.filling x) is;
  filling = filled ∙ filling;
  fill = by ∙ fill;
}

-- ---- a frame by its planes

pub ycc_form : (s : Sampling) (p : Values) → IsYcc s → form_by s p ≡ frame_text p
ycc_form Ycc422 p is = refl
ycc_form Ycc444 p is = refl
ycc_form Rgb p is = absurd is

ycc_frame : (p : Values) → IsYcc p.format.sampling → form_text p ≡ frame_text p
unfolding form_text
ycc_frame p is = ycc_form p.format.sampling p is

-- what is written of a frame is so of its planes
planes_text_is : {K A : Type 0} (k : FormSink K A) (h : Handed) → k.settling.held ≡ None
    → IsYcc h.frame.format.sampling
    → head_for k.format h.frame.format ++ frame_text (picture_of k.settling.fill None h.frame)
    ≡ text_for k h
planes_text_is k h held ycc =
    let p : Values = picture_of k.settling.fill None h.frame in
    let is_ycc : IsYcc p.format.sampling =
    subst (λ (g : Format). IsYcc g.sampling)
    (sym (picture_format k.settling.fill None h.frame)) ycc in
    ap (λ (t : List ℕ). head_for k.format h.frame.format ++ t) (sym (ycc_frame p is_ycc))
    ∙ ap (λ (x : Option Values). head_for k.format h.frame.format
    ++ form_text (picture_of k.settling.fill x h.frame)) (sym held)

-- the same by the fill that a call was given
given_text_is : {K A : Type 0} (k : FormSink K A) (fill : Option (List ℕ)) (h : Handed)
    → fill ≡ k.settling.fill → k.settling.held ≡ None → IsYcc h.frame.format.sampling
    → head_for k.format h.frame.format ++ frame_text (picture_of fill None h.frame) ≡ text_for k h
given_text_is k fill h given held ycc =
    ap (λ (x : Option (List ℕ)).
    head_for k.format h.frame.format ++ frame_text (picture_of x None h.frame)) given
    ∙ planes_text_is k h held ycc

-- A sink failed at a frame that goes by planes: its sink of octets took a first part.
pub fails_planes : {K A : Type 0} (took : K → List ℕ) (k l : FormSink K A) (sink : K)
    (fill : Option (List ℕ)) (h : Handed) → fill ≡ k.settling.fill → k.settling.held ≡ None
    → IsYcc h.frame.format.sampling
    → GrowsSome (took k.sink) (took sink)
    (head_for k.format h.frame.format ++ frame_text (picture_of fill None h.frame))
    → l.sink ≡ sink → FailsFrame took k h l
fails_planes took k l sink fill h given held ycc part sunk =
    subst (λ (t : List ℕ). GrowsSome (took k.sink) (took l.sink) t)
    (given_text_is k fill h given held ycc)
    (subst (λ (x : _). GrowsSome (took k.sink) (took x)
    (head_for k.format h.frame.format ++ frame_text (picture_of fill None h.frame))) (sym sunk)
    part)

-- Its sink of octets took a frame that goes by planes: what it is settled with stays.
pub takes_planes : {K A : Type 0} (took : K → List ℕ) (k l : FormSink K A) (sink : K)
    (fill : Option (List ℕ)) (f : Format) (h : Handed) → k.settling.filling ≡ Fill
    → k.settling.held ≡ None → IsYcc h.frame.format.sampling → f ≡ h.frame.format
    → fill ≡ k.settling.fill
    → took sink ≡ took k.sink
    ++ (head_for k.format h.frame.format ++ frame_text (picture_of fill None h.frame))
    → l.sink ≡ sink → l.format ≡ Some f → l.settling ≡ k.settling → SinkTakes took k h l
takes_planes {A = A} took k l sink fill f h by none ycc same given written sunk begun kept = record {
  written =
      ap took sunk ∙ written
      ∙ ap (λ (t : List ℕ). took k.sink ++ t) (given_text_is k fill h given none ycc);
  format = begun ∙ ap (λ (g : Format). Some g) same;
  held =
      ap (λ (s : Settling A). s.held) kept ∙ none
      ∙ sym (ap (λ (x : Filling). held_by x (picture_of k.settling.fill k.settling.held h.frame))
      by);
  filling = ap (λ (s : Settling A). s.filling) kept;
  fill = ap (λ (s : Settling A). s.fill) kept;
}
