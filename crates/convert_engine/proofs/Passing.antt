-- Frames of a stream that are passed over.
use Rattle.std.proofs.Common.{◌≡◌, ℕ, zero, suc, ◌+◌, List, [], ◌++◌, Result, Ok, Err}
use Rattle.std.proofs.Common.{append_assoc, append-nil, refl, sym, ap, ◌∙◌, arith}
use Rattle.std.specs.Prelude.{IfErr, IfOk}
use Rattle.st_format.specs.declared.format.Format.{Format}
use Rattle.st_format.specs.Given.{GaveValue}
use Rattle.st_format.specs.Picture.{Values}
use Rattle.st_format.specs.Reading.{◌>>=◌}
use Rattle.picture_forms.specs.declared.fault.FormFault.{FormFault}
use Rattle.picture_forms.specs.declared.fault.FormFault.TheVariants.{Truncated}
use Rattle.picture_forms.specs.Frames.{frame_line_at, frame_mark, frame_walk, parameters_at}
use Rattle.picture_forms.specs.Frames.{planes_at}
use Rattle.picture_forms.specs.Layouts.{planes_text}
use Rattle.picture_forms.specs.Walks.{GaveFault}
use Rattle.picture_forms.proofs.Walked.{field_cut}
use Rattle.convert_engine.specs.Inputs.{PassesOver, frame_at_place}
use Rattle.convert_engine.proofs.Contents.{content_map}

abbrev Part : Type 0
Part = Result (List ℕ × List ℕ) FormFault

frame_here : (f : Format) (o : List ℕ) → frame_at_place f 0 o ≡ frame_walk f o
unfolding frame_at_place
frame_here f o = refl

frame_next : (f : Format) (k : ℕ) (o planes rest : List ℕ) → frame_walk f o ≡ Ok (planes, rest)
    → frame_at_place f (suc k) o ≡ frame_at_place f k rest
unfolding frame_at_place
frame_next f k o planes rest e = ap (λ (r : Part). r >>= λ x. frame_at_place f k x.1) e

frame_fault : (f : Format) (k : ℕ) (o : List ℕ) (e : FormFault) → frame_walk f o ≡ Err e
    → frame_at_place f k o ≡ Err e
unfolding frame_at_place
frame_fault f zero o e is = is
frame_fault f (suc k) o e is = ap (λ (r : Part). r >>= λ x. frame_at_place f k x.1) is

-- ---- a stream that has ended is cut before its next frame

none_there : (f : Format) → frame_walk f [] ≡ Err Truncated
unfolding frame_walk frame_line_at
none_there f =
    ap (λ (r : Part).
    (r >>= λ x. frame_mark x.0 >>= λ more. parameters_at more x.1) >>= λ x. planes_at f x.1)
    (field_cut 6 [] (omega arith))

pub end_fault : (f : Format) (a b : List ℕ) (ended : Type 0) → b ≡ a → ended
    → GaveFault (frame_walk f) a b ended Truncated
end_fault f a b ended same over = record {
  part = [];
  grown = same ∙ sym (append-nil a);
  says = λ behind all. ap (frame_walk f) (all over) ∙ none_there f;
}

-- ---- one frame after another

pub passes_none : (f : Format) (a : List ℕ) → PassesOver f 0 a a
passes_none f a = record {
  part = [];
  grown = sym (append-nil a);
  says = λ k behind. let e : 0 + k ≡ k = omega arith in
      ap (λ (n : ℕ). frame_at_place f n behind) e;
}

-- the octets of what was passed, and of what came then
both : (f : Format) (i n k : ℕ) (a b c part : List ℕ) (p : PassesOver f i a b) (behind : List ℕ)
    → n ≡ i + k
    → frame_at_place f n ((p.part ++ part) ++ behind) ≡ frame_at_place f k (part ++ behind)
both f i n k a b c part p behind is =
    ap (λ (m : ℕ). frame_at_place f m ((p.part ++ part) ++ behind)) is
    ∙ ap (frame_at_place f (i + k)) (append_assoc p.part part behind)
    ∙ p.says k (part ++ behind)

more : (a b c first next : List ℕ) → b ≡ a ++ first → c ≡ b ++ next → c ≡ a ++ (first ++ next)
more a b c first next p q = q ∙ ap (λ (l : List ℕ). l ++ next) p ∙ append_assoc a first next

pub passes_more : (f : Format) (i : ℕ) (a b c planes : List ℕ) → PassesOver f i a b
    → GaveValue (frame_walk f) b c planes → PassesOver f (i + 1) a c
passes_more f i a b c planes p g = record {
  part = p.part ++ g.part;
  grown = more a b c p.part g.part p.grown g.grown;
  says = λ k behind. let e : i + 1 + k ≡ i + suc k = omega arith in
      both f i (i + 1 + k) (suc k) a b c g.part p behind e
      ∙ frame_next f k (g.part ++ behind) planes behind (g.says behind);
}

pub passes_last : (f : Format) (place : ℕ) (a b c planes : List ℕ) → PassesOver f place a b
    → GaveValue (frame_walk f) b c planes → GaveValue (frame_at_place f place) a c planes
passes_last f place a b c planes p g = record {
  part = p.part ++ g.part;
  grown = more a b c p.part g.part p.grown g.grown;
  says = λ behind. let e : place ≡ place + 0 = omega arith in
      both f place place 0 a b c g.part p behind e
      ∙ frame_here f (g.part ++ behind) ∙ g.says behind;
}

pub passes_fault : (f : Format) (i n k : ℕ) (a b c : List ℕ) (ended : Type 0) (e : FormFault)
    → n ≡ i + k → PassesOver f i a b → GaveFault (frame_walk f) b c ended e
    → GaveFault (frame_at_place f n) a c ended e
passes_fault f i n k a b c ended e is p g = record {
  part = p.part ++ g.part;
  grown = more a b c p.part g.part p.grown g.grown;
  says = λ behind all.
      content_map e (frame_walk f (g.part ++ behind) ≡ Err e)
      (frame_at_place f n ((p.part ++ g.part) ++ behind) ≡ Err e)
      (λ x. both f i n k a b c g.part p behind is ∙ frame_fault f k (g.part ++ behind) e x)
      (g.says behind all);
}

-- ---- the same of what a call answered

pub last_given : (f : Format) (place : ℕ) (r : Result Values FormFault) (a b c : List ℕ)
    → PassesOver f place a b → IfOk r (λ v. GaveValue (frame_walk f) b c (planes_text v))
    → IfOk r (λ v. GaveValue (frame_at_place f place) a c (planes_text v))
last_given f place (Ok v) a b c p g = passes_last f place a b c (planes_text v) p g
last_given f place (Err e) a b c p g = tt

pub last_wrong : (f : Format) (place : ℕ) (r : Result Values FormFault) (a b c : List ℕ)
    (ended : Type 0) → PassesOver f place a b → IfErr r (λ e. GaveFault (frame_walk f) b c ended e)
    → IfErr r (λ e. GaveFault (frame_at_place f place) a c ended e)
last_wrong f place (Ok v) a b c ended p g = tt
last_wrong f place (Err e) a b c ended p g =
    let same : place ≡ place + 0 = omega arith in
    passes_fault f place place 0 a b c ended e same p g
