-- Frames of a stream, one after the other.
use Rattle.std.proofs.Common.{◌≡◌, ℕ, ◌<◌, List, [], ◌∷◌, ◌++◌, Ok, Err, Option}
use Rattle.std.proofs.Common.{None, Some}
use Rattle.std.proofs.Common.{append_assoc, append-nil, length, refl, sym, subst, ap, ◌∙◌, arith}
use Rattle.std.proofs.lemmas.List.{length-append}
use Rattle.std.specs.Prelude.{IfSome}
use Rattle.st_format.specs.declared.format.Format.{Format}
use Rattle.st_format.specs.Given.{GaveValue}
use Rattle.st_format.specs.Picture.{IsPicture, Values}
use Rattle.picture_forms.specs.declared.fault.FormFault.{FormFault}
use Rattle.picture_forms.specs.declared.fault.FormFault.TheVariants as form
use Rattle.picture_forms.specs.declared.streams.Standing.{Standing}
use Rattle.picture_forms.specs.declared.streams.Standing.TheVariants.{Reads}
use Rattle.picture_forms.specs.Faults.{IfContent}
use Rattle.picture_forms.specs.Frames.{GaveFrame, TakesFrame, frame_walk}
use Rattle.picture_forms.specs.Layouts.{planes_text}
use Rattle.picture_forms.specs.Streams.{standing_after}
use Rattle.picture_forms.specs.Walks.{GaveFault}
use Rattle.packet_plan.specs.Plan.{IsSize}
use Rattle.packet_plan.specs.declared.plan.PlanFault.{PlanFault}
use Rattle.packet_plan.specs.declared.plan.PlanFault.TheVariants.{NoMemory, BadPacketSize}
use Rattle.run_outcome.specs.LowerFaults.{of_plan}
use Rattle.run_outcome.specs.Pictures.{IsPlanFault}
use Rattle.run_outcome.specs.Refusing.{OfRefusal}
use Rattle.run_outcome.specs.declared.refusal.Refusal.{Refusal}
use Rattle.run_outcome.specs.declared.refusal.Refusal.TheVariants as refusal
use Rattle.convert_engine.specs.Converting.{form_fault}
use Rattle.stream_sending.specs.Reading.{GaveFrameFault, GaveFrames, GaveNextFrame, GaveWrong}
use Rattle.stream_sending.specs.Reading.{IsNextRefusal}
use Rattle.stream_sending.specs.Reading.{IsFramesReadRefusal, IsOpenedRefusal}
use Rattle.stream_sending.specs.Streams.{BeginsFrames}

-- ---- octets

-- one frame more
pub begins_more : (f : Format) (vs : List Values) (v : Values) (mid rest octets : List ℕ)
    → BeginsFrames f vs mid octets → v.format ≡ f → IsPicture v
    → frame_walk f mid ≡ Ok (planes_text v, rest) → BeginsFrames f (vs ++ v ∷ []) rest octets
begins_more f [] v mid rest octets begins same whole walk = record {
  rest = rest;
  format = same;
  picture = whole;
  frame = ap (frame_walk f) begins ∙ walk;
  behind = refl;
}
begins_more f (u ∷ us) v mid rest octets begins same whole walk = record {
  rest = begins.rest;
  format = begins.format;
  picture = begins.picture;
  frame = begins.frame;
  behind = begins_more f us v mid rest begins.rest begins.behind same whole walk;
}

-- ---- what a source gave

pub more : (a b c first next : List ℕ) → b ≡ a ++ first → c ≡ b ++ next → c ≡ a ++ (first ++ next)
more a b c first next p q = q ∙ ap (λ (l : List ℕ). l ++ next) p ∙ append_assoc a first next

pub gave_none : (f : Format) (a : List ℕ) → GaveFrames f [] a a
gave_none f a = record { part = []; grown = sym (append-nil a); says = λ behind. refl }

-- a frame behind others
pub gave_more : (f : Format) (vs : List Values) (v : Values) (a b c : List ℕ)
    → GaveFrames f vs a b → GaveNextFrame f b c ⊥ (Some v) → GaveFrames f (vs ++ v ∷ []) a c
gave_more f vs v a b c p next =
    let g : GaveValue (frame_walk f) b c (planes_text v) = next.1.1 in
    record {
      part = p.part ++ g.part;
      grown = more a b c p.part g.part p.grown g.grown;
      says = λ behind.
          subst (λ (l : List ℕ). BeginsFrames f (vs ++ v ∷ []) behind l)
          (sym (append_assoc p.part g.part behind))
          (begins_more f vs v (g.part ++ behind) behind (p.part ++ (g.part ++ behind))
          (p.says (g.part ++ behind)) next.0 next.1.0 (g.says behind));
    }

-- a frame, and others behind it
pub gave_first : (f : Format) (v : Values) (vs : List Values) (a b c : List ℕ)
    → GaveNextFrame f a b ⊥ (Some v) → GaveFrames f vs b c → GaveFrames f (v ∷ vs) a c
gave_first f v vs a b c next p =
    let g : GaveValue (frame_walk f) a b (planes_text v) = next.1.1 in
    record {
      part = g.part ++ p.part;
      grown = more a b c g.part p.part g.grown p.grown;
      says = λ behind. record {
        rest = p.part ++ behind;
        format = next.0;
        picture = next.1.0;
        frame =
            ap (frame_walk f) (append_assoc g.part p.part behind)
            ∙ g.says (p.part ++ behind);
        behind = p.says behind;
      };
    }

-- nothing more was given
pub gave_end : (f : Format) (vs : List Values) (a b c : List ℕ) → GaveFrames f vs a b → c ≡ b
    → GaveFrames f vs a c
gave_end f vs a b c p same = subst (λ (l : List ℕ). GaveFrames f vs a l) (sym same) p

-- ---- the next frame

pub next_given : (f : Format) (to to' : Option (List ℕ)) (a b : List ℕ) (ended : Type 0)
    (o : Option Values) → TakesFrame f to to' o → GaveFrame f a b ended o
    → GaveNextFrame f a b ended o
next_given f to to' a b ended None takes gave = gave
next_given f to to' a b ended (Some v) takes gave = (takes.0, (takes.1.0, gave))

pub next_reads : (s : Standing) (o : Option Values) → s ≡ standing_after (Ok o)
    → IfSome o (λ _. s ≡ Reads)
next_reads s None is = tt
next_reads s (Some v) is = is

-- a history that is longer
wrong_of : (f : Format) (a b : List ℕ) (ended : Type 0) (e : FormFault) (part : List ℕ)
    → b ≡ a ++ part
    → ((behind : List ℕ) → (ended → behind ≡ []) → frame_walk f (part ++ behind) ≡ Err e)
    → length a < length b → GaveWrong f a b ended e
wrong_of f a b ended e part grown says lt = record {
  part = part;
  grown = grown;
  some = omega (arith, lt, ap length grown, length-append a part);
  says = says;
}

pub next_refused : (f : Format) (a b : List ℕ) (ended : Type 0) (e : FormFault)
    → GaveFault (frame_walk f) a b ended e → IfContent e (length a < length b)
    → OfRefusal (form_fault e) (IsNextRefusal f a b ended)
next_refused f a b ended form.NoMemory g lt = tt
next_refused f a b ended form.Device g lt = tt
next_refused f a b ended form.BadMagic g lt =
    wrong_of f a b ended form.BadMagic g.part g.grown g.says lt
next_refused f a b ended form.BadHeader g lt =
    wrong_of f a b ended form.BadHeader g.part g.grown g.says lt
next_refused f a b ended form.UnsupportedForm g lt =
    wrong_of f a b ended form.UnsupportedForm g.part g.grown g.says lt
next_refused f a b ended form.BadFormat g lt =
    wrong_of f a b ended form.BadFormat g.part g.grown g.says lt
next_refused f a b ended form.Truncated g lt =
    wrong_of f a b ended form.Truncated g.part g.grown g.says lt
next_refused f a b ended form.ValueTooLarge g lt =
    wrong_of f a b ended form.ValueTooLarge g.part g.grown g.says lt

-- ---- refusals

-- of the next frame, behind others
pub refused_behind : (count : ℕ) (f : Format) (vs : List Values) (a b c : List ℕ) (ended : Type 0)
    → GaveFrames f vs a b → length vs < count → (r : Refusal) → IsNextRefusal f b c ended r
    → IsFramesReadRefusal count f a c ended r
refused_behind count f vs a b c ended p few (refusal.Form e) wrong =
    (record { pictures = vs; between = b; gave = p; fault = wrong }, few)
refused_behind count f vs a b c ended p few r wrong = absurd wrong

-- its format has plans
pub sized : (most m : ℕ) (f g h : Format) → IsSize m h → m ≡ most → h ≡ g → g ≡ f → IsSize most f
sized most m f g h size same made read =
    subst (λ (x : Format). IsSize most x) (made ∙ read)
    (subst (λ (n : ℕ). IsSize n h) same size)

-- of the first one
pub refused_next : (most : ℕ) (f : Format) (a b : List ℕ) (ended : Type 0) → IsSize most f
    → (r : Refusal) → IsNextRefusal f a b ended r → IsOpenedRefusal most f a b ended r
refused_next most f a b ended size (refusal.Form e) wrong = (
  size,
  refused_behind 4294967296 f [] a a b ended (gave_none f a) (omega arith) (refusal.Form e) wrong,
)
refused_next most f a b ended size r wrong = absurd wrong

-- of those behind the first
pub refused_first : (most : ℕ) (f : Format) (v : Values) (a b c : List ℕ) (ended : Type 0)
    → IsSize most f → GaveNextFrame f a b ⊥ (Some v) → (r : Refusal)
    → IsFramesReadRefusal 4294967295 f b c ended r → IsOpenedRefusal most f a c ended r
refused_first most f v a b c ended size first (refusal.Form e) wrong =
    let behind : GaveFrameFault f b c ended e = wrong.0 in (
      size,
      (
        record {
          pictures = v ∷ behind.pictures;
          between = behind.between;
          gave = gave_first f v behind.pictures a b behind.between first behind.gave;
          fault = behind.fault;
        },
        omega (arith, wrong.1),
      ),
    )
refused_first most f v a b c ended size first refusal.SendPictures wrong = (
  size,
  record {
    pictures = v ∷ wrong.pictures;
    gave = gave_first f v wrong.pictures a b c first wrong.gave;
    many = omega (arith, wrong.many);
  },
)
refused_first most f v a b c ended size first r wrong = absurd wrong

-- that there is no plan
pub plan_refused : (most : ℕ) (f g : Format) (a : List ℕ) (ended : Type 0) (e : PlanFault) → g ≡ f
    → (e ≡ BadPacketSize → IsPlanFault most g BadPacketSize)
    → OfRefusal (of_plan e) (IsOpenedRefusal most f a a ended)
plan_refused most f g a ended NoMemory same is = tt
plan_refused most f g a ended BadPacketSize same is =
    (refl, subst (λ (x : Format). IsPlanFault most x BadPacketSize) same (is refl))
