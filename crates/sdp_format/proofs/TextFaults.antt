-- Texts of several sections: which fault is told, or what they say.
use Rattle.std.proofs.Common.{◌≡◌, ℕ, ◌<◌, Bool, true, false, not, ◌&&◌, List, [], ◌∷◌, length, Ok}
use Rattle.std.proofs.Common.{Err, Result, refl, ap, subst, ◌∙◌, sym, arith, ◌⊎◌, inl, inr}
use Rattle.std.specs.Prelude.{◌↔◌, ◌==◌, IfOk, IfErr}
use Rattle.std.specs.Str.{bytes_eq}
use Rattle.std.proofs.lemmas.Bool.Decides.{Decides-eqb}
use Rattle.st_format.specs.Fields.{Fields, same_fields}
use Rattle.sdp_format.specs.declared.sdp.Range.{Range}
use Rattle.sdp_format.specs.declared.sdp.Range.TheVariants.{Narrow, FullProtect, Full}
use Rattle.sdp_format.specs.declared.fault.SdpFault.{SdpFault}
use Rattle.sdp_format.specs.declared.fault.SdpFault.TheVariants.{NoMemory, NoVideo, TooManyLegs}
use Rattle.sdp_format.specs.declared.fault.SdpFault.TheVariants.{LegsDiffer}
use Rattle.sdp_format.specs.Bytes.{lines}
use Rattle.sdp_format.specs.Sections.{Section, Leg, Description, video_sections}
use Rattle.st_format.specs.Reading.{◌>>=◌}
use Rattle.st_format.proofs.SameFields.{fields_are, fields_self}
use Rattle.st_format.proofs.Decimals.{and_parts}
use Rattle.sdp_format.specs.Reading.{fault_where, GivesUnlessMemory, section_walk, same_range}
use Rattle.sdp_format.specs.Reading.{same_leg}
use Rattle.sdp_format.specs.Reading.{sections_walk, text_walk}
use Rattle.sdp_format.specs.Grammar.{IsFirstFault, IsFaultless, SectionSays, Differ, TwoDiffer}
use Rattle.sdp_format.specs.Grammar.{IsTextFault, OneSays, BothSay, IsDescribed}
use Rattle.sdp_format.proofs.Members.{not_both}
use Rattle.sdp_format.proofs.Doubles.{bytes_same, same_bytes}
use Rattle.sdp_format.proofs.Said.{false_from}
use Rattle.sdp_format.proofs.SectionFaults.{section_fault, section_read, section_said}

-- WHETHER TWO SECTIONS SAY THE SAME

range_is : (a b : Range) → same_range a b ≡ true → a ≡ b
range_is Narrow Narrow e = refl
range_is FullProtect FullProtect e = refl
range_is Full Full e = refl
range_is a b e = absurd (not_both false e refl)

range_self : (a : Range) → same_range a a ≡ true
range_self Narrow = refl
range_self FullProtect = refl
range_self Full = refl

number_is : (a b : ℕ) → (a == b) ≡ true → a ≡ b
number_is a b e = (Decides-eqb a b).0 e

number_self : (a : ℕ) → (a == a) ≡ true
number_self a = (Decides-eqb a a).1 refl

and_all : (a b : Bool) → a ≡ true → b ≡ true → (a && b) ≡ true
and_all a b e f = rw (e, f) refl

abbrev leg : ℕ → Fields → Range → List ℕ → Leg
leg p f r c = record { payload_type = p; format = f; range = r; colorimetry = c }

leg_is : (l m : Leg) → same_leg l m ≡ true → l ≡ m
unfolding same_leg
leg_is l m e =
    let a =
    and_parts (l.payload_type == m.payload_type && same_fields l.format m.format
    && same_range l.range m.range) (bytes_eq l.colorimetry m.colorimetry) e in
    let b =
    and_parts (l.payload_type == m.payload_type && same_fields l.format m.format)
    (same_range l.range m.range) a.0 in
    let c = and_parts (l.payload_type == m.payload_type) (same_fields l.format m.format) b.0 in
    ap (λ (z : ℕ). leg z l.format l.range l.colorimetry)
    (number_is l.payload_type m.payload_type c.0)
    ∙ ap (λ (z : Fields). leg m.payload_type z l.range l.colorimetry)
    (fields_are l.format m.format c.1)
    ∙ ap (λ (z : Range). leg m.payload_type m.format z l.colorimetry) (range_is l.range m.range b.1)
    ∙ ap (λ (z : List ℕ). leg m.payload_type m.format m.range z)
    (bytes_same l.colorimetry m.colorimetry a.1)

pub leg_self : (l : Leg) → same_leg l l ≡ true
unfolding same_leg
leg_self l =
    and_all (l.payload_type == l.payload_type && same_fields l.format l.format
    && same_range l.range l.range) (bytes_eq l.colorimetry l.colorimetry)
    (and_all (l.payload_type == l.payload_type && same_fields l.format l.format)
    (same_range l.range l.range)
    (and_all (l.payload_type == l.payload_type) (same_fields l.format l.format)
    (number_self l.payload_type) (fields_self l.format))
    (range_self l.range))
    (same_bytes l.colorimetry l.colorimetry refl)

-- RESULTS OF SECTIONS, ONE AFTER ANOTHER

abbrev Read : Type 0
Read = ℕ × Leg

abbrev Answer : Type 0
Answer = Result Description SdpFault

abbrev described : List ℕ → Leg → Description
described ports l = record { ports = ports; leg = l }

abbrev one : Read → Answer
one x = Ok (described (x.0 ∷ []) x.1)

abbrev both : Read → Read → Answer
both x y =
    fault_where LegsDiffer (not (same_leg x.1 y.1)) >>= λ t. Ok (described (x.0 ∷ y.0 ∷ []) x.1)

abbrev one_of : Result Read SdpFault → Answer
one_of r = r >>= one

abbrev two_of : Result Read SdpFault → Result Read SdpFault → Answer
two_of r q = r >>= λ x. q >>= λ y. both x y

as_one : (s : Section) → sections_walk (s ∷ []) ≡ one_of (section_walk s)
unfolding sections_walk
as_one s = refl

as_two : (s t : Section) → sections_walk (s ∷ t ∷ []) ≡ two_of (section_walk s) (section_walk t)
unfolding sections_walk
as_two s t = refl

as_none : sections_walk [] ≡ Err NoVideo
unfolding sections_walk
as_none = refl

as_many : (s t u : Section) (rest : List Section)
    → sections_walk (s ∷ t ∷ u ∷ rest) ≡ Err TooManyLegs
unfolding sections_walk
as_many s t u rest = refl

err_same : (a b : SdpFault) (r : Answer) → r ≡ Err a → r ≡ Err b → a ≡ b
err_same a b r e f = cc

ok_same : (a b : Description) (r : Answer) → r ≡ Ok a → r ≡ Ok b → a ≡ b
ok_same a b r e f = cc

no_answer : {P : Type 0} (d : Description) (f : SdpFault) (r : Answer) → r ≡ Ok d → r ≡ Err f → P
no_answer d f r e h = absurd (let k : ⊥ = cc in k)

-- what a result of one section comes from
one_err : (r : Result Read SdpFault) (f : SdpFault) → one_of r ≡ Err f → r ≡ Err f
one_err (Ok x) f e = no_answer (described (x.0 ∷ []) x.1) f (one x) refl e
one_err (Err g) f e = ap (λ (z : SdpFault). Err z) (err_same g f (Err g) refl e)

one_ok : (r : Result Read SdpFault) (d : Description) → one_of r ≡ Ok d
    → (x : Read) × (r ≡ Ok x) × (described (x.0 ∷ []) x.1 ≡ d)
one_ok (Ok x) d e = (x, refl, ok_same (described (x.0 ∷ []) x.1) d (one x) refl e)
one_ok (Err g) d e = no_answer d g (Err g) e refl

-- the same of two sections
record Unlike (r q : Result Read SdpFault) (f : SdpFault) : Type 0 where
  first : Read
  second : Read
  read : r ≡ Ok first
  second_read : q ≡ Ok second
  unlike : same_leg first.1 second.1 ≡ false
  fault : f ≡ LegsDiffer

record Alike (r q : Result Read SdpFault) (d : Description) : Type 0 where
  first : Read
  second : Read
  read : r ≡ Ok first
  second_read : q ≡ Ok second
  alike : same_leg first.1 second.1 ≡ true
  said : described (first.0 ∷ second.0 ∷ []) first.1 ≡ d

both_err : (x y : Read) (t : Bool) (f : SdpFault) → same_leg x.1 y.1 ≡ t
    → (fault_where LegsDiffer (not t) >>= λ u. Ok (described (x.0 ∷ y.0 ∷ []) x.1)) ≡ Err f
    → (same_leg x.1 y.1 ≡ false) × (f ≡ LegsDiffer)
both_err x y true f h e =
    no_answer (described (x.0 ∷ y.0 ∷ []) x.1) f (Ok (described (x.0 ∷ y.0 ∷ []) x.1)) refl e
both_err x y false f h e = (h, sym (err_same LegsDiffer f (Err LegsDiffer) refl e))

both_ok : (x y : Read) (t : Bool) (d : Description) → same_leg x.1 y.1 ≡ t
    → (fault_where LegsDiffer (not t) >>= λ u. Ok (described (x.0 ∷ y.0 ∷ []) x.1)) ≡ Ok d
    → (same_leg x.1 y.1 ≡ true) × (described (x.0 ∷ y.0 ∷ []) x.1 ≡ d)
both_ok x y true d h e =
    (h, ok_same (described (x.0 ∷ y.0 ∷ []) x.1) d (Ok (described (x.0 ∷ y.0 ∷ []) x.1)) refl e)
both_ok x y false d h e = no_answer d LegsDiffer (Err LegsDiffer) e refl

two_err : (r q : Result Read SdpFault) (f : SdpFault) → two_of r q ≡ Err f
    → (r ≡ Err f) ⊎ (((x : Read) × (r ≡ Ok x) × (q ≡ Err f)) ⊎ Unlike r q f)
two_err (Err g) q f e = inl (ap (λ (z : SdpFault). Err z) (err_same g f (Err g) refl e))
two_err (Ok x) (Err g) f e =
    inr (inl (x, refl, ap (λ (z : SdpFault). Err z) (err_same g f (Err g) refl e)))
two_err (Ok x) (Ok y) f e =
    let h = both_err x y (same_leg x.1 y.1) f refl e in
    inr (inr
    (record {
      first = x;
      second = y;
      read = refl;
      second_read = refl;
      unlike = h.0;
      fault =
          h.1;
    }))

two_ok : (r q : Result Read SdpFault) (d : Description) → two_of r q ≡ Ok d → Alike r q d
two_ok (Err g) q d e = no_answer d g (Err g) e refl
two_ok (Ok x) (Err g) d e = no_answer d g (Err g) e refl
two_ok (Ok x) (Ok y) d e =
    let h = both_ok x y (same_leg x.1 y.1) d refl e in
    record { first = x; second = y; read = refl; second_read = refl; alike = h.0; said = h.1 }

-- SECTIONS OF A TEXT

one_fault : (s : Section) (f : SdpFault) → (sections_walk (s ∷ []) ≡ Err f) ↔ IsFirstFault s f
one_fault s f = (
  λ e. (section_fault s f).0 (one_err (section_walk s) f (sym (as_one s) ∙ e)),
  λ h. as_one s ∙ ap one_of ((section_fault s f).1 h),
)

two_fault_from : (s t : Section) (f : SdpFault) → sections_walk (s ∷ t ∷ []) ≡ Err f
    → IsTextFault (s ∷ t ∷ []) f
two_fault_from s t f e =
    elim (two_err (section_walk s) (section_walk t) f (sym (as_two s t) ∙ e)) [
      | inl h ↦ inl ((section_fault s f).0 h)
      | inr k ↦ elim k [
        | inl h ↦ inr (inl ((section_read s h.0 h.1).0, (section_fault t f).0 h.2))
        | inr u ↦
            let a = section_read s u.first u.read in
            let b = section_read t u.second u.second_read in
            inr (inr (
              a.0,
              b.0,
              record {
                port = u.first.0;
                leg = u.first.1;
                second_port = u.second.0;
                second_leg = u.second.1;
                says = a.1;
                second_says = b.1;
                unlike =
                    λ same. not_both (same_leg u.first.1 u.second.1)
                    (ap (same_leg u.first.1) (sym same) ∙ leg_self u.first.1) u.unlike;
              },
              u.fault,
            ))
      ]
    ]

second_fault : (s t : Section) (f : SdpFault) → IsFaultless s → IsFirstFault t f
    → (r : Result Read SdpFault) → section_walk s ≡ r → two_of r (section_walk t) ≡ Err f
second_fault s t f clean h (Ok x) e = ap (λ q. q >>= λ y. both x y) ((section_fault t f).1 h)
second_fault s t f clean h (Err g) e = absurd (clean g ((section_fault s g).0 e).0)

two_fault_to : (s t : Section) (f : SdpFault) → IsTextFault (s ∷ t ∷ []) f
    → sections_walk (s ∷ t ∷ []) ≡ Err f
two_fault_to s t f (inl h) =
    as_two s t ∙ ap (λ r. two_of r (section_walk t)) ((section_fault s f).1 h)
two_fault_to s t f (inr (inl h)) = as_two s t ∙ second_fault s t f h.0 h.1 (section_walk s) refl
two_fault_to s t f (inr (inr h)) =
    let d : Differ s t = h.2 in
    let a : section_walk s ≡ Ok (d.port, d.leg) = section_said s d.port d.leg h.0 d.says in
    let b : section_walk t ≡ Ok (d.second_port, d.second_leg) =
    section_said t d.second_port d.second_leg h.1 d.second_says in
    let u : same_leg d.leg d.second_leg ≡ false =
    false_from (same_leg d.leg d.second_leg)
    (λ same. d.unlike (leg_is d.leg d.second_leg same)) in
    as_two s t ∙ ap (λ r. two_of r (section_walk t)) a
    ∙ ap (λ q. q >>= λ y. both (d.port, d.leg) y) b
    ∙ ap
    (λ (x : Bool). fault_where LegsDiffer (not x) >>=
    λ t. Ok (described (d.port ∷ d.second_port ∷ []) d.leg)) u
    ∙ ap (λ (z : SdpFault). Err z) (sym h.3)

pub sections_fault : (ss : List Section) (f : SdpFault)
    → (sections_walk ss ≡ Err f) ↔ IsTextFault ss f
sections_fault [] f = (
  λ e. err_same f NoVideo (sections_walk []) e as_none,
  λ h. as_none
      ∙ ap (λ (z : SdpFault). Err z) (sym h),
)
sections_fault (s ∷ []) f = one_fault s f
sections_fault (s ∷ t ∷ []) f = (two_fault_from s t f, two_fault_to s t f)
sections_fault (s ∷ t ∷ u ∷ rest) f = (
  λ e. err_same f TooManyLegs (sections_walk (s ∷ t ∷ u ∷ rest)) e (as_many s t u rest),
  λ h. as_many s t u rest ∙ ap (λ (z : SdpFault). Err z) (sym h),
)

one_said_from : (s : Section) (d : Description) → sections_walk (s ∷ []) ≡ Ok d → OneSays s d
one_said_from s d e =
    let x = one_ok (section_walk s) d (sym (as_one s) ∙ e) in
    let r = section_read s x.0 x.1 in
    record {
      faultless = r.0;
      port = x.0.0;
      says = subst (λ (l : Leg). SectionSays s x.0.0 l) (ap (λ (z : Description). z.leg) x.2) r.1;
      ports = sym (ap (λ (z : Description). z.ports) x.2);
    }

one_said_to : (s : Section) (d : Description) → OneSays s d → sections_walk (s ∷ []) ≡ Ok d
one_said_to s d h =
    as_one s ∙ ap one_of (section_said s h.port d.leg h.faultless h.says)
    ∙ ap (λ (ps : List ℕ). Ok (described ps d.leg)) (sym h.ports)

both_said_from : (s t : Section) (d : Description) → sections_walk (s ∷ t ∷ []) ≡ Ok d
    → BothSay s t d
both_said_from s t d e =
    let x = two_ok (section_walk s) (section_walk t) d (sym (as_two s t) ∙ e) in
    let a = section_read s x.first x.read in
    let b = section_read t x.second x.second_read in
    let first : x.first.1 ≡ d.leg = ap (λ (z : Description). z.leg) x.said in
    let second : x.second.1 ≡ d.leg = sym (leg_is x.first.1 x.second.1 x.alike) ∙ first in
    record {
      faultless = a.0;
      second_faultless = b.0;
      port = x.first.0;
      second_port = x.second.0;
      says = subst (λ (l : Leg). SectionSays s x.first.0 l) first a.1;
      second_says = subst (λ (l : Leg). SectionSays t x.second.0 l) second b.1;
      ports = sym (ap (λ (z : Description). z.ports) x.said);
    }

pub two_read : (s t : Section) (p q : ℕ) (l : Leg) → section_walk s ≡ Ok (p, l)
    → section_walk t ≡ Ok (q, l) → sections_walk (s ∷ t ∷ []) ≡ Ok (described (p ∷ q ∷ []) l)
two_read s t p q l a b =
    as_two s t ∙ ap (λ r. two_of r (section_walk t)) a ∙ ap (λ r. r >>= λ y. both (p, l) y) b
    ∙ ap (λ (x : Bool). fault_where LegsDiffer (not x) >>= λ t. Ok (described (p ∷ q ∷ []) l))
    (leg_self l)

pub one_read : (s : Section) (p : ℕ) (l : Leg) → section_walk s ≡ Ok (p, l)
    → sections_walk (s ∷ []) ≡ Ok (described (p ∷ []) l)
one_read s p l a = as_one s ∙ ap one_of a

both_said_to : (s t : Section) (d : Description) → BothSay s t d → sections_walk (s ∷ t ∷ []) ≡ Ok d
both_said_to s t d h =
    two_read s t h.port h.second_port d.leg (section_said s h.port d.leg h.faultless h.says)
    (section_said t h.second_port d.leg h.second_faultless h.second_says)
    ∙ ap (λ (ps : List ℕ). Ok (described ps d.leg)) (sym h.ports)

pub sections_said : (ss : List Section) (d : Description)
    → (sections_walk ss ≡ Ok d) ↔ IsDescribed ss d
sections_said [] d = (λ e. no_answer d NoVideo (sections_walk []) e as_none, λ h. absurd h)
sections_said (s ∷ []) d = (one_said_from s d, one_said_to s d)
sections_said (s ∷ t ∷ []) d = (both_said_from s t d, both_said_to s t d)
sections_said (s ∷ t ∷ u ∷ rest) d = (
  λ e. no_answer d TooManyLegs (sections_walk (s ∷ t ∷ u ∷ rest)) e (as_many s t u rest),
  λ h. absurd h,
)

-- TEXTS

pub text_fault : (text : List ℕ) (f : SdpFault)
    → (text_walk text ≡ Err f) ↔ IsTextFault (video_sections (lines text)) f
unfolding text_walk
text_fault text f = sections_fault (video_sections (lines text)) f

pub text_said : (text : List ℕ) (d : Description)
    → (text_walk text ≡ Ok d) ↔ IsDescribed (video_sections (lines text)) d
unfolding text_walk
text_said text d = sections_said (video_sections (lines text)) d

-- no text without a video section has another fault, and no text of more than two
pub no_video : (text : List ℕ) → (text_walk text ≡ Err NoVideo) ↔ (video_sections (lines text) ≡ [])
no_video text = (
  λ e. none_from (video_sections (lines text)) ((text_fault text NoVideo).0 e),
  λ e. (text_fault text NoVideo).1
      (subst (λ (ss : List Section). IsTextFault ss NoVideo) (sym e) refl),
)
  where
    none_from : (ss : List Section) → IsTextFault ss NoVideo → ss ≡ []
    none_from [] h = refl
    none_from (s ∷ []) h = absurd h.0.holds
    none_from (s ∷ t ∷ []) (inl h) = absurd h.0.holds
    none_from (s ∷ t ∷ []) (inr (inl h)) = absurd h.1.0.holds
    none_from (s ∷ t ∷ []) (inr (inr h)) =
        absurd (let k : NoVideo ≡ LegsDiffer = h.3 in let z : ⊥ = cc in z)
    none_from (s ∷ t ∷ u ∷ rest) h =
        absurd (let k : NoVideo ≡ TooManyLegs = h in let z : ⊥ = cc in z)

pub too_many_legs : (text : List ℕ)
    → (text_walk text ≡ Err TooManyLegs) ↔ (2 < length (video_sections (lines text)))
too_many_legs text = (
  λ e. many_from (video_sections (lines text)) ((text_fault text TooManyLegs).0 e),
  λ h. (text_fault text TooManyLegs).1 (many_to (video_sections (lines text)) h),
)
  where
    many_from : (ss : List Section) → IsTextFault ss TooManyLegs → 2 < length ss
    many_from [] h = absurd (let k : TooManyLegs ≡ NoVideo = h in let z : ⊥ = cc in z)
    many_from (s ∷ []) h = absurd h.0.holds
    many_from (s ∷ t ∷ []) (inl h) = absurd h.0.holds
    many_from (s ∷ t ∷ []) (inr (inl h)) = absurd h.1.0.holds
    many_from (s ∷ t ∷ []) (inr (inr h)) =
        absurd (let k : TooManyLegs ≡ LegsDiffer = h.3 in let z : ⊥ = cc in z)
    many_from (s ∷ t ∷ u ∷ rest) h = omega arith

    many_to : (ss : List Section) → 2 < length ss → IsTextFault ss TooManyLegs
    many_to [] h = absurd (omega arith)
    many_to (s ∷ []) h = absurd (omega arith)
    many_to (s ∷ t ∷ []) h = absurd (omega arith)
    many_to (s ∷ t ∷ u ∷ rest) h = refl

pub legs_differ : (text : List ℕ)
    → (text_walk text ≡ Err LegsDiffer) ↔ TwoDiffer (video_sections (lines text))
legs_differ text = (
  λ e. differ_from (video_sections (lines text)) ((text_fault text LegsDiffer).0 e),
  λ h. (text_fault text LegsDiffer).1 (differ_to (video_sections (lines text)) h),
)
  where
    differ_from : (ss : List Section) → IsTextFault ss LegsDiffer → TwoDiffer ss
    differ_from [] h = absurd (let k : LegsDiffer ≡ NoVideo = h in let z : ⊥ = cc in z)
    differ_from (s ∷ []) h = absurd h.0.holds
    differ_from (s ∷ t ∷ []) (inl h) = absurd h.0.holds
    differ_from (s ∷ t ∷ []) (inr (inl h)) = absurd h.1.0.holds
    differ_from (s ∷ t ∷ []) (inr (inr h)) = (h.0, h.1, h.2)
    differ_from (s ∷ t ∷ u ∷ rest) h =
        absurd (let k : LegsDiffer ≡ TooManyLegs = h in let z : ⊥ = cc in z)

    differ_to : (ss : List Section) → TwoDiffer ss → IsTextFault ss LegsDiffer
    differ_to [] h = absurd h
    differ_to (s ∷ []) h = absurd h
    differ_to (s ∷ t ∷ []) h = inr (inr (h.0, h.1, h.2, refl))
    differ_to (s ∷ t ∷ u ∷ rest) h = absurd h

-- WHAT A READER RETURNS

pub said_from : {X : Type 0} (r : Result X SdpFault) (view : X → Description) (text : List ℕ)
    → GivesUnlessMemory view r (text_walk text)
    → IfOk r (λ x. IsDescribed (video_sections (lines text)) (view x))
said_from (Ok x) view text h = (text_said text (view x)).0 h
said_from (Err e) view text h = tt

pub fault_from : {X : Type 0} (r : Result X SdpFault) (view : X → Description) (text : List ℕ)
    → GivesUnlessMemory view r (text_walk text)
    → IfErr r (λ f. (f ≡ NoMemory) ⊎ IsTextFault (video_sections (lines text)) f)
fault_from (Ok x) view text h = tt
fault_from (Err e) view text (inl h) = inl h
fault_from (Err e) view text (inr h) = inr ((text_fault text e).0 h)
