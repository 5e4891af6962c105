-- Kept, outside and refused, by the grammar.
use Rattle.std.proofs.Common.{◌≡◌, ℕ, inl, inr, ◌↔◌, ◌||◌, Bool, true, false, cond, eqb, List, []}
use Rattle.std.proofs.Common.{◌∷◌, Result, Ok, Err, refl, sym, ap, ◌∙◌, subst}
use Rattle.std.specs.Prelude.{IsErr, IsTrue}
use Rattle.std.specs.List.{list_any}
use Rattle.std.proofs.lemmas.Bool.{eqb-true, eqb-false}
use Rattle.st_format.specs.Member.{IsMember}
use Rattle.st_format.specs.Device.{AreOctets}
use Rattle.path_receiver.specs.declared.answer.Refusal.{Refusal}
use Rattle.path_receiver.specs.declared.answer.Taken.{Taken}
use Rattle.path_receiver.specs.declared.answer.Taken.TheVariants.{Kept, Outside}
use Rattle.path_receiver.specs.Opening.{Opening}
use Rattle.path_receiver.specs.Grammar.{Datagram, IsFor, IsKept, IsOutside}
use Rattle.path_receiver.specs.Admission.{datagram_walk}
use Rattle.st_format.specs.Reading.{◌>>=◌}
use Rattle.path_receiver.specs.Answers.{kept_or_outside, taken_at}
use Rattle.path_receiver.proofs.Offered.{admitted_for, admitted_takes}

-- ---- whether a window has a timestamp

member_at : (t ts : ℕ) (w : List ℕ) (b : Bool) → eqb t ts ≡ b
    → (list_any (λ x. eqb x ts) w ≡ true → IsMember ts w)
    → (b || list_any (λ x. eqb x ts) w) ≡ true → IsMember ts (t ∷ w)
member_at t ts w true e rest h = inl (sym (eqb-true t ts e))
member_at t ts w false e rest h = inr (rest h)

pub member_from_any : (ts : ℕ) (w : List ℕ) → list_any (λ x. eqb x ts) w ≡ true → IsMember ts w
member_from_any ts [] h = absurd cc
member_from_any ts (t ∷ w) h = member_at t ts w (eqb t ts) refl (member_from_any ts w) h

any_at : (t ts : ℕ) (w : List ℕ) (b : Bool) → eqb t ts ≡ b
    → (IsMember ts w → list_any (λ x. eqb x ts) w ≡ true) → IsMember ts (t ∷ w)
    → (b || list_any (λ x. eqb x ts) w) ≡ true
any_at t ts w true e rest m = refl
any_at t ts w false e rest (inl same) = absurd (eqb-false t ts e (sym same))
any_at t ts w false e rest (inr m) = rest m

pub any_from_member : (ts : ℕ) (w : List ℕ) → IsMember ts w → list_any (λ x. eqb x ts) w ≡ true
any_from_member ts [] m = absurd m
any_from_member ts (t ∷ w) m = any_at t ts w (eqb t ts) refl (any_from_member ts w) m

none_at : (ts : ℕ) (w : List ℕ) (b : Bool) → list_any (λ x. eqb x ts) w ≡ b → (IsMember ts w → ⊥)
    → b ≡ false
none_at ts w true e none = absurd (none (member_from_any ts w e))
none_at ts w false e none = refl

not_any : (ts : ℕ) (w : List ℕ) → (IsMember ts w → ⊥) → list_any (λ x. eqb x ts) w ≡ false
not_any ts w none = none_at ts w (list_any (λ x. eqb x ts) w) refl none

-- The whole test
pub has_iff : (ts : ℕ) (w : List ℕ) (b : Bool) → b ≡ list_any (λ x. eqb x ts) w
    → IsTrue b ↔ IsMember ts w
has_iff ts w b is = (λ h. member_from_any ts w (sym is ∙ h), λ m. is ∙ any_from_member ts w m)

-- ---- the window's word

abbrev word : Bool → ℕ → Taken
word b n = cond b (Kept n) Outside

kept_if : (b : Bool) (n m : ℕ) → word b n ≡ Kept m → (b ≡ true) × (n ≡ m)
kept_if true n m h = (refl, cc)
kept_if false n m h = absurd cc

outside_if : (b : Bool) (n : ℕ) → word b n ≡ Outside → b ≡ false
outside_if true n h = absurd cc
outside_if false n h = refl

same_taken : (x y : Taken) → (let r : Result Taken Refusal = Ok x in r ≡ Ok y) → x ≡ y
same_taken x y h = cc

-- What a datagram for the receiver is answered
taken_for : (o : Opening) (octets : List ℕ) (d : Datagram) → IsFor octets o d
    → taken_at o octets ≡ Ok (kept_or_outside o.window d)
taken_for o octets d f =
    ap (λ (x : Result Datagram Refusal). x >>= λ q. Ok (kept_or_outside o.window q))
    (admitted_for o octets d f)

-- ---- kept

kept_from : (o : Opening) (octets : List ℕ) (x : Result Datagram Refusal) (n : ℕ)
    → AreOctets octets → datagram_walk o.format o.payload_type o.ssrc octets ≡ x
    → (x >>= λ d. Ok (kept_or_outside o.window d)) ≡ Ok (Kept n) → IsKept octets o n
kept_from o octets (Err e) n fit read h = absurd cc
kept_from o octets (Ok d) n fit read h =
    let at =
    kept_if (list_any (λ t. eqb t d.timestamp) o.window) d.number n
    (same_taken (kept_or_outside o.window d) (Kept n) h) in
    record {
      datagram = d;
      is_for = admitted_takes o octets d fit read;
      inside =
          member_from_any d.timestamp o.window at.0;
      number_is = at.1;
    }

kept_back : (o : Opening) (octets : List ℕ) (n : ℕ) → IsKept octets o n
    → taken_at o octets ≡ Ok (Kept n)
kept_back o octets n k =
    let d : Datagram = k.datagram in
    taken_for o octets d k.is_for
    ∙ ap (λ (b : Bool). Ok (word b d.number)) (any_from_member d.timestamp o.window k.inside)
    ∙ ap (λ (m : ℕ). Ok (Kept m)) k.number_is

-- Kept exactly where the octets are a datagram for the receiver of a timestamp of its window
pub kept_iff : (o : Opening) (octets : List ℕ) (r : Result Taken Refusal) → AreOctets octets
    → r ≡ taken_at o octets → (n : ℕ) → (r ≡ Ok (Kept n)) ↔ IsKept octets o n
kept_iff o octets r fit is n = (
  λ h. kept_from o octets (datagram_walk o.format o.payload_type o.ssrc octets) n fit refl
      (sym is ∙ h),
  λ k. is ∙ kept_back o octets n k,
)

-- ---- outside

outside_from : (o : Opening) (octets : List ℕ) (x : Result Datagram Refusal) → AreOctets octets
    → datagram_walk o.format o.payload_type o.ssrc octets ≡ x
    → (x >>= λ d. Ok (kept_or_outside o.window d)) ≡ Ok Outside → IsOutside octets o
outside_from o octets (Err e) fit read h = absurd cc
outside_from o octets (Ok d) fit read h =
    let none =
    outside_if (list_any (λ t. eqb t d.timestamp) o.window) d.number
    (same_taken (kept_or_outside o.window d) Outside h) in
    record {
      datagram = d;
      is_for = admitted_takes o octets d fit read;
      outside =
          λ m. absurd (differ (sym none ∙ any_from_member d.timestamp o.window m));
    }
  where
    differ : false ≡ true → ⊥
    differ h = cc

outside_back : (o : Opening) (octets : List ℕ) → IsOutside octets o → taken_at o octets ≡ Ok Outside
outside_back o octets k =
    let d : Datagram = k.datagram in
    taken_for o octets d k.is_for
    ∙ ap (λ (b : Bool). Ok (word b d.number)) (not_any d.timestamp o.window k.outside)

-- Outside exactly where they are one of another timestamp
pub outside_iff : (o : Opening) (octets : List ℕ) (r : Result Taken Refusal) → AreOctets octets
    → r ≡ taken_at o octets → (r ≡ Ok Outside) ↔ IsOutside octets o
outside_iff o octets r fit is = (
  λ h. outside_from o octets (datagram_walk o.format o.payload_type o.ssrc octets) fit refl
      (sym is ∙ h),
  λ k. is ∙ outside_back o octets k,
)

-- ---- refused

refused_at : (o : Opening) (octets : List ℕ) (x : Result Datagram Refusal) → AreOctets octets
    → datagram_walk o.format o.payload_type o.ssrc octets ≡ x
    → ((d : Datagram) → IsFor octets o d → ⊥) → IsErr (x >>= λ d. Ok (kept_or_outside o.window d))
refused_at o octets (Err e) fit read none = refl
refused_at o octets (Ok d) fit read none = absurd (none d (admitted_takes o octets d fit read))

abbrev told : Datagram → List ℕ → Result Taken Refusal
told d w = Ok (kept_or_outside w d)

not_refused : (d : Datagram) (w : List ℕ) → IsErr (told d w) → ⊥
not_refused d w h = cc

-- Refused exactly where they are no datagram for the receiver
pub refused_iff : (o : Opening) (octets : List ℕ) (r : Result Taken Refusal) → AreOctets octets
    → r ≡ taken_at o octets → IsErr r ↔ ((d : Datagram) → IsFor octets o d → ⊥)
refused_iff o octets r fit is = (
  λ h.
      λ d f. not_refused d o.window
      (subst (λ (x : Result Taken Refusal). IsErr x) (is ∙ taken_for o octets d f) h),
  λ none. subst (λ (x : Result Taken Refusal). IsErr x) (sym is)
      (refused_at o octets (datagram_walk o.format o.payload_type o.ssrc octets) fit refl none),
)

-- ---- what is admitted, and the window

abbrev by_window : List ℕ → Datagram → Result Taken Refusal
by_window w d = Ok (kept_or_outside w d)

abbrev answered : Datagram → Bool → Result Taken Refusal
answered d b = Ok (word b d.number)

pub taken_outside : (o : Opening) (octets : List ℕ) (d : Datagram)
    → datagram_walk o.format o.payload_type o.ssrc octets ≡ Ok d
    → (IsMember d.timestamp o.window → ⊥) → taken_at o octets ≡ Ok Outside
taken_outside o octets d read out =
    ap (λ (x : Result Datagram Refusal). x >>= by_window o.window) read
    ∙ ap (answered d) (not_any d.timestamp o.window out)

pub taken_inside : (o : Opening) (octets : List ℕ) (d : Datagram)
    → datagram_walk o.format o.payload_type o.ssrc octets ≡ Ok d → IsMember d.timestamp o.window
    → taken_at o octets ≡ Ok (Kept d.number)
taken_inside o octets d read in_it =
    ap (λ (x : Result Datagram Refusal). x >>= by_window o.window) read
    ∙ ap (answered d) (any_from_member d.timestamp o.window in_it)
