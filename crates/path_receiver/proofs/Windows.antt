-- The timestamps of a window, and the frames at their places.
use Rattle.std.proofs.Common.{◌≡◌, ◌≢◌, ℕ, zero, suc, ◌-◌, ◌<◌, ◌≤◌, inl, inr, Bool, true, false}
use Rattle.std.proofs.Common.{cond, eqb, List, [], ◌∷◌, length, take, drop, get_or, Option, None}
use Rattle.std.proofs.Common.{Some, refl, sym, ap, ◌∙◌, subst, arith, take_all, eq-eqb, ne_eqb}
use Rattle.std.specs.Prelude.{slice_get}
use Rattle.std.specs.List.{IsAnyAnswer}
use Rattle.std.proofs.lemmas.Bool.{eqb-true, eqb-false}
use Rattle.st_format.specs.Member.{IsMember}
use Rattle.st_format.specs.Raster.{Raster}
use Rattle.path_receiver.specs.Opening.{AreDifferent}
use Rattle.path_receiver.specs.Frames.{frame_at}

-- ---- members by their places

pub member_get : (t i : ℕ) (w : List ℕ) → slice_get w i ≡ Some t → IsMember t w
member_get t i [] h = absurd cc
member_get t zero (x ∷ w) h = inl cc
member_get t (suc i) (x ∷ w) h = inr (member_get t i w h)

-- where each is another, it is none of them
pub not_member : (t : ℕ) (w : List ℕ) → ((k d : ℕ) → k < length w → get_or w k d ≢ t)
    → IsMember t w → ⊥
not_member t [] h m = m
not_member t (x ∷ w) h (inl e) = h 0 0 (omega arith) (sym e)
not_member t (x ∷ w) h (inr m) = not_member t w (λ k d lt. h (suc k) d (omega (arith, lt))) m

member_at : (t k : ℕ) (w : List ℕ) → k < length w → ((d : ℕ) → eqb (get_or w k d) t ≡ true)
    → IsMember t w
member_at t k [] lt h = absurd (omega (arith, lt))
member_at t zero (x ∷ w) lt h = inl (sym (eqb-true x t (h 0)))
member_at t (suc k) (x ∷ w) lt h = inr (member_at t k w (omega (arith, lt)) h)

-- ---- doubles

abbrev Answers : ℕ → ℕ → Bool → Type 0
Answers t y b = eqb y t ≡ b

rest_is : (t : ℕ) (w : List ℕ) → take (length (t ∷ w) - 1) (drop 1 (t ∷ w)) ≡ w
rest_is t w = take_all (length (t ∷ w) - 1) w (omega arith)

-- A first timestamp that stands among the rest is a double.
pub double_first : (w : List ℕ) → 1 ≤ length w
    → IsAnyAnswer (Answers (get_or w 0 0)) (take (length w - 1) (drop 1 w)) true → AreDifferent w
    → ⊥
double_first [] le h d = absurd (omega (arith, le))
double_first (t ∷ w) le h d =
    let k : IsAnyAnswer (Answers t) w true =
    subst (λ (xs : List ℕ). IsAnyAnswer (Answers t) xs true) (rest_is t w) h in
    d.0 (member_at t k.0 w k.1 k.2)

-- A double among the rest is one.
pub double_later : (w : List ℕ) → 1 ≤ length w
    → (AreDifferent (take (length w - 1) (drop 1 w)) → ⊥) → AreDifferent w → ⊥
double_later [] le h d = absurd (omega (arith, le))
double_later (t ∷ w) le h d = h (subst AreDifferent (sym (rest_is t w)) d.1)

-- Where the first isn't among the rest, and these are different, all are.
pub different_all : (w : List ℕ) → 1 ≤ length w
    → IsAnyAnswer (Answers (get_or w 0 0)) (take (length w - 1) (drop 1 w)) false
    → AreDifferent (take (length w - 1) (drop 1 w)) → AreDifferent w
different_all [] le h d = tt
different_all (t ∷ w) le h d =
    let k : IsAnyAnswer (Answers t) w false =
    subst (λ (xs : List ℕ). IsAnyAnswer (Answers t) xs false) (rest_is t w) h in (
      not_member t w (λ i e lt same. eqb-false (get_or w i e) t (k i e (omega arith) lt) same),
      subst AreDifferent (rest_is t w) d,
    )

-- ---- the frame of a timestamp

abbrev chosen : Raster → List ℕ → List Raster → ℕ → Bool → Option Raster
chosen r w rs ts b = cond b (Some r) (frame_at w rs ts)

-- The frame of a timestamp stands at its place.
pub frame_found : (ts i : ℕ) (w : List ℕ) (rs : List Raster) → AreDifferent w
    → slice_get w i ≡ Some ts → length rs ≡ length w → frame_at w rs ts ≡ slice_get rs i
frame_found ts i [] rs d g e = absurd cc
frame_found ts i (t ∷ w) [] d g e = absurd (omega (arith, e))
frame_found ts zero (t ∷ w) (r ∷ rs) d g e = ap (chosen r w rs ts) (eq-eqb ts t cc)
frame_found ts (suc i) (t ∷ w) (r ∷ rs) d g e =
    ap (chosen r w rs ts)
    (ne_eqb ts t
    (λ (same : ts ≡ t). d.0 (subst (λ (x : ℕ). IsMember x w) same (member_get ts i w g))))
    ∙ frame_found ts i w rs d.1 g (omega (arith, e))

-- There is none where the window hasn't the timestamp.
pub frame_none : (ts : ℕ) (w : List ℕ) (rs : List Raster) → (IsMember ts w → ⊥)
    → frame_at w rs ts ≡ None
frame_none ts [] rs out = refl
frame_none ts (t ∷ w) [] out = refl
frame_none ts (t ∷ w) (r ∷ rs) out =
    ap (chosen r w rs ts) (ne_eqb ts t (λ (same : ts ≡ t). out (inl same)))
    ∙ frame_none ts w rs (λ m. out (inr m))

pub get_some : (i : ℕ) (rs : List Raster) (d : Raster) → i < length rs
    → slice_get rs i ≡ Some (get_or rs i d)
get_some i [] d lt = absurd (omega (arith, lt))
get_some zero (r ∷ rs) d lt = refl
get_some (suc i) (r ∷ rs) d lt = get_some i rs d (omega (arith, lt))

pub below_get : (ts i : ℕ) (w : List ℕ) → slice_get w i ≡ Some ts → i < length w
below_get ts i [] at = absurd cc
below_get ts zero (t ∷ w) at = omega arith
below_get ts (suc i) (t ∷ w) at = let lt : i < length w = below_get ts i w at in omega (arith, lt)
