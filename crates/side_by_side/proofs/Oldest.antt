-- Of timestamps within half of a round the one that goes first is the oldest.
use Rattle.std.proofs.Common.{◌≡◌, ℕ, zero, suc, ◌+◌, ◌^◌, ◌<◌, ◌≤◌, Bool, true, false, cond, inl}
use Rattle.std.proofs.Common.{inr}
use Rattle.std.proofs.Common.{List, [], ◌∷◌, Option, None, Some, refl, sym, ap, subst, ◌∙◌, arith}
use Rattle.std.proofs.Common.{get_or, length}
use Rattle.std.specs.Prelude.{nat_lt}
use Rattle.std.proofs.lemmas.Bool.{ltb-true, ltb-false}
use Rattle.following.specs.Serial.{ahead_of, is_newer, wrapped}
use Rattle.following.proofs.Near.{newer-near, newer-wrapped}
use Rattle.st_format.specs.Member.{IsMember}
use Rattle.side_by_side.specs.Going.{first_place, goes, goes_before, is_later, one_on}
use Rattle.side_by_side.specs.Oldest.{GoWithinHalf}
use Rattle.side_by_side.specs.declared.going.Going.{Going}
use Rattle.side_by_side.specs.declared.going.Going.TheVariants.{Unread, AtOnce, By, Never}
use Rattle.side_by_side.proofs.Chosen.{chosen, none_first}

-- ---- two timestamps

wrapped_from : (base t : ℕ) → wrapped (base + ahead_of t base) ≡ wrapped t
wrapped_from base t = omega arith

newer_from : (base u t : ℕ) → ahead_of u base < 2 ^ 31 → ahead_of t base < 2 ^ 31
    → is_newer u t ≡ nat_lt (base + ahead_of t base) (base + ahead_of u base)
newer_from base u t near_u near_t =
    sym (newer-wrapped u t)
    ∙ ap (λ (x : ℕ). is_newer x (wrapped t)) (sym (wrapped_from base u))
    ∙ ap (λ (x : ℕ). is_newer (wrapped (base + ahead_of u base)) x) (sym (wrapped_from base t))
    ∙ newer-near (base + ahead_of u base) (base + ahead_of t base)
    (record { forth = omega (arith, near_u); back = omega (arith, near_t) })

-- ---- their ranks: at once first, and then by timestamps

abbrev rank : ℕ → Going → ℕ
rank base Unread = 0
rank base AtOnce = 0
rank base (By t) = suc (ahead_of t base)
rank base Never = 0

-- those that go by a timestamp are in the half
abbrev InHalf : ℕ → Going → Type 0
InHalf base Unread = Unit {0}
InHalf base AtOnce = Unit {0}
InHalf base (By t) = ahead_of t base < 2 ^ 31
InHalf base Never = Unit {0}

in_half : (base : ℕ) (ws : List Going) (w : Going) → GoWithinHalf base ws → IsMember w ws
    → InHalf base w
in_half base ws Unread half inside = tt
in_half base ws AtOnce half inside = tt
in_half base ws (By t) half inside = half t inside
in_half base ws Never half inside = tt

before_less : (base : ℕ) (w v : Going) → goes w ≡ true → goes v ≡ true → InHalf base w
    → InHalf base v → goes_before w v ≡ true → rank base w < rank base v
before_less base Unread v w_goes v_goes w_half v_half is = absurd cc
before_less base Never v w_goes v_goes w_half v_half is = absurd cc
before_less base AtOnce Unread w_goes v_goes w_half v_half is = absurd cc
before_less base AtOnce AtOnce w_goes v_goes w_half v_half is = absurd cc
before_less base AtOnce (By u) w_goes v_goes w_half v_half is = omega arith
before_less base AtOnce Never w_goes v_goes w_half v_half is = absurd cc
before_less base (By t) Unread w_goes v_goes w_half v_half is = absurd cc
before_less base (By t) AtOnce w_goes v_goes w_half v_half is = absurd cc
before_less base (By t) (By u) w_goes v_goes w_half v_half is =
    let lt : base + ahead_of t base < base + ahead_of u base =
    ltb-true (base + ahead_of t base) (base + ahead_of u base)
    (sym (newer_from base u t v_half w_half) ∙ is) in
    omega (arith, lt)
before_less base (By t) Never w_goes v_goes w_half v_half is = absurd cc

later_least : (base : ℕ) (w v : Going) → goes w ≡ true → goes v ≡ true → InHalf base w
    → InHalf base v → goes_before w v ≡ false → rank base v ≤ rank base w
later_least base Unread v w_goes v_goes w_half v_half is = absurd cc
later_least base Never v w_goes v_goes w_half v_half is = absurd cc
later_least base AtOnce Unread w_goes v_goes w_half v_half is = absurd cc
later_least base AtOnce AtOnce w_goes v_goes w_half v_half is = omega arith
later_least base AtOnce (By u) w_goes v_goes w_half v_half is = absurd cc
later_least base AtOnce Never w_goes v_goes w_half v_half is = absurd cc
later_least base (By t) Unread w_goes v_goes w_half v_half is = absurd cc
later_least base (By t) AtOnce w_goes v_goes w_half v_half is = omega arith
later_least base (By t) (By u) w_goes v_goes w_half v_half is =
    let le : base + ahead_of u base ≤ base + ahead_of t base =
    ltb-false (base + ahead_of t base) (base + ahead_of u base)
    (sym (newer_from base u t v_half w_half) ∙ is) in
    omega (arith, le)
later_least base (By t) Never w_goes v_goes w_half v_half is = absurd cc

-- ---- the first of some

none_goes : (ws : List Going) (v : Going) → first_place ws ≡ None → IsMember v ws
    → goes v ≡ true → ⊥
none_goes [] v none inside does = inside
none_goes (x ∷ ws) v none (inl same) does =
    let is = none_first x (first_place ws) (goes x) (is_later x (first_place ws)) refl refl none in
    let no : false ≡ true = sym is.stays ∙ sym (ap goes same) ∙ does in absurd cc
none_goes (x ∷ ws) v none (inr inside) does =
    let is = none_first x (first_place ws) (goes x) (is_later x (first_place ws)) refl refl none in
    none_goes ws v is.rest inside does

-- each of some that goes has no lower rank
abbrev IsLeast : ℕ → List Going → Going → Type 0
IsLeast base ws w =
    (v : Going) → IsMember v ws → goes v ≡ true → rank base w ≤ rank base v

one_on_same : (later : Option (ℕ × Going)) (k : ℕ) (w : Going) → one_on later ≡ Some (k, w)
    → (j : ℕ) × (later ≡ Some (j, w))
one_on_same None k w is = let no : None ≡ Some (k, w) = is in absurd cc
one_on_same (Some x) k w is =
    let same : Some (x.0 + 1, x.1) ≡ Some (k, w) = is in
    let pair : (x.0 + 1, x.1) ≡ (k, w) = cc in
    let going : x.1 ≡ w = ap (λ (p : ℕ × Going). p.1) pair in
    (x.0, ap (λ (g : Going). (let found : ℕ × Going = (x.0, g) in Some found)) going)

first_same : (x : Going) (k : ℕ) (w : Going)
    → (let first : ℕ × Going = (0, x) in Some first ≡ Some (k, w)) → x ≡ w
first_same x k w is =
    let pair : (0, x) ≡ (k, w) = cc in ap (λ (p : ℕ × Going). p.1) pair

-- the first one goes first: it is not behind the one that goes first of the others
least_here : (base : ℕ) (x : Going) (ws : List Going) (later : Option (ℕ × Going))
    → first_place ws ≡ later → goes x ≡ true → is_later x later ≡ false → InHalf base x
    → GoWithinHalf base ws → ((j : ℕ) (u : Going) → later ≡ Some (j, u) → IsLeast base ws u)
    → ((j : ℕ) (u : Going) → later ≡ Some (j, u) → InHalf base u × (goes u ≡ true))
    → IsLeast base (x ∷ ws) x
least_here base x ws later at does late half halves least known v (inl same) v_does =
    let one : rank base v ≡ rank base x = ap (rank base) same in omega (arith, one)
least_here base x ws None at does late half halves least known v (inr inside) v_does =
    absurd (none_goes ws v at inside v_does)
least_here base x ws (Some y) at does late half halves least known v (inr inside) v_does =
    let is = known y.0 y.1 refl in
    let le = later_least base y.1 x is.1 does is.0 half late in
    let rest = least y.0 y.1 refl v inside v_does in
    omega (arith, le, rest)

-- another goes before it
least_there : (base : ℕ) (x w : Going) (ws : List Going) → goes x ≡ true → goes w ≡ true
    → goes_before w x ≡ true → InHalf base x → InHalf base w → IsLeast base ws w
    → IsLeast base (x ∷ ws) w
least_there base x w ws does w_does is half w_half least v (inl same) v_does =
    let less = before_less base w x w_does does w_half half is in
    let one : rank base v ≡ rank base x = ap (rank base) same in
    omega (arith, less, one)
least_there base x w ws does w_does is half w_half least v (inr inside) v_does =
    least v inside v_does

-- the first one doesn't go
least_past : (base : ℕ) (x w : Going) (ws : List Going) → goes x ≡ false → IsLeast base ws w
    → IsLeast base (x ∷ ws) w
least_past base x w ws stays least v (inl same) v_does =
    let no : false ≡ true = sym stays ∙ sym (ap goes same) ∙ v_does in absurd cc
least_past base x w ws stays least v (inr inside) v_does = least v inside v_does

late_before : (x w : Going) (j : ℕ) (later : Option (ℕ × Going)) → later ≡ Some (j, w)
    → is_later x later ≡ true → goes_before w x ≡ true
late_before x w j later at is =
    sym (ap (λ (o : Option (ℕ × Going)). is_later x o) at) ∙ is

-- it is one of them
inside_at : (ws : List Going) (k : ℕ) (w : Going) → first_place ws ≡ Some (k, w) → IsMember w ws
inside_at ws k w is =
    let at = chosen ws k w w is in member_at ws k w at.within at.at
  where
    member_at : (ws : List Going) (k : ℕ) (w : Going) → k < length ws → get_or ws k w ≡ w
        → IsMember w ws
    member_at [] k w lt at = absurd (omega (arith, lt))
    member_at (x ∷ ws) zero w lt at = inl (sym at)
    member_at (x ∷ ws) (suc k) w lt at = inr (member_at ws k w (omega (arith, lt)) at)

abbrev Least : ℕ → List Going → Type 0
Least base ws = (j : ℕ) (u : Going) → first_place ws ≡ Some (j, u) → IsLeast base ws u

least_by : (base : ℕ) (x : Going) (ws : List Going) (b c : Bool) (k : ℕ) (w : Going)
    → GoWithinHalf base (x ∷ ws) → goes x ≡ b → is_later x (first_place ws) ≡ c
    → cond b (cond c (one_on (first_place ws)) (Some (0, x))) (one_on (first_place ws))
    ≡ Some (k, w) → Least base ws → IsLeast base (x ∷ ws) w
least_by base x ws true true k w half does late is rest =
    let at = one_on_same (first_place ws) k w is in
    least_there base x w ws does (chosen ws at.0 w w at.1).does
    (late_before x w at.0 (first_place ws) at.1 late) (in_half base (x ∷ ws) x half (inl refl))
    (in_half base (x ∷ ws) w half (inr (inside_at ws at.0 w at.1))) (rest at.0 w at.1)
least_by base x ws true false k w half does late is rest =
    subst (λ (g : Going). IsLeast base (x ∷ ws) g) (first_same x k w is)
    (least_here base x ws (first_place ws) refl does late
    (in_half base (x ∷ ws) x half (inl refl)) (λ t inside. half t (inr inside)) rest
    (λ j u at. (
      in_half base (x ∷ ws) u half (inr (inside_at ws j u at)),
      (chosen ws j u u at).does,
    )))
least_by base x ws false c k w half does late is rest =
    let at = one_on_same (first_place ws) k w is in
    least_past base x w ws does (rest at.0 w at.1)

pub least : (base : ℕ) (ws : List Going) (k : ℕ) (w : Going) → GoWithinHalf base ws
    → first_place ws ≡ Some (k, w) → IsLeast base ws w
least base [] k w half first = let no : None ≡ Some (k, w) = first in absurd cc
least base (x ∷ ws) k w half first =
    least_by base x ws (goes x) (is_later x (first_place ws)) k w half refl refl first
    (λ j u at. least base ws j u (λ t inside. half t (inr inside)) at)

-- ---- what that says

pub oldest : (base place timestamp other : ℕ) (ws : List Going) → GoWithinHalf base ws
    → first_place ws ≡ Some (place, By timestamp) → IsMember (By other) ws
    → ahead_of timestamp base ≤ ahead_of other base
oldest base place timestamp other ws half first inside =
    let le = least base ws place (By timestamp) half first (By other) inside refl in
    omega (arith, le)

pub none_at_once : (base place timestamp : ℕ) (ws : List Going) → GoWithinHalf base ws
    → first_place ws ≡ Some (place, By timestamp) → IsMember AtOnce ws → ⊥
none_at_once base place timestamp ws half first inside =
    let le = least base ws place (By timestamp) half first AtOnce inside refl in
    omega (arith, le)
