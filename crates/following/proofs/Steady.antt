-- Times each of which is close to the greatest before it.
use Rattle.std.proofs.Common.{◌≡◌, ℕ, ◌+◌, ◌*◌, ◌^◌, ◌<◌, ◌≤◌, ◌⊎◌, inl, inr, Bool, true, false}
use Rattle.std.proofs.Common.{cond, eqb, List, [], ◌∷◌, ◌++◌, length, refl, sym, ap, ◌∙◌, subst, arith}
use Rattle.std.proofs.Common.{append_assoc, append-nil}
use Rattle.std.specs.Prelude.{nat_lt}
use Rattle.std.specs.List.{filter}
use Rattle.std.proofs.lemmas.Bool.{cases_lt, eqb-false, le-ltb, ltb-false, ltb-true}
use Rattle.st_format.specs.Member.{IsMember}
use Rattle.following.specs.Acts.{AreNearby}
use Rattle.following.specs.Times.{AreInTime, AreSteady, AreWithin, IsClose, IsGreatest, IsOrderly}
use Rattle.following.specs.Times.{in_order, newer_than, with_time}
use Rattle.following.proofs.Ordered.{Rises, all_counted, in_order-more, later, rises_behind}
use Rattle.following.proofs.Orders.{order_members}
use Rattle.following.proofs.Rising.{all_member}

-- each is close to the next
abbrev HasSteps : List ℕ → Type 0
HasSteps [] = Unit {0}
HasSteps (x ∷ []) = Unit {0}
HasSteps (x ∷ y ∷ zs) = (y < x + 2 ^ 26) × HasSteps (y ∷ zs)

-- ---- a time put among them

abbrev put : ℕ → ℕ → List ℕ → Bool → Bool → List ℕ
put u v vs a b = cond a (v ∷ vs) (cond b (u ∷ v ∷ vs) (v ∷ with_time u vs))

-- a time that is close to the greatest
record Fits (u : ℕ) (vs : List ℕ) : Type 0 where
  greatest : ℕ
  is : IsGreatest greatest vs
  close : IsClose u greatest

rest_fits : (u x y : ℕ) (zs : List ℕ) → Rises (x ∷ y ∷ zs) → Fits u (x ∷ y ∷ zs)
    → Fits u (y ∷ zs)
rest_fits u x y zs h f = record {
  greatest = f.greatest;
  is = record { inside = at f.is.inside; all = λ v m. f.is.all v (inr m) };
  close = f.close;
}
  where
    at : IsMember f.greatest (x ∷ y ∷ zs) → IsMember f.greatest (y ∷ zs)
    at (inr m) = m
    at (inl e) =
        let lt : x < y = h.0.0 in
        let le : y ≤ f.greatest = f.is.all y (inr (inl refl)) in absurd (omega (arith, lt, le, e))

less_of : (u v : ℕ) → (v ≡ u → ⊥) → v ≤ u → v < u
less_of u v ne le = omega arith

steps_rest : (x : ℕ) (zs : List ℕ) → HasSteps (x ∷ zs) → HasSteps zs
steps_rest x [] h = tt
steps_rest x (y ∷ zs) h = h.1

-- the step to what comes next
steps_next : (u x y : ℕ) (zs : List ℕ) (a b : Bool) → eqb y u ≡ a → nat_lt u y ≡ b → x < u
    → y < x + 2 ^ 26 → HasSteps (put u y zs a b) → HasSteps (x ∷ put u y zs a b)
steps_next u x y zs true b e f lt step rest = (step, rest)
steps_next u x y zs false true e f lt step rest =
    let less : u < y = ltb-true u y f in (omega (arith, less, step), rest)
steps_next u x y zs false false e f lt step rest = (step, rest)

steps_put : (u x : ℕ) (zs : List ℕ) (a b : Bool) → eqb x u ≡ a → nat_lt u x ≡ b
    → HasSteps (x ∷ zs) → Fits u (x ∷ zs) → (x < u → HasSteps (x ∷ with_time u zs))
    → HasSteps (put u x zs a b)
steps_put u x zs true b e f h fits rest = h
steps_put u x zs false true e f h fits rest =
    let le : x ≤ fits.greatest = fits.is.all x (inl refl) in
    (omega (arith, le, fits.close.back), h)
steps_put u x zs false false e f h fits rest =
    rest (less_of u x (eqb-false x u e) (ltb-false u x f))

steps_with : (u x : ℕ) (zs : List ℕ) → HasSteps (x ∷ zs) → Rises (x ∷ zs) → Fits u (x ∷ zs)
    → HasSteps (with_time u (x ∷ zs))
steps_with u x [] h up fits =
    steps_put u x [] (eqb x u) (nat_lt u x) refl refl h fits
    (λ lt. (last fits.is.inside, tt))
  where
    last : IsMember fits.greatest (x ∷ []) → u < x + 2 ^ 26
    last (inl e) = omega (arith, e, fits.close.forth)
    last (inr m) = absurd m
steps_with u x (y ∷ zs) h up fits =
    let rest : HasSteps (with_time u (y ∷ zs)) =
    steps_with u y zs h.1 up.1 (rest_fits u x y zs up fits) in
    steps_put u x (y ∷ zs) (eqb x u) (nat_lt u x) refl refl h fits
    (λ lt. steps_next u x y zs (eqb y u) (nat_lt u y) refl refl lt h.0 rest)

-- ---- fronts of a steady list

-- a list that isn't empty has a greatest
one_at_most : (x u : ℕ) → IsMember u (x ∷ []) → u ≤ x
one_at_most x u (inl e) = omega (arith, e)
one_at_most x u (inr m) = absurd m

below_first : (x v u : ℕ) (us : List ℕ) → IsGreatest v us → v < x → IsMember u (x ∷ us) → u ≤ x
below_first x v u us g lt (inl e) = omega (arith, e)
below_first x v u us g lt (inr m) = let le : u ≤ v = g.all u m in omega (arith, lt, le)

below_rest : (x v u : ℕ) (us : List ℕ) → IsGreatest v us → x ≤ v → IsMember u (x ∷ us) → u ≤ v
below_rest x v u us g ge (inl e) = omega (arith, e, ge)
below_rest x v u us g ge (inr m) = g.all u m

greater : (x v : ℕ) (us : List ℕ) → IsGreatest v us → (v < x) ⊎ (x ≤ v)
    → (w : ℕ) × IsGreatest w (x ∷ us)
greater x v us g (inl lt) =
    (x, record { inside = inl refl; all = λ u m. below_first x v u us g lt m })
greater x v us g (inr ge) =
    (v, record { inside = inr g.inside; all = λ u m. below_rest x v u us g ge m })

greatest_of : (x : ℕ) (us : List ℕ) → (v : ℕ) × IsGreatest v (x ∷ us)
greatest_of x [] = (x, record { inside = inl refl; all = one_at_most x })
greatest_of x (y ∷ us) =
    let k = greatest_of y us in greater x k.0 (y ∷ us) k.1 (cases_lt k.0 x)

in_list : (v : ℕ) (us : List ℕ) → IsGreatest v us → IsGreatest v (in_order us)
in_list v us g = record {
  inside = (order_members us).forth v g.inside;
  all = λ u m. g.all u ((order_members us).back u m);
}

steps_more : (us front : List ℕ) (u : ℕ) → AreSteady us → (after : List ℕ)
    → us ≡ front ++ u ∷ after → HasSteps (in_order front)
    → HasSteps (in_order (front ++ u ∷ []))
steps_more us [] u steady after e h = tt
steps_more us (x ∷ front) u steady after e h =
    let g = greatest_of x front in
    let close : IsClose u g.0 = steady (x ∷ front) after u g.0 e g.1 in
    subst HasSteps (sym (in_order-more [] (x ∷ front) u))
    (put_in u (in_order (x ∷ front)) h (rises_behind [] (x ∷ front) tt)
    (record { greatest = g.0; is = in_list g.0 (x ∷ front) g.1; close = close }))
  where
    put_in : (u : ℕ) (vs : List ℕ) → HasSteps vs → Rises vs → Fits u vs → HasSteps (with_time u vs)
    put_in u [] h up fits = tt
    put_in u (y ∷ zs) h up fits = steps_with u y zs h up fits

steps_front : (us front rest : List ℕ) (after : List ℕ) → AreSteady us
    → us ≡ front ++ (rest ++ after) → HasSteps (in_order front)
    → HasSteps (in_order (front ++ rest))
steps_front us front [] after steady e h =
    subst (λ (xs : List ℕ). HasSteps (in_order xs)) (sym (append-nil front)) h
steps_front us front (x ∷ rest) after steady e h =
    subst (λ (xs : List ℕ). HasSteps (in_order xs)) (append_assoc front (x ∷ []) rest)
    (steps_front us (front ++ x ∷ []) rest after steady
    (e ∙ sym (append_assoc front (x ∷ []) (rest ++ after)))
    (steps_more us front x steady (rest ++ after) e h))

-- ---- how far they reach

span : (x g : ℕ) (zs : List ℕ) → HasSteps (x ∷ zs) → IsMember g (x ∷ zs)
    → g ≤ x + length zs * 2 ^ 26
span x g zs h (inl e) = omega (arith, e)
span x g [] h (inr m) = absurd m
span x g (y ∷ zs) h (inr m) =
    let k : g ≤ y + length zs * 2 ^ 26 = span y g zs h.1 m in omega (arith, k, h.0)

skipped : (v x : ℕ) (zs : List ℕ) → x ≤ v → filter (later v) (x ∷ zs) ≡ filter (later v) zs
skipped v x zs le =
    ap (λ (b : Bool). cond b (x ∷ filter (later v) zs) (filter (later v) zs)) (le-ltb v x le)

reach_first : (v g x n : ℕ) (zs : List ℕ) → x < v → IsMember g (x ∷ zs)
    → (IsMember g zs → g ≤ v + n) → g ≤ v + n
reach_first v g x n zs lt (inl e) rest = omega (arith, e, lt)
reach_first v g x n zs lt (inr k) rest = rest k

reach : (v g : ℕ) (vs : List ℕ) → HasSteps vs → Rises vs → IsMember v vs → IsMember g vs
    → g ≤ v + length (filter (later v) vs) * 2 ^ 26
reach v g [] h up m n = absurd m
reach v g (x ∷ zs) h up (inl e) n =
    let k : g ≤ x + length zs * 2 ^ 26 = span x g zs h n in
    let f : filter (later v) (x ∷ zs) ≡ zs =
    skipped v x zs (omega (arith, e))
    ∙ all_counted v zs
    (λ y m. let lt : x < y = all_member (λ u. x < u) y zs up.0 m in omega (arith, lt, e)) in
    subst (λ (ys : List ℕ). g ≤ v + length ys * 2 ^ 26) (sym f) (omega (arith, k, e))
reach v g (x ∷ zs) h up (inr m) n =
    let lt : x < v = all_member (λ u. x < u) v zs up.0 m in
    subst (λ (ys : List ℕ). g ≤ v + length ys * 2 ^ 26) (sym (skipped v x zs (omega (arith, lt))))
    (reach_first v g x (length (filter (later v) zs) * 2 ^ 26) zs lt n
    (λ k. reach v g zs (steps_rest x zs h) up.1 m k))

-- Steady times are near what up to 16 frames know.
pub nearby_steady : (size : ℕ) (us : List ℕ) → size ≤ 16 → AreSteady us → AreNearby size us
nearby_steady size us most steady [] after u v e m few = absurd m
nearby_steady size us most steady (x ∷ before) after u v e m few =
    let g = greatest_of x before in
    let close : IsClose u g.0 = steady (x ∷ before) after u g.0 e g.1 in
    let steps : HasSteps (in_order (x ∷ before)) =
    steps_front us [] (x ∷ before) (u ∷ after) steady e tt in
    let far : g.0 ≤ v + length (newer_than v (x ∷ before)) * 2 ^ 26 =
    reach v g.0 (in_order (x ∷ before)) steps (rises_behind [] (x ∷ before) tt)
    ((order_members (x ∷ before)).forth v m)
    ((order_members (x ∷ before)).forth g.0 g.1.inside) in
    let le : v ≤ g.0 = g.1.all v m in
    record {
      forth = omega (arith, far, few, most, close.forth);
      back = omega (arith, le, close.back);
    }

-- Steady times that come in time are orderly, for up to 16 frames.
pub orderly_steady : (size ahead : ℕ) (us : List ℕ) → size ≤ 16 → AreInTime size us
    → AreWithin ahead us → AreSteady us → IsOrderly size ahead us
orderly_steady size ahead us most in_time within steady = record {
  in_time = in_time;
  within = within;
  near = nearby_steady size us most steady;
}
