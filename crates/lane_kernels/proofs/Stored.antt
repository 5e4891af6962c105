-- What a vector holds lane by lane, put together as the code puts the vector together, and a loop
-- that stores vectors.
use Rattle.std.proofs.Common.{◌≡◌, ℕ, ◌+◌, ◌-◌, ◌^◌, ◌<◌, ◌≤◌, List, Bool, false, cond, length}
use Rattle.std.proofs.Common.{get_or, map, replicate, inl, inr, w16, Fits, refl, sym, ap, subst}
use Rattle.std.proofs.Common.{◌∙◌, arith}
use Rattle.std.specs.Int.{Width}
use Rattle.std.proofs.lemmas.Bool.{cases_lt}
use Rattle.std.proofs.lemmas.List.{length-map, get_or-map}
use Rattle.std.proofs.lemmas.Simd.{get_or-put_chunk_below, get_or-put_chunk_at}
use Rattle.std.proofs.lemmas.Simd.{get_or-put_chunk_above, get_or-chunk, Each1-get_or, get_or-zip2}
use Rattle.std.proofs.lemmas.Simd.{get_or-replicate, get_or-sel_l, length-replicate, length-zip2}
use Rattle.std.proofs.lemmas.Simd.{length-sel_l, tops_compared, length-chunk, length-put_chunk}
use lib.Lanes.{Each1, put_chunk, chunk, zip2, sel_l, top}
use mir.Val.{bits, hbits}
use Rattle.lane_kernels.specs.Lanes.{HasLanes}

pub HasLanes-load : (i n : ℕ) (xs : List ℕ) → i + n ≤ length xs
    → HasLanes n (chunk i n xs) (λ k. get_or xs (i + k) 0)
HasLanes-load i n xs room =
    record { long = length-chunk i n xs room; each = λ k h. get_or-chunk i n xs k 0 h }

-- a load from a part of a list
pub HasLanes-part : (t m n : ℕ) (xs : List ℕ) → t + m ≤ length xs → n ≤ m
    → HasLanes n (chunk 0 n (chunk t m xs)) (λ k. get_or xs (t + k) 0)
HasLanes-part t m n xs room fits = record {
  long = length-chunk 0 n (chunk t m xs) (omega (arith, length-chunk t m xs room));
  each = λ k h.
      get_or-chunk 0 n (chunk t m xs) k 0 h ∙ get_or-chunk t m xs (0 + k) 0 (omega arith)
      ∙ ap (λ j. get_or xs j 0) (omega arith);
}

pub HasLanes-splat : (n y : ℕ) → HasLanes n (replicate n y) (λ k. y)
HasLanes-splat n y =
    record { long = length-replicate n y; each = λ k h. get_or-replicate n k y 0 h }

pub HasLanes-zip2 : (op : ℕ → ℕ → ℕ) (n : ℕ) {a b : List ℕ} {f g : ℕ → ℕ} → HasLanes n a f
    → HasLanes n b g → HasLanes n (zip2 op a b) (λ k. op (f k) (g k))
HasLanes-zip2 op n {a} {b} {f} {g} p q = record {
  long = length-zip2 op a b (p.long ∙ sym q.long) ∙ p.long;
  each =
      λ k h. get_or-zip2 op a b k 0 0 0 (omega arith) (omega arith)
      ∙ (λ i. op (p.each k h i) (q.each k h i));
}

pub HasLanes-map : (op : ℕ → ℕ) (n : ℕ) {a : List ℕ} {f : ℕ → ℕ} → HasLanes n a f
    → HasLanes n (map op a) (λ k. op (f k))
HasLanes-map op n {a} {f} p = record {
  long = length-map a op ∙ p.long;
  each = λ k h. get_or-map op a k 0 0 (omega (arith, p.long)) ∙ ap op (p.each k h);
}

-- the lanes of a vector that was passed in
pub HasLanes-given : (n : ℕ) (v : List ℕ) → length v ≡ n → HasLanes n v (λ k. get_or v k 0)
HasLanes-given n v long = record { long = long; each = λ k h. refl }

-- a choice of x or y by the comparison t of a and b
pub HasLanes-select : (w : Width) (t : ℕ → ℕ → Bool) (n : ℕ) {a b x y : List ℕ} {f g u v : ℕ → ℕ}
    → HasLanes n a f → HasLanes n b g → HasLanes n x u → HasLanes n y v
    → HasLanes n
    (sel_l (map (top (hbits w)) (zip2 (λ x y. cond (t x y) (2 ^ bits w - 1) 0) a b)) x y)
    (λ k. cond (t (f k) (g k)) (u k) (v k))
HasLanes-select w t n {a} {b} {x} {y} {f} {g} {u} {v} p q r s =
    let long : length (zip2 t a b) ≡ n = length-zip2 t a b (p.long ∙ sym q.long) ∙ p.long in
    let is = ap (λ ms. sel_l ms x y) (tops_compared w t a b) in
    record {
      long = ap length is ∙ length-sel_l _ x y (long ∙ sym r.long) (long ∙ sym s.long) ∙ long;
      each = λ k h.
          ap (λ l. get_or l k 0) is
          ∙ get_or-sel_l (zip2 t a b) x y k 0 (omega arith) (omega arith) (omega arith)
          ∙ (λ i. cond (get_or-zip2 t a b k 0 0 false (omega arith) (omega arith) i) (r.each k h i)
          (s.each k h i))
          ∙ (λ i. cond (t (p.each k h i) (q.each k h i)) (u k) (v k));
    }

-- each place of out below i holds what f says of it
abbrev pub Below : (ℕ → ℕ) → ℕ → List ℕ → Type 0
Below f i out = (k : ℕ) → k < i → get_or out k 0 ≡ f k

pub Below-store : (f : ℕ → ℕ) (i n : ℕ) (out : List ℕ) {v : List ℕ} → i + n ≤ length out
    → Below f i out → HasLanes n v (λ k. f (i + k)) → Below f (i + n) (put_chunk i out v)
Below-store f i n out {v} room below lanes k h = elim (cases_lt k i) [
  | inl l ↦ get_or-put_chunk_below i out v k 0 l ∙ below k l
  | inr g ↦
      let at : i + (k - i) ≡ k = omega arith in
      let in_v : k - i < n = omega arith in
      subst (λ j. get_or (put_chunk i out v) j 0 ≡ f j) at
      (get_or-put_chunk_at i out v (k - i) 0 (omega arith) (omega arith) ∙ lanes.each (k - i) in_v)
]

-- each place from i on is as it was
abbrev pub Kept : List ℕ → ℕ → List ℕ → Type 0
Kept old i out = (k : ℕ) → i ≤ k → get_or out k 0 ≡ get_or old k 0

pub Kept-store : (old : List ℕ) (i n : ℕ) (out : List ℕ) {v : List ℕ} {f : ℕ → ℕ} → Kept old i out
    → HasLanes n v f → Kept old (i + n) (put_chunk i out v)
Kept-store old i n out {v} kept lanes k h =
    get_or-put_chunk_above i out v k 0 (omega (arith, lanes.long)) ∙ kept k (omega arith)

-- a load from the part that is as it was
pub HasLanes-kept : (old : List ℕ) (i n : ℕ) (out : List ℕ) → i + n ≤ length out → Kept old i out
    → HasLanes n (chunk i n out) (λ k. get_or old (i + k) 0)
HasLanes-kept old i n out room kept =
    record {
      long = length-chunk i n out room;
      each =
          λ k h. get_or-chunk i n out k 0 h ∙ kept (i + k) (omega arith);
    }

-- a loop that has made f of what is below i, and kept the rest of old
pub record Made (old : List ℕ) (f : ℕ → ℕ) (i : ℕ) (out : List ℕ) : Type 0 where
  pub long : length out ≡ length old
  pub done : Below f i out
  pub kept : Kept old i out

pub Made-load : (old : List ℕ) (f : ℕ → ℕ) (i n : ℕ) {out : List ℕ} → i + n ≤ length old
    → Made old f i out → HasLanes n (chunk i n out) (λ k. get_or old (i + k) 0)
Made-load old f i n {out} room made = HasLanes-kept old i n out (omega (arith, made.long)) made.kept

pub Made-store : (old : List ℕ) (f : ℕ → ℕ) (i n j : ℕ) {out v : List ℕ} → j ≡ i + n
    → i + n ≤ length old → Made old f i out → HasLanes n v (λ k. f (i + k))
    → Made old f j (put_chunk i out v)
Made-store old f i n j {out} {v} at room made lanes =
    subst (λ j. Made old f j (put_chunk i out v)) (sym at) (record {
      long = length-put_chunk i out v ∙ made.long;
      done = Below-store f i n out (omega (arith, made.long)) made.done lanes;
      kept = Kept-store old i n out made.kept lanes;
    })

-- the same lanes, told in other words
pub HasLanes-same : (n : ℕ) {v : List ℕ} {f g : ℕ → ℕ} → HasLanes n v f
    → ((k : ℕ) → k < n → f k ≡ g k) → HasLanes n v g
HasLanes-same n p same = record { long = p.long; each = λ k h. p.each k h ∙ same k h }

-- a lane of 16 bits
pub lane_below : (n : ℕ) (v : List ℕ) → (length v ≡ n) × Each1 (Fits w16) v → (k : ℕ) → k < n
    → get_or v k 0 < 65536
lane_below n v fits k h = let f =
    Each1-get_or (Fits w16) v k 0 (omega (arith, fits.0)) fits.1 in f.fits

-- what bounds a list bounds the lanes that are loaded from it
pub lanes_below : (n i : ℕ) (xs : List ℕ) (m : ℕ) → i + n ≤ length xs
    → ((k : ℕ) → k < length xs → get_or xs k 0 < m)
    → (k : ℕ) → k < length (chunk i n xs) → get_or (chunk i n xs) k 0 < m
lanes_below n i xs m room each k h =
    let load = HasLanes-load i n xs room in
    omega (arith, load.each k (omega (arith, load.long)), each (i + k) (omega (arith, load.long)))
