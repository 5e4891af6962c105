-- What a vector of octets holds lane by lane.
use Rattle.std.proofs.Common.{◌≡◌, ℕ, ◌%◌, ◌^◌, ◌<◌, ◌≤◌, List, Bool, false, cond, length}
use Rattle.std.proofs.Common.{get_or, map, replicate, w8, refl, sym, ap, ◌∙◌, arith}
use Rattle.std.proofs.lemmas.List.{length-map}
use Rattle.std.proofs.lemmas.Simd.{get_or-zip2, get_or-replicate, get_or-sel_l, length-replicate}
use Rattle.std.proofs.lemmas.Simd.{length-zip2, length-sel_l, mask_l-mod, tops_compared}
use Rattle.std.proofs.lemmas.Simd.{zip2_splat_left}
use lib.Lanes.{mask_l, sel_l, top, zip2}

-- v has n lanes, and lane k holds f k
pub record HasLanes (n : ℕ) (v : List ℕ) (f : ℕ → ℕ) : Type 0 where
  pub long : length v ≡ n
  pub each : (k : ℕ) → k < n → get_or v k 0 ≡ f k

pub HasLanes-given : (n : ℕ) (v : List ℕ) → length v ≡ n → HasLanes n v (λ k. get_or v k 0)
HasLanes-given n v long = record { long = long; each = λ k h. refl }

pub HasLanes-splat : (n y : ℕ) → HasLanes n (replicate n y) (λ k. y)
HasLanes-splat n y =
    record { long = length-replicate n y; each = λ k h. get_or-replicate n k y 0 h }

pub HasLanes-zip2 : (op : ℕ → ℕ → ℕ) (n : ℕ) {a b : List ℕ} {f g : ℕ → ℕ} → HasLanes n a f
    → HasLanes n b g → HasLanes n (zip2 op a b) (λ k. op (f k) (g k))
HasLanes-zip2 op n {a} {b} {f} {g} p q = record {
  long = length-zip2 op a b (p.long ∙ sym q.long) ∙ p.long;
  each =
      λ k h. get_or-zip2 op a b k 0 0 0 (omega arith) (omega arith)
      ∙ (λ i. op (p.each k h i) (q.each k h i));
}

-- a choice of x or y by the comparison t of a and b
pub HasLanes-select : (t : ℕ → ℕ → Bool) (n : ℕ) {a b x y : List ℕ} {f g u v : ℕ → ℕ}
    → HasLanes n a f → HasLanes n b g → HasLanes n x u → HasLanes n y v
    → HasLanes n (sel_l (map (top 7) (zip2 (λ x y. cond (t x y) 255 0) a b)) x y)
    (λ k. cond (t (f k) (g k)) (u k) (v k))
HasLanes-select t n {a} {b} {x} {y} {f} {g} {u} {v} p q r s =
    let long : length (zip2 t a b) ≡ n = length-zip2 t a b (p.long ∙ sym q.long) ∙ p.long in
    let is = ap (λ ms. sel_l ms x y) (tops_compared w8 t a b) in
    record {
      long = ap length is ∙ length-sel_l _ x y (long ∙ sym r.long) (long ∙ sym s.long) ∙ long;
      each = λ k h.
          ap (λ l. get_or l k 0) is
          ∙ get_or-sel_l (zip2 t a b) x y k 0 (omega arith) (omega arith) (omega arith)
          ∙ (λ i. cond (get_or-zip2 t a b k 0 0 false (omega arith) (omega arith) i) (r.each k h i)
          (s.each k h i))
          ∙ (λ i. cond (t (p.each k h i) (q.each k h i)) (u k) (v k));
    }

-- the mask of the comparison t of a splat with at most 64 lanes
pub mask_compared : (t : ℕ → ℕ → Bool) (n y : ℕ) (v : List ℕ) → length v ≡ n → n ≤ 64
    → mask_l (map (top 7) (zip2 (λ a b. cond (t a b) 255 0) (replicate n y) v)) % 2 ^ 64
    ≡ mask_l (map (t y) v)
mask_compared t n y v long small =
    ap (λ ms. mask_l ms % 2 ^ 64)
    (tops_compared w8 t (replicate n y) v ∙ zip2_splat_left t y n v long)
    ∙ mask_l-mod (map (t y) v) 64 (omega (arith, length-map v (t y)))
