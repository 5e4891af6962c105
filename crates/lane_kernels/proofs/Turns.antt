-- Three vectors of eight pixels, taken apart and put together.
use Rattle.std.proofs.Common.{◌≡◌, ℕ, zero, suc, ◌+◌, ◌*◌, ◌/◌, ◌%◌, ◌<◌, List, [], ◌∷◌, ◌++◌, length}
use Rattle.std.proofs.Common.{get_or, refl, ap, sym, arith, ◌∙◌, ◌≤◌}
use Rattle.std.specs.Prelude.{◌==◌, if◌then◌else◌}
use Rattle.std.proofs.lemmas.List.{length-map, get_or-map}
use Rattle.std.proofs.lemmas.Simd.{get_or-chunk, pick_l_left}
use lib.Dec.{T}
use lib.Lanes.{all_below, chunk, pick_l}
use Rattle.lane_kernels.specs.Formulas.{cb, cr, luma, video_data}
use Rattle.lane_kernels.specs.Lanes.{HasLanes}
use Rattle.lane_kernels.specs.Pixels.{in_turn, pair_luma, ycc_at}
use Rattle.lane_kernels.proofs.Stored.{HasLanes-same}

eight : (P : ℕ → Type 0) → P 0 → P 1 → P 2 → P 3 → P 4 → P 5 → P 6 → P 7 → (k : ℕ) → k < 8 → P k
eight P a b c d e f g h zero l = a
eight P a b c d e f g h (suc zero) l = b
eight P a b c d e f g h (suc (suc zero)) l = c
eight P a b c d e f g h (suc (suc (suc zero))) l = d
eight P a b c d e f g h (suc (suc (suc (suc zero)))) l = e
eight P a b c d e f g h (suc (suc (suc (suc (suc zero))))) l = f
eight P a b c d e f g h (suc (suc (suc (suc (suc (suc zero)))))) l = g
eight P a b c d e f g h (suc (suc (suc (suc (suc (suc (suc zero))))))) l = h
eight P a b c d e f g h (suc (suc (suc (suc (suc (suc (suc (suc k)))))))) l = absurd (omega arith)

-- the lanes of a vector at these places
pub HasLanes-pick : (ks : List ℕ) {v : List ℕ} {f : ℕ → ℕ} → length ks ≡ 8 → T (all_below 8 ks)
    → ((k : ℕ) → k < 8 → get_or ks k 0 < 8) → HasLanes 8 v f
    → HasLanes 8 (pick_l 0 (v ++ v) ks) (λ k. f (get_or ks k 0))
HasLanes-pick ks {v} {f} long below each p =
    let is = pick_l_left 0 v v 8 ks p.long below in
    record {
      long = ap length is ∙ length-map ks (λ k. get_or v k 0) ∙ long;
      each = λ k h.
          ap (λ xs. get_or xs k 0) is
          ∙ get_or-map (λ k. get_or v k 0) ks k 0 0 (omega arith)
          ∙ p.each (get_or ks k 0) (each k h);
    }

-- where the lanes of three vectors in turn, and of components, stand in order
abbrev pub order_0 : List ℕ
order_0 = 0 ∷ 3 ∷ 6 ∷ 1 ∷ 4 ∷ 7 ∷ 2 ∷ 5 ∷ []

abbrev pub order_1 : List ℕ
order_1 = 1 ∷ 4 ∷ 7 ∷ 2 ∷ 5 ∷ 0 ∷ 3 ∷ 6 ∷ []

abbrev pub order_2 : List ℕ
order_2 = 2 ∷ 5 ∷ 0 ∷ 3 ∷ 6 ∷ 1 ∷ 4 ∷ 7 ∷ []

abbrev pub back_1 : List ℕ
back_1 = 5 ∷ 0 ∷ 3 ∷ 6 ∷ 1 ∷ 4 ∷ 7 ∷ 2 ∷ []

pick_0 : {v : List ℕ} {f : ℕ → ℕ} → HasLanes 8 v f
    → HasLanes 8 (pick_l 0 (v ++ v) order_0) (λ k. f (get_or order_0 k 0))
pick_0 p = HasLanes-pick order_0 refl tt (eight _ (omega arith) (omega arith) (omega arith) (omega arith) (omega arith) (omega arith) (omega arith) (omega arith)) p

pick_1 : {v : List ℕ} {f : ℕ → ℕ} → HasLanes 8 v f
    → HasLanes 8 (pick_l 0 (v ++ v) order_1) (λ k. f (get_or order_1 k 0))
pick_1 p = HasLanes-pick order_1 refl tt (eight _ (omega arith) (omega arith) (omega arith) (omega arith) (omega arith) (omega arith) (omega arith) (omega arith)) p

pick_2 : {v : List ℕ} {f : ℕ → ℕ} → HasLanes 8 v f
    → HasLanes 8 (pick_l 0 (v ++ v) order_2) (λ k. f (get_or order_2 k 0))
pick_2 p = HasLanes-pick order_2 refl tt (eight _ (omega arith) (omega arith) (omega arith) (omega arith) (omega arith) (omega arith) (omega arith) (omega arith)) p

pick_back : {v : List ℕ} {f : ℕ → ℕ} → HasLanes 8 v f
    → HasLanes 8 (pick_l 0 (v ++ v) back_1) (λ k. f (get_or back_1 k 0))
pick_back p = HasLanes-pick back_1 refl tt (eight _ (omega arith) (omega arith) (omega arith) (omega arith) (omega arith) (omega arith) (omega arith) (omega arith)) p

-- a component of the pixels from number p on
abbrev pub component : List ℕ → ℕ → ℕ → ℕ → ℕ
component rgb p t k = get_or rgb (3 * (p + k) + t) 0

-- the pixels from number p on, of which i is the first sample: their components, in vectors loaded
-- at i
module _ (rgb : List ℕ) (i p : ℕ) (is : i ≡ 3 * p) where
  pub reds : {v : List ℕ} → HasLanes 8 v (λ k.
      in_turn k (get_or (chunk (i) 8 rgb) k 0) (get_or (chunk (i + 8) 8 rgb) k 0)
      (get_or (chunk (i + 16) 8 rgb) k 0))
      → HasLanes 8 (pick_l 0 (v ++ v) order_0) (component rgb p 0)
  reds {v} all =
      let loads = HasLanes-same 8 all (λ k h.
      λ j. in_turn k (get_or-chunk (i) 8 rgb k 0 h j) (get_or-chunk (i + 8) 8 rgb k 0 h j)
      (get_or-chunk (i + 16) 8 rgb k 0 h j)) in
      HasLanes-same 8 (pick_0 loads)
      (eight _ (ap (λ j. get_or rgb j 0) (omega arith)) (ap (λ j. get_or rgb j 0) (omega arith)) (ap (λ j. get_or rgb j 0) (omega arith)) (ap (λ j. get_or rgb j 0) (omega arith)) (ap (λ j. get_or rgb j 0) (omega arith)) (ap (λ j. get_or rgb j 0) (omega arith)) (ap (λ j. get_or rgb j 0) (omega arith)) (ap (λ j. get_or rgb j 0) (omega arith)))

  pub greens : {v : List ℕ} → HasLanes 8 v (λ k.
      in_turn k (get_or (chunk (i + 16) 8 rgb) k 0) (get_or (chunk (i) 8 rgb) k 0)
      (get_or (chunk (i + 8) 8 rgb) k 0))
      → HasLanes 8 (pick_l 0 (v ++ v) order_1) (component rgb p 1)
  greens {v} all =
      let loads = HasLanes-same 8 all (λ k h.
      λ j. in_turn k (get_or-chunk (i + 16) 8 rgb k 0 h j) (get_or-chunk (i) 8 rgb k 0 h j)
      (get_or-chunk (i + 8) 8 rgb k 0 h j)) in
      HasLanes-same 8 (pick_1 loads)
      (eight _ (ap (λ j. get_or rgb j 0) (omega arith)) (ap (λ j. get_or rgb j 0) (omega arith)) (ap (λ j. get_or rgb j 0) (omega arith)) (ap (λ j. get_or rgb j 0) (omega arith)) (ap (λ j. get_or rgb j 0) (omega arith)) (ap (λ j. get_or rgb j 0) (omega arith)) (ap (λ j. get_or rgb j 0) (omega arith)) (ap (λ j. get_or rgb j 0) (omega arith)))

  pub blues : {v : List ℕ} → HasLanes 8 v (λ k.
      in_turn k (get_or (chunk (i + 8) 8 rgb) k 0) (get_or (chunk (i + 16) 8 rgb) k 0)
      (get_or (chunk (i) 8 rgb) k 0))
      → HasLanes 8 (pick_l 0 (v ++ v) order_2) (component rgb p 2)
  blues {v} all =
      let loads = HasLanes-same 8 all (λ k h.
      λ j. in_turn k (get_or-chunk (i + 8) 8 rgb k 0 h j) (get_or-chunk (i + 16) 8 rgb k 0 h j)
      (get_or-chunk (i) 8 rgb k 0 h j)) in
      HasLanes-same 8 (pick_2 loads)
      (eight _ (ap (λ j. get_or rgb j 0) (omega arith)) (ap (λ j. get_or rgb j 0) (omega arith)) (ap (λ j. get_or rgb j 0) (omega arith)) (ap (λ j. get_or rgb j 0) (omega arith)) (ap (λ j. get_or rgb j 0) (omega arith)) (ap (λ j. get_or rgb j 0) (omega arith)) (ap (λ j. get_or rgb j 0) (omega arith)) (ap (λ j. get_or rgb j 0) (omega arith)))

-- what bounds all samples bounds those of components
pub component_below : (rgb : List ℕ) (p t m : ℕ) (v : List ℕ) → HasLanes 8 v (component rgb p t)
    → t < 3 → 3 * p + 24 ≤ length rgb → ((k : ℕ) → k < length rgb → get_or rgb k 0 < m)
    → (k : ℕ) → k < length v → get_or v k 0 < m
component_below rgb p t m v lanes some room each k h =
    omega (
      arith,
      lanes.each k (omega (arith, lanes.long)),
      each (3 * (p + k) + t) (omega (arith, lanes.long)),
    )

abbrev pub luma_of : ℕ → List ℕ → ℕ → ℕ
luma_of n rgb q =
    video_data n (luma (get_or rgb (3 * q + 0) 0) (get_or rgb (3 * q + 1) 0) (get_or rgb (3 * q + 2) 0))

abbrev pub cb_of : ℕ → List ℕ → ℕ → ℕ
cb_of n rgb q =
    video_data n (cb n (get_or rgb (3 * q + 0) 0) (get_or rgb (3 * q + 1) 0) (get_or rgb (3 * q + 2) 0))

abbrev pub cr_of : ℕ → List ℕ → ℕ → ℕ
cr_of n rgb q =
    video_data n (cr n (get_or rgb (3 * q + 0) 0) (get_or rgb (3 * q + 1) 0) (get_or rgb (3 * q + 2) 0))

module _ (n : ℕ) (rgb : List ℕ) where
  at : (m q t : ℕ) → m / 3 ≡ q → m % 3 ≡ t
      → (if t == 0 then cb_of n rgb q else (if t == 1 then luma_of n rgb q else cr_of n rgb q))
      ≡ ycc_at n rgb m
  at m q t d e =
      sym (λ j. if e j == 0 then cb_of n rgb (d j)
      else (if e j == 1 then luma_of n rgb (d j) else cr_of n rgb (d j)))

  at_0 : (m q : ℕ) → m ≡ 3 * q → cb_of n rgb q ≡ ycc_at n rgb m
  at_0 m q e = at m q 0 (omega arith) (omega arith)

  at_1 : (m q : ℕ) → m ≡ 3 * q + 1 → luma_of n rgb q ≡ ycc_at n rgb m
  at_1 m q e = at m q 1 (omega arith) (omega arith)

  at_2 : (m q : ℕ) → m ≡ 3 * q + 2 → cr_of n rgb q ≡ ycc_at n rgb m
  at_2 m q e = at m q 2 (omega arith) (omega arith)

  -- Cb, Y and Cr of eight pixels, put together
  module _ (i p : ℕ) (is : i ≡ 3 * p) {u y w : List ℕ} (of_u : HasLanes 8 u (λ k. cb_of n rgb (p + k)))
      (of_y : HasLanes 8 y (λ k. luma_of n rgb (p + k)))
      (of_w : HasLanes 8 w (λ k. cr_of n rgb (p + k))) where
    pub first : {v : List ℕ} → HasLanes 8 v (λ k. in_turn k (get_or (pick_l 0 (u ++ u) order_0) k 0)
        (get_or (pick_l 0 (y ++ y) back_1) k 0) (get_or (pick_l 0 (w ++ w) order_2) k 0))
        → HasLanes 8 v (λ k. ycc_at n rgb (i + k))
    first all =
        let turns : (k : ℕ) → k < 8
        → in_turn k (cb_of n rgb (p + get_or order_0 k 0))
        (luma_of n rgb (p + get_or back_1 k 0))
        (cr_of n rgb (p + get_or order_2 k 0))
        ≡ ycc_at n rgb (i + k) =
        eight _ (at_0 (i + 0) (p + 0) (omega arith)) (at_1 (i + 1) (p + 0) (omega arith)) (at_2 (i + 2) (p + 0) (omega arith)) (at_0 (i + 3) (p + 1) (omega arith)) (at_1 (i + 4) (p + 1) (omega arith)) (at_2 (i + 5) (p + 1) (omega arith)) (at_0 (i + 6) (p + 2) (omega arith)) (at_1 (i + 7) (p + 2) (omega arith)) in
        HasLanes-same 8 all (λ k h.
        (λ j. in_turn k ((pick_0 of_u).each k h j) ((pick_back of_y).each k h j) ((pick_2 of_w).each k h j)) ∙ turns k h)

    pub second : {v : List ℕ} → HasLanes 8 v (λ k. in_turn k (get_or (pick_l 0 (w ++ w) order_2) k 0)
        (get_or (pick_l 0 (u ++ u) order_0) k 0) (get_or (pick_l 0 (y ++ y) back_1) k 0))
        → HasLanes 8 v (λ k. ycc_at n rgb (i + 8 + k))
    second all =
        let turns : (k : ℕ) → k < 8
        → in_turn k (cr_of n rgb (p + get_or order_2 k 0))
        (cb_of n rgb (p + get_or order_0 k 0))
        (luma_of n rgb (p + get_or back_1 k 0))
        ≡ ycc_at n rgb (i + 8 + k) =
        eight _ (at_2 (i + 8 + 0) (p + 2) (omega arith)) (at_0 (i + 8 + 1) (p + 3) (omega arith)) (at_1 (i + 8 + 2) (p + 3) (omega arith)) (at_2 (i + 8 + 3) (p + 3) (omega arith)) (at_0 (i + 8 + 4) (p + 4) (omega arith)) (at_1 (i + 8 + 5) (p + 4) (omega arith)) (at_2 (i + 8 + 6) (p + 4) (omega arith)) (at_0 (i + 8 + 7) (p + 5) (omega arith)) in
        HasLanes-same 8 all (λ k h.
        (λ j. in_turn k ((pick_2 of_w).each k h j) ((pick_0 of_u).each k h j) ((pick_back of_y).each k h j)) ∙ turns k h)

    pub third : {v : List ℕ} → HasLanes 8 v (λ k. in_turn k (get_or (pick_l 0 (y ++ y) back_1) k 0)
        (get_or (pick_l 0 (w ++ w) order_2) k 0) (get_or (pick_l 0 (u ++ u) order_0) k 0))
        → HasLanes 8 v (λ k. ycc_at n rgb (i + 16 + k))
    third all =
        let turns : (k : ℕ) → k < 8
        → in_turn k (luma_of n rgb (p + get_or back_1 k 0))
        (cr_of n rgb (p + get_or order_2 k 0))
        (cb_of n rgb (p + get_or order_0 k 0))
        ≡ ycc_at n rgb (i + 16 + k) =
        eight _ (at_1 (i + 16 + 0) (p + 5) (omega arith)) (at_2 (i + 16 + 1) (p + 5) (omega arith)) (at_0 (i + 16 + 2) (p + 6) (omega arith)) (at_1 (i + 16 + 3) (p + 6) (omega arith)) (at_2 (i + 16 + 4) (p + 6) (omega arith)) (at_0 (i + 16 + 5) (p + 7) (omega arith)) (at_1 (i + 16 + 6) (p + 7) (omega arith)) (at_2 (i + 16 + 7) (p + 7) (omega arith)) in
        HasLanes-same 8 all (λ k h.
        (λ j. in_turn k ((pick_back of_y).each k h j) ((pick_2 of_w).each k h j) ((pick_0 of_u).each k h j)) ∙ turns k h)

-- the lumas of two pairs of columns, for each sample that is at their columns
abbrev pub order_pairs : List ℕ
order_pairs = 1 ∷ 1 ∷ 1 ∷ 3 ∷ 5 ∷ 5 ∷ 5 ∷ 7 ∷ []

pub pair_lumas : (row : List ℕ) (i : ℕ) {v : List ℕ} → i % 4 ≡ 0
    → HasLanes 8 v (λ k. get_or row (i + k) 0)
    → HasLanes 8 (pick_l 0 (v ++ v) order_pairs) (λ k. get_or row (pair_luma (i + k)) 0)
pair_lumas row i {v} begins all =
    HasLanes-same 8
    (HasLanes-pick order_pairs refl tt (eight _ (omega arith) (omega arith) (omega arith) (omega arith) (omega arith) (omega arith) (omega arith) (omega arith)) all)
    (eight _ (ap (λ j. get_or row j 0) (omega arith)) (ap (λ j. get_or row j 0) (omega arith)) (ap (λ j. get_or row j 0) (omega arith)) (ap (λ j. get_or row j 0) (omega arith)) (ap (λ j. get_or row j 0) (omega arith)) (ap (λ j. get_or row j 0) (omega arith)) (ap (λ j. get_or row j 0) (omega arith)) (ap (λ j. get_or row j 0) (omega arith)))
