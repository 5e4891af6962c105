-- The matrix of parts of a list that begin at a pixel.
use Rattle.std.proofs.Common.{◌≡◌, ℕ, ◌+◌, ◌*◌, ◌/◌, ◌%◌, ◌<◌, List, get_or, take, drop, arith, ap}
use Rattle.std.proofs.Common.{zero, suc, ◌-◌, ◌++◌, ◌==◌, if◌then◌else◌, inl, inr, length, refl, subst, sym, ◌^◌}
use Rattle.std.proofs.lemmas.Bool.{cases_lt}
use Rattle.std.proofs.lemmas.List.{get_or_append_left, get_or-append_right}
use Rattle.lane_kernels.specs.Pixels.{ycc_at}
use Rattle.std.proofs.Common.{◌∙◌}
use Rattle.std.specs.Prelude.{slice_index_or}
use Rattle.std.proofs.lemmas.List.{get_or-drop, get_or-take, length-drop, length-take}
use Rattle.st_format.specs.declared.sampling.Sampling.TheVariants.{Ycc444}
use Rattle.st_format.specs.Position.{component_in_row, run}
use Rattle.bt709_fixed.specs.Operations.{matrix_component, matrixed_at, of_component}

module _ (rgb : List ℕ) (a m i : ℕ) (begins : a % 3 ≡ 0) (ends : m % 3 ≡ 0) (within : i < m) where
  of_pixel : (c : ℕ) → c < 3
      → get_or (take m (drop a rgb)) (3 * (i / 3) + c) 0 ≡ get_or rgb (3 * ((a + i) / 3) + c) 0
  of_pixel c h =
      get_or-take m (drop a rgb) (3 * (i / 3) + c) 0 (omega arith)
      ∙ get_or-drop a rgb (3 * (i / 3) + c) 0
      ∙ ap (λ j. get_or rgb j 0) (omega arith)

  same_component : component_in_row Ycc444 i ≡ component_in_row Ycc444 (a + i)
  same_component = let turn : i % 3 ≡ (a + i) % 3 =
      omega arith in ap (λ j. (slice_index_or (run Ycc444) j (0, 0)).1) turn

  pub matrixed_part : (n : ℕ) → matrixed_at n (take m (drop a rgb)) i ≡ matrixed_at n rgb (a + i)
  matrixed_part n =
      let r = of_pixel 0 (omega arith) in
      let g = of_pixel 1 (omega arith) in
      let b = of_pixel 2 (omega arith) in
      λ j. matrix_component n (same_component j) (r j) (g j) (b j)

of_turn : (t x y z : ℕ) → t < 3
    → (if t == 0 then x else (if t == 1 then y else z))
    ≡ of_component (slice_index_or (run Ycc444) t (0, 0)).1 y x z
of_turn zero x y z h = refl
of_turn (suc zero) x y z h = refl
of_turn (suc (suc zero)) x y z h = refl
of_turn (suc (suc (suc t))) x y z h = absurd (omega arith)

-- Cb, Y and Cr come in this order
pub ycc_matrixed : (n : ℕ) (rgb : List ℕ) (k : ℕ) → ycc_at n rgb k ≡ matrixed_at n rgb k
ycc_matrixed n rgb k = of_turn (k % 3) _ _ _ (omega arith)

-- d samples are made, and ws is made of the s samples behind them
pub matrixed_more : (n : ℕ) (rgb vs ws : List ℕ) (d s m : ℕ) → m ≡ s → d % 3 ≡ 0 → s % 3 ≡ 0
    → length vs ≡ d → length ws ≡ s
    → ((k : ℕ) → k < d → get_or vs k 0 ≡ matrixed_at n rgb k)
    → ((i : ℕ) → i < length ws → get_or ws i 0 ≡ ycc_at n (take m (drop d rgb)) i)
    → (k : ℕ) → k < d + s → get_or (vs ++ ws) k 0 ≡ matrixed_at n rgb k
matrixed_more n rgb vs ws d s m size begins ends long some made each k h = elim (cases_lt k d) [
  | inl l ↦ get_or_append_left vs ws 0 k (omega arith) ∙ made k l
  | inr g ↦
      let i : ℕ = k - d in
      let at : d + i ≡ k = omega arith in
      get_or-append_right vs ws d k 0 long g ∙ each i (omega arith)
      ∙ ycc_matrixed n (take m (drop d rgb)) i
      ∙ matrixed_part rgb d m i begins (omega arith) (omega arith) n
      ∙ ap (matrixed_at n rgb) at
]

pub fits_part : (rgb : List ℕ) (d m n bits : ℕ) → bits ≡ n
    → ((k : ℕ) → k < length rgb → get_or rgb k 0 < 2 ^ n)
    → (k : ℕ) → k < length (take m (drop d rgb)) → get_or (take m (drop d rgb)) k 0 < 2 ^ bits
fits_part rgb d m n bits e each k h =
    let room : k < length rgb - d = omega (arith, length-take m (drop d rgb), length-drop d rgb) in
    let is = get_or-take m (drop d rgb) k 0 (omega (arith, length-take m (drop d rgb)))
    ∙ get_or-drop d rgb k 0 in
    subst (λ n. get_or (take m (drop d rgb)) k 0 < 2 ^ n) (sym e)
    (omega (arith, is, each (d + k) (omega arith)))
