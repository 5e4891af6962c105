-- Which samples of a row are Y or R.
use Rattle.std.proofs.Common.{◌≡◌, ◌↔◌, ℕ, zero, suc, ◌%◌, ◌<◌, arith, refl}
use Rattle.std.specs.Prelude.{slice_index_or}
use Rattle.st_format.specs.declared.sampling.Sampling.TheVariants.{Ycc422, Ycc444, Rgb}
use Rattle.st_format.specs.Position.{component_in_row, run}

in_pairs : (r : ℕ) → r < 4 → (r % 2 ≡ 1) ↔ ((slice_index_or (run Ycc422) r (0, 0)).1 ≡ 0)
in_pairs zero h = (λ e. absurd (omega (arith, e)), λ e. absurd (omega (arith, e)))
in_pairs (suc zero) h = (λ e. refl, λ e. refl)
in_pairs (suc (suc zero)) h = (λ e. absurd (omega (arith, e)), λ e. absurd (omega (arith, e)))
in_pairs (suc (suc (suc zero))) h = (λ e. refl, λ e. refl)
in_pairs (suc (suc (suc (suc r)))) h = absurd (omega (arith, h))

pub first_pairs : (j : ℕ) → (j % 2 ≡ 1) ↔ (component_in_row Ycc422 j ≡ 0)
first_pairs j =
    let of : (j % 4 % 2 ≡ 1) ↔ (component_in_row Ycc422 j ≡ 0) =
    in_pairs (j % 4) (omega arith) in
    (λ e. of.0 (omega (arith, e)), λ e. (omega (arith, of.1 e)))

in_pixels : (r : ℕ) → r < 3 → (r ≡ 1) ↔ ((slice_index_or (run Ycc444) r (0, 0)).1 ≡ 0)
in_pixels zero h = (λ e. absurd (omega (arith, e)), λ e. absurd (omega (arith, e)))
in_pixels (suc zero) h = (λ e. refl, λ e. refl)
in_pixels (suc (suc zero)) h = (λ e. absurd (omega (arith, e)), λ e. absurd (omega (arith, e)))
in_pixels (suc (suc (suc r))) h = absurd (omega (arith, h))

in_rgb : (r : ℕ) → r < 3 → (r ≡ 0) ↔ ((slice_index_or (run Rgb) r (0, 0)).1 ≡ 0)
in_rgb zero h = (λ e. refl, λ e. refl)
in_rgb (suc zero) h = (λ e. absurd (omega (arith, e)), λ e. absurd (omega (arith, e)))
in_rgb (suc (suc zero)) h = (λ e. absurd (omega (arith, e)), λ e. absurd (omega (arith, e)))
in_rgb (suc (suc (suc r))) h = absurd (omega (arith, h))

pub first_pixels : (j : ℕ) → (j % 3 ≡ 1) ↔ (component_in_row Ycc444 j ≡ 0)
first_pixels j = in_pixels (j % 3) (omega arith)

pub first_rgb : (j : ℕ) → (j % 3 ≡ 0) ↔ (component_in_row Rgb j ≡ 0)
first_rgb j = in_rgb (j % 3) (omega arith)

-- which samples are Y or R
pub ruleset firsts = (first_pairs, first_pixels, first_rgb)
