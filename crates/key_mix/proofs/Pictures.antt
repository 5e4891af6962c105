-- From sample numbers to the pictures of wipe and key.
use Rattle.std.proofs.Common.{◌≡◌, ℕ, ◌^◌, ◌<◌, ◌≤◌, List, get_or, length, min, refl, arith, sym}
use Rattle.std.proofs.Common.{subst, ◌∙◌}
use Rattle.st_format.specs.declared.sampling.Depth.{Depth}
use Rattle.st_format.specs.declared.sampling.Depth.TheVariants.{D8, D10, D12, D16}
use Rattle.st_format.specs.Pgroup.{bits_of}
use Rattle.st_format.specs.Picture.{FitsDepth, IsPicture, Values}
use Rattle.st_format.specs.Position.{number_of, place, sample_count}
use Rattle.st_format.proofs.Numbering.{number_of-below, place-number_of}
use Rattle.lane_kernels.specs.Formulas.{full_key, key, key_of, weight, wipe}
use Rattle.bt709_fixed.specs.Operations.{IsOf}
use Rattle.bt709_fixed.proofs.Made.{all_from_each}
use Rattle.bt709_fixed.proofs.Thinned.{value_fits}
use Rattle.key_mix.specs.Jobs.{along, key_value, wipe_value}
use Rattle.key_mix.specs.Rows.{keyed_at, luma_number, wiped_at}
use Rattle.key_mix.specs.declared.WipeShape.{WipeShape}
use Rattle.key_mix.proofs.Mixed.{key_below, weight_most, wipe_below}

pub wiped_picture : (w : WipeShape) (a b : Values) (new : List ℕ) → a.format ≡ b.format
    → IsPicture a → IsPicture b
    → length new ≡ sample_count a.format
    → ((k : ℕ) → k < length new → get_or new k 0 ≡ wiped_at w a.format a.samples b.samples k)
    → IsPicture (record { format = a.format; samples = new })
    × IsOf a.format (wipe_value w a b) (record { format = a.format; samples = new })
wiped_picture w a b new same of_a of_b whole each =
    let m : ℕ = 2 ^ bits_of a.format.depth in (
      record {
        whole = whole;
        fit = all_from_each (FitsDepth a.format) new (λ k h.
            let fits_b =
            subst (λ f. get_or b.samples k 0 < 2 ^ bits_of f.depth) (sym same)
            (value_fits b k of_b) in
            let x = weight (along w.axis (place a.format k)) w.position w.soft in
            subst (λ x. x < m) (sym (each k h))
            (wipe_below m (get_or a.samples k 0) (get_or b.samples k 0) x
            (value_fits a k of_a) fits_b
            (weight_most (along w.axis (place a.format k)) w.position w.soft)));
      },
      record {
        format = refl;
        each = λ at h.
            let k = number_of a.format at in
            let below = number_of-below a.format at h in
            let there = place-number_of a.format at h in
            each k (omega (arith, below, whole))
            ∙ (λ i. wipe (get_or a.samples k 0) (get_or b.samples (number_of (same i) at) 0)
            (weight (along w.axis (there i)) w.position w.soft));
      },
    )

some_key : (d : Depth) → 1 ≤ full_key (bits_of d)
some_key D8 = omega arith
some_key D10 = omega arith
some_key D12 = omega arith
some_key D16 = omega arith

pub key_most : (p y : ℕ) → min p y ≤ p
key_most p y = omega arith

pub keyed_picture : (a b k : Values) (new : List ℕ) → a.format ≡ b.format → IsPicture a
    → IsPicture b
    → length new ≡ sample_count a.format
    → ((i : ℕ) → i < length new
    → get_or new i 0 ≡ keyed_at a.format k.format a.samples b.samples k.samples i)
    → IsPicture (record { format = a.format; samples = new })
    × IsOf a.format (key_value a b k) (record { format = a.format; samples = new })
keyed_picture a b k new same of_a of_b whole each =
    let n : ℕ = bits_of a.format.depth in
    let m : ℕ = 2 ^ n in (
      record {
        whole = whole;
        fit = all_from_each (FitsDepth a.format) new (λ i h.
            let fits_b =
            subst (λ f. get_or b.samples i 0 < 2 ^ bits_of f.depth) (sym same)
            (value_fits b i of_b) in
            let y = key_of n (get_or k.samples (luma_number k.format (place a.format i)) 0) in
            subst (λ x. x < m) (sym (each i h))
            (key_below m (full_key n) (get_or a.samples i 0) (get_or b.samples i 0) y
            (some_key a.format.depth) (value_fits a i of_a) fits_b (key_most (full_key n) _)));
      },
      record {
        format = refl;
        each = λ at h.
            let j = number_of a.format at in
            let below = number_of-below a.format at h in
            let there = place-number_of a.format at h in
            each j (omega (arith, below, whole))
            ∙ (λ i. key (full_key n) (get_or a.samples j 0)
            (get_or b.samples (number_of (same i) at) 0)
            (key_of n (get_or k.samples (luma_number k.format (there i)) 0)));
      },
    )
