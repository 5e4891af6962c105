-- Pictures of one colour, and one value set.
use Rattle.std.proofs.Common.{◌≡◌, ℕ, zero, suc, ◌/◌, ◌^◌, ◌<◌, refl, sym, ap, ◌∙◌, subst, arith}
use Rattle.std.proofs.Common.{List, [], ◌∷◌, length, get_or, set, map}
use Rattle.std.specs.List.{range_with_len, AllByRecursion}
use Rattle.std.proofs.lemmas.List.{ext_get_or, get_or-set_same, get_or-set_other, get_or_past}
use Rattle.std.proofs.Math.ListN.{length-set}
use Rattle.std.proofs.Math.Nat.{mod-mod_of_dvd, dvd-mul_left}
use Rattle.std.proofs.lemmas.List.FromFn.{get_or-map-range_with_len, length-map-range_with_len}
use Rattle.st_format.specs.declared.format.Format.{Format}
use Rattle.st_format.specs.Pgroup.{bits_of}
use Rattle.st_format.specs.Picture.{Values, IsPicture, FitsDepth, SetsOne, filled_picture}
use Rattle.st_format.specs.Position.{Position, IsPosition, component_in_row, run, run_columns}
use Rattle.st_format.specs.Position.{run_samples, sample_count, place, places, number_of}
use Rattle.st_format.specs.Position.{place_in_row}
use Rattle.st_format.proofs.Numbering.{number_of-below, place-number_of}
use Rattle.st_format.proofs.Rasters.{map-map, map_same}

-- the values that a loop over all numbers has set
pub all_set : (f : ℕ → ℕ) (xs : List ℕ) (n : ℕ) → length xs ≡ n
    → ((i : ℕ) → i < n → get_or xs i 0 ≡ f i) → xs ≡ map f (range_with_len 0 n)
all_set f xs n long each =
    ext_get_or 0 xs (map f (range_with_len 0 n)) (long ∙ sym (length-map-range_with_len f 0 n))
    (λ i lt. let below : i < n =
    omega arith in each i below
    ∙ sym (get_or-map-range_with_len f 0 n i i 0 below (omega arith)))

-- the component at the place of a number
pub component-place : (f : Format) (k : ℕ) → (place f k).component ≡ component_in_row f.sampling k
unfolding place place_in_row
component-place f k =
    ap (λ (n : ℕ). (get_or (run f.sampling) n (0, 0)).1)
    (mod-mod_of_dvd (run_samples f.sampling) k
    (dvd-mul_left (run_samples f.sampling) (f.width / run_columns f.sampling)))

pub filled-samples : (f : Format) (fill : List ℕ)
    → (filled_picture f fill).samples
    ≡ map (λ k. get_or fill (component_in_row f.sampling k) 0) (range_with_len 0 (sample_count f))
filled-samples f fill =
    map-map (λ (p : Position). get_or fill p.component 0) (place f)
    (range_with_len 0 (sample_count f))
    ∙ map_same (λ (k : ℕ). get_or fill (place f k).component 0)
    (λ k. get_or fill (component_in_row f.sampling k) 0) (range_with_len 0 (sample_count f))
    (λ k. ap (λ (c : ℕ). get_or fill c 0) (component-place f k))

-- each of the three values fits, and so do the picture's
fits_each : {X : Type 0} (P : ℕ → Type 0) (g : X → ℕ) (xs : List X) → ((x : X) → P (g x))
    → AllByRecursion P (map g xs)
fits_each P g [] h = tt
fits_each P g (x ∷ xs) h = (h x, fits_each P g xs h)

three_fit : (f : Format) (fill : List ℕ) → length fill ≡ 3 → 0 < 2 ^ bits_of f.depth
    → FitsDepth f (get_or fill 0 0) → FitsDepth f (get_or fill 1 0) → FitsDepth f (get_or fill 2 0)
    → (k : ℕ) → FitsDepth f (get_or fill k 0)
three_fit f fill long some a b c zero = a
three_fit f fill long some a b c (suc zero) = b
three_fit f fill long some a b c (suc (suc zero)) = c
three_fit f fill long some a b c (suc (suc (suc k))) =
    subst (λ (v : ℕ). v < 2 ^ bits_of f.depth)
    (sym (get_or_past fill (suc (suc (suc k))) 0 (omega arith))) some

pub filled-is_picture : (f : Format) (fill : List ℕ) → length fill ≡ 3 → 0 < 2 ^ bits_of f.depth
    → FitsDepth f (get_or fill 0 0) → FitsDepth f (get_or fill 1 0) → FitsDepth f (get_or fill 2 0)
    → IsPicture (filled_picture f fill)
filled-is_picture f fill long some a b c =
    record {
      whole =
          ap length (filled-samples f fill)
          ∙ length-map-range_with_len (λ k. get_or fill (component_in_row f.sampling k) 0) 0
          (sample_count f);
      fit =
          fits_each (FitsDepth f) (λ (p : Position). get_or fill p.component 0) (places f)
          (λ p. three_fit f fill long some a b c p.component);
    }

-- a value set in a picture
fits_set : (P : ℕ → Type 0) (xs : List ℕ) (k v : ℕ) → AllByRecursion P xs → P v
    → AllByRecursion P (set xs k v)
fits_set P [] k v h p = tt
fits_set P (x ∷ xs) zero v h p = (p, h.1)
fits_set P (x ∷ xs) (suc k) v h p = (h.0, fits_set P xs k v h.1 p)

abbrev pub values : Format → List ℕ → Values
values f xs = record { format = f; samples = xs }

abbrev pub with_sample : Values → ℕ → ℕ → Values
with_sample p k v = record { format = p.format; samples = set p.samples k v }

pub sets_one : (p : Values) (q : Position) (v : ℕ) → IsPicture p → IsPosition q p.format
    → SetsOne p (with_sample p (number_of p.format q) v) q v
sets_one p q v is at =
    let k : ℕ = number_of p.format q in
    let below : k < length p.samples =
    subst (λ (n : ℕ). k < n) (sym is.whole) (number_of-below p.format q at) in
    record {
      format = refl;
      changed = get_or-set_same p.samples k v 0 below;
      others = λ r there other. get_or-set_other p.samples k (number_of p.format r) v 0
          (λ e. other
          (sym (place-number_of p.format r there) ∙ ap (place p.format) e
          ∙ place-number_of p.format q at));
    }

pub set-is_picture : (p : Values) (k v : ℕ) → IsPicture p → FitsDepth p.format v
    → IsPicture (with_sample p k v)
set-is_picture p k v is fits = record {
  whole = length-set p.samples k v ∙ is.whole;
  fit = fits_set (FitsDepth p.format) p.samples k v is.fit fits;
}

pub same_values : (f g : Format) (xs ys : List ℕ) → f ≡ g → xs ≡ ys → values f xs ≡ values g ys
same_values f g xs ys e h = λ i. values (e i) (h i)
