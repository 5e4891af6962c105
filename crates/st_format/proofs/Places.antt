-- The positions of a format are the places of its sample numbers, each once.
use Rattle.std.proofs.Common.{◌≡◌, ℕ, zero, suc, ◌+◌, ◌*◌, ◌/◌, ◌%◌, ◌<◌, ◌≤◌, inl, inr, refl, sym}
use Rattle.std.proofs.Common.{ap, ◌∙◌, subst, arith, ◌↔◌}
use Rattle.std.specs.List.{range_with_len}
use Rattle.std.proofs.lemmas.Nat.{mod_below, div_below, mul-add-lt}
use Rattle.std.proofs.Math.Nat.{mul_comm}
use Rattle.st_format.specs.declared.sampling.Sampling.{Sampling}
use Rattle.st_format.specs.declared.sampling.Sampling.TheVariants.{Ycc422, Ycc444, Rgb}
use Rattle.st_format.specs.declared.format.Format.{Format}
use Rattle.st_format.specs.Member.{IsMember}
use Rattle.st_format.specs.Position.{Position, HasComponent, IsPosition, run_columns, run_samples}
use Rattle.st_format.specs.Position.{row_samples, sample_count, place_in_row, place, places}
use Rattle.st_format.specs.Position.{number_of}
use Rattle.st_format.proofs.Members.{member-map, member_of_map}
use Rattle.st_format.proofs.Numbering.{InRun, in_run, some_samples, sample_of, whole_runs}
use Rattle.st_format.proofs.Numbering.{number_of-place, number_of-below, place-number_of}

-- runs before it change no component
moved : (s : Sampling) (q column component : ℕ) → HasComponent s column component
    → HasComponent s (q * run_columns s + column) component
moved Ycc422 q column component c = (c.0, elim c.1 [ inl e ↦ inl e | inr e ↦ inr (omega arith) ])
moved Ycc444 q column component c = c
moved Rgb q column component c = c

row_below : (f : Format) (k : ℕ) → k < sample_count f → 0 < row_samples f
row_below f k below = some (row_samples f) refl where
  some : (n : ℕ) → row_samples f ≡ n → 0 < n
  some zero e = absurd (omega (arith, below, ap (λ (m : ℕ). f.height * m) e))
  some (suc n) e = omega arith

-- the place of a sample number is a position
pub place-is_position : (f : Format) (k : ℕ) → k < sample_count f → IsPosition (place f k) f
unfolding place place_in_row
place-is_position f k below =
    let s : Sampling = f.sampling in
    let w : ℕ = row_samples f in
    let j : ℕ = k % w in
    let i : ℕ = j % run_samples s in
    let r : InRun s i = in_run s i (mod_below j (run_samples s) (some_samples s)) in
    let inside : j < f.width / run_columns s * run_samples s =
    mod_below k w (row_below f k below) in
    let q : j / run_samples s < f.width / run_columns s =
    div_below j (run_samples s) (f.width / run_columns s) (some_samples s) inside in
    let column : j / run_samples s * run_columns s + (sample_of s i).0
    < f.width / run_columns s * run_columns s =
    rw (mul_comm (f.width / run_columns s) (run_columns s))
    (mul-add-lt (j / run_samples s) (run_columns s) (sample_of s i).0
    (f.width / run_columns s) q r.column) in
    record {
      row = div_below k w f.height (row_below f k below) below;
      column =
          subst (λ (n : ℕ). j / run_samples s * run_columns s + (sample_of s i).0 < n)
          (whole_runs s f.width f.whole_width.even) column;
      component = moved s (j / run_samples s) (sample_of s i).0 (sample_of s i).1 r.component;
    }

-- two numbers with one place are one
pub place-injective : (f : Format) (i j : ℕ) → place f i ≡ place f j → i ≡ j
place-injective f i j e = sym (number_of-place f i) ∙ ap (number_of f) e ∙ number_of-place f j

-- members of a range
pub member-range : (a n k : ℕ) → IsMember k (range_with_len a n) → (a ≤ k) × (k < a + n)
member-range a zero k m = absurd m
member-range a (suc n) k (inl e) = (omega arith, omega arith)
member-range a (suc n) k (inr m) = let r =
    member-range (a + 1) n k m in (omega (arith, r.0), omega (arith, r.1))

pub member_of_range : (a n k d : ℕ) → k ≡ a + d → d < n → IsMember k (range_with_len a n)
member_of_range a zero k d e lt = absurd (omega arith)
member_of_range a (suc n) k zero e lt = inl (omega arith)
member_of_range a (suc n) k (suc d) e lt =
    inr (member_of_range (a + 1) n k d (omega arith) (omega arith))

-- The places are the positions.
pub member-places : (f : Format) (p : Position) → IsMember p (places f) ↔ IsPosition p f
member-places f p = (
  λ m.
      let r = member-map (place f) p (range_with_len 0 (sample_count f)) m in
      let below : r.0 < sample_count f =
      omega (arith, (member-range 0 (sample_count f) r.0 r.1).1) in
      subst (λ (q : Position). IsPosition q f) (sym r.2) (place-is_position f r.0 below),
  λ is.
      subst (λ (q : Position). IsMember q (places f)) (place-number_of f p is)
      (member_of_map (place f) (number_of f p) (range_with_len 0 (sample_count f))
      (member_of_range 0 (sample_count f) (number_of f p) (number_of f p) (omega arith)
      (number_of-below f p is))),
)
