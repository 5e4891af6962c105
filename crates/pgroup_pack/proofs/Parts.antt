-- Parts of octets spell the parts of values that have as many bits.
use Rattle.std.proofs.Common.{◌≡◌, ℕ, zero, suc, ◌*◌, ◌^◌, ◌<◌, ◌≤◌, List, [], ◌∷◌, length, take}
use Rattle.std.proofs.Common.{drop, sym, ap, ◌∙◌}
use Rattle.std.specs.List.{flat_map, AllByRecursion}
use Rattle.std.proofs.lemmas.Grind.{flat_map-append}
use Rattle.std.proofs.lemmas.List.{drop_at, length-take-le, take-append-drop, take_at}
use Rattle.st_format.specs.Samples.{bits, Spells}
use Rattle.st_format.proofs.Spelled.{joined_length}

bits_first : (n a : ℕ) (xs : List ℕ) → a ≤ length xs
    → take (n * a) (flat_map (bits n) xs) ≡ flat_map (bits n) (take a xs)
bits_first n a xs le =
    ap (λ (t : List ℕ). take (n * a) (flat_map (bits n) t)) (sym (take-append-drop a xs))
    ∙ ap (take (n * a)) (flat_map-append (bits n) (take a xs) (drop a xs))
    ∙ take_at (flat_map (bits n) (take a xs)) (flat_map (bits n) (drop a xs)) (n * a)
    (joined_length n (take a xs) ∙ ap (λ (k : ℕ). n * k) (length-take-le a xs le))

bits_rest : (n a : ℕ) (xs : List ℕ) → a ≤ length xs
    → drop (n * a) (flat_map (bits n) xs) ≡ flat_map (bits n) (drop a xs)
bits_rest n a xs le =
    ap (λ (t : List ℕ). drop (n * a) (flat_map (bits n) t)) (sym (take-append-drop a xs))
    ∙ ap (drop (n * a)) (flat_map-append (bits n) (take a xs) (drop a xs))
    ∙ drop_at (flat_map (bits n) (take a xs)) (flat_map (bits n) (drop a xs)) (n * a)
    (joined_length n (take a xs) ∙ ap (λ (k : ℕ). n * k) (length-take-le a xs le))

pub all_first : (P : ℕ → Type 0) (a : ℕ) (xs : List ℕ) → AllByRecursion P xs
    → AllByRecursion P (take a xs)
all_first P zero xs all = tt
all_first P (suc a) [] all = tt
all_first P (suc a) (x ∷ xs) all = (all.0, all_first P a xs all.1)

pub all_rest : (P : ℕ → Type 0) (a : ℕ) (xs : List ℕ) → AllByRecursion P xs
    → AllByRecursion P (drop a xs)
all_rest P zero xs all = all
all_rest P (suc a) [] all = tt
all_rest P (suc a) (x ∷ xs) all = all_rest P a xs all.1

-- the first of them
pub spelled_first : (n a b : ℕ) (os vs : List ℕ) → n * b ≡ 8 * a → a ≤ length os → b ≤ length vs
    → Spells n os vs → Spells n (take a os) (take b vs)
spelled_first n a b os vs e ale ble s = record {
  fit = all_first (λ (v : ℕ). v < 2 ^ n) b vs s.fit;
  same_bits =
      sym (bits_first 8 a os ale) ∙ ap (take (8 * a)) s.same_bits
      ∙ ap (λ (k : ℕ). take k (flat_map (bits n) vs)) (sym e) ∙ bits_first n b vs ble;
}

-- the others
pub spelled_rest : (n a b : ℕ) (os vs : List ℕ) → n * b ≡ 8 * a → a ≤ length os → b ≤ length vs
    → Spells n os vs → Spells n (drop a os) (drop b vs)
spelled_rest n a b os vs e ale ble s = record {
  fit = all_rest (λ (v : ℕ). v < 2 ^ n) b vs s.fit;
  same_bits =
      sym (bits_rest 8 a os ale) ∙ ap (drop (8 * a)) s.same_bits
      ∙ ap (λ (k : ℕ). drop k (flat_map (bits n) vs)) (sym e) ∙ bits_rest n b vs ble;
}
