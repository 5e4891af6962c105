-- What is written of a group is read as it.
use Rattle.std.proofs.Common.{◌≡◌, ℕ, zero, suc, ◌+◌, ◌*◌, ◌/◌, ◌%◌, ◌^◌, ◌<◌, ◌≤◌, Bool, true}
use Rattle.std.proofs.Common.{false, cond, not, ◌||◌, eqb, ltb, List, [], ◌∷◌, ◌++◌, length, map}
use Rattle.std.proofs.Common.{replicate, Result, Ok, Err, append_assoc, refl, sym, ap, ◌∙◌, subst}
use Rattle.std.proofs.Common.{inl, inr, arith}
use Rattle.std.specs.Prelude.{◌⊎◌}
use Rattle.std.specs.Int.{w16, from_be_bytes, to_be_bytes}
use Rattle.std.specs.List.{AllByRecursion, list_all}
use Rattle.std.specs.Cmp.Derive.{both_true}
use Rattle.std.proofs.lemmas.Bool.{eq-eqb, ne_eqb, lt-ltb}
use Rattle.std.proofs.lemmas.List.{length-map}
use Rattle.std.proofs.lemmas.Nat.{from_be_bytes-to_be_bytes_2, pow_pos}
use Rattle.std.proofs.Math.Nat.{pow-suc}
use Rattle.std.proofs.Math.Pow.{pow_mono}
use Rattle.st_format.specs.declared.cell.Cell.{Cell}
use Rattle.st_format.specs.declared.cell.Cell.TheVariants.{Missing, Value, Contested}
use Rattle.st_format.specs.Cell.{is_missing, known_value}
use Rattle.st_format.specs.Samples.{octets_in, values_in}
use Rattle.st_format.proofs.Spelled.{values_in-spelled}
use Rattle.st_format.proofs.SpelledOctets.{Spells-octets_in, length-octets_in}
use Rattle.media_file.specs.declared.fault.FileFault.{FileFault}
use Rattle.media_file.specs.declared.fault.FileFault.TheVariants.{MixedGroup}
use Rattle.media_file.specs.Fields.{field_at}
use Rattle.st_format.specs.Reading.{◌>>=◌}
use Rattle.media_file.specs.Groups.{IsGroup, IsHad, IsShape, Shape, are_zeroed, cells_by}
use Rattle.media_file.specs.Groups.{group_at, group_text, groups_at, groups_text, mask_of}
use Rattle.media_file.specs.Groups.{mixed_by, samples_text}
use Rattle.media_file.proofs.Splits.{field_again}

abbrev Cells : Type 0
Cells = Result (List Cell × List ℕ) FileFault

abbrev mixed : Cells
mixed = Err MixedGroup

abbrev ok_cells : List Cell → List ℕ → Cells
ok_cells cs rest = Ok (cs, rest)

-- a mask's least bit, and the others
low_1 : (m : ℕ) → eqb ((1 + 2 * m) % 2) 1 ≡ true
low_1 m = eq-eqb ((1 + 2 * m) % 2) 1 (omega arith)

low_0 : (m : ℕ) → eqb ((0 + 2 * m) % 2) 1 ≡ false
low_0 m = ne_eqb ((0 + 2 * m) % 2) 1 (λ e. absurd (omega arith))

high_1 : (m : ℕ) → (1 + 2 * m) / 2 ≡ m
high_1 m = omega arith

high_0 : (m : ℕ) → (0 + 2 * m) / 2 ≡ m
high_0 m = omega arith

-- the cells of the mask and the values
cells_again : (bits : ℕ) (cs : List Cell) → AllByRecursion (IsHad bits) cs
    → cells_by (mask_of cs) (map known_value cs) ≡ cs
unfolding cells_by mask_of known_value
cells_again bits [] had = refl
cells_again bits (Missing ∷ cs) had = absurd had.0
cells_again bits (Value v ∷ cs) had =
    ap (λ (b : Bool). cond b Contested (Value v) ∷ cells_by ((0 + 2 * mask_of cs) / 2)
    (map known_value cs)) (low_0 (mask_of cs))
    ∙ ap (λ (m : ℕ). Value v ∷ cells_by m (map known_value cs)) (high_0 (mask_of cs))
    ∙ ap (λ (xs : List Cell). Value v ∷ xs) (cells_again bits cs had.1)
cells_again bits (Contested ∷ cs) had =
    ap (λ (b : Bool). cond b Contested (Value 0) ∷ cells_by ((1 + 2 * mask_of cs) / 2)
    (map known_value cs)) (low_1 (mask_of cs))
    ∙ ap (λ (m : ℕ). Contested ∷ cells_by m (map known_value cs)) (high_1 (mask_of cs))
    ∙ ap (λ (xs : List Cell). Contested ∷ xs) (cells_again bits cs had.1)

zeroed_again : (cs : List Cell) → are_zeroed (mask_of cs) (map known_value cs) ≡ true
unfolding are_zeroed mask_of known_value
zeroed_again [] = refl
zeroed_again (Missing ∷ cs) =
    both_true (ap (λ (b : Bool). not b || true) (low_0 (mask_of cs)))
    (ap (λ (m : ℕ). are_zeroed m (map known_value cs)) (high_0 (mask_of cs)) ∙ zeroed_again cs)
zeroed_again (Value v ∷ cs) =
    both_true (ap (λ (b : Bool). not b || eqb v 0) (low_0 (mask_of cs)))
    (ap (λ (m : ℕ). are_zeroed m (map known_value cs)) (high_0 (mask_of cs)) ∙ zeroed_again cs)
zeroed_again (Contested ∷ cs) =
    both_true (ap (λ (b : Bool). not b || true) (low_1 (mask_of cs)))
    (ap (λ (m : ℕ). are_zeroed m (map known_value cs)) (high_1 (mask_of cs)) ∙ zeroed_again cs)

below_double : (b m k : ℕ) → b < 2 → m < 2 ^ k → b + 2 * m < 2 ^ suc k
below_double b m k lt h = omega (arith, pow-suc 2 k)

-- a mask has no bit beyond its samples
mask_below : (cs : List Cell) → mask_of cs < 2 ^ length cs
unfolding mask_of
mask_below [] = omega arith
mask_below (Missing ∷ cs) = below_double 0 (mask_of cs) (length cs) (omega arith) (mask_below cs)
mask_below (Value v ∷ cs) = below_double 0 (mask_of cs) (length cs) (omega arith) (mask_below cs)
mask_below (Contested ∷ cs) = below_double 1 (mask_of cs) (length cs) (omega arith) (mask_below cs)

-- with no contested sample
plain_again : (bits : ℕ) (cs : List Cell) → AllByRecursion (IsHad bits) cs → mask_of cs ≡ 0
    → map Value (map known_value cs) ≡ cs
unfolding mask_of known_value
plain_again bits [] had e = refl
plain_again bits (Missing ∷ cs) had e = absurd had.0
plain_again bits (Value v ∷ cs) had e =
    ap (λ (xs : List Cell). Value v ∷ xs) (plain_again bits cs had.1 (omega (arith, e)))
plain_again bits (Contested ∷ cs) had e = absurd (omega (arith, e))

values_fit : (bits : ℕ) (cs : List Cell) → AllByRecursion (IsHad bits) cs
    → AllByRecursion (λ (v : ℕ). v < 2 ^ bits) (map known_value cs)
unfolding known_value
values_fit bits [] had = tt
values_fit bits (Missing ∷ cs) had = absurd had.0
values_fit bits (Value v ∷ cs) had = (had.0, values_fit bits cs had.1)
values_fit bits (Contested ∷ cs) had = (pow_pos bits, values_fit bits cs had.1)

-- a group of which nothing is missing isn't told as missing
not_missing : (bits : ℕ) (cs : List Cell) → AllByRecursion (IsHad bits) cs → 0 < length cs
    → list_all is_missing cs ≡ false
not_missing bits [] had some = absurd (omega (arith, some))
not_missing bits (Missing ∷ cs) had some = absurd had.0
not_missing bits (Value v ∷ cs) had some = refl
not_missing bits (Contested ∷ cs) had some = refl

pub all_missing : (n : ℕ) → list_all is_missing (replicate n Missing) ≡ true
all_missing zero = refl
all_missing (suc n) = all_missing n

-- the values of the octets
values_again : (s : Shape) (cs : List Cell) → IsShape s → length cs ≡ s.samples
    → AllByRecursion (IsHad s.bits) cs → values_in s.bits (samples_text s cs) ≡ map known_value cs
values_again s cs is whole had =
    let vs : List ℕ = map known_value cs in
    let len : length vs ≡ s.samples = length-map cs known_value ∙ whole in
    values_in-spelled s.bits (octets_in s.bits vs) vs is.some_bits
    (Spells-octets_in s.bits vs s.octets (ap (λ (k : ℕ). s.bits * k) len ∙ is.octets)
    (values_fit s.bits cs had))

octets_again : (s : Shape) (cs : List Cell) → IsShape s → length cs ≡ s.samples
    → length (samples_text s cs) ≡ s.octets
octets_again s cs is whole =
    length-octets_in s.bits (map known_value cs) s.octets
    (ap (λ (k : ℕ). s.bits * k) (length-map cs known_value ∙ whole) ∙ is.octets)

cases_zero : (n : ℕ) → (n ≡ 0) ⊎ (n ≡ 0 → ⊥)
cases_zero zero = inl refl
cases_zero (suc n) = inr (λ e. omega (arith, e))

-- below a power, and so below a greater one
lt_through : (m k : ℕ) → m < 2 ^ k → k ≤ 16 → m < 2 ^ 16
lt_through m k lt le = omega (arith, pow_mono le)

-- a group without a contested sample
plain_group : (s : Shape) (cs : List Cell) (rest : List ℕ) → IsShape s → length cs ≡ s.samples
    → AllByRecursion (IsHad s.bits) cs → mask_of cs ≡ 0
    → group_at s (1 ∷ (samples_text s cs ++ rest)) ≡ Ok (cs, rest)
unfolding group_at
plain_group s cs rest is whole had none =
    ap (λ (r : Result (List ℕ × List ℕ) FileFault). r >>=
    λ x. ok_cells (map Value (values_in s.bits x.0)) x.1)
    (field_again s.octets (samples_text s cs) rest (octets_again s cs is whole))
    ∙ ap (λ (vs : List ℕ). ok_cells (map Value vs) rest) (values_again s cs is whole had)
    ∙ ap (λ (xs : List Cell). ok_cells xs rest) (plain_again s.bits cs had none)

-- a group with one
mixed_group : (s : Shape) (cs : List Cell) (rest : List ℕ) → IsShape s → length cs ≡ s.samples
    → AllByRecursion (IsHad s.bits) cs → (mask_of cs ≡ 0 → ⊥)
    → group_at s (2 ∷ (to_be_bytes w16 (mask_of cs) ++ (samples_text s cs ++ rest))) ≡ Ok (cs, rest)
unfolding group_at
mixed_group s cs rest is whole had some =
    let m : ℕ = mask_of cs in
    let vs : List ℕ = map known_value cs in
    let below : m < 2 ^ s.samples = subst (λ (k : ℕ). m < 2 ^ k) whole (mask_below cs) in
    let few : m < 2 ^ 16 = lt_through m s.samples below (omega (arith, is.few)) in
    ap (λ (r : Result (List ℕ × List ℕ) FileFault). r >>= λ y. field_at s.octets y.1 >>=
    λ x. mixed_by s (from_be_bytes w16 y.0) (values_in s.bits x.0) x.1)
    (field_again 2 (to_be_bytes w16 m) (samples_text s cs ++ rest) refl)
    ∙ ap
    (λ (r : Result (List ℕ × List ℕ) FileFault). r >>=
    λ x. mixed_by s (from_be_bytes w16 (to_be_bytes w16 m)) (values_in s.bits x.0) x.1)
    (field_again s.octets (samples_text s cs) rest (octets_again s cs is whole))
    ∙ ap (λ (k : ℕ). mixed_by s k (values_in s.bits (samples_text s cs)) rest)
    (from_be_bytes-to_be_bytes_2 m few)
    ∙ ap (λ (xs : List ℕ). mixed_by s m xs rest) (values_again s cs is whole had)
    ∙ ap
    (λ (b : Bool). cond (b || not (ltb m (2 ^ s.samples)) || not (are_zeroed m vs)) mixed
    (ok_cells (cells_by m vs) rest)) (ne_eqb m 0 some)
    ∙ ap
    (λ (b : Bool). cond (not b || not (are_zeroed m vs)) mixed (ok_cells (cells_by m vs) rest))
    (lt-ltb m (2 ^ s.samples) below)
    ∙ ap (λ (b : Bool). cond (not b) mixed (ok_cells (cells_by m vs) rest)) (zeroed_again cs)
    ∙ ap (λ (xs : List Cell). ok_cells xs rest) (cells_again s.bits cs had)

group_had : (s : Shape) (cs : List Cell) (rest : List ℕ) → IsShape s → length cs ≡ s.samples
    → AllByRecursion (IsHad s.bits) cs → group_at s (group_text s cs ++ rest) ≡ Ok (cs, rest)
unfolding group_text
group_had s cs rest is whole had =
    let told : list_all is_missing cs ≡ false =
    not_missing s.bits cs had (omega (arith, is.some)) in
    let start : group_at s (group_text s cs ++ rest)
    ≡ group_at s
    (cond (eqb (mask_of cs) 0) (1 ∷ samples_text s cs)
    (2 ∷ (to_be_bytes w16 (mask_of cs) ++ samples_text s cs)) ++ rest) =
    ap (λ (b : Bool). group_at s
    (cond b (0 ∷ [])
    (cond (eqb (mask_of cs) 0) (1 ∷ samples_text s cs)
    (2 ∷ (to_be_bytes w16 (mask_of cs) ++ samples_text s cs))) ++ rest)) told in
    elim (cases_zero (mask_of cs)) [
      | inl none ↦ start
          ∙ ap
          (λ (b : Bool). group_at s
          (cond b (1 ∷ samples_text s cs)
          (2 ∷ (to_be_bytes w16 (mask_of cs) ++ samples_text s cs)) ++ rest))
          (eq-eqb (mask_of cs) 0 none)
          ∙ plain_group s cs rest is whole had none
      | inr some ↦ start
          ∙ ap
          (λ (b : Bool). group_at s
          (cond b (1 ∷ samples_text s cs)
          (2 ∷ (to_be_bytes w16 (mask_of cs) ++ samples_text s cs)) ++ rest))
          (ne_eqb (mask_of cs) 0 some)
          ∙ mixed_group s cs rest is whole had some
    ]

group_gone : (s : Shape) (rest : List ℕ)
    → group_at s (group_text s (replicate s.samples Missing) ++ rest)
    ≡ Ok (replicate s.samples Missing, rest)
unfolding group_text group_at
group_gone s rest =
    let cs : List Cell = replicate s.samples Missing in
    ap (λ (b : Bool). group_at s
    (cond b (0 ∷ [])
    (cond (eqb (mask_of cs) 0) (1 ∷ samples_text s cs)
    (2 ∷ (to_be_bytes w16 (mask_of cs) ++ samples_text s cs))) ++ rest)) (all_missing s.samples)

-- What is written of a group is read as it.
pub group_again : (s : Shape) (cs : List Cell) (rest : List ℕ) → IsShape s → IsGroup s cs
    → group_at s (group_text s cs ++ rest) ≡ Ok (cs, rest)
group_again s cs rest is g =
    elim g.alike [
      | inl gone ↦ ap (λ (xs : List Cell). group_at s (group_text s xs ++ rest)) gone
          ∙ group_gone s rest ∙ ap (λ (xs : List Cell). ok_cells xs rest) (sym gone)
      | inr had ↦ group_had s cs rest is g.whole had
    ]

abbrev Many : Type 0
Many = Result (List (List Cell) × List ℕ) FileFault

abbrev ok_many : List (List Cell) → List ℕ → Many
ok_many gs rest = Ok (gs, rest)

pub groups_again : (s : Shape) (gs : List (List Cell)) (rest : List ℕ) → IsShape s
    → AllByRecursion (IsGroup s) gs
    → groups_at s (length gs) (groups_text s gs ++ rest) ≡ Ok (gs, rest)
unfolding groups_at
groups_again s [] rest is all = refl
groups_again s (g ∷ gs) rest is all =
    ap (groups_at s (suc (length gs))) (append_assoc (group_text s g) (groups_text s gs) rest)
    ∙ ap (λ (r : Cells). r >>= λ x. groups_at s (length gs) x.1 >>= λ y. ok_many (x.0 ∷ y.0) y.1)
    (group_again s g (groups_text s gs ++ rest) is all.0)
    ∙ ap (λ (r : Many). r >>= λ y. ok_many (g ∷ y.0) y.1) (groups_again s gs rest is all.1)
