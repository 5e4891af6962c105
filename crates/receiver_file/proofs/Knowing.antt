-- A group of cells that is read.
use Rattle.std.proofs.Common.{◌≡◌, ℕ, suc, ◌+◌, ◌/◌, ◌%◌, ◌≤◌, Bool, true, false, cond, not}
use Rattle.std.proofs.Common.{◌||◌, eqb, List, [], ◌∷◌, ◌++◌, length, get_or, take}
use Rattle.std.proofs.Common.{drop, refl, sym, ap, ◌∙◌, inl, inr, arith}
use Rattle.std.specs.Int.{bit_at}
use Rattle.std.proofs.lemmas.Bool.{and_from, and_parts, cases_Bool, cases_eq, eq-eqb, eqb-true}
use Rattle.std.proofs.lemmas.Bool.{ne_eqb}
use Rattle.std.proofs.lemmas.List.{length-take-le, take_at, drop_at}
use Rattle.std.proofs.lemmas.Nat.Bits.{bit_at-suc, bit_at-zero, bit_at_lowest, same_from_bits}
use Rattle.st_format.specs.declared.cell.Cell.{Cell}
use Rattle.st_format.specs.declared.cell.Cell.TheVariants.{Value, Contested}
use Rattle.frame_assembly.specs.Rows.{given_cells, given_from, replaced_cells}
use Rattle.pgroup_pack.specs.Groups.{blanked_samples, blanked_from, differs_at}
use Rattle.pgroup_pack.proofs.GroupLemmas.{length-blanked_from}
use Rattle.media_file.specs.Groups.{are_zeroed, cells_by}

-- ---- samples that are 0 where the mask says so

bit_next : (mask i : ℕ) → bit_at mask (i + 1) ≡ bit_at (mask / 2) i
bit_next mask i = let e : i + 1 ≡ suc i = omega arith in ap (bit_at mask) e ∙ bit_at-suc mask i

blanked_next : (mask i : ℕ) (vs : List ℕ)
    → blanked_from mask (i + 1) vs ≡ blanked_from (mask / 2) i vs
blanked_next mask i [] = refl
blanked_next mask i (v ∷ vs) =
    ap (λ (b : ℕ). cond (eqb b 1) 0 v ∷ blanked_from mask (i + 1 + 1) vs) (bit_next mask i)
    ∙ ap (λ (t : List ℕ). cond (eqb (bit_at (mask / 2) i) 1) 0 v ∷ t) (blanked_next mask (i + 1) vs)

-- what is done with the first sample, and with the others
blanked_first : (mask v : ℕ) (vs : List ℕ)
    → blanked_samples mask (v ∷ vs) ≡ cond (eqb (mask % 2) 1) 0 v ∷ blanked_samples (mask / 2) vs
blanked_first mask v vs =
    ap (λ (b : ℕ). cond (eqb b 1) 0 v ∷ blanked_from mask (0 + 1) vs) (bit_at_lowest mask)
    ∙ ap (λ (t : List ℕ). cond (eqb (mask % 2) 1) 0 v ∷ t) (blanked_next mask 0 vs)

first_same : (b : Bool) (v : ℕ) → (not b || eqb v 0) ≡ true → cond b 0 v ≡ v
first_same true v h = sym (eqb-true v 0 h)
first_same false v h = refl

first_zero : (b : Bool) (v : ℕ) → cond b 0 v ≡ v → (not b || eqb v 0) ≡ true
first_zero true v h = eq-eqb v 0 (sym h)
first_zero false v h = refl

pub zeroed_same : (mask : ℕ) (vs : List ℕ) → are_zeroed mask vs ≡ true → blanked_samples mask vs
    ≡ vs
unfolding are_zeroed
zeroed_same mask [] h = refl
zeroed_same mask (v ∷ vs) h =
    let p = and_parts (not (eqb (mask % 2) 1) || eqb v 0) (are_zeroed (mask / 2) vs) h in
    blanked_first mask v vs
    ∙ ap (λ (x : ℕ). x ∷ blanked_samples (mask / 2) vs) (first_same (eqb (mask % 2) 1) v p.0)
    ∙ ap (λ (t : List ℕ). v ∷ t) (zeroed_same (mask / 2) vs p.1)

abbrev head : List ℕ → ℕ
head [] = 0
head (x ∷ xs) = x

same_zeroed : (mask : ℕ) (vs : List ℕ) → blanked_samples mask vs ≡ vs → are_zeroed mask vs ≡ true
unfolding are_zeroed
same_zeroed mask [] h = refl
same_zeroed mask (v ∷ vs) h =
    let e : cond (eqb (mask % 2) 1) 0 v ∷ blanked_samples (mask / 2) vs ≡ v ∷ vs =
    sym (blanked_first mask v vs) ∙ h in
    and_from (not (eqb (mask % 2) 1) || eqb v 0) (are_zeroed (mask / 2) vs)
    (first_zero (eqb (mask % 2) 1) v (ap head e)) (same_zeroed (mask / 2) vs (ap (drop 1) e))

pub none_zeroed : (vs : List ℕ) → are_zeroed 0 vs ≡ true
unfolding are_zeroed
none_zeroed [] = refl
none_zeroed (v ∷ vs) = none_zeroed vs

differs_none : (vs ws : List ℕ) (i : ℕ) → vs ≡ ws → differs_at vs ws i ≡ 0
differs_none vs ws i e =
    ap (λ (b : Bool). let n : ℕ = cond b 0 1 in n)
    (eq-eqb (get_or vs i 0) (get_or ws i 0) (ap (λ (xs : List ℕ). get_or xs i 0) e))

alike_at : (vs ws : List ℕ) (i : ℕ) → differs_at vs ws i ≡ 0 → get_or vs i 0 ≡ get_or ws i 0
alike_at vs ws i e =
    elim (cases_Bool (eqb (get_or vs i 0) (get_or ws i 0))) [
      | inl same ↦ eqb-true (get_or vs i 0) (get_or ws i 0) same
      | inr other ↦ let bad : 1 ≡ 0 =
          ap (λ (b : Bool). let n : ℕ = cond b 0 1 in n) (sym other)
          ∙ e in absurd (omega (arith, bad))
    ]

-- samples that don't differ from what is blanked of them are 0 where the mask says so
pub zeroed_test : (mask d : ℕ) (vs ws : List ℕ) → ((i : ℕ) → bit_at d i ≡ differs_at vs ws i)
    → ws ≡ blanked_samples mask vs → eqb d 0 ≡ are_zeroed mask vs
zeroed_test mask d vs ws bits e =
    elim (cases_Bool (are_zeroed mask vs)) [
      | inl so ↦
          let same : vs ≡ ws = sym (e ∙ zeroed_same mask vs so) in
          let nil : d ≡ 0 =
          same_from_bits d 0 (λ i. bits i ∙ differs_none vs ws i same ∙ sym (bit_at-zero i)) in
          eq-eqb d 0 nil ∙ sym so
      | inr not_so ↦
          elim (cases_eq d 0) [
            | inl nil ↦
                let len : length vs ≡ length ws =
                sym (ap length e ∙ length-blanked_from mask 0 vs) in
                let each : (i : ℕ)
                → get_or vs i 0 ≡ get_or ws i 0 =
                λ i. alike_at vs ws i
                (sym (bits i) ∙ ap (λ (n : ℕ). bit_at n i) nil ∙ bit_at-zero i) in
                let same : vs ≡ ws = same_from_each vs ws len each in
                let bad : true ≡ false = sym (same_zeroed mask vs (sym (same ∙ e))) ∙ not_so in
                absurd cc
            | inr more ↦ ne_eqb d 0 more ∙ sym not_so
          ]
    ]
  where
    same_from_each : (xs ys : List ℕ) → length xs ≡ length ys
        → ((i : ℕ) → get_or xs i 0 ≡ get_or ys i 0) → xs ≡ ys
    same_from_each [] [] len each = refl
    same_from_each [] (y ∷ ys) len each = absurd (omega (arith, len))
    same_from_each (x ∷ xs) [] len each = absurd (omega (arith, len))
    same_from_each (x ∷ xs) (y ∷ ys) len each =
        ap (λ (k : ℕ). k ∷ xs) (each 0)
        ∙ ap (λ (t : List ℕ). y ∷ t)
        (same_from_each xs ys (omega (arith, len)) (λ i. each (suc i)))

-- ---- the cells that a group is given

given_next : (mask i : ℕ) (vs : List ℕ) → given_from mask (i + 1) vs ≡ given_from (mask / 2) i vs
unfolding given_from
given_next mask i [] = refl
given_next mask i (v ∷ vs) =
    ap (λ (b : ℕ). cond (eqb b 1) Contested (Value v) ∷ given_from mask (i + 1 + 1) vs)
    (bit_next mask i)
    ∙ ap (λ (t : List Cell). cond (eqb (bit_at (mask / 2) i) 1) Contested (Value v) ∷ t)
    (given_next mask (i + 1) vs)

pub given_mixed : (mask : ℕ) (vs : List ℕ) → given_cells true mask vs ≡ cells_by mask vs
unfolding given_from cells_by
given_mixed mask [] = refl
given_mixed mask (v ∷ vs) =
    ap (λ (b : ℕ). cond (eqb b 1) Contested (Value v) ∷ given_from mask (0 + 1) vs)
    (bit_at_lowest mask)
    ∙ ap (λ (t : List Cell). cond (eqb (mask % 2) 1) Contested (Value v) ∷ t)
    (given_next mask 0 vs ∙ given_mixed (mask / 2) vs)

-- cells before those that are replaced, and those in their place
pub replaced_before : (k : ℕ) (new cells : List Cell) → k ≤ length cells
    → take k (replaced_cells k new cells) ≡ take k cells
replaced_before k new cells le =
    take_at (take k cells) (new ++ drop (length new) (drop k cells)) k (length-take-le k cells le)

pub replaced_at : (k size : ℕ) (new cells : List Cell) → k ≤ length cells → length new ≡ size
    → take size (drop k (replaced_cells k new cells)) ≡ new
replaced_at k size new cells le len =
    ap (take size)
    (drop_at (take k cells) (new ++ drop (length new) (drop k cells)) k
    (length-take-le k cells le))
    ∙ take_at new (drop (length new) (drop k cells)) size len
