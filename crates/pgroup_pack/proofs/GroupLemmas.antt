-- The samples of one pgroup: which differ, and which are blanked.
use Rattle.std.proofs.Common.{◌≡◌, ℕ, zero, suc, ◌+◌, ◌*◌, ◌^◌, ◌%◌, ◌<◌, ◌≤◌, Bool, true, false}
use Rattle.std.proofs.Common.{◌==◌, if◌then◌else◌, List, [], ◌∷◌, ◌++◌, length, get_or, set, take}
use Rattle.std.proofs.Common.{drop, bit_or, refl, sym, ap, ◌∙◌, inl, inr, arith, w16, append_assoc}
use Rattle.std.specs.Int.{bit_at}
use Rattle.std.specs.List.{AllByRecursion}
use Rattle.std.proofs.lemmas.Bool.{eq-eqb, ne_eqb, cases_eq, cases_lt}
use Rattle.std.proofs.lemmas.List.{drop_more, take_more, length-take-le}
use Rattle.std.proofs.lemmas.Nat.Bits.{bit_at_set_same, bit_at_set_other}
use Rattle.pgroup_pack.specs.Groups.{differs_at, blanked_samples, blanked_from}

-- bits below i say which samples differ, and none from i on is set
pub record Differ (left right : List ℕ) (i word : ℕ) : Type 0 where
  pub before : (k : ℕ) → k < i → bit_at word k ≡ differs_at left right k
  pub behind : (k : ℕ) → i ≤ k → bit_at word k ≡ 0

pub unlike_more : (left right : List ℕ) (i word new : ℕ) → i < 16 → Differ left right i word
    → (get_or left i 0 ≡ get_or right i 0 → ⊥)
    → new ≡ bit_or word (1 * 2 ^ i % 2 ^ 16) → Differ left right (i + 1) new
unlike_more left right i word new room so_far unlike is = record {
  before = λ k lt. elim (cases_eq k i) [
    | inl e ↦ ap (λ (w : ℕ). bit_at w k) is
        ∙ ap (λ (j : ℕ). bit_at (bit_or word (1 * 2 ^ i % 2 ^ 16)) j) e
        ∙ bit_at_set_same w16 word i room
        ∙ ap (λ (b : Bool). if b then 0 else 1)
        (sym (ne_eqb (get_or left i 0) (get_or right i 0) unlike))
        ∙ ap (differs_at left right) (sym e)
    | inr ne ↦ ap (λ (w : ℕ). bit_at w k) is ∙ bit_at_set_other w16 word i room k ne
        ∙ so_far.before k (omega arith)
  ];
  behind = λ k le. let ne : k ≡ i → ⊥ = λ e. absurd (omega arith) in
      ap (λ (w : ℕ). bit_at w k) is ∙ bit_at_set_other w16 word i room k ne
      ∙ so_far.behind k (omega arith);
}

pub alike_more : (left right : List ℕ) (i word : ℕ) → Differ left right i word
    → get_or left i 0 ≡ get_or right i 0 → Differ left right (i + 1) word
alike_more left right i word so_far alike = record {
  before = λ k lt. elim (cases_eq k i) [
    | inl e ↦ so_far.behind k (omega arith)
        ∙ ap (λ (b : Bool). if b then 0 else 1)
        (sym (eq-eqb (get_or left i 0) (get_or right i 0) alike))
        ∙ ap (differs_at left right) (sym e)
    | inr ne ↦ so_far.before k (omega arith)
  ];
  behind = λ k le. so_far.behind k (omega arith);
}

pub past : (xs : List ℕ) (k : ℕ) → length xs ≤ k → get_or xs k 0 ≡ 0
past [] k le = refl
past (x ∷ xs) zero le = absurd (omega arith)
past (x ∷ xs) (suc k) le = past xs k (omega arith)

-- behind the last sample none differs
pub all_differ : (left right : List ℕ) (i word : ℕ) → length left ≡ length right → length left ≤ i
    → Differ left right i word
    → (k : ℕ) → bit_at word k ≡ differs_at left right k
all_differ left right i word long end so_far k = elim (cases_lt k i) [
  | inl lt ↦ so_far.before k lt
  | inr ge ↦ so_far.behind k ge
      ∙ ap (λ (b : Bool). if b then 0 else 1)
      (sym (eq-eqb (get_or left k 0) (get_or right k 0)
      (past left k (omega arith) ∙ sym (past right k (omega arith)))))
]

-- ---- blanked samples

pub length-blanked_from : (mask i : ℕ) (vs : List ℕ) → length (blanked_from mask i vs) ≡ length vs
length-blanked_from mask i [] = refl
length-blanked_from mask i (v ∷ vs) = ap suc (length-blanked_from mask (i + 1) vs)

-- one sample more
pub blanked_from-more : (mask i : ℕ) (vs : List ℕ) (v : ℕ)
    → blanked_from mask i (vs ++ v ∷ [])
    ≡ blanked_from mask i vs ++ (if bit_at mask (i + length vs) == 1 then 0 else v) ∷ []
blanked_from-more mask i [] v = let e : i + 0 ≡ i = omega arith in rw e refl
blanked_from-more mask i (w ∷ vs) v =
    let e : i + 1 + length vs ≡ i + suc (length vs) = omega arith in
    let here : ℕ = if bit_at mask i == 1 then 0 else w in
    ap (λ (xs : List ℕ). here ∷ xs)
    (blanked_from-more mask (i + 1) vs v
    ∙ ap
    (λ (j : ℕ). blanked_from mask (i + 1) vs ++ (if bit_at mask j == 1 then 0 else v) ∷ []) e)

-- writing at the end of the first part
set_seam : (xs ys : List ℕ) (x v : ℕ) → set (xs ++ x ∷ ys) (length xs) v ≡ xs ++ v ∷ ys
set_seam [] ys x v = refl
set_seam (w ∷ xs) ys x v = ap (λ (zs : List ℕ). w ∷ zs) (set_seam xs ys x v)

read_seam : (xs ys : List ℕ) (x : ℕ) → get_or (xs ++ x ∷ ys) (length xs) 0 ≡ x
read_seam [] ys x = refl
read_seam (w ∷ xs) ys x = read_seam xs ys x

pub blank_more : (mask i v : ℕ) (old now : List ℕ) → i < length old
    → now ≡ blanked_samples mask (take i old) ++ drop i old
    → v ≡ (if bit_at mask i == 1 then 0 else get_or now i 0)
    → set now i v ≡ blanked_samples mask (take (i + 1) old) ++ drop (i + 1) old
blank_more mask i v old now lt so_far is =
    let x : ℕ = get_or old i 0 in
    let front : List ℕ = blanked_samples mask (take i old) in
    let long : length front ≡ i =
    length-blanked_from mask 0 (take i old) ∙ length-take-le i old (omega arith) in
    let split : now ≡ front ++ x ∷ drop (i + 1) old =
    so_far ∙ ap (λ (xs : List ℕ). front ++ xs) (drop_more old i 0 lt) in
    let read : get_or now i 0 ≡ x = ap (λ (xs : List ℕ). get_or xs i 0) split
    ∙ ap (λ (j : ℕ). get_or (front ++ x ∷ drop (i + 1) old) j 0) (sym long)
    ∙ read_seam front (drop (i + 1) old) x in
    let value : v ≡ (if bit_at mask i == 1 then 0 else x) =
    is ∙ ap (λ (y : ℕ). if bit_at mask i == 1 then 0 else y) read in
    let written : set now i v ≡ front ++ v ∷ drop (i + 1) old =
    ap (λ (xs : List ℕ). set xs i v) split
    ∙ ap (λ (j : ℕ). set (front ++ x ∷ drop (i + 1) old) j v) (sym long)
    ∙ set_seam front (drop (i + 1) old) x v in
    let place : 0 + length (take i old) ≡ i = omega (arith, length-take-le i old) in
    let more : blanked_samples mask (take (i + 1) old) ≡ front ++ v ∷ [] =
    ap (blanked_samples mask) (take_more old i 0 lt) ∙ blanked_from-more mask 0 (take i old) x
    ∙ ap (λ (j : ℕ). front ++ (if bit_at mask j == 1 then 0 else x) ∷ []) place
    ∙ ap (λ (y : ℕ). front ++ y ∷ []) (sym value) in
    written ∙ sym
    (ap (λ (xs : List ℕ). xs ++ drop (i + 1) old) more
    ∙ append_assoc front (v ∷ []) (drop (i + 1) old))

-- blanked samples fit where samples do
if_fits : (n v : ℕ) (b : Bool) → v < 2 ^ n → (if b then 0 else v) < 2 ^ n
if_fits n v true lt = omega arith
if_fits n v false lt = lt

pub blanked_from-fit : (n mask i : ℕ) (vs : List ℕ) → AllByRecursion (λ v. v < 2 ^ n) vs
    → (k d : ℕ) → k < length (blanked_from mask i vs) → get_or (blanked_from mask i vs) k d < 2 ^ n
blanked_from-fit n mask i [] fit k d lt = absurd (omega arith)
blanked_from-fit n mask i (v ∷ vs) fit zero d lt = if_fits n v (bit_at mask i == 1) fit.0
blanked_from-fit n mask i (v ∷ vs) fit (suc k) d lt =
    blanked_from-fit n mask (i + 1) vs fit.1 k d (omega arith)
