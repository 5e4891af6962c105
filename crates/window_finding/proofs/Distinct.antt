-- One timestamp more among different ones.
use Rattle.std.proofs.Common.{◌≡◌, ℕ, ◌≤◌, ◌<◌, Bool, true, false, List, [], ◌∷◌, ◌++◌}
use Rattle.std.proofs.Common.{length, take, refl, sym, ap, ◌∙◌, arith, cond}
use Rattle.std.proofs.Common.{append-nil, append_assoc, length-append}
use Rattle.std.proofs.lemmas.Bool.{eqb-true}
use Rattle.std.proofs.lemmas.List.{length-take, take_all, take-append-le}
use Rattle.std.proofs.lemmas.List.Elements.{filter-append}
use Rattle.std.specs.Prelude.{◌==◌, ◌||◌, not}
use Rattle.std.specs.List.{filter, list_any}
use Rattle.window_finding.specs.First.{distinct}

-- what is not another number
abbrev without : ℕ → List ℕ → List ℕ
without x xs = filter (λ u. not (x == u)) xs

-- whether a number stands in a list
abbrev pub has : ℕ → List ℕ → Bool
has t xs = list_any (λ u. u == t) xs

-- where two numbers differ, without one the other stands there as before
has_still : (x t : ℕ) (xs : List ℕ) → (x == t) ≡ false → has t (without x xs) ≡ has t xs
has_still x t [] apart = refl
has_still x t (u ∷ xs) apart = one x t u xs apart (has_still x t xs apart) (x == u) refl
  where
    one : (x t u : ℕ) (xs : List ℕ) → (x == t) ≡ false → has t (without x xs) ≡ has t xs
        → (b : Bool) → (x == u) ≡ b
        → has t (cond (not b) (u ∷ without x xs) (without x xs)) ≡ ((u == t) || has t xs)
    one x t u xs apart rest true is =
        rest
        ∙ ap (λ (b : Bool). b || has t xs)
        (sym (ap (λ (n : ℕ). n == t) (sym (eqb-true x u is)) ∙ apart))
    one x t u xs apart rest false is = ap (λ (b : Bool). (u == t) || b) rest

-- one more, where it is not there yet
abbrev pub new_in : ℕ → List ℕ → List ℕ
new_in t xs = cond (has t xs) [] (t ∷ [])

new_without : (x t : ℕ) (xs : List ℕ) → without x (new_in t xs) ≡ new_in t (x ∷ without x xs)
new_without x t xs = by (x == t) refl
  where
    same : (c : Bool) → (x == t) ≡ true → without x (cond c [] (t ∷ [])) ≡ []
    same true is = refl
    same false is = ap (λ (b : Bool). cond (not b) (t ∷ []) []) is

    other : (c : Bool) → (x == t) ≡ false → without x (cond c [] (t ∷ [])) ≡ cond c [] (t ∷ [])
    other true is = refl
    other false is = ap (λ (b : Bool). cond (not b) (t ∷ []) []) is

    by : (b : Bool) → (x == t) ≡ b
        → without x (new_in t xs) ≡ cond (b || has t (without x xs)) [] (t ∷ [])
    by true is = same (has t xs) is
    by false is =
        other (has t xs) is ∙ ap (λ (c : Bool). cond c [] (t ∷ [])) (sym (has_still x t xs is))

pub distinct_more : (xs : List ℕ) (t : ℕ)
    → distinct (xs ++ t ∷ []) ≡ distinct xs ++ new_in t (distinct xs)
distinct_more [] t = refl
distinct_more (x ∷ xs) t =
    let before : List ℕ = distinct xs in
    ap (λ (l : List ℕ). x ∷ l)
    (ap (λ (l : List ℕ). without x l) (distinct_more xs t)
    ∙ filter-append (λ u. not (x == u)) before (new_in t before)
    ∙ ap (λ (l : List ℕ). without x before ++ l) (new_without x t before))

-- those of a list stand at the front of those of a longer one
pub distinct_on : (xs more : List ℕ)
    → (rest : List ℕ) × (distinct (xs ++ more) ≡ distinct xs ++ rest)
distinct_on xs [] = (
  [],
  ap (λ (l : List ℕ). distinct l) (append-nil xs)
      ∙ sym (append-nil (distinct xs)),
)
distinct_on xs (t ∷ more) =
    let behind : (rest : List ℕ)
    × (distinct ((xs ++ t ∷ []) ++ more) ≡ distinct (xs ++ t ∷ []) ++ rest) =
    distinct_on (xs ++ t ∷ []) more in (
      new_in t (distinct xs) ++ behind.0,
      ap (λ (l : List ℕ). distinct l) (sym (append_assoc xs (t ∷ []) more))
          ∙ behind.1
          ∙ ap (λ (l : List ℕ). l ++ behind.0) (distinct_more xs t)
          ∙ append_assoc (distinct xs) (new_in t (distinct xs)) behind.0,
    )

-- ---- the first so many

-- of at least so many, they stay
pub full_stays : (n : ℕ) (w xs more : List ℕ) → w ≡ take n (distinct xs) → n ≤ length w
    → w ≡ take n (distinct (xs ++ more))
full_stays n w xs more is full =
    let on : (rest : List ℕ) × (distinct (xs ++ more) ≡ distinct xs ++ rest) =
    distinct_on xs more in
    let long : n ≤ length (distinct xs) =
    omega (arith, full, ap (λ (l : List ℕ). length l) is, length-take n (distinct xs)) in
    is
    ∙ sym (take-append-le n (distinct xs) on.0 long)
    ∙ ap (take n) (sym on.1)

-- fewer are all
few_all : (n : ℕ) (w xs : List ℕ) → w ≡ take n (distinct xs) → length w < n → w ≡ distinct xs
few_all n w xs is few =
    is
    ∙ take_all n (distinct xs)
    (omega (arith, few, ap (λ (l : List ℕ). length l) is, length-take n (distinct xs)))

-- one that is known adds none
pub known_stays : (n : ℕ) (w xs : List ℕ) (t : ℕ) → w ≡ take n (distinct xs) → length w < n
    → has t w ≡ true → w ≡ take n (distinct (xs ++ t ∷ []))
known_stays n w xs t is few known =
    let all : w ≡ distinct xs = few_all n w xs is few in
    let none : new_in t (distinct xs) ≡ [] =
    ap (λ (l : List ℕ). new_in t l) (sym all) ∙ ap (λ (b : Bool). cond b [] (t ∷ [])) known in
    is
    ∙ ap (take n)
    (sym (distinct_more xs t ∙ ap (λ (l : List ℕ). distinct xs ++ l) none
    ∙ append-nil (distinct xs)))

-- and a new one comes behind them
pub new_comes : (n : ℕ) (w xs : List ℕ) (t : ℕ) → w ≡ take n (distinct xs) → length w < n
    → has t w ≡ false → w ++ t ∷ [] ≡ take n (distinct (xs ++ t ∷ []))
new_comes n w xs t is few unknown =
    let all : w ≡ distinct xs = few_all n w xs is few in
    let one : new_in t (distinct xs) ≡ t ∷ [] =
    ap (λ (l : List ℕ). new_in t l) (sym all) ∙ ap (λ (b : Bool). cond b [] (t ∷ [])) unknown in
    let more : distinct (xs ++ t ∷ []) ≡ w ++ t ∷ [] =
    distinct_more xs t ∙ ap (λ (l : List ℕ). distinct xs ++ l) one
    ∙ ap (λ (l : List ℕ). l ++ t ∷ []) (sym all) in
    sym (ap (take n) more
    ∙ take_all n (w ++ t ∷ []) (omega (arith, few, length-append w (t ∷ []))))
