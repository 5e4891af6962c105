-- Texts of numbers, one after the other.
use Rattle.std.proofs.Common.{◌≡◌, ℕ, zero, suc, ◌+◌, ◌-◌, ◌<◌, ◌≤◌, List, [], ◌∷◌, ◌++◌, length}
use Rattle.std.proofs.Common.{drop, get_or, refl, ap, ◌∙◌, arith}
use Rattle.std.specs.List.{flat_map, range_with_len}
use Rattle.std.proofs.lemmas.List.{drop_all, drop_more}

-- the texts of the numbers from i up to n
abbrev pub texts_from : (ℕ → List ℕ) → ℕ → ℕ → List ℕ
texts_from f i n = flat_map f (range_with_len i (n - i))

pub texts_here : (f : ℕ → List ℕ) (i n : ℕ) → i < n
    → texts_from f i n ≡ f i ++ texts_from f (i + 1) n
texts_here f i n lt =
    let e : n - i ≡ suc (n - (i + 1)) = omega (arith, lt) in
    ap (λ (k : ℕ). flat_map f (range_with_len i k)) e

pub texts_end : (f : ℕ → List ℕ) (i n : ℕ) → n ≤ i → texts_from f i n ≡ []
texts_end f i n le =
    let e : n - i ≡ 0 = omega (arith, le) in
    ap (λ (k : ℕ). flat_map f (range_with_len i k)) e

pub texts_all : (f : ℕ → List ℕ) (n : ℕ)
    → texts_from f 0 n ≡ flat_map f (range_with_len 0 n)
texts_all f n =
    let e : n - 0 ≡ n = omega arith in
    ap (λ (k : ℕ). flat_map f (range_with_len 0 k)) e

-- of a list, from a place on
pub items_here : (f : ℕ → List ℕ) (xs : List ℕ) (i : ℕ) → i < length xs
    → flat_map f (drop i xs) ≡ f (get_or xs i 0) ++ flat_map f (drop (i + 1) xs)
items_here f xs i lt = ap (flat_map f) (drop_more xs i 0 lt)

pub items_end : (f : ℕ → List ℕ) (xs : List ℕ) (i : ℕ) → length xs ≤ i
    → flat_map f (drop i xs) ≡ []
items_end f xs i le = ap (flat_map f) (drop_all i xs le)

-- texts of which none has an octet
pub texts_none : (f : ℕ → List ℕ) (a n : ℕ)
    → ((i : ℕ) → a ≤ i → i < a + n → f i ≡ []) → flat_map f (range_with_len a n) ≡ []
texts_none f a zero none = refl
texts_none f a (suc n) none =
    ap (λ (t : List ℕ). t ++ flat_map f (range_with_len (a + 1) n))
    (none a (omega arith) (omega arith))
    ∙ texts_none f (a + 1) n (λ i from to. none i (omega (arith, from)) (omega (arith, to)))

pub texts_empty : {A : Type 0} (f : A → List ℕ) (xs : List A) → ((x : A) → f x ≡ [])
    → flat_map f xs ≡ []
texts_empty f [] none = refl
texts_empty f (x ∷ xs) none =
    ap (λ (t : List ℕ). t ++ flat_map f xs) (none x) ∙ texts_empty f xs none
