-- Samples of planes, one after another.
use Rattle.std.proofs.Common.{◌≡◌, ℕ, zero, suc, ◌+◌, ◌*◌, ◌<◌, ◌≤◌, List, [], ◌∷◌, ◌++◌, length}
use Rattle.std.proofs.Common.{refl, sym, ap, ◌∙◌, arith, append_assoc, append-nil, get_or, set}
use Rattle.std.proofs.Common.{take}
use Rattle.std.specs.List.{flat_map, range_with_len}
use Rattle.std.proofs.lemmas.Grind.{flat_map-append}
use Rattle.std.proofs.lemmas.List.{take_more, take_more_set, length-set}
use Rattle.picture_forms.specs.declared.planes.Spelling.{Spelling}
use Rattle.picture_forms.specs.declared.planes.Spelling.TheVariants.{One}
use Rattle.picture_forms.specs.Planes.{Inside, every, every_text, sample_text}

-- numbers, and those behind them
pub range_append : (a n m : ℕ)
    → range_with_len a (n + m) ≡ range_with_len a n ++ range_with_len (a + n) m
range_append a zero m =
    let e : a + 0 ≡ a = omega arith in
    let z : 0 + m ≡ m = omega arith in
    rw (e, z) refl
range_append a (suc n) m =
    let e : suc n + m ≡ suc (n + m) = omega arith in
    let z : a + suc n ≡ a + 1 + n = omega arith in
    rw (e, z)
    (ap (λ (xs : List ℕ). a ∷ xs) (range_append (a + 1) n m))

-- some samples, and those behind them
pub every_append : (s : Spelling) (xs : List ℕ) (first step start n m : ℕ)
    → every_text s xs first step start (n + m)
    ≡ every_text s xs first step start n ++ every_text s xs first step (start + n) m
unfolding every_text
every_append s xs first step start n m =
    ap (flat_map (λ k. sample_text s (every xs first step k))) (range_append start n m)
    ∙ flat_map-append (λ k. sample_text s (every xs first step k)) (range_with_len start n)
    (range_with_len (start + n) m)

-- one sample more
pub every_more : (s : Spelling) (xs : List ℕ) (first step start n : ℕ)
    → every_text s xs first step start (n + 1)
    ≡ every_text s xs first step start n
    ++ sample_text s (every xs first step (start + n))
unfolding every_text
every_more s xs first step start n =
    every_append s xs first step start n 1
    ∙ ap (λ (t : List ℕ). every_text s xs first step start n ++ t)
    (append-nil (sample_text s (every xs first step (start + n))))

-- a sample of a plane stands in the list
pub inside_at : (xs : List ℕ) (first step count k : ℕ) → Inside xs first step count → k < count
    → first + step * k < length xs
inside_at xs first step count k is lt = grind arith

-- what is written from number i on, up to j
stored_2 : (xs : List ℕ) (i j a b : ℕ) → j ≡ i + 2 → j ≤ length xs
    → take j (set (set xs i a) (i + 1) b) ≡ take i xs ++ (a ∷ b ∷ [])
stored_2 xs i j a b e lt =
    let f : j ≡ i + 1 + 1 = omega arith in
    let h : i < length xs = omega arith in
    let k : i + 1 < length (set xs i a) = omega (arith, length-set {A = ℕ}) in
    rw f (take_more_set (set xs i a) (i + 1) b k
    ∙ ap (λ (t : List ℕ). t ++ b ∷ []) (take_more_set xs i a h)
    ∙ append_assoc (take i xs) (a ∷ []) (b ∷ []))

-- the end of a text's front, one sample more: an octet
pub one_more : (xs os : List ℕ) (first step start i v : ℕ) → i < length os
    → take i os ≡ every_text One xs first step start i → v ≡ every xs first step (start + i)
    → take (i + 1) (set os i v) ≡ every_text One xs first step start (i + 1)
one_more xs os first step start i v lt so_far is =
    take_more_set os i v lt ∙ ap (λ (t : List ℕ). t ++ v ∷ []) so_far
    ∙ ap (λ (w : ℕ). every_text One xs first step start i ++ w ∷ []) is
    ∙ sym (every_more One xs first step start i)

-- two octets
pub two_more : (s : Spelling) (xs os : List ℕ) (first step start i a b : ℕ)
    → 2 * (i + 1) ≤ length os → take (2 * i) os ≡ every_text s xs first step start i
    → a ∷ b ∷ [] ≡ sample_text s (every xs first step (start + i))
    → take (2 * (i + 1)) (set (set os (2 * i) a) (2 * i + 1) b)
    ≡ every_text s xs first step start (i + 1)
two_more s xs os first step start i a b lt so_far is =
    stored_2 os (2 * i) (2 * (i + 1)) a b (omega arith) lt
    ∙ ap (λ (t : List ℕ). t ++ a ∷ b ∷ []) so_far
    ∙ ap (λ (t : List ℕ). every_text s xs first step start i ++ t) is
    ∙ sym (every_more s xs first step start i)

-- none
pub every_none : (s : Spelling) (xs : List ℕ) (first step start : ℕ)
    → every_text s xs first step start 0 ≡ []
unfolding every_text
every_none s xs first step start = refl

-- those in front, and those behind them
pub every_front : (s : Spelling) (xs : List ℕ) (first step done n : ℕ)
    → every_text s xs first step 0 (done + n)
    ≡ every_text s xs first step 0 done ++ every_text s xs first step done n
every_front s xs first step done n =
    let e : 0 + done ≡ done = omega arith in
    every_append s xs first step 0 done n
    ∙ ap (λ (a : ℕ). every_text s xs first step 0 done ++ every_text s xs first step a n) e

-- words that were added, one after another
pub joined1 : (s0 s1 x1 : List ℕ)
    → s1 ≡ s0 ++ x1
    → s1 ≡ s0 ++ (x1)
joined1 s0 s1 x1 e1 = e1

-- words that were added, one after another
pub joined2 : (s0 s1 s2 x1 x2 : List ℕ)
    → s1 ≡ s0 ++ x1 → s2 ≡ s1 ++ x2
    → s2 ≡ s0 ++ (x1 ++ (x2))
joined2 s0 s1 s2 x1 x2 e1 e2 =
    joined1 s1 s2 x2 e2
    ∙ ap (λ (t : List ℕ). t ++ (x2)) e1
    ∙ append_assoc s0 x1 (x2)

-- words that were added, one after another
pub joined3 : (s0 s1 s2 s3 x1 x2 x3 : List ℕ)
    → s1 ≡ s0 ++ x1 → s2 ≡ s1 ++ x2 → s3 ≡ s2 ++ x3
    → s3 ≡ s0 ++ (x1 ++ (x2 ++ (x3)))
joined3 s0 s1 s2 s3 x1 x2 x3 e1 e2 e3 =
    joined2 s1 s2 s3 x2 x3 e2 e3
    ∙ ap (λ (t : List ℕ). t ++ (x2 ++ (x3))) e1
    ∙ append_assoc s0 x1 (x2 ++ (x3))

-- words that were added, one after another
pub joined4 : (s0 s1 s2 s3 s4 x1 x2 x3 x4 : List ℕ)
    → s1 ≡ s0 ++ x1 → s2 ≡ s1 ++ x2 → s3 ≡ s2 ++ x3 → s4 ≡ s3 ++ x4
    → s4 ≡ s0 ++ (x1 ++ (x2 ++ (x3 ++ (x4))))
joined4 s0 s1 s2 s3 s4 x1 x2 x3 x4 e1 e2 e3 e4 =
    joined3 s1 s2 s3 s4 x2 x3 x4 e2 e3 e4
    ∙ ap (λ (t : List ℕ). t ++ (x2 ++ (x3 ++ (x4)))) e1
    ∙ append_assoc s0 x1 (x2 ++ (x3 ++ (x4)))

-- words that were added, one after another
pub joined5 : (s0 s1 s2 s3 s4 s5 x1 x2 x3 x4 x5 : List ℕ)
    → s1 ≡ s0 ++ x1 → s2 ≡ s1 ++ x2 → s3 ≡ s2 ++ x3 → s4 ≡ s3 ++ x4 → s5 ≡ s4 ++ x5
    → s5 ≡ s0 ++ (x1 ++ (x2 ++ (x3 ++ (x4 ++ (x5)))))
joined5 s0 s1 s2 s3 s4 s5 x1 x2 x3 x4 x5 e1 e2 e3 e4 e5 =
    joined4 s1 s2 s3 s4 s5 x2 x3 x4 x5 e2 e3 e4 e5
    ∙ ap (λ (t : List ℕ). t ++ (x2 ++ (x3 ++ (x4 ++ (x5))))) e1
    ∙ append_assoc s0 x1 (x2 ++ (x3 ++ (x4 ++ (x5))))

-- words that were added, one after another
pub joined6 : (s0 s1 s2 s3 s4 s5 s6 x1 x2 x3 x4 x5 x6 : List ℕ)
    → s1 ≡ s0 ++ x1 → s2 ≡ s1 ++ x2 → s3 ≡ s2 ++ x3 → s4 ≡ s3 ++ x4 → s5 ≡ s4 ++ x5 → s6 ≡ s5 ++ x6
    → s6 ≡ s0 ++ (x1 ++ (x2 ++ (x3 ++ (x4 ++ (x5 ++ (x6))))))
joined6 s0 s1 s2 s3 s4 s5 s6 x1 x2 x3 x4 x5 x6 e1 e2 e3 e4 e5 e6 =
    joined5 s1 s2 s3 s4 s5 s6 x2 x3 x4 x5 x6 e2 e3 e4 e5 e6
    ∙ ap (λ (t : List ℕ). t ++ (x2 ++ (x3 ++ (x4 ++ (x5 ++ (x6)))))) e1
    ∙ append_assoc s0 x1 (x2 ++ (x3 ++ (x4 ++ (x5 ++ (x6)))))

-- words that were added, one after another
pub joined7 : (s0 s1 s2 s3 s4 s5 s6 s7 x1 x2 x3 x4 x5 x6 x7 : List ℕ)
    → s1 ≡ s0 ++ x1 → s2 ≡ s1 ++ x2 → s3 ≡ s2 ++ x3 → s4 ≡ s3 ++ x4 → s5 ≡ s4 ++ x5 → s6 ≡ s5 ++ x6
    → s7 ≡ s6 ++ x7
    → s7 ≡ s0 ++ (x1 ++ (x2 ++ (x3 ++ (x4 ++ (x5 ++ (x6 ++ (x7)))))))
joined7 s0 s1 s2 s3 s4 s5 s6 s7 x1 x2 x3 x4 x5 x6 x7 e1 e2 e3 e4 e5 e6 e7 =
    joined6 s1 s2 s3 s4 s5 s6 s7 x2 x3 x4 x5 x6 x7 e2 e3 e4 e5 e6 e7
    ∙ ap (λ (t : List ℕ). t ++ (x2 ++ (x3 ++ (x4 ++ (x5 ++ (x6 ++ (x7))))))) e1
    ∙ append_assoc s0 x1 (x2 ++ (x3 ++ (x4 ++ (x5 ++ (x6 ++ (x7))))))

-- one octet more of a list, and two
pub taken_1 : (xs : List ℕ) (i : ℕ) → i + 1 ≤ length xs
    → take (i + 1) xs ≡ take i xs ++ (get_or xs i 0 ∷ [])
taken_1 xs i lt = take_more xs i 0 (omega arith)

pub taken_2 : (xs : List ℕ) (i : ℕ) → 2 * (i + 1) ≤ length xs
    → take (2 * (i + 1)) xs
    ≡ take (2 * i) xs ++ (get_or xs (2 * i) 0 ∷ get_or xs (2 * i + 1) 0 ∷ [])
taken_2 xs i lt =
    let e : 2 * (i + 1) ≡ 2 * i + 1 + 1 = omega arith in
    rw e (take_more xs (2 * i + 1) 0 (omega arith)
    ∙ ap (λ (t : List ℕ). t ++ (get_or xs (2 * i + 1) 0 ∷ []))
    (take_more xs (2 * i) 0 (omega arith))
    ∙ append_assoc (take (2 * i) xs) (get_or xs (2 * i) 0 ∷ []) (get_or xs (2 * i + 1) 0 ∷ []))
