-- Blocks of octets and of samples, as vectors load and store them.
use Rattle.std.proofs.Common.{◌≡◌, ℕ, ◌+◌, ◌-◌, ◌*◌, ◌/◌, ◌%◌, ◌<◌, ◌≤◌, List, [], ◌∷◌, ◌++◌}
use Rattle.std.proofs.Common.{length, get_or, map, drop, take, refl, sym, ap, subst, ◌∙◌, arith}
use Rattle.std.specs.List.{range_with_len}
use Rattle.std.proofs.lemmas.List.{append-nil, drop_all, drop-drop, ext_get_or, length-take-le}
use Rattle.std.proofs.lemmas.List.{take-append-drop, take-append-le, take-take, take_rest}
use Rattle.std.proofs.lemmas.List.FromFn.{get_or-map-range_with_len, length-map-range_with_len}
use Rattle.std.proofs.lemmas.Simd.{Each1-get_or, bytes_below, put_chunk_is}
use Rattle.std.proofs.Math.Seq.{take-add, take-append-add}
use lib.Lanes.{Each1, chunk, put_chunk}
use mir.Syntax.{w8}
use mir.Val.{Fits}
use Rattle.st_format.specs.Samples.{Spells}
use Rattle.pgroup_pack.proofs.Numbers.{Spells-append}
use Rattle.pgroup_pack.proofs.Units.{unit_10, unit_12, unit_16}

-- a vector's lanes, one by one
pub lanes_of : (n : ℕ) (xs : List ℕ) → length xs ≡ n
    → xs ≡ map (λ k. get_or xs k 0) (range_with_len 0 n)
lanes_of n xs long =
    let f : ℕ → ℕ = λ k. get_or xs k 0 in
    ext_get_or 0 xs (map f (range_with_len 0 n)) (long ∙ sym (length-map-range_with_len f 0 n))
    (λ k lt. sym (get_or-map-range_with_len f 0 n k k 0 (omega arith) (omega arith)))

pub octet_lanes : (xs : List ℕ) → length xs ≡ 16 → Each1 (Fits w8) xs → (k : ℕ) → k < 16
    → get_or xs k 0 < 256
octet_lanes xs long fits k lt =
    let le : get_or xs k 0 ≤ 255 =
    Each1-get_or (λ a. a ≤ 255) xs k 0 (omega arith) (bytes_below xs fits) in
    omega arith

-- a lane: two octets as a number, of which some bits above and below are cut off
abbrev pub lane : ℕ → ℕ → ℕ → ℕ → ℕ
lane above below a b = (a * 256 % 65536 + b) % 65536 * above % 65536 / below

-- the lanes of five octets, from number k on
pub lanes_10 : (xs : List ℕ) (k : ℕ) → ((j : ℕ) → j < 16 → get_or xs j 0 < 256) → k + 4 < 16
    → Spells 10
    (get_or xs k 0 ∷ get_or xs (k + 1) 0 ∷ get_or xs (k + 2) 0 ∷ get_or xs (k + 3) 0 ∷ get_or xs
    (k + 4) 0 ∷ [])
    (lane 1 64 (get_or xs k 0) (get_or xs (k + 1) 0) ∷ lane 4 64 (get_or xs (k + 1) 0)
    (get_or xs (k + 2) 0)
    ∷ lane 16 64 (get_or xs (k + 2) 0) (get_or xs (k + 3) 0) ∷ lane 64 64 (get_or xs (k + 3) 0)
    (get_or xs (k + 4) 0) ∷ [])
lanes_10 xs k small lt =
    let at : (a b c d e : ℕ) → a < 256 → b < 256 → c < 256 → d < 256 → e < 256
    → Spells 10 (a ∷ b ∷ c ∷ d ∷ e ∷ [])
    (lane 1 64 a b ∷ lane 4 64 b c ∷ lane 16 64 c d ∷ lane 64 64 d e ∷ [])
    = λ a b c d e ha hb hc hd he. unit_10 a b c d e _ _ _ _ ha hb hc hd he (omega arith)
    (omega arith) (omega arith) (omega arith) (omega arith) in
    at _ _ _ _ _ (small k (omega arith)) (small (k + 1) (omega arith))
    (small (k + 2) (omega arith)) (small (k + 3) (omega arith)) (small (k + 4) lt)

-- the lanes of three octets
pub lanes_12 : (xs : List ℕ) (k : ℕ) → ((j : ℕ) → j < 16 → get_or xs j 0 < 256) → k + 2 < 16
    → Spells 12 (get_or xs k 0 ∷ get_or xs (k + 1) 0 ∷ get_or xs (k + 2) 0 ∷ [])
    (lane 1 16 (get_or xs k 0) (get_or xs (k + 1) 0) ∷ lane 16 16 (get_or xs (k + 1) 0)
    (get_or xs (k + 2) 0) ∷ [])
lanes_12 xs k small lt =
    let at : (a b c : ℕ) → a < 256 → b < 256 → c < 256
    → Spells 12 (a ∷ b ∷ c ∷ []) (lane 1 16 a b ∷ lane 16 16 b c ∷ [])
    = λ a b c ha hb hc. unit_12 a b c _ _ ha hb hc (omega arith) (omega arith) (omega arith) in
    at _ _ _ (small k (omega arith)) (small (k + 1) (omega arith)) (small (k + 2) lt)

-- the lane of two octets
pub lanes_16 : (xs : List ℕ) (k : ℕ) → ((j : ℕ) → j < 16 → get_or xs j 0 < 256) → k + 1 < 16
    → Spells 16 (get_or xs k 0 ∷ get_or xs (k + 1) 0 ∷ [])
    ((get_or xs k 0 * 256 % 65536 + get_or xs (k + 1) 0) % 65536 ∷ [])
lanes_16 xs k small lt =
    let a : get_or xs k 0 < 256 = small k (omega arith) in
    let b : get_or xs (k + 1) 0 < 256 = small (k + 1) lt in
    unit_16 _ _ _ a b (omega arith) (omega arith)

-- eight samples are ten octets
pub two_10 : (o0 o1 o2 o3 o4 o5 o6 o7 o8 o9 a b c d e f g h : ℕ) → o0 < 256 → o1 < 256 → o2 < 256
    → o3 < 256 → o4 < 256 → o5 < 256 → o6 < 256 → o7 < 256 → o8 < 256 → o9 < 256 → a < 1024
    → b < 1024 → c < 1024 → d < 1024 → e < 1024 → f < 1024 → g < 1024 → h < 1024
    → (((o0 * 256 + o1) * 256 + o2) * 256 + o3) * 256 + o4 ≡ ((a * 1024 + b) * 1024 + c) * 1024 + d
    → (((o5 * 256 + o6) * 256 + o7) * 256 + o8) * 256 + o9 ≡ ((e * 1024 + f) * 1024 + g) * 1024 + h
    → Spells 10 (o0 ∷ o1 ∷ o2 ∷ o3 ∷ o4 ∷ o5 ∷ o6 ∷ o7 ∷ o8 ∷ o9 ∷ [])
    (a ∷ b ∷ c ∷ d ∷ e ∷ f ∷ g ∷ h ∷ [])
two_10 o0 o1 o2 o3 o4 o5 o6 o7 o8 o9 a b c d e f g h ho0 ho1 ho2 ho3 ho4 ho5 ho6 ho7 ho8 ho9 ha hb
    hc hd he hf hg hh p q =
    Spells-append 10 (o0 ∷ o1 ∷ o2 ∷ o3 ∷ o4 ∷ []) (o5 ∷ o6 ∷ o7 ∷ o8 ∷ o9 ∷ [])
    (a ∷ b ∷ c ∷ d ∷ []) (e ∷ f ∷ g ∷ h ∷ [])
    (unit_10 o0 o1 o2 o3 o4 a b c d ho0 ho1 ho2 ho3 ho4 ha hb hc hd p)
    (unit_10 o5 o6 o7 o8 o9 e f g h ho5 ho6 ho7 ho8 ho9 he hf hg hh q)

-- eight samples are twelve octets
pub four_12 : (o0 o1 o2 o3 o4 o5 o6 o7 o8 o9 o10 o11 a b c d e f g h : ℕ) → o0 < 256 → o1 < 256
    → o2 < 256 → o3 < 256 → o4 < 256 → o5 < 256 → o6 < 256 → o7 < 256 → o8 < 256 → o9 < 256
    → o10 < 256 → o11 < 256 → a < 4096 → b < 4096 → c < 4096 → d < 4096 → e < 4096 → f < 4096
    → g < 4096 → h < 4096
    → (o0 * 256 + o1) * 256 + o2 ≡ a * 4096 + b
    → (o3 * 256 + o4) * 256 + o5 ≡ c * 4096 + d
    → (o6 * 256 + o7) * 256 + o8 ≡ e * 4096 + f
    → (o9 * 256 + o10) * 256 + o11 ≡ g * 4096 + h
    → Spells 12 (o0 ∷ o1 ∷ o2 ∷ o3 ∷ o4 ∷ o5 ∷ o6 ∷ o7 ∷ o8 ∷ o9 ∷ o10 ∷ o11 ∷ [])
    (a ∷ b ∷ c ∷ d ∷ e ∷ f ∷ g ∷ h ∷ [])
four_12 o0 o1 o2 o3 o4 o5 o6 o7 o8 o9 o10 o11 a b c d e f g h ho0 ho1 ho2 ho3 ho4 ho5 ho6 ho7 ho8
    ho9 ho10 ho11 ha hb hc hd he hf hg hh p q r s =
    Spells-append 12 (o0 ∷ o1 ∷ o2 ∷ []) (o3 ∷ o4 ∷ o5 ∷ o6 ∷ o7 ∷ o8 ∷ o9 ∷ o10 ∷ o11 ∷ [])
    (a ∷ b ∷ []) (c ∷ d ∷ e ∷ f ∷ g ∷ h ∷ [])
    (unit_12 o0 o1 o2 a b ho0 ho1 ho2 ha hb p)
    (Spells-append 12 (o3 ∷ o4 ∷ o5 ∷ []) (o6 ∷ o7 ∷ o8 ∷ o9 ∷ o10 ∷ o11 ∷ []) (c ∷ d ∷ [])
    (e ∷ f ∷ g ∷ h ∷ [])
    (unit_12 o3 o4 o5 c d ho3 ho4 ho5 hc hd q)
    (Spells-append 12 (o6 ∷ o7 ∷ o8 ∷ []) (o9 ∷ o10 ∷ o11 ∷ []) (e ∷ f ∷ []) (g ∷ h ∷ [])
    (unit_12 o6 o7 o8 e f ho6 ho7 ho8 he hf r) (unit_12 o9 o10 o11 g h ho9 ho10 ho11 hg hh s)))

-- a store of which the first n are kept
pub part_stored : (p n m : ℕ) (out v : List ℕ) → m ≡ p + n → p + length v ≤ length out
    → n ≤ length v → take m (put_chunk p out v) ≡ take p out ++ take n v
part_stored p n m out v e room le =
    let after : List ℕ = drop (length v) (drop p out) in
    let long : length (take p out) ≡ p = length-take-le p out (omega arith) in
    let at : take (length (take p out) + n) (take p out ++ (v ++ after))
    ≡ take p out ++ take n (v ++ after) = take-append-add (take p out) (v ++ after) n in
    rw (e, put_chunk_is p out v room)
    (subst (λ (k : ℕ). take (k + n) (take p out ++ (v ++ after))
    ≡ take p out ++ take n (v ++ after)) long at
    ∙ ap (λ (ys : List ℕ). take p out ++ ys) (take-append-le n v after le))

-- what a block reads
pub taken : (xs : List ℕ) (i n j : ℕ) → j ≡ i + n → take j xs ≡ take i xs ++ chunk i n xs
taken xs i n j e = rw e (take-add i n xs)

-- what a block reads that is the first n of the m octets of a load
pub loaded : (xs : List ℕ) (i n m j : ℕ) → j ≡ i + n → n ≤ m
    → take j xs ≡ take i xs ++ take n (chunk i m xs)
loaded xs i n m j e le = rw (e, take-add i n xs, take-take n m (drop i xs) le) refl

-- a list up to number a, and the rest of it
pub in_two : (a : ℕ) (xs : List ℕ) → xs ≡ take a xs ++ take (length xs - a) (drop a xs)
in_two a xs = rw (take_rest xs a) (sym (take-append-drop a xs))

-- what is written over the rest of a list
pub rest_put : (a k : ℕ) (xs ys : List ℕ) → length xs ≤ a + k
    → (take a xs ++ (ys ++ drop k (drop a xs))) ≡ take a xs ++ ys
rest_put a k xs ys le = rw (drop-drop k a xs, drop_all (a + k) xs le, append-nil ys) refl
