-- Samples of 4:2:2 at 10 bits, read from the octets of their pgroups.
use Rattle.std.proofs.Common.{◌≡◌, ℕ, zero, suc, ◌+◌, ◌*◌, ◌/◌, ◌%◌, ◌^◌, ◌<◌, ◌≤◌, List, [], ◌∷◌}
use Rattle.std.proofs.Common.{◌++◌, length, get_or, map, take, refl, sym, ap, ◌∙◌, arith}
use Rattle.std.specs.List.{flat_map, range_with_len}
use Rattle.std.proofs.Math.Nat.{mul-add}
use Rattle.std.proofs.lemmas.Grind.{same_number_lists}
use Rattle.std.proofs.lemmas.List.FromFn.{get_or-map-range_with_len, length-map-range_with_len}
use Rattle.std.proofs.lemmas.Simd.{get_or-chunk, length-chunk, take_more_put_chunk}
use lib.Lanes.{Each1, chunk, digits_l, number_l, put_chunk}
use Rattle.picture_forms.specs.declared.planes.Spelling.TheVariants.{Little}
use Rattle.picture_forms.specs.Layouts.{plane_first, plane_step}
use Rattle.picture_forms.specs.Planes.{every, every_text, sample_text}
use Rattle.picture_forms.proofs.Texts.{every_front}
use Rattle.pgroup_pack.proofs.Values.{get_or-values_in}
use Rattle.st_format.specs.declared.sampling.Sampling.TheVariants.{Ycc422}
use Rattle.st_format.specs.Samples.{values_in}
use Rattle.settled_forms.specs.Packed.{low_first_words, octet_pair, packed_samples, ten_bit_text}
use Rattle.settled_forms.proofs.Groups.{first_low, times_le}

-- ---- one sample

-- sample i lies in octets k and k + 1, after r bits and before s
pub ten_at : (packed : List ℕ) (i k r s : ℕ) → ((j : ℕ) → get_or packed j 0 < 256)
    → 10 * i ≡ 8 * k + r → r + (10 + s) ≡ 16 → k + 1 < length packed
    → get_or (values_in 10 packed) i 0 ≡ octet_pair packed k / 2 ^ s % 1024
ten_at packed i k r s small at all two =
    get_or-values_in 10 i k r s packed at all two (omega arith) (small (k + 1))

-- two octets, of which the bits above and below are left
abbrev lane : ℕ → ℕ → ℕ → ℕ
lane below a b = (b + 256 * a) / below % 1024

lane_is : (packed : List ℕ) (i k l r s : ℕ) → ((j : ℕ) → get_or packed j 0 < 256)
    → 10 * i ≡ 8 * k + r → r + (10 + s) ≡ 16 → l ≡ k + 1 → l < length packed
    → lane (2 ^ s) (get_or packed k 0) (get_or packed l 0) ≡ get_or (values_in 10 packed) i 0
lane_is packed i k l r s small at all next two =
    let pair : get_or packed (k + 1) 0 + 256 * get_or packed k 0 ≡ octet_pair packed k =
    omega arith in
    rw next
    (ap (λ (w : ℕ). w / 2 ^ s % 1024) pair
    ∙ sym (ten_at packed i k r s small at all (omega arith)))

-- ---- eight samples

eight : (f : ℕ → ℕ) (a a0 a1 a2 a3 a4 a5 a6 a7 : ℕ) → a0 ≡ f a → a1 ≡ f (a + 1)
    → a2 ≡ f (a + 1 + 1) → a3 ≡ f (a + 1 + 1 + 1) → a4 ≡ f (a + 1 + 1 + 1 + 1)
    → a5 ≡ f (a + 1 + 1 + 1 + 1 + 1) → a6 ≡ f (a + 1 + 1 + 1 + 1 + 1 + 1)
    → a7 ≡ f (a + 1 + 1 + 1 + 1 + 1 + 1 + 1)
    → a0 ∷ a1 ∷ a2 ∷ a3 ∷ a4 ∷ a5 ∷ a6 ∷ a7 ∷ [] ≡ map f (range_with_len a 8)
eight f a a0 a1 a2 a3 a4 a5 a6 a7 e0 e1 e2 e3 e4 e5 e6 e7 =
    rw (e0, e1, e2, e3, e4, e5, e6, e7) refl

pub luma_samples : (packed : List ℕ) (b at last : ℕ) → ((j : ℕ) → get_or packed j 0 < 256)
    → at ≡ 20 * b → last ≡ 20 * b + 4 → 20 * (b + 1) ≤ length packed
    → lane 16 (get_or packed (at + 1) 0) (get_or packed (at + 2) 0)
    ∷ lane 1 (get_or packed (at + 3) 0) (get_or packed (at + 4) 0)
    ∷ lane 16 (get_or packed (at + 6) 0) (get_or packed (at + 7) 0)
    ∷ lane 1 (get_or packed (at + 8) 0) (get_or packed (at + 9) 0)
    ∷ lane 16 (get_or packed (at + 11) 0) (get_or packed (at + 12) 0)
    ∷ lane 1 (get_or packed (at + 13) 0) (get_or packed (at + 14) 0)
    ∷ lane 16 (get_or packed (last + 12) 0) (get_or packed (last + 13) 0)
    ∷ lane 1 (get_or packed (last + 14) 0) (get_or packed (last + 15) 0) ∷ []
    ≡ packed_samples 0 packed (8 * b) 8
luma_samples packed b at last small is is_last le =
    eight (λ k. every (values_in 10 packed) 1 2 k) (8 * b) _ _ _ _ _ _ _ _
    (lane_is packed _ (at + 1) (at + 2) 2 4 small (omega arith) refl (omega arith) (omega arith))
    (lane_is packed _ (at + 3) (at + 4) 6 0 small (omega arith) refl (omega arith) (omega arith))
    (lane_is packed _ (at + 6) (at + 7) 2 4 small (omega arith) refl (omega arith) (omega arith))
    (lane_is packed _ (at + 8) (at + 9) 6 0 small (omega arith) refl (omega arith) (omega arith))
    (lane_is packed _ (at + 11) (at + 12) 2 4 small (omega arith) refl (omega arith) (omega arith))
    (lane_is packed _ (at + 13) (at + 14) 6 0 small (omega arith) refl (omega arith) (omega arith))
    (lane_is packed _ (last + 12) (last + 13) 2 4 small (omega arith) refl
    (omega arith) (omega arith))
    (lane_is packed _ (last + 14) (last + 15) 6 0 small (omega arith) refl
    (omega arith) (omega arith))

pub cb_samples : (packed : List ℕ) (b at middle last : ℕ)
    → ((j : ℕ) → get_or packed j 0 < 256) → at ≡ 40 * b → middle ≡ 40 * b + 15
    → last ≡ 40 * b + 24 → 40 * (b + 1) ≤ length packed
    → lane 64 (get_or packed (at + 0) 0) (get_or packed (at + 1) 0)
    ∷ lane 64 (get_or packed (at + 5) 0) (get_or packed (at + 6) 0)
    ∷ lane 64 (get_or packed (at + 10) 0) (get_or packed (at + 11) 0)
    ∷ lane 64 (get_or packed (middle + 0) 0) (get_or packed (middle + 1) 0)
    ∷ lane 64 (get_or packed (middle + 5) 0) (get_or packed (middle + 6) 0)
    ∷ lane 64 (get_or packed (last + 1) 0) (get_or packed (last + 2) 0)
    ∷ lane 64 (get_or packed (last + 6) 0) (get_or packed (last + 7) 0)
    ∷ lane 64 (get_or packed (last + 11) 0) (get_or packed (last + 12) 0) ∷ []
    ≡ packed_samples 1 packed (8 * b) 8
cb_samples packed b at middle last small is is_middle is_last le =
    eight (λ k. every (values_in 10 packed) 0 4 k) (8 * b) _ _ _ _ _ _ _ _
    (lane_is packed _ (at + 0) (at + 1) 0 6 small (omega arith) refl (omega arith) (omega arith))
    (lane_is packed _ (at + 5) (at + 6) 0 6 small (omega arith) refl (omega arith) (omega arith))
    (lane_is packed _ (at + 10) (at + 11) 0 6 small (omega arith) refl (omega arith) (omega arith))
    (lane_is packed _ (middle + 0) (middle + 1) 0 6 small (omega arith) refl
    (omega arith) (omega arith))
    (lane_is packed _ (middle + 5) (middle + 6) 0 6 small (omega arith) refl
    (omega arith) (omega arith))
    (lane_is packed _ (last + 1) (last + 2) 0 6 small (omega arith) refl
    (omega arith) (omega arith))
    (lane_is packed _ (last + 6) (last + 7) 0 6 small (omega arith) refl
    (omega arith) (omega arith))
    (lane_is packed _ (last + 11) (last + 12) 0 6 small (omega arith) refl
    (omega arith) (omega arith))

pub cr_samples : (packed : List ℕ) (b at middle last : ℕ)
    → ((j : ℕ) → get_or packed j 0 < 256) → at ≡ 40 * b → middle ≡ 40 * b + 15
    → last ≡ 40 * b + 24 → 40 * (b + 1) ≤ length packed
    → lane 4 (get_or packed (at + 2) 0) (get_or packed (at + 3) 0)
    ∷ lane 4 (get_or packed (at + 7) 0) (get_or packed (at + 8) 0)
    ∷ lane 4 (get_or packed (at + 12) 0) (get_or packed (at + 13) 0)
    ∷ lane 4 (get_or packed (middle + 2) 0) (get_or packed (middle + 3) 0)
    ∷ lane 4 (get_or packed (middle + 7) 0) (get_or packed (middle + 8) 0)
    ∷ lane 4 (get_or packed (last + 3) 0) (get_or packed (last + 4) 0)
    ∷ lane 4 (get_or packed (last + 8) 0) (get_or packed (last + 9) 0)
    ∷ lane 4 (get_or packed (last + 13) 0) (get_or packed (last + 14) 0) ∷ []
    ≡ packed_samples 2 packed (8 * b) 8
cr_samples packed b at middle last small is is_middle is_last le =
    eight (λ k. every (values_in 10 packed) 2 4 k) (8 * b) _ _ _ _ _ _ _ _
    (lane_is packed _ (at + 2) (at + 3) 4 2 small (omega arith) refl (omega arith) (omega arith))
    (lane_is packed _ (at + 7) (at + 8) 4 2 small (omega arith) refl (omega arith) (omega arith))
    (lane_is packed _ (at + 12) (at + 13) 4 2 small (omega arith) refl (omega arith) (omega arith))
    (lane_is packed _ (middle + 2) (middle + 3) 4 2 small (omega arith) refl
    (omega arith) (omega arith))
    (lane_is packed _ (middle + 7) (middle + 8) 4 2 small (omega arith) refl
    (omega arith) (omega arith))
    (lane_is packed _ (last + 3) (last + 4) 4 2 small (omega arith) refl
    (omega arith) (omega arith))
    (lane_is packed _ (last + 8) (last + 9) 4 2 small (omega arith) refl
    (omega arith) (omega arith))
    (lane_is packed _ (last + 13) (last + 14) 4 2 small (omega arith) refl
    (omega arith) (omega arith))

-- ---- octets of vectors

-- sixteen octets of a load
pub sixteen_at : (packed : List ℕ) (at : ℕ) → at + 16 ≤ length packed
    → chunk at 16 packed ≡ map (λ k. get_or packed (at + k) 0) (range_with_len 0 16)
sixteen_at packed at le =
    let f = λ (k : ℕ). get_or packed (at + k) 0 in
    let long : length (chunk at 16 packed) ≡ 16 = length-chunk at 16 packed le in
    same_number_lists (chunk at 16 packed) (map f (range_with_len 0 16))
    (long ∙ sym (length-map-range_with_len f 0 16))
    (λ k below.
    let lt : k < 16 = omega (arith, below, long) in
    get_or-chunk at 16 packed k 0 lt
    ∙ sym (get_or-map-range_with_len f 0 16 k k 0 lt (omega arith)))

pub words_of_octets : (n : ℕ) (xs : List ℕ) → length xs ≡ 2 * n → Each1 (λ x. x < 256) xs
    → digits_l 65536 n (number_l 256 xs) ≡ low_first_words xs
words_of_octets zero [] same fits = refl
words_of_octets zero (a ∷ xs) same fits = absurd (omega (arith, same))
words_of_octets (suc n) [] same fits = absurd (omega (arith, same))
words_of_octets (suc n) (a ∷ []) same fits = absurd (omega (arith, same))
words_of_octets (suc n) (a ∷ b ∷ xs) same fits =
    let y : ℕ = number_l 256 xs in
    let all : ℕ = a + 256 * (b + 256 * y) in
    let low : a < 256 = fits.0 in
    let high : b < 256 = fits.1.0 in
    let p : all % 65536 ≡ a + 256 * b = omega arith in
    let q : all / 65536 ≡ y = omega arith in
    rw (p, q)
    (ap (λ (t : List ℕ). (a + 256 * b) ∷ t) (words_of_octets n xs (omega (arith, same)) fits.1.1))

octets_of_words : (m : ℕ) (vs : List ℕ) → m ≡ 2 * length vs → Each1 (λ x. x < 65536) vs
    → digits_l 256 m (number_l 65536 vs) ≡ flat_map (λ v. sample_text Little v) vs
octets_of_words zero [] same fits = refl
octets_of_words (suc m) [] same fits = absurd (omega (arith, same))
octets_of_words zero (v ∷ vs) same fits = absurd (omega (arith, same))
octets_of_words (suc zero) (v ∷ vs) same fits = absurd (omega (arith, same))
octets_of_words (suc (suc m)) (v ∷ vs) same fits =
    let y : ℕ = number_l 65536 vs in
    let all : ℕ = v + 65536 * y in
    let below : v < 65536 = fits.0 in
    let a : all % 256 ≡ v % 256 = omega arith in
    let b : all / 256 % 256 ≡ v / 256 = omega arith in
    let e : all / 256 / 256 ≡ y = omega arith in
    rw (a, b, e)
    (ap (λ (t : List ℕ). sample_text Little v ++ t)
    (octets_of_words m vs (omega (arith, same)) fits.1))

texts_of : (f : ℕ → ℕ) (a n : ℕ)
    → flat_map (λ v. sample_text Little v) (map f (range_with_len a n))
    ≡ flat_map (λ k. sample_text Little (f k)) (range_with_len a n)
texts_of f a zero = refl
texts_of f a (suc n) = ap (λ (t : List ℕ). sample_text Little (f a) ++ t) (texts_of f (a + 1) n)

-- the octets of samples of a plane
sample_octets : (xs vs : List ℕ) (first step a n m : ℕ) → m ≡ 2 * n
    → Each1 (λ x. x < 65536) vs → vs ≡ map (λ k. every xs first step k) (range_with_len a n)
    → digits_l 256 m (number_l 65536 vs) ≡ every_text Little xs first step a n
unfolding every_text
sample_octets xs vs first step a n m same fits is =
    let f = λ (k : ℕ). every xs first step k in
    let long : length vs ≡ n = ap length is ∙ length-map-range_with_len f a n in
    octets_of_words m vs (omega (arith, same, long)) fits
    ∙ ap (flat_map (λ v. sample_text Little v)) is
    ∙ texts_of f a n

-- ---- a plane

-- eight samples more
pub lanes_more : (c i : ℕ) (packed octets vs : List ℕ) → Each1 (λ x. x < 65536) vs
    → vs ≡ packed_samples c packed (8 * i) 8 → 16 * (i + 1) ≤ length octets
    → take (16 * i) octets ≡ ten_bit_text c packed (8 * i)
    → take (16 * (i + 1)) (put_chunk (16 * i) octets (digits_l 256 16 (number_l 65536 vs)))
    ≡ ten_bit_text c packed (8 * (i + 1))
lanes_more c i packed octets vs fits is room so_far =
    let all : List ℕ = values_in 10 packed in
    let new : List ℕ = digits_l 256 16 (number_l 65536 vs) in
    let n : 8 * i + 8 ≡ 8 * (i + 1) = omega arith in
    take_more_put_chunk (16 * i) octets new (16 * (i + 1)) (omega arith) room
    ∙ ap (λ (t : List ℕ). t ++ new) so_far
    ∙ ap (λ (t : List ℕ). ten_bit_text c packed (8 * i) ++ t)
    (sample_octets all vs (plane_first Ycc422 c) (plane_step Ycc422 c) (8 * i) 8 16 refl fits is)
    ∙ sym (every_front Little all (plane_first Ycc422 c) (plane_step Ycc422 c) (8 * i) 8)
    ∙ ap (ten_bit_text c packed) n

-- the octets of a sample of a plane, by its number
pub sample_in : (c i first step value : ℕ) (packed : List ℕ) → first ≡ plane_first Ycc422 c
    → step ≡ plane_step Ycc422 c → value ≡ get_or (values_in 10 packed) (first + step * i) 0
    → sample_text Little value
    ≡ sample_text Little
    (every (values_in 10 packed) (plane_first Ycc422 c) (plane_step Ycc422 c) (0 + i))
sample_in c i first step value packed ef es is =
    let z : 0 + i ≡ i = omega arith in
    ap (sample_text Little) (rw (z, ← ef, ← es) is)

-- a sample of a plane is one of those that the octets spell
pub sample_inside : (c i count first step : ℕ) (packed : List ℕ) → c < 3 → i < count
    → first ≡ plane_first Ycc422 c → step ≡ plane_step Ycc422 c
    → 5 * (plane_step Ycc422 c * count) ≤ 4 * length packed
    → first + step * i < 8 * length packed / 10
sample_inside c i count first step packed lt below ef es inside =
    let low : first < step = rw (ef, es) (first_low Ycc422 c lt) in
    let most : step * (i + 1) ≤ step * count = times_le step (i + 1) count (omega arith) in
    let all : 5 * (step * count) ≤ 4 * length packed = rw es inside in
    omega (arith, mul-add step i 1, most, low, all)

-- as many blocks as there are
pub block_inside : (c i count : ℕ) (packed : List ℕ) → i < count / 8
    → 5 * (plane_step Ycc422 c * count) ≤ 4 * length packed
    → 5 * (plane_step Ycc422 c * (8 * (i + 1))) ≤ 4 * length packed
block_inside c i count packed below inside =
    omega (arith, times_le (plane_step Ycc422 c) (8 * (i + 1)) count (omega arith), inside)
