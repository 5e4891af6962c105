-- Digits and what they are worth.
use Rattle.std.proofs.Common.{◌≡◌, ℕ, suc, ◌+◌, ◌-◌, ◌*◌, ◌%◌, ◌<◌, ◌≤◌, List, [], ◌∷◌, true, false}
use Rattle.std.proofs.Common.{cond, ltb}
use Rattle.std.proofs.Common.{length, get_or, refl, sym, ap, subst, ◌∙◌, arith, Ok, None, is_some}
use Rattle.std.proofs.Common.{true≢false, Fits, w8, inl, inr}
use Rattle.std.proofs.lemmas.Bool.Decides.{nat_tests}
use Rattle.hex.specs.Hex.{decode_of, decode_pairs, hex_digit_value, is_hex_digit, pair_value}
use Rattle.std.proofs.lemmas.Bool.{cases_lt}
use Rattle.std.proofs.lemmas.Simd.{Each1-get_or, get_or-chunk, get_or-put_chunk_at}
use Rattle.std.proofs.lemmas.Simd.{get_or-put_chunk_below}
use Rattle.std.proofs.lemmas.List.Elements.{All-get_or}
use lib.Lanes.{Each1, chunk, put_chunk}
use Rattle.hex.proofs.HexLemmas.{decode_of-even, decode_of-ok}
use Rattle.hex.proofs.Pairs.{cons_byte, decode_pairs-ok_pair}
use Rattle.script_engines.specs.Digits.{AreDecoded, AreDigitValues, IsDigitValue, IsNotDecoded}

-- what the vectors make of an octet
abbrev pub lane_value : ℕ → ℕ
lane_value c =
    let decimal = (c + (256 - 48)) % 256 in
    let upper = (c + (256 - 65)) % 256 in
    let lower = (c + (256 - 97)) % 256 in
    cond (ltb decimal 10) decimal ((cond (ltb upper lower) upper lower + 10) % 256)

pub lane_is_value : (c : ℕ) → c < 256 → IsDigitValue c (lane_value c)
lane_is_value c small = record {
  digit = grind (arith, nat_tests);
  none = grind (arith, nat_tests);
}

-- two digits give their octet
pub pair_is : (a b h l i : ℕ) → IsDigitValue a h → IsDigitValue b l → h < 16 → l < 16
    → pair_value a b i ≡ Ok (h * 16 + l)
pair_is a b h l i p q x y = rw (p.digit x, q.digit y) refl

-- an octet of a vector
pub octet_below : (v : List ℕ) (n k : ℕ) → (length v ≡ n) × Each1 (Fits w8) v → k < n
    → get_or v k 0 < 256
octet_below v n k fits h =
    let f = Each1-get_or (Fits w8) v k 0 (omega (arith, fits.0)) fits.1 in
    f.fits

none_is_no_digit : (c : ℕ) → hex_digit_value c ≡ None → is_hex_digit c ≡ false
none_is_no_digit c h = ap is_some h

-- a text of which one octet is no digit
pub not_decoded_at : (text : List ℕ) (k v : ℕ) → k < length text → IsDigitValue (get_or text k 0) v
    → 16 ≤ v → IsNotDecoded text
not_decoded_at text k v within is great said h =
    let all = (decode_of-ok text said h).1 in
    let passes = All-get_or (λ c. is_hex_digit c ≡ true) text k 0 within all in
    true≢false (sym passes ∙ none_is_no_digit (get_or text k 0) (is.none great))

pub at_next : (a b : ℕ) (text : List ℕ) (k : ℕ)
    → get_or (a ∷ b ∷ text) (2 * suc k) 0 ≡ get_or text (2 * k) 0
at_next a b text k =
    let e : 2 * suc k ≡ suc (suc (2 * k)) = omega arith in
    ap (λ j. get_or (a ∷ b ∷ text) j 0) e

pub behind_next : (a b : ℕ) (text : List ℕ) (k : ℕ)
    → get_or (a ∷ b ∷ text) (2 * suc k + 1) 0 ≡ get_or text (2 * k + 1) 0
behind_next a b text k =
    let e : 2 * suc k + 1 ≡ suc (suc (2 * k + 1)) = omega arith in
    ap (λ j. get_or (a ∷ b ∷ text) j 0) e

-- the octets of pairs of digits, of which each is decoded
pairs_decoded : (i : ℕ) (text octets : List ℕ) → length text ≡ 2 * length octets
    → ((k : ℕ) → k < length octets
    → pair_value (get_or text (2 * k) 0) (get_or text (2 * k + 1) 0) (i + 2 * k)
    ≡ Ok (get_or octets k 0))
    → decode_pairs i text ≡ Ok octets
unfolding decode_pairs
pairs_decoded i [] [] long each = refl
pairs_decoded i [] (v ∷ vs) long each = absurd (omega arith)
pairs_decoded i (a ∷ []) octets long each = absurd (omega arith)
pairs_decoded i (a ∷ b ∷ text) [] long each = absurd (omega arith)
pairs_decoded i (a ∷ b ∷ text) (v ∷ vs) long each =
    let same : i + 0 ≡ i = omega arith in
    let first = subst (λ j. pair_value a b j ≡ Ok v) same (each 0 (omega arith)) in
    let rest = pairs_decoded (i + 2) text vs (omega arith) (λ k h.
    let at : i + 2 * suc k ≡ i + 2 + 2 * k = omega arith in
    sym (λ j. pair_value (at_next a b text k j) (behind_next a b text k j) (at j))
    ∙ each (suc k) (omega arith)) in
    decode_pairs-ok_pair i a b v text first ∙ ap (cons_byte v) rest

-- a text of which each octet is decoded
pub whole_decoded : (text octets : List ℕ) (n : ℕ) → length text ≡ 2 * length octets
    → length octets ≤ n → AreDecoded text n octets → decode_of text ≡ Ok octets
whole_decoded text octets n long all each =
    decode_of-even text (omega arith) ∙ pairs_decoded 0 text octets long (λ k h.
    let at : 0 + 2 * k ≡ 2 * k = omega arith in
    ap (pair_value (get_or text (2 * k) 0) (get_or text (2 * k + 1) 0)) at
    ∙ each k (omega arith))

-- what is loaded at i holds values that a text's octets have
pub value_at_place : (text values : List ℕ) (i k : ℕ) → k < 32
    → AreDigitValues 32 (chunk i 32 text) values
    → IsDigitValue (get_or text (i + k) 0) (get_or values k 0)
value_at_place text values i k small are =
    subst (λ c. IsDigitValue c (get_or values k 0)) (get_or-chunk i 32 text k 0 small)
    (are.each k small)

-- a block of octets more is decoded
pub block_more : (text octets values made : List ℕ) (at : ℕ) → at + 16 ≤ length octets
    → AreDigitValues 32 (chunk (2 * at) 32 text) values
    → ((k : ℕ) → k < 32 → get_or values k 0 < 16) → length made ≡ 16
    → ((k : ℕ) → k < 16
    → get_or made k 0 ≡ get_or values (2 * k) 0 * 16 + get_or values (2 * k + 1) 0)
    → AreDecoded text at octets
    → AreDecoded text (at + 16) (put_chunk at octets made)
block_more text octets values made at room are small long each done k h =
    elim (cases_lt k at) [
      | inl l ↦ done k l ∙ ap Ok (sym (get_or-put_chunk_below at octets made k 0 l))
      | inr g ↦
          let j : ℕ = k - at in
          let in_block : j < 16 = omega arith in
          let p = subst (λ n. IsDigitValue (get_or text n 0) (get_or values (2 * j) 0))
          (let e : 2 * at + 2 * j ≡ 2 * k = omega arith in e)
          (value_at_place text values (2 * at) (2 * j) (omega arith) are) in
          let q = subst (λ n. IsDigitValue (get_or text n 0) (get_or values (2 * j + 1) 0))
          (let e : 2 * at + (2 * j + 1) ≡ 2 * k + 1 = omega arith in e)
          (value_at_place text values (2 * at) (2 * j + 1) (omega arith) are) in
          let place : at + j ≡ k = omega arith in
          pair_is (get_or text (2 * k) 0) (get_or text (2 * k + 1) 0) (get_or values (2 * j) 0)
          (get_or values (2 * j + 1) 0) (2 * k) p q (small (2 * j) (omega arith))
          (small (2 * j + 1) (omega arith))
          ∙ ap Ok (sym (ap (λ n. get_or (put_chunk at octets made) n 0) (sym place)
          ∙ get_or-put_chunk_at at octets made j 0 (omega arith) (omega arith)
          ∙ each j in_block))
    ]
