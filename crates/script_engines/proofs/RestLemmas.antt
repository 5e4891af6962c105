-- A text of digits of which the first octets are decoded, and the rest by `hex`.
use Rattle.std.proofs.Common.{◌≡◌, ℕ, zero, suc, ◌+◌, ◌-◌, ◌*◌, ◌%◌, ◌<◌, ◌≤◌, List, [], ◌∷◌, ◌++◌}
use Rattle.std.proofs.Common.{false, true, true≢false, length, get_or, take, drop, Option, Some}
use Rattle.std.proofs.Common.{None, Result, Ok, Err, MatchResult, inl, inr, refl, sym, ap, ◌∙◌}
use Rattle.std.proofs.Common.{arith}
use Rattle.std.specs.Prelude.{is_ok}
use Rattle.std.specs.Result.{result_unwrap_or}
use Rattle.std.proofs.lemmas.Bool.{cases_lt}
use Rattle.std.proofs.lemmas.List.{get_or-append_right, get_or-drop, get_or-take}
use Rattle.std.proofs.lemmas.List.{get_or_append_left, length-append, length-drop, length-take}
use Rattle.std.proofs.lemmas.List.Elements.{All-drop}
use Rattle.hex.specs.declared.error.FromHexError.{FromHexError}
use Rattle.hex.specs.Hex.{decode_of, decode_pairs, decode_sized, digit_or_error, hex_digit_value}
use Rattle.hex.specs.Hex.{is_hex_digit, pair_value, ◌>>=◌}
use Rattle.hex.proofs.HexLemmas.{IsOk-decode_sized, IsOk-written, decode_of-even, decode_of-ok}
use Rattle.hex.proofs.HexLemmas.{decode_sized-ok, decode_sized-twice}
use Rattle.script_engines.specs.Digits.{AreDecoded}
use Rattle.script_engines.proofs.DigitLemmas.{at_next, behind_next, whole_decoded}

-- what two digits are worth doesn't depend on where they stand
pair_of : (a b i j v : ℕ) (x y : Option ℕ)
    → (digit_or_error a i x >>= (λ h. digit_or_error b (i + 1) y >>= (λ l. Ok (h * 16 + l)))) ≡ Ok v
    → (digit_or_error a j x >>= (λ h. digit_or_error b (j + 1) y >>= (λ l. Ok (h * 16 + l)))) ≡ Ok v
pair_of a b i j v (Some x) (Some y) h = h
pair_of a b i j v (Some x) None h = cc h
pair_of a b i j v None y h = cc h

pair_any : (a b i j v : ℕ) → pair_value a b i ≡ Ok v → pair_value a b j ≡ Ok v
pair_any a b i j v h = pair_of a b i j v (hex_digit_value a) (hex_digit_value b) h

-- an octet that was decoded, and those behind it
step_ok : (r : Result ℕ FromHexError) (s : Result (List ℕ) FromHexError) (octets : List ℕ)
    → (r >>= (λ byte. s >>= (λ bytes. Ok (byte ∷ bytes)))) ≡ Ok octets
    → (v : ℕ) × (rest : List ℕ) × (r ≡ Ok v) × (s ≡ Ok rest) × (v ∷ rest ≡ octets)
step_ok (Ok v) (Ok rest) octets h = (
  v,
  rest,
  refl,
  refl,
  ap (λ (o : Result (List ℕ) FromHexError). result_unwrap_or o []) h,
)
step_ok (Ok v) (Err e) octets h = cc h
step_ok (Err e) s octets h = cc h

-- of a text that is decoded each pair of digits is
each_decoded : (i : ℕ) (text octets : List ℕ) → decode_pairs i text ≡ Ok octets
    → (j k : ℕ) → k < length octets
    → pair_value (get_or text (2 * k) 0) (get_or text (2 * k + 1) 0) j ≡ Ok (get_or octets k 0)
unfolding decode_pairs
each_decoded i [] octets h j k within =
    let none : [] ≡ octets = ap (λ (o : Result (List ℕ) FromHexError). result_unwrap_or o []) h in
    absurd (omega (arith, ap length none))
each_decoded i (a ∷ []) octets h j k within = cc h
each_decoded i (a ∷ b ∷ text) octets h j zero within =
    let p = step_ok (pair_value a b i) (decode_pairs (i + 2) text) octets h in
    pair_any a b i j p.0 p.2 ∙ ap (λ (o : List ℕ). Ok (get_or o 0 0)) p.4
each_decoded i (a ∷ b ∷ text) octets h j (suc k) within =
    let p = step_ok (pair_value a b i) (decode_pairs (i + 2) text) octets h in
    let near : k < length p.1 = omega (arith, ap length p.4) in
    (λ t. pair_value (at_next a b text k t) (behind_next a b text k t) j)
    ∙ each_decoded (i + 2) text p.1 p.3 j k near
    ∙ ap (λ (o : List ℕ). Ok (get_or o (suc k) 0)) p.4

-- The first n octets of these are those of a text, and the others are decoded of the rest of it:
-- then they all are.
pub both_decoded : (text octets rest made : List ℕ) (n m : ℕ) → n ≤ length octets
    → m ≡ length octets - n → length text ≡ 2 * length octets → rest ≡ drop (2 * n) text
    → length made ≡ m → AreDecoded text n octets → decode_of rest ≡ Ok made
    → decode_of text ≡ Ok (take n octets ++ (made ++ drop m (drop n octets)))
both_decoded text octets rest made n m within is long part size done good =
    let behind : List ℕ = drop m (drop n octets) in
    let all : List ℕ = take n octets ++ (made ++ behind) in
    let first : length (take n octets) ≡ n = omega (arith, length-take n octets) in
    let whole : length all ≡ length octets =
    omega (
      arith,
      first,
      length-append (take n octets) (made ++ behind),
      length-append made behind,
      length-drop m (drop n octets),
      length-drop n octets,
    ) in
    let even : length rest % 2 ≡ 0 = omega (arith, (decode_of-ok rest made good).0) in
    let pairs : decode_pairs 0 rest ≡ Ok made = sym (decode_of-even rest even) ∙ good in
    let at : (j : ℕ) → get_or rest j 0 ≡ get_or text (2 * n + j) 0 =
    λ j. ap (λ (l : List ℕ). get_or l j 0) part ∙ get_or-drop (2 * n) text j 0 in
    whole_decoded text all (length octets) (omega (arith, whole)) (omega (arith, whole))
    (λ k h. elim (cases_lt k n) [
      | inl l ↦
          done k l
          ∙ ap Ok (sym (get_or_append_left (take n octets) _ 0 k (omega (arith, first))
          ∙ get_or-take n octets k 0 l))
      | inr g ↦
          let j : ℕ = k - n in
          let high : 2 * n + 2 * j ≡ 2 * k = omega arith in
          let low : 2 * n + (2 * j + 1) ≡ 2 * k + 1 = omega arith in
          let here : get_or all k 0 ≡ get_or made j 0 =
          get_or-append_right (take n octets) _ n k 0 first g
          ∙ get_or_append_left made behind 0 j (omega arith) in
          let e_high : get_or text (2 * k) 0 ≡ get_or rest (2 * j) 0 =
          ap (λ (p : ℕ). get_or text p 0) (sym high) ∙ sym (at (2 * j)) in
          let e_low : get_or text (2 * k + 1) 0 ≡ get_or rest (2 * j + 1) 0 =
          ap (λ (p : ℕ). get_or text p 0) (sym low) ∙ sym (at (2 * j + 1)) in
          (λ t. pair_value (e_high t) (e_low t) (2 * k))
          ∙ each_decoded 0 rest made pairs (2 * k) j (omega arith)
          ∙ ap Ok (sym here)
    ])

-- what a call wrote that read a text into room for as many octets
pub made_of : (d : Result (List ℕ) FromHexError) (r : Result (Unit {0}) FromHexError)
    (made : List ℕ)
    → MatchResult d (λ bytes. (r ≡ Ok tt) × (made ≡ bytes)) (λ e. r ≡ Err e) → is_ok r ≡ true
    → d ≡ Ok made
made_of (Ok bytes) r made h ok = ap Ok (sym h.1)
made_of (Err e) r made h ok = absurd (true≢false (sym ok ∙ ap is_ok h))

pub sized_decoded : (rest made : List ℕ) (m : ℕ) → decode_sized rest m ≡ Ok made
    → (length rest ≡ 2 * m) × (decode_of rest ≡ Ok made) × (length made ≡ m)
sized_decoded rest made m h =
    let long = decode_sized-ok rest m made h in
    let good : decode_of rest ≡ Ok made = sym (decode_sized-twice rest m long) ∙ h in
    (long, good, omega (arith, long, (decode_of-ok rest made good).2))

-- where the rest is refused, the text isn't that of so many octets
pub rest_refused : (text said rest made : List ℕ) (n m : ℕ) (r : Result (Unit {0}) FromHexError)
    → MatchResult (decode_sized rest m) (λ bytes. (r ≡ Ok tt) × (made ≡ bytes)) (λ e. r ≡ Err e)
    → is_ok r ≡ false → rest ≡ drop (2 * n) text → length said ≡ n + m
    → decode_of text ≡ Ok said → ⊥
rest_refused text said rest made n m r written refused part size is =
    let whole = decode_of-ok text said is in
    let long : length rest ≡ 2 * m =
    omega (arith, whole.2, ap length part, length-drop (2 * n) text) in
    let digits = All-drop (λ c. is_hex_digit c ≡ true) (2 * n) text whole.1 in
    let sized = (IsOk-decode_sized rest m).1 (long, rw part digits) in
    let good = (IsOk-written (decode_sized rest m) r made written).1 sized in
    true≢false (sym good ∙ refused)
