-- The canonical line reads back.
use Rattle.std.proofs.Common.{◌≡◌, ℕ, ◌^◌, ◌<◌, Bool, true, false, cond, not, List, [], ◌∷◌, ◌++◌}
use Rattle.std.proofs.Common.{Some, None, Ok, refl, ap, ◌∙◌, arith}
use Rattle.std.specs.Prelude.{map, ◌==◌}
use Rattle.std.specs.List.{list_all, list_any, filter}
use Rattle.std.specs.Char.{is_ascii_digit}
use Rattle.std.specs.Fmt.{decimal}
use Rattle.std.proofs.lemmas.Grind.{common_steps}
use Rattle.std.proofs.lemmas.Bool.Decides.{nat_tests}
use Rattle.std.proofs.lemmas.Fmt.{digits_decimal}
use Rattle.st_format.specs.Fields.{format_at}
use Rattle.st_format.specs.declared.sampling.Sampling.{Sampling}
use Rattle.st_format.specs.declared.sampling.Depth.{Depth}
use Rattle.sdp_format.specs.declared.sdp.Range.{Range}
use Rattle.sdp_format.specs.declared.sdp.Range.TheVariants.{Narrow, FullProtect, Full}
use Rattle.sdp_format.specs.Bytes.{is_space, trimmed, front, behind, split, text_or}
use Rattle.sdp_format.specs.Naming.{Item, item, items, items_of, is_filled, rate, is_bad}
use Rattle.sdp_format.specs.Naming.{range_named, colorimetry}
use Rattle.sdp_format.specs.Reading.{leg_of, said_in, format_of}
use Rattle.sdp_format.specs.Canonical.{divisor_text}
use Rattle.st_format.proofs.Forms.{sampling_again, depth_again}
use Rattle.st_format.proofs.Decimals.{and_parts}
use Rattle.sdp_format.proofs.SpelledItems.{spelled, said_items}
use Rattle.sdp_format.proofs.Parts.{front_later, behind_later}
use Rattle.sdp_format.proofs.Again.{own, number_decimal, is_word, trimmed_word, trimmed_space}
use Rattle.sdp_format.proofs.Again.{split_word, split_last, cut_at, not_true}

-- A name and a value without spaces and semicolons
pub record IsPlain (p : Item) : Type 0 where
  pub word : list_all is_word (p.0 ++ 61 ∷ p.1) ≡ true
  pub key : list_all (λ c. not (c == 61)) p.0 ≡ true
  pub name : list_all is_word p.0 ≡ true
  pub value : list_all is_word p.1 ≡ true

abbrev pub AllPlain : List Item → Type 0
AllPlain [] = Unit {0}
AllPlain (p ∷ ps) = IsPlain p × AllPlain ps

no_semicolon : (xs : List ℕ) → list_all is_word xs ≡ true → list_all (λ b. not (b == 59)) xs ≡ true
no_semicolon [] e = refl
no_semicolon (x ∷ xs) e =
    let h : (is_word x ≡ true) × (list_all is_word xs ≡ true) =
    and_parts (is_word x) (list_all is_word xs) e in
    rw ((and_parts (not (is_space x)) (not (x == 59)) h.0).1, no_semicolon xs h.1) refl

item_plain : (p : Item) → IsPlain p → item (p.0 ++ 61 ∷ p.1) ≡ p
item_plain p h =
    let c : (front 61 (p.0 ++ 61 ∷ p.1) ≡ p.0) × (behind 61 (p.0 ++ 61 ∷ p.1) ≡ Some p.1) =
    cut_at 61 p.0 p.1 h.key refl in
    let a : trimmed (front 61 (p.0 ++ 61 ∷ p.1)) ≡ p.0 = ap trimmed c.0 ∙ trimmed_word p.0 h.name in
    let b : trimmed (text_or (behind 61 (p.0 ++ 61 ∷ p.1))) ≡ p.1 =
    ap (λ r. trimmed (text_or r)) c.1 ∙ trimmed_word p.1 h.value in
    ap (λ x. (x, trimmed (text_or (behind 61 (p.0 ++ 61 ∷ p.1))))) a ∙ ap (λ y. (p.0, y)) b

filled : (xs ys : List ℕ) → is_filled (xs ++ 61 ∷ ys) ≡ true
filled [] ys = grind (arith, common_steps)
filled (x ∷ xs) ys = grind (arith, common_steps)

one_item : (p : Item) (parts : List (List ℕ)) → IsPlain p
    → items_of ((32 ∷ p.0 ++ 61 ∷ p.1) ∷ parts) ≡ p ∷ items_of parts
one_item p parts h =
    let t : trimmed (32 ∷ p.0 ++ 61 ∷ p.1) ≡ p.0 ++ 61 ∷ p.1 =
    trimmed_space (p.0 ++ 61 ∷ p.1) ∙ trimmed_word (p.0 ++ 61 ∷ p.1) h.word in
    ap (λ z. map item
    (cond (is_filled z) (z ∷ filter is_filled (map trimmed parts))
    (filter is_filled (map trimmed parts)))) t
    ∙ ap
    (λ b. map item
    (cond b ((p.0 ++ 61 ∷ p.1) ∷ filter is_filled (map trimmed parts))
    (filter is_filled (map trimmed parts)))) (filled p.0 p.1)
    ∙ ap (λ i. i ∷ items_of parts) (item_plain p h)

pub items_spelled : (ps : List Item) → AllPlain ps → items (spelled ps) ≡ ps
unfolding trimmed
items_spelled [] h = refl
items_spelled (p ∷ []) h =
    ap items_of (split_last (32 ∷ p.0 ++ 61 ∷ p.1) (no_semicolon (p.0 ++ 61 ∷ p.1) h.0.word))
    ∙ one_item p [] h.0
items_spelled (p ∷ q ∷ ps) h =
    ap items_of
    (split_word (32 ∷ p.0 ++ 61 ∷ p.1) (spelled (q ∷ ps))
    (no_semicolon (p.0 ++ 61 ∷ p.1) h.0.word))
    ∙ one_item p (split 59 (spelled (q ∷ ps))) h.0
    ∙ ap (λ xs. p ∷ xs) (items_spelled (q ∷ ps) h.1)

-- Digits, and the texts of a rate
pub digit_word : (b : ℕ) → is_ascii_digit b ≡ true → is_word b ≡ true
digit_word b e = grind (arith, common_steps, nat_tests)

digit_slash : (b : ℕ) → is_ascii_digit b ≡ true → not (b == 47) ≡ true
digit_slash b e = grind (arith, common_steps, nat_tests)

pub digit_space : (b : ℕ) → is_ascii_digit b ≡ true → not (b == 32) ≡ true
digit_space b e = grind (arith, common_steps, nat_tests)

pub all_so : (p q : ℕ → Bool) → ((b : ℕ) → p b ≡ true → q b ≡ true) → (xs : List ℕ)
    → list_all p xs ≡ true → list_all q xs ≡ true
all_so p q so [] e = refl
all_so p q so (x ∷ xs) e =
    let h : (p x ≡ true) × (list_all p xs ≡ true) = and_parts (p x) (list_all p xs) e in
    rw (so x h.0, all_so p q so xs h.1) refl

pub decimal_all : (q : ℕ → Bool) → ((b : ℕ) → is_ascii_digit b ≡ true → q b ≡ true) → (n : ℕ)
    → n < 2 ^ 32 → list_all q (decimal n) ≡ true
decimal_all q so n small = let wide : n < 2 ^ 64 =
    omega arith in all_so is_ascii_digit q so (decimal n) (digits_decimal own n wide)

pub all_append : (q : ℕ → Bool) (xs ys : List ℕ) → list_all q xs ≡ true → list_all q ys ≡ true
    → list_all q (xs ++ ys) ≡ true
all_append q [] ys e f = f
all_append q (x ∷ xs) ys e f =
    let h : (q x ≡ true) × (list_all q xs ≡ true) = and_parts (q x) (list_all q xs) e in
    rw (h.0, all_append q xs ys h.1 f) refl

pub uncut : (b : ℕ) (xs : List ℕ) → list_all (λ c. not (c == b)) xs ≡ true
    → (front b (xs ++ []) ≡ xs) × (behind b (xs ++ []) ≡ None)
uncut b [] e = (refl, refl)
uncut b (x ∷ xs) e =
    let h : (not (x == b) ≡ true) × (list_all (λ c. not (c == b)) xs ≡ true) =
    and_parts (not (x == b)) (list_all (λ c. not (c == b)) xs) e in
    let i : (front b (xs ++ []) ≡ xs) × (behind b (xs ++ []) ≡ None) = uncut b xs h.1 in (
      front_later b x (xs ++ []) (not_true (x == b) h.0)
          ∙ ap (λ zs. x ∷ zs) i.0,
      behind_later b x (xs ++ []) (not_true (x == b) h.0) ∙ i.1,
    )

is_one : (d : ℕ) → (d == 1) ≡ true → d ≡ 1
is_one d e = grind (arith, nat_tests)

rate_by : (n d : ℕ) (t : Bool) → (d == 1) ≡ t → n < 2 ^ 32 → d < 2 ^ 32
    → rate (decimal n ++ cond t [] (47 ∷ decimal d)) ≡ Some (n, d)
unfolding rate
rate_by n d true e sn sd =
    let u : (front 47 (decimal n ++ []) ≡ decimal n) × (behind 47 (decimal n ++ []) ≡ None) =
    uncut 47 (decimal n) (decimal_all (λ c. not (c == 47)) digit_slash n sn) in
    rw (u.0, u.1, number_decimal n sn, is_one d e) refl
rate_by n d false e sn sd =
    let u : (front 47 (decimal n ++ 47 ∷ decimal d) ≡ decimal n)
    × (behind 47 (decimal n ++ 47 ∷ decimal d) ≡ Some (decimal d)) =
    cut_at 47 (decimal n) (decimal d)
    (decimal_all (λ c. not (c == 47)) digit_slash n sn) refl in
    rw (u.0, u.1, number_decimal n sn, number_decimal d sd) refl

pub rate_again : (n d : ℕ) → n < 2 ^ 32 → d < 2 ^ 32
    → rate (decimal n ++ divisor_text d) ≡ Some (n, d)
rate_again n d sn sd = rate_by n d (d == 1) refl sn sd

-- None of the items of a leg is bad
pub good_again : (pt w h n d : ℕ) (s : Sampling) (b : Depth) (r : Range) (c : List ℕ) → w < 2 ^ 32
    → h < 2 ^ 32 → n < 2 ^ 32 → d < 2 ^ 32 → colorimetry c ≡ Some c
    → list_any is_bad
    (said_items (record {
      payload_type = pt;
      format =
          record { sampling = s; depth = b; width = w; height = h; n = n; d = d };
      range =
          r;
      colorimetry = c;
    })) ≡ false
unfolding is_bad range_named
good_again pt w h n d s b Narrow c sw sh sn sd k =
    rw (number_decimal w sw, number_decimal h sh, rate_again n d sn sd, k) refl
good_again pt w h n d s b FullProtect c sw sh sn sd k =
    rw (number_decimal w sw, number_decimal h sh, rate_again n d sn sd, k) refl
good_again pt w h n d s b Full c sw sh sn sd k =
    rw (number_decimal w sw, number_decimal h sh, rate_again n d sn sd, k) refl

-- The items of a leg say the leg
pub leg_again : (pt w h n d : ℕ) (s : Sampling) (b : Depth) (r : Range) (c : List ℕ) → w < 2 ^ 32
    → h < 2 ^ 32 → n < 2 ^ 32 → d < 2 ^ 32
    → format_at s b w h n d
    ≡ Ok (record { sampling = s; depth = b; width = w; height = h; n = n; d = d })
    → colorimetry c ≡ Some c
    → leg_of pt
    (said_items (record {
      payload_type = pt;
      format =
          record { sampling = s; depth = b; width = w; height = h; n = n; d = d };
      range =
          r;
      colorimetry = c;
    }))
    ≡ Ok
    (record {
      payload_type = pt;
      format =
          record { sampling = s; depth = b; width = w; height = h; n = n; d = d };
      range =
          r;
      colorimetry = c;
    })
unfolding leg_of said_in format_of range_named
leg_again pt w h n d s b Narrow c sw sh sn sd f k =
    rw (
      number_decimal w sw,
      number_decimal h sh,
      rate_again n d sn sd,
      k,
      sampling_again s,
      depth_again b,
      f,
    ) refl
leg_again pt w h n d s b FullProtect c sw sh sn sd f k =
    rw (
      number_decimal w sw,
      number_decimal h sh,
      rate_again n d sn sd,
      k,
      sampling_again s,
      depth_again b,
      f,
    ) refl
leg_again pt w h n d s b Full c sw sh sn sd f k =
    rw (
      number_decimal w sw,
      number_decimal h sh,
      rate_again n d sn sd,
      k,
      sampling_again s,
      depth_again b,
      f,
    ) refl
