-- Texts that are written are read again.
use Rattle.std.proofs.Common.{◌≡◌, ℕ, suc, ◌+◌, ◌^◌, ◌<◌, Bool, true, false, cond, not, List}
use Rattle.std.proofs.Common.{[], ◌∷◌, ◌++◌, length, take, drop, Option, Some, None}
use Rattle.std.proofs.Common.{Result, Ok, Err}
use Rattle.std.proofs.Common.{refl, ap, ◌∙◌, sym, arith, lit<, append_assoc, codes}
use Rattle.std.specs.Prelude.{◌==◌, nat_lt}
use Rattle.std.specs.List.{list_all, position_or_len}
use Rattle.std.specs.Char.{is_ascii_digit}
use Rattle.std.specs.Fmt.{decimal}
use Rattle.std.specs.Option.{option_map}
use Rattle.std.specs.Str.Parse.{digits_value}
use Rattle.std.proofs.lemmas.Bool.Decides.{Decides-eqb, nat_tests}
use Rattle.std.proofs.lemmas.Grind.{common_steps}
use Rattle.std.proofs.lemmas.Fmt.{digits_decimal, digits_value-decimal, decimal_nonempty}
use Rattle.std.proofs.lemmas.Fmt.{length-decimal-le}
use Rattle.std.proofs.Math.Nat.{div-one}
use Rattle.st_format.specs.declared.sampling.Sampling.{Sampling}
use Rattle.st_format.specs.declared.sampling.Sampling.TheVariants.{Ycc422, Ycc444, Rgb}
use Rattle.st_format.specs.declared.sampling.Depth.{Depth}
use Rattle.st_format.specs.declared.sampling.Depth.TheVariants.{D8, D10, D12, D16}
use Rattle.st_format.specs.declared.path.Path.{Path}
use Rattle.st_format.specs.declared.path.Path.TheVariants.{A, B}
use Rattle.st_format.specs.declared.rate.Rate.{Rate}
use Rattle.st_format.specs.declared.format.Format.{Format}
use Rattle.st_format.specs.Fields.{fields_of}
use Rattle.st_format.specs.Forms.{FindsBy, depth_named, depth_text, path_text, rate_named, rate_of}
use Rattle.st_format.specs.Forms.{rate_text, read_format, read_rate, format_text, spaced}
use Rattle.st_format.specs.Pgroup.{bits_of}
use Rattle.st_format.specs.Text.{parted}
use Rattle.st_format.specs.Words.{IsNumber, number, sampling_named, sampling_text}
use Rattle.st_format.proofs.Decimals.{digits, passes, and_parts}
use Rattle.st_format.proofs.Made.{format_at-fields, good_rate}

-- ---- words

pub sampling_again : (s : Sampling) → sampling_named (sampling_text s) ≡ Some s
unfolding sampling_named
sampling_again Ycc422 = refl
sampling_again Ycc444 = refl
sampling_again Rgb = refl

pub depth_again : (b : Depth) → depth_named (depth_text b) ≡ Some b
unfolding depth_named
depth_again D8 = refl
depth_again D10 = refl
depth_again D12 = refl
depth_again D16 = refl

path_named : List ℕ → Path
path_named [] = A
path_named (x ∷ xs) = cond (x == 65) A B

path_again : (p : Path) → path_named (path_text p) ≡ p
unfolding path_named
path_again A = refl
path_again B = refl

depth_at : ℕ → Depth
depth_at n = cond (n == 8) D8 (cond (n == 10) D10 (cond (n == 12) D12 D16))

bits_again : (b : Depth) → depth_at (bits_of b) ≡ b
unfolding depth_at
bits_again D8 = refl
bits_again D10 = refl
bits_again D12 = refl
bits_again D16 = refl

-- Where a value can be told from what is said of it, that value is found by it.
found : {X V E Y : Type 0} (said : V → X) (fault : E) (tell : X → Y) (mark : V → Y)
    → ((v : V) → tell (said v) ≡ mark v) → ((v w : V) → mark v ≡ mark w → v ≡ w) → (v : V)
    → (r : Result V E) → FindsBy said fault (said v) r → r ≡ Ok v
found said fault tell mark again apart v (Ok w) e =
    ap (λ x. Ok x) (apart w v (sym (again w) ∙ ap tell e ∙ again v))
found said fault tell mark again apart v (Err f) e = absurd (e.1 v refl)

same_some : {V : Type 0} (v w : V) → Some v ≡ Some w → v ≡ w
same_some v w e = cc

pub sampling_found : {E : Type 0} (fault : E) (s : Sampling) (r : Result Sampling E)
    → FindsBy sampling_text fault (sampling_text s) r → r ≡ Ok s
sampling_found fault s r =
    found sampling_text fault sampling_named Some sampling_again same_some s r

pub depth_found : {E : Type 0} (fault : E) (b : Depth) (r : Result Depth E)
    → FindsBy depth_text fault (depth_text b) r → r ≡ Ok b
depth_found fault b r = found depth_text fault depth_named Some depth_again same_some b r

pub path_found : {E : Type 0} (fault : E) (p : Path) (r : Result Path E)
    → FindsBy path_text fault (path_text p) r → r ≡ Ok p
path_found fault p r =
    found path_text fault path_named (λ x. x) path_again (λ v w e. e) p r

pub bits_found : {E : Type 0} (fault : E) (b : Depth) (r : Result Depth E)
    → FindsBy bits_of fault (bits_of b) r → r ≡ Ok b
bits_found fault b r = found bits_of fault depth_at (λ x. x) bits_again (λ v w e. e) b r

-- ---- numbers

pub number_by : (text : List ℕ) (n : ℕ) → IsNumber text → digits_value 10 text ≡ n
    → number text ≡ Some n
unfolding number
number_by text n is value =
    ap (λ t. cond t (Some (digits_value 10 text)) None) (passes text is) ∙ ap Some value

number_decimal : (n : ℕ) → n < 2 ^ 32 → number (decimal n) ≡ Some n
number_decimal n small =
    let wide : n < 2 ^ 64 = omega arith in
    let value : digits_value 10 (decimal n) ≡ n = digits_value-decimal digits n wide in
    number_by (decimal n) n
    (record {
      digits = digits.to (decimal n) (digits_decimal digits n wide);
      some = decimal_nonempty n wide;
      few = length-decimal-le 10 n (lit< tt) (omega arith) wide;
      fits = omega (arith, value);
    }) value

-- ---- texts that are parted

abbrev pub lacks : ℕ → List ℕ → Type 0
lacks b xs = list_all (λ c. not (c == b)) xs ≡ true

number_self : (a : ℕ) → (a == a) ≡ true
number_self a = (Decides-eqb a a).1 refl

below : (m n : ℕ) → m < n → nat_lt m n ≡ true
below m n h = grind (arith, nat_tests)

not_below : (n : ℕ) → nat_lt n n ≡ false
not_below n = grind (arith, nat_tests)

first_at : (b : ℕ) (xs ys : List ℕ) → lacks b xs
    → position_or_len (λ c. c == b) (xs ++ b ∷ ys) ≡ length xs
first_at b [] ys e = rw (number_self b) refl
first_at b (x ∷ xs) ys e =
    let h : (not (x == b) ≡ true) × lacks b xs =
    and_parts (not (x == b)) (list_all (λ c. not (c == b)) xs) e in
    rw (h.0, first_at b xs ys h.1) (omega arith)

first_past : (b : ℕ) (xs : List ℕ) → lacks b xs → position_or_len (λ c. c == b) xs ≡ length xs
first_past b [] e = refl
first_past b (x ∷ xs) e =
    let h : (not (x == b) ≡ true) × lacks b xs =
    and_parts (not (x == b)) (list_all (λ c. not (c == b)) xs) e in
    rw (h.0, first_past b xs h.1) (omega arith)

cut_front : (b : ℕ) (xs ys : List ℕ) → take (length xs) (xs ++ b ∷ ys) ≡ xs
cut_front b xs ys = grind (arith, common_steps)

cut_back : (b : ℕ) (xs ys : List ℕ) → drop (length xs + 1) (xs ++ b ∷ ys) ≡ ys
cut_back b [] ys = refl
cut_back b (x ∷ xs) ys =
    let more : length (x ∷ xs) + 1 ≡ suc (length xs + 1) = omega arith in
    ap (λ (n : ℕ). drop n (x ∷ (xs ++ b ∷ ys))) more ∙ cut_back b xs ys

longer : (b : ℕ) (xs ys : List ℕ) → length xs < length (xs ++ b ∷ ys)
longer b xs ys = grind (arith, common_steps)

abbrev cut_at : List ℕ → Option ℕ → Option (List ℕ × List ℕ)
cut_at text place = option_map (λ i. (take i text, drop (i + 1) text)) place

pub parted_at : (b : ℕ) (xs ys : List ℕ) → lacks b xs → parted b (xs ++ b ∷ ys) ≡ Some (xs, ys)
parted_at b xs ys e =
    let all = xs ++ b ∷ ys in
    ap (λ (i : ℕ). cut_at all (cond (nat_lt i (length all)) (Some i) None)) (first_at b xs ys e)
    ∙ ap (λ (t : Bool). cut_at all (cond t (Some (length xs)) None))
    (below (length xs) (length all) (longer b xs ys))
    ∙ ap (λ (u : List ℕ). Some (u, drop (length xs + 1) all)) (cut_front b xs ys)
    ∙ ap (λ (v : List ℕ). Some (xs, v)) (cut_back b xs ys)

pub parted_none : (b : ℕ) (xs : List ℕ) → lacks b xs → parted b xs ≡ None
parted_none b xs e =
    ap (λ (i : ℕ). cut_at xs (cond (nat_lt i (length xs)) (Some i) None)) (first_past b xs e)
    ∙ ap (λ (t : Bool). cut_at xs (cond t (Some (length xs)) None)) (not_below (length xs))

all_so : (p q : ℕ → Bool) → ((x : ℕ) → p x ≡ true → q x ≡ true) → (xs : List ℕ)
    → list_all p xs ≡ true → list_all q xs ≡ true
all_so p q so [] e = refl
all_so p q so (x ∷ xs) e =
    let h : (p x ≡ true) × (list_all p xs ≡ true) = and_parts (p x) (list_all p xs) e in
    rw (so x h.0, all_so p q so xs h.1) refl

digit_other : (b : ℕ) → b < 48 → (x : ℕ) → is_ascii_digit x ≡ true → not (x == b) ≡ true
digit_other b low x e = grind (arith, nat_tests)

pub decimal_lacks : (b n : ℕ) → b < 48 → n < 2 ^ 32 → lacks b (decimal n)
decimal_lacks b n low small =
    let wide : n < 2 ^ 64 = omega arith in
    all_so is_ascii_digit (λ c. not (c == b)) (digit_other b low) (decimal n)
    (digits_decimal digits n wide)

sampling_lacks : (s : Sampling) → lacks 32 (sampling_text s)
sampling_lacks Ycc422 = refl
sampling_lacks Ycc444 = refl
sampling_lacks Rgb = refl

depth_lacks : (b : Depth) → lacks 32 (depth_text b)
depth_lacks D8 = refl
depth_lacks D10 = refl
depth_lacks D12 = refl
depth_lacks D16 = refl

-- ---- rates

is_one : (d : ℕ) → (d == 1) ≡ true → d ≡ 1
is_one d e = grind (arith, nat_tests)

rate_by : (n d : ℕ) (t : Bool) → (d == 1) ≡ t → n < 2 ^ 32 → d < 2 ^ 32
    → rate_named (cond t (decimal n) (decimal n ++ codes "/" ++ decimal d)) ≡ Some (n, d)
unfolding rate_named
rate_by n d true e sn sd =
    rw (
      parted_none 47 (decimal n) (decimal_lacks 47 n (lit< tt) sn),
      number_decimal n sn,
      is_one d e,
    ) refl
rate_by n d false e sn sd =
    let whole : decimal n ++ codes "/" ++ decimal d ≡ decimal n ++ 47 ∷ decimal d =
    append_assoc (decimal n) (codes "/") (decimal d) in
    rw (
      whole,
      parted_at 47 (decimal n) (decimal d) (decimal_lacks 47 n (lit< tt) sn),
      number_decimal n sn,
      number_decimal d sd,
    ) refl

rate_again : (n d : ℕ) → n < 2 ^ 32 → d < 2 ^ 32 → rate_named (rate_text n d) ≡ Some (n, d)
rate_again n d sn sd = rate_by n d (d == 1) refl sn sd

pub read_rate-rate_text : (r : Rate) → read_rate (rate_text r.n r.d) ≡ Ok (rate_of r)
unfolding read_rate
read_rate-rate_text r =
    let sn : r.n < 2 ^ 32 = omega (arith, r.sane.most_n) in
    let sd : r.d < 2 ^ 32 = omega (arith, r.sane.most_d) in
    rw (
      rate_again r.n r.d sn sd,
      good_rate r.n r.d r.sane,
      r.lowest,
      div-one r.n,
      div-one r.d,
    ) refl

-- ---- formats

pub read_format-format_text : (f : Format) → read_format (format_text (fields_of f))
    ≡ Ok (fields_of f)
unfolding read_format
read_format-format_text f =
    let sw : f.width < 2 ^ 32 = omega (arith, f.whole_width.most) in
    let sh : f.height < 2 ^ 32 = omega (arith, f.whole_height.most) in
    let sn : f.n < 2 ^ 32 = omega (arith, f.sane_rate.most_n) in
    let sd : f.d < 2 ^ 32 = omega (arith, f.sane_rate.most_d) in
    let s = sampling_text f.sampling in
    let b = depth_text f.depth in
    let r = rate_text f.n f.d in
    rw (
      parted_at 32 s (spaced (b ∷ decimal f.width ∷ decimal f.height ∷ r ∷ []))
          (sampling_lacks f.sampling),
      parted_at 32 b (spaced (decimal f.width ∷ decimal f.height ∷ r ∷ [])) (depth_lacks f.depth),
      parted_at 32 (decimal f.width) (spaced (decimal f.height ∷ r ∷ []))
          (decimal_lacks 32 f.width (lit< tt) sw),
      parted_at 32 (decimal f.height) r (decimal_lacks 32 f.height (lit< tt) sh),
      sampling_again f.sampling,
      depth_again f.depth,
      number_decimal f.width sw,
      number_decimal f.height sh,
      rate_again f.n f.d sn sd,
      format_at-fields f,
    ) refl
