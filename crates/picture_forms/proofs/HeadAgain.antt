-- A head that is written is read as its format.
use Rattle.std.proofs.Common.{◌≡◌, ℕ, ◌^◌, ◌<◌, ◌≤◌, List, [], ◌∷◌, ◌++◌}
use Rattle.std.proofs.Common.{length, Some, None, Result, Ok, append_assoc, codes}
use Rattle.std.proofs.Common.{refl, sym, ap, ◌∙◌, arith, decimal}
use Rattle.std.specs.Prelude.{⊤}
use Rattle.std.specs.Int.{IsInRange}
use Rattle.std.proofs.lemmas.List.{length-append}
use Rattle.st_format.specs.declared.sampling.Sampling.{Sampling}
use Rattle.st_format.specs.declared.sampling.Sampling.TheVariants.{Ycc422, Ycc444, Rgb}
use Rattle.st_format.specs.declared.sampling.Depth.{Depth}
use Rattle.st_format.specs.declared.sampling.Depth.TheVariants.{D8, D10, D12, D16}
use Rattle.st_format.specs.declared.format.Format.{Format}
use Rattle.st_format.specs.Fields.{Fields, fields_of, format_at}
use Rattle.st_format.specs.Given.{with_rest}
use Rattle.st_format.specs.Reading.{◌>>=◌}
use Rattle.st_format.specs.Text.{parted}
use Rattle.st_format.proofs.Made.{format_at-fields}
use Rattle.picture_forms.specs.declared.fault.FormFault.{FormFault}
use Rattle.picture_forms.specs.Heads.{colour_at, colour_named, head_at, head_walk, limited, name_at}
use Rattle.picture_forms.specs.Heads.{name_of, number_at, rate_at, scan_at}
use Rattle.picture_forms.specs.Heads.{told_last, words}
use Rattle.picture_forms.specs.Layouts.{IsYcc, depth_word, sampling_word, y4m_head}
use Rattle.picture_forms.specs.Walks.{line_at}
use Rattle.picture_forms.proofs.Lined.{line_again}
use Rattle.picture_forms.proofs.Texted.{Without, decimal_short, decimal_without, number_again}
use Rattle.picture_forms.proofs.Texted.{parted_at, without_both, without_by, words_at}
use Rattle.picture_forms.proofs.Walked.{field_again}

-- the word for a depth, without the line's end
abbrev depth_tail : Depth → List ℕ
depth_tail D8 = []
depth_tail D10 = codes "p10"
depth_tail D12 = codes "p12"
depth_tail D16 = codes "p16"

with_end : (b : Depth) → depth_word b ≡ depth_tail b ++ 10 ∷ []
with_end D8 = refl
with_end D10 = refl
with_end D12 = refl
with_end D16 = refl

abbrev colour_text : Sampling → Depth → List ℕ
colour_text Ycc422 b = codes "422" ++ depth_tail b
colour_text Ycc444 b = codes "444" ++ depth_tail b
colour_text Rgb b = []

abbrev behind_rate : Format → List ℕ
behind_rate f = codes " Ip A1:1" ++ (sampling_word f.sampling ++ depth_tail f.depth)

-- what stands in the line behind the name
abbrev line_text : Format → List ℕ
line_text f =
    codes " W" ++ (decimal f.width ++ (codes " H" ++ (decimal f.height
    ++ (codes " F" ++ (decimal f.n ++ (codes ":" ++ (decimal f.d ++ behind_rate f)))))))

head_text : (f : Format) → y4m_head f ≡ codes "YUV4MPEG2" ++ (line_text f ++ 10 ∷ [])
unfolding y4m_head
head_text f = rw (with_end f.depth) (simp append_assoc)

-- ---- the words

colour_words : (s : Sampling) (b : Depth) → IsYcc s
    → words (codes "Ip A1:1" ++ (sampling_word s ++ depth_tail b))
    ≡ codes "Ip" ∷ codes "A1:1" ∷ (67 ∷ colour_text s b) ∷ []
colour_words Ycc422 D8 is = refl
colour_words Ycc422 D10 is = refl
colour_words Ycc422 D12 is = refl
colour_words Ycc422 D16 is = refl
colour_words Ycc444 D8 is = refl
colour_words Ycc444 D10 is = refl
colour_words Ycc444 D12 is = refl
colour_words Ycc444 D16 is = refl
colour_words Rgb b is = absurd is

colour_again : (s : Sampling) (b : Depth) → IsYcc s → colour_named (colour_text s b) ≡ Ok (s, b)
unfolding colour_named
colour_again Ycc422 D8 is = refl
colour_again Ycc422 D10 is = refl
colour_again Ycc422 D12 is = refl
colour_again Ycc422 D16 is = refl
colour_again Ycc444 D8 is = refl
colour_again Ycc444 D10 is = refl
colour_again Ycc444 D12 is = refl
colour_again Ycc444 D16 is = refl
colour_again Rgb b is = absurd is

no_space : IsInRange 48 57 32 → ⊥
no_space r = omega (arith, r)

no_feed : IsInRange 48 57 10 → ⊥
no_feed r = omega (arith, r)

no_colon : IsInRange 48 57 58 → ⊥
no_colon r = omega (arith, r)

-- a letter and a number
numbered : (letter n : ℕ) → (letter ≡ 32 → ⊥) → n < 2 ^ 32 → Without 32 (letter ∷ decimal n)
numbered letter n other small =
    (other, decimal_without 32 n (omega (arith, small)) no_space)

abbrev rate_text : Format → List ℕ
rate_text f = decimal f.n ++ 58 ∷ decimal f.d

abbrev all_words : Format → List (List ℕ)
all_words f =
    [] ∷ (87 ∷ decimal f.width) ∷ (72 ∷ decimal f.height) ∷ (70 ∷ rate_text f) ∷ codes "Ip"
    ∷ codes "A1:1" ∷ (67 ∷ colour_text f.sampling f.depth) ∷ []

abbrev tail_text : Format → List ℕ
tail_text f = codes "Ip A1:1" ++ (sampling_word f.sampling ++ depth_tail f.depth)

width_small : (f : Format) → f.width < 2 ^ 32
width_small f = omega (arith, f.whole_width.most)

height_small : (f : Format) → f.height < 2 ^ 32
height_small f = omega (arith, f.whole_height.most)

n_small : (f : Format) → f.n < 2 ^ 32
n_small f = omega (arith, f.sane_rate.most_n)

d_small : (f : Format) → f.d < 2 ^ 32
d_small f = omega (arith, f.sane_rate.most_d)

line_words : (f : Format) → IsYcc f.sampling → words (line_text f) ≡ all_words f
line_words f is =
    let w = width_small f in
    let h = height_small f in
    let n = n_small f in
    let d = d_small f in
    let rate_word : Without 32 (70 ∷ rate_text f) =
    without_both 32 (70 ∷ decimal f.n) (58 ∷ decimal f.d)
    (numbered 70 f.n (λ e. omega (arith, e)) n) (numbered 58 f.d (λ e. omega (arith, e)) d) in
    let last : words ((70 ∷ rate_text f) ++ 32 ∷ tail_text f)
    ≡ (70 ∷ rate_text f) ∷ codes "Ip" ∷ codes "A1:1"
    ∷ (67 ∷ colour_text f.sampling f.depth) ∷ [] =
    words_at (70 ∷ rate_text f) (tail_text f) rate_word
    ∙ ap (λ (ws : List (List ℕ)). (70 ∷ rate_text f) ∷ ws)
    (colour_words f.sampling f.depth is) in
    let joined : decimal f.n ++ (58 ∷ (decimal f.d ++ (32 ∷ tail_text f)))
    ≡ rate_text f ++ 32 ∷ tail_text f =
    sym (append_assoc (decimal f.n) (58 ∷ decimal f.d) (32 ∷ tail_text f)) in
    let rest : List ℕ = decimal f.n ++ (58 ∷ (decimal f.d ++ (32 ∷ tail_text f))) in
    let heights : List ℕ = 72 ∷ (decimal f.height ++ (32 ∷ 70 ∷ rest)) in
    ap (λ (ws : List (List ℕ)). [] ∷ ws)
    (words_at (87 ∷ decimal f.width) heights (numbered 87 f.width (λ e. omega (arith, e)) w)
    ∙ ap (λ (ws : List (List ℕ)). (87 ∷ decimal f.width) ∷ ws)
    (words_at (72 ∷ decimal f.height) (70 ∷ rest)
    (numbered 72 f.height (λ e. omega (arith, e)) h)
    ∙ ap (λ (ws : List (List ℕ)). (72 ∷ decimal f.height) ∷ ws)
    (ap (λ (t : List ℕ). words (70 ∷ t)) joined ∙ last)))

-- ---- what they say

rate_again : (f : Format) → rate_at (Some (rate_text f)) ≡ Ok (f.n, f.d)
rate_again f =
    let wide : f.n < 2 ^ 64 = omega (arith, n_small f) in
    let parts : parted 58 (rate_text f) ≡ Some (decimal f.n, decimal f.d) =
    parted_at 58 (decimal f.n) (decimal f.d) (decimal_without 58 f.n wide no_colon) in
    rw (parts, number_again f.n (n_small f), number_again f.d (d_small f)) refl

abbrev head_of : List (List ℕ) → Result Fields FormFault
head_of ws =
    number_at (told_last 87 None ws) >>= λ w. number_at (told_last 72 None ws) >>= λ h.
    rate_at (told_last 70 None ws) >>= λ r. scan_at (told_last 73 None ws) >>= λ p.
    colour_at (told_last 67 None ws) >>= λ c. limited (format_at c.0 c.1 w h r.0 r.1)

words_say : (f : Format) → IsYcc f.sampling → head_of (all_words f) ≡ Ok (fields_of f)
words_say f is =
    rw (
      number_again f.width (width_small f),
      number_again f.height (height_small f),
      rate_again f,
      colour_again f.sampling f.depth is,
      format_at-fields f,
    ) refl

pub line_says : (f : Format) → IsYcc f.sampling → head_at (line_text f) ≡ Ok (fields_of f)
unfolding head_at
line_says f is = ap head_of (line_words f is) ∙ words_say f is

-- ---- the line

sampling_plain : (s : Sampling) → Without 10 (sampling_word s)
sampling_plain Ycc422 = without_by 10 (codes " C422") refl
sampling_plain Ycc444 = without_by 10 (codes " C444") refl
sampling_plain Rgb = tt

depth_plain : (b : Depth) → Without 10 (depth_tail b)
depth_plain D8 = tt
depth_plain D10 = without_by 10 (codes "p10") refl
depth_plain D12 = without_by 10 (codes "p12") refl
depth_plain D16 = without_by 10 (codes "p16") refl

line_plain : (f : Format) → Without 10 (line_text f)
line_plain f =
    let num : (n : ℕ) → n < 2 ^ 32 → Without 10 (decimal n) =
    λ n small. decimal_without 10 n (omega (arith, small)) no_feed in
    without_both 10 (codes " W") _ (without_by 10 (codes " W") refl)
    (without_both 10 (decimal f.width) _ (num f.width (width_small f))
    (without_both 10 (codes " H") _ (without_by 10 (codes " H") refl)
    (without_both 10 (decimal f.height) _ (num f.height (height_small f))
    (without_both 10 (codes " F") _ (without_by 10 (codes " F") refl)
    (without_both 10 (decimal f.n) _ (num f.n (n_small f))
    (without_both 10 (codes ":") _ (without_by 10 (codes ":") refl)
    (without_both 10 (decimal f.d) _ (num f.d (d_small f))
    (without_both 10 (codes " Ip A1:1") _ (without_by 10 (codes " Ip A1:1") refl)
    (without_both 10 (sampling_word f.sampling) (depth_tail f.depth)
    (sampling_plain f.sampling) (depth_plain f.depth))))))))))

sampling_short : (s : Sampling) → length (sampling_word s) ≤ 5
sampling_short Ycc422 = omega arith
sampling_short Ycc444 = omega arith
sampling_short Rgb = omega arith

depth_short : (b : Depth) → length (depth_tail b) ≤ 3
depth_short D8 = omega arith
depth_short D10 = omega arith
depth_short D12 = omega arith
depth_short D16 = omega arith

line_short : (f : Format) → length (line_text f) < 256
line_short f =
    omega (
      arith,
      length-append {A = ℕ},
      decimal_short f.width (width_small f),
      decimal_short f.height (height_small f),
      decimal_short f.n (n_small f),
      decimal_short f.d (d_small f),
      sampling_short f.sampling,
      depth_short f.depth,
    )

-- ---- the head

name_again : (rest : List ℕ) → name_at (codes "YUV4MPEG2" ++ rest) ≡ Ok (tt, rest)
unfolding name_at
name_again rest =
    ap (λ (r : Result (List ℕ × List ℕ) FormFault). r >>= λ x. with_rest (name_of x.0) x.1)
    (field_again 9 (codes "YUV4MPEG2") rest refl)

pub head_again : (f : Format) (behind : List ℕ) → IsYcc f.sampling
    → head_walk (y4m_head f ++ behind) ≡ Ok (fields_of f, behind)
unfolding head_walk
head_again f behind is =
    let line : List ℕ = (line_text f ++ 10 ∷ []) ++ behind in
    let text : y4m_head f ++ behind ≡ codes "YUV4MPEG2" ++ line =
    ap (λ (t : List ℕ). t ++ behind) (head_text f)
    ∙ append_assoc (codes "YUV4MPEG2") (line_text f ++ 10 ∷ []) behind in
    ap (λ (o : List ℕ). name_at o >>= λ x. line_at 256 x.1 >>= λ y. with_rest (head_at y.0) y.1)
    text
    ∙ ap (λ (r : Result (⊤ × List ℕ) FormFault). r >>= λ x. line_at 256 x.1 >>=
    λ y. with_rest (head_at y.0) y.1) (name_again line)
    ∙ ap (λ (r : Result (List ℕ × List ℕ) FormFault). r >>= λ y. with_rest (head_at y.0) y.1)
    (line_again 256 (line_text f) behind (line_plain f) (line_short f))
    ∙ ap (λ (r : Result Fields FormFault). with_rest r behind) (line_says f is)
