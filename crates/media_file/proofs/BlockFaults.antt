-- Format blocks: which are read, and which are the text of no format.
use Rattle.std.proofs.Common.{◌≡◌, ℕ, ◌/◌, ◌^◌, ◌<◌, Bool, true, false, cond, ◌&&◌, eqb, List, []}
use Rattle.std.proofs.Common.{◌∷◌, length, Result, Ok, Err, append-nil, refl, sym, ap, ◌∙◌, subst}
use Rattle.std.proofs.Common.{inl, inr, arith}
use Rattle.std.specs.Int.{w16, w32, from_be_bytes}
use Rattle.std.proofs.lemmas.Bool.{eqb-true}
use Rattle.std.proofs.lemmas.Nat.{from_be_bytes-to_be_bytes_2, from_be_bytes-to_be_bytes_4}
use Rattle.st_format.specs.Device.{AreOctets}
use Rattle.st_format.specs.declared.format.FormatFault.{FormatFault}
use Rattle.st_format.specs.declared.format.FormatFault.TheVariants.{BadHeight, BadRate, BadWidth}
use Rattle.st_format.specs.declared.sampling.Sampling.{Sampling}
use Rattle.st_format.specs.declared.sampling.Sampling.TheVariants.{Ycc422, Ycc444, Rgb}
use Rattle.st_format.specs.declared.sampling.Depth.{Depth}
use Rattle.st_format.specs.declared.sampling.Depth.TheVariants.{D8, D10, D12, D16}
use Rattle.st_format.specs.Fields.{Fields, format_at, is_bad_height, is_bad_rate, is_bad_width}
use Rattle.st_format.specs.Pgroup.{bits_of}
use Rattle.st_format.specs.Rate.{common_divisor}
use Rattle.media_file.specs.declared.fault.FileFault.{FileFault}
use Rattle.media_file.specs.declared.fault.FileFault.TheVariants.{BadField}
use Rattle.media_file.specs.Blocks.{block_at, block_of, depth_of, lowest, sampling_of}
use Rattle.media_file.specs.Fields.{field_at}
use Rattle.st_format.specs.Reading.{◌>>=◌}
use Rattle.st_format.specs.Given.{with_rest}
use Rattle.media_file.specs.PictureFaults.{IsFormat}
use Rattle.media_file.specs.StateFile.{format_text, sampling_code}
use Rattle.media_file.proofs.Blocked.{block_parts, lowest_good}
use Rattle.media_file.proofs.Entries.{chosen}
use Rattle.media_file.proofs.Failing.{answered, not_both, same_fault, split_fails}
use Rattle.media_file.proofs.Found.{failed, given, split_then}
use Rattle.media_file.proofs.Seen.{block_takes}
use Rattle.media_file.proofs.Splits.{field_again}

-- ---- a text of a format is read as it

code_again : (s : Sampling) → Ok s ≡ sampling_of (sampling_code s)
code_again Ycc422 = refl
code_again Ycc444 = refl
code_again Rgb = refl

depth_again : (b : Depth) → Ok b ≡ depth_of (bits_of b)
depth_again D8 = refl
depth_again D10 = refl
depth_again D12 = refl
depth_again D16 = refl

pub block_again : (f : Fields) → IsFormat f → block_of (format_text f) ≡ Ok f
block_again f h =
    sym (block_parts (format_text f) (answered Fields f) f.sampling f.depth f.width f.height f.n f.d
    (code_again f.sampling) (depth_again f.depth)
    (sym (from_be_bytes-to_be_bytes_2 f.width h.room.width))
    (sym (from_be_bytes-to_be_bytes_2 f.height h.room.height))
    (sym (from_be_bytes-to_be_bytes_4 f.n h.room.n))
    (sym (from_be_bytes-to_be_bytes_4 f.d h.room.d))
    (lowest_good f (format_at f.sampling f.depth f.width f.height f.n f.d) f.n f.d (sym h.is) refl
    refl))

-- ---- what fails is a field

sampling_fails : (n : ℕ) (e : FileFault) → sampling_of n ≡ Err e → BadField ≡ e
sampling_fails n e h =
    elim (chosen (eqb n 0) (answered Sampling Ycc422)
    (cond (eqb n 1) (answered Sampling Ycc444)
    (cond (eqb n 2) (answered Sampling Rgb) (failed Sampling BadField))) (failed Sampling e)
    h) [
      | inl w ↦ absurd (not_both Sampling Ycc422 e w.1)
      | inr w ↦ elim
          (chosen (eqb n 1) (answered Sampling Ycc444)
          (cond (eqb n 2) (answered Sampling Rgb) (failed Sampling BadField)) (failed Sampling e)
          w.1) [
            | inl u ↦ absurd (not_both Sampling Ycc444 e u.1)
            | inr u ↦ elim
                (chosen (eqb n 2) (answered Sampling Rgb) (failed Sampling BadField)
                (failed Sampling e) u.1) [
                  | inl v ↦ absurd (not_both Sampling Rgb e v.1)
                  | inr v ↦ same_fault Sampling BadField e v.1
                ]
          ]
    ]

depth_by : (a b c d : Bool) (e : FileFault)
    → cond a (answered Depth D8)
    (cond b (answered Depth D10)
    (cond c (answered Depth D12) (cond d (answered Depth D16) (failed Depth BadField)))) ≡ Err e
    → BadField ≡ e
depth_by true b c d e h = absurd (not_both Depth D8 e h)
depth_by false true c d e h = absurd (not_both Depth D10 e h)
depth_by false false true d e h = absurd (not_both Depth D12 e h)
depth_by false false false true e h = absurd (not_both Depth D16 e h)
depth_by false false false false e h = same_fault Depth BadField e h

depth_fails : (n : ℕ) (e : FileFault) → depth_of n ≡ Err e → BadField ≡ e
depth_fails n e h = depth_by (eqb n 8) (eqb n 10) (eqb n 12) (eqb n 16) e h

lowest_by : (b : Bool) (f : Fields) (e : FileFault)
    → cond b (answered Fields f) (failed Fields BadField) ≡ Err e → BadField ≡ e
lowest_by true f e h = absurd (not_both Fields f e h)
lowest_by false f e h = same_fault Fields BadField e h

lowest_fails : (r : Result Fields FormatFault) (n d : ℕ) (e : FileFault) → lowest r n d ≡ Err e
    → BadField ≡ e
lowest_fails (Ok f) n d e h = lowest_by (eqb f.n n && eqb f.d d) f e h
lowest_fails (Err x) n d e h = same_fault Fields BadField e h

parts_fail : (a b w v r q : ℕ) (e : FileFault)
    → (sampling_of a >>= λ s. depth_of b >>= λ t. lowest (format_at s t w v r q) r q) ≡ Err e
    → BadField ≡ e
parts_fail a b w v r q e h =
    elim (split_fails (sampling_of a) (λ s. depth_of b >>= λ t. lowest (format_at s t w v r q) r q)
    e h) [
      | inl p ↦ sampling_fails a e p
      | inr x ↦ elim
          (split_fails (depth_of b) (λ t. lowest (format_at x.first t w v r q) r q) e x.next) [
            | inl p ↦ depth_fails b e p
            | inr y ↦ lowest_fails (format_at x.first y.first w v r q) r q e y.next
          ]
    ]

abbrev word : ℕ → ℕ → ℕ
word a b = from_be_bytes w16 (a ∷ b ∷ [])

abbrev long_word : ℕ → ℕ → ℕ → ℕ → ℕ
long_word a b c d = from_be_bytes w32 (a ∷ b ∷ c ∷ d ∷ [])

pub block_fails : (block : List ℕ) (e : FileFault) → length block ≡ 14 → block_of block ≡ Err e
    → BadField ≡ e
block_fails (a ∷ b ∷ c ∷ d ∷ g ∷ h ∷ i ∷ j ∷ k ∷ l ∷ m ∷ n ∷ o ∷ p ∷ []) e len is
    = parts_fail a b (word c d) (word g h) (long_word i j k l) (long_word m n o p) e is
block_fails block e len is = absurd (omega (arith, len))

-- ---- what is read is a format

abbrev made_in : Fields → Result Fields FormatFault → Fields
made_in f (Ok x) = x
made_in f (Err e) = f

abbrev good_made : Fields → Result Fields FormatFault
good_made f = Ok f

abbrev bad_made : FormatFault → Result Fields FormatFault
bad_made e = Err e

no_format : (e : FormatFault) (f : Fields) → bad_made e ≡ good_made f → ⊥
no_format e f h = absurd cc

made_by : (a b c : Bool) (g f : Fields)
    → cond a (bad_made BadWidth)
    (cond b (bad_made BadHeight) (cond c (bad_made BadRate) (good_made g))) ≡ good_made f → g ≡ f
made_by true b c g f h = absurd (no_format BadWidth f h)
made_by false true c g f h = absurd (no_format BadHeight f h)
made_by false false true g f h = absurd (no_format BadRate f h)
made_by false false false g f h = ap (made_in f) h

abbrev built : Sampling → Depth → ℕ → ℕ → ℕ → ℕ → Fields
built s b w h n d
    = record {
      sampling = s;
      depth = b;
      width = w;
      height = h;
      n = n / common_divisor n d;
      d = d / common_divisor n d;
    }

built_is : (s : Sampling) (b : Depth) (w h n d : ℕ) (f : Fields)
    → format_at s b w h n d ≡ good_made f → built s b w h n d ≡ f
built_is s b w h n d f is
    = made_by (is_bad_width s b w) (is_bad_height h) (is_bad_rate n d) (built s b w h n d) f is

record IsLowest (r : Result Fields FormatFault) (n d : ℕ) (f : Fields) : Type 0 where
  made : r ≡ good_made f
  same_n : n ≡ f.n
  same_d : d ≡ f.d

both : (a b : Bool) → (a && b) ≡ true → (a ≡ true) × (b ≡ true)
both true true h = (refl, refl)
both true false h = absurd cc
both false b h = absurd cc

lowest_is : (r : Result Fields FormatFault) (n d : ℕ) (f : Fields) → lowest r n d ≡ Ok f
    → IsLowest r n d f
lowest_is (Ok g) n d f h =
    elim (chosen (eqb g.n n && eqb g.d d) (answered Fields g) (failed Fields BadField)
    (answered Fields f) h) [
      | inl w ↦
          let same : g ≡ f = ap (λ (r : Result Fields FileFault). given r f) w.1 in
          let tests = both (eqb g.n n) (eqb g.d d) w.0 in
          record {
            made = ap good_made same;
            same_n = sym (eqb-true g.n n tests.0) ∙ ap (λ (x : Fields). x.n) same;
            same_d = sym (eqb-true g.d d tests.1) ∙ ap (λ (x : Fields). x.d) same;
          }
      | inr w ↦ absurd (not_both Fields f BadField (sym w.1))
    ]
lowest_is (Err x) n d f h = absurd (not_both Fields f BadField (sym h))

-- a format is made again of its fields
again : (s : Sampling) (b : Depth) (w h n d : ℕ) (f : Fields) → format_at s b w h n d ≡ good_made f
    → n ≡ f.n → d ≡ f.d → format_at f.sampling f.depth f.width f.height f.n f.d ≡ good_made f
again s b w h n d f is same_n same_d =
    let same : built s b w h n d ≡ f = built_is s b w h n d f is in
    let es : f.sampling ≡ s = sym (ap (λ (x : Fields). x.sampling) same) in
    let eb : f.depth ≡ b = sym (ap (λ (x : Fields). x.depth) same) in
    let ew : f.width ≡ w = sym (ap (λ (x : Fields). x.width) same) in
    let eh : f.height ≡ h = sym (ap (λ (x : Fields). x.height) same) in
    ap (λ (x : Sampling). format_at x f.depth f.width f.height f.n f.d) es
    ∙ ap (λ (x : Depth). format_at s x f.width f.height f.n f.d) eb
    ∙ ap (λ (x : ℕ). format_at s b x f.height f.n f.d) ew
    ∙ ap (λ (x : ℕ). format_at s b w x f.n f.d) eh
    ∙ ap (λ (x : ℕ). format_at s b w h x f.d) (sym same_n)
    ∙ ap (λ (x : ℕ). format_at s b w h n x) (sym same_d) ∙ is

parts_are : (a b w v r q : ℕ) (f : Fields) → w < 2 ^ 16 → v < 2 ^ 16 → r < 2 ^ 32 → q < 2 ^ 32
    → (sampling_of a >>= λ s. depth_of b >>= λ t. lowest (format_at s t w v r q) r q) ≡ Ok f
    → IsFormat f
parts_are a b w v r q f fits_w fits_v fits_r fits_q is =
    let one = split_then (sampling_of a)
    (λ s. depth_of b >>= λ t. lowest (format_at s t w v r q) r q) f is in
    let two = split_then (depth_of b) (λ t. lowest (format_at one.first t w v r q) r q) f one.next
    in
    let low = lowest_is (format_at one.first two.first w v r q) r q f two.next in
    let same : built one.first two.first w v r q ≡ f
    = built_is one.first two.first w v r q f low.made in
    record {
      room = record {
        width = subst (λ (n : ℕ). n < 2 ^ 16) (ap (λ (x : Fields). x.width) same) fits_w;
        height = subst (λ (n : ℕ). n < 2 ^ 16) (ap (λ (x : Fields). x.height) same) fits_v;
        n = subst (λ (n : ℕ). n < 2 ^ 32) low.same_n fits_r;
        d = subst (λ (n : ℕ). n < 2 ^ 32) low.same_d fits_q;
      };
      is = again one.first two.first w v r q f low.made low.same_n low.same_d;
    }

word_fits : (a b : ℕ) → a < 256 → b < 256 → word a b < 2 ^ 16
word_fits a b p q = omega arith

long_word_fits : (a b c d : ℕ) → a < 256 → b < 256 → c < 256 → d < 256 → long_word a b c d < 2 ^ 32
long_word_fits a b c d p q r s = omega arith

block_is : (block : List ℕ) (f : Fields) → AreOctets block → length block ≡ 14
    → block_of block ≡ Ok f → IsFormat f
block_is (a ∷ b ∷ c ∷ d ∷ g ∷ h ∷ i ∷ j ∷ k ∷ l ∷ m ∷ n ∷ o ∷ p ∷ []) f bytes len is =
    parts_are a b (word c d) (word g h) (long_word i j k l) (long_word m n o p) f
    (word_fits c d (bytes 2) (bytes 3)) (word_fits g h (bytes 4) (bytes 5))
    (long_word_fits i j k l (bytes 6) (bytes 7) (bytes 8) (bytes 9))
    (long_word_fits m n o p (bytes 10) (bytes 11) (bytes 12) (bytes 13)) is
block_is block f bytes len is = absurd (omega (arith, len))

-- a block that is read as a format is its text
pub record Blocked (block : List ℕ) (f : Fields) : Type 0 where
  pub format : IsFormat f
  pub text : block ≡ format_text f

pub block_read : (block : List ℕ) (f : Fields) → AreOctets block → length block ≡ 14
    → block_of block ≡ Ok f → Blocked block f
unfolding block_at
block_read block f bytes len is =
    let read : (field_at 14 block >>= λ x. with_rest (block_of x.0) x.1) ≡ Ok (f, []) =
    ap (λ (o : List ℕ). field_at 14 o >>= λ x. with_rest (block_of x.0) x.1)
    (sym (append-nil block))
    ∙ ap (λ (r : Result (List ℕ × List ℕ) FileFault). r >>= λ x. with_rest (block_of x.0) x.1)
    (field_again 14 block [] len) ∙ ap (λ (r : Result Fields FileFault). with_rest r []) is in
    record {
      format = block_is block f bytes len is;
      text = block_takes block (f, []) bytes read ∙ append-nil (format_text f);
    }
