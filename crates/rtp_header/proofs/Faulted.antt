-- Which fault is told: exactly the one that stands in the octets.
use Rattle.std.proofs.Common.{◌≡◌, ℕ, ◌+◌, ◌-◌, ◌*◌, ◌/◌, ◌%◌, ◌<◌, ◌≤◌, ◌⊎◌, ◌↔◌, inl, inr, Bool}
use Rattle.std.proofs.Common.{true, false, cond, not, eqb, ltb, ◌||◌, List, length, get_or, take}
use Rattle.std.proofs.Common.{drop, Result, Ok, Err, refl, sym, ap, ◌∙◌, subst, arith}
use Rattle.std.specs.Prelude.{IsErrOf}
use Rattle.std.specs.Int.{w16, from_be_bytes}
use Rattle.std.proofs.lemmas.Bool.{cases_lt, eqb-true, eqb-false, ltb-true, ltb-false}
use Rattle.std.proofs.lemmas.List.{drop-drop, length-drop, get_or-drop, get_or_past}
use Rattle.rtp_header.specs.declared.header.RtpFault.{RtpFault}
use Rattle.rtp_header.specs.declared.header.RtpFault.TheVariants.{ShortHeader, BadVersion}
use Rattle.rtp_header.specs.declared.header.RtpFault.TheVariants.{ShortExtension, BadPadding}
use Rattle.rtp_header.specs.declared.header.RtpView.{RtpView}
use Rattle.rtp_header.specs.Grammar.{Rtp}
use Rattle.rtp_header.specs.Reading.{rest_behind, behind_extension, without_padding, rtp_of}
use Rattle.rtp_header.specs.Reading.{◌>>=◌, Gives, rtp_walk}
use Rattle.rtp_header.specs.Faults.{HasRtpFault, IsShortExtension, IsBadPadding, version_bits}
use Rattle.rtp_header.specs.Faults.{IsPadded}
use Rattle.rtp_header.specs.Faults.{sources_end, extension_words, headers_end, last_octet}
use Rattle.rtp_header.specs.Views.{seen_rtp}

abbrev rtp_err : RtpFault → Result Rtp RtpFault
rtp_err e = Err e

abbrev view_of : RtpFault → Result RtpView RtpFault
view_of e = Err e

-- nothing is wrong with the octets
record IsFaultless (octets : List ℕ) : Type 0 where
  whole : 12 ≤ length octets
  version : version_bits octets ≡ 2
  headers : headers_end octets ≤ length octets
  counted : IsPadded octets
      → (last_octet octets ≡ 0 → ⊥) × (headers_end octets + last_octet octets ≤ length octets)

-- what is answered stands in the octets
abbrev Stands : List ℕ → Result Rtp RtpFault → Type 0
Stands octets (Ok r) = IsFaultless octets
Stands octets (Err e) = HasRtpFault octets e

-- ---- the padding

-- what is behind the headers, whole as they are
record IsBehind (octets rest : List ℕ) : Type 0 where
  whole : 12 ≤ length octets
  version : version_bits octets ≡ 2
  headers : headers_end octets ≤ length octets
  is : rest ≡ drop (headers_end octets) octets

count_behind : (octets rest : List ℕ) → IsBehind octets rest
    → length rest + headers_end octets ≡ length octets
count_behind octets rest is =
    omega (arith, ap length is.is, length-drop (headers_end octets) octets, is.headers)

last_behind : (octets rest : List ℕ) → IsBehind octets rest → 0 < length rest
    → get_or rest (length rest - 1) 0 ≡ last_octet octets
last_behind octets rest is some =
    let count = count_behind octets rest is in
    let at : headers_end octets + (length rest - 1) ≡ length octets - 1 = omega arith in
    ap (λ (x : List ℕ). get_or x (length rest - 1) 0) is.is
    ∙ get_or-drop (headers_end octets) octets (length rest - 1) 0
    ∙ ap (λ (i : ℕ). get_or octets i 0) at

wrong_none : (octets : List ℕ) → length octets ≤ headers_end octets
    → (last_octet octets ≡ 0) ⊎ (length octets < headers_end octets + last_octet octets)
wrong_none octets none =
    elim (cases_lt 0 (last_octet octets)) [
      | inl some ↦ inr (omega arith)
      | inr less ↦ inl
          (omega arith)
    ]

wrong_zero : (octets rest : List ℕ) → IsBehind octets rest → get_or rest (length rest - 1) 0 ≡ 0
    → (last_octet octets ≡ 0) ⊎ (length octets < headers_end octets + last_octet octets)
wrong_zero octets rest is nought =
    let count = count_behind octets rest is in
    elim (cases_lt 0 (length rest)) [
      | inl some ↦ inl (sym (last_behind octets rest is some) ∙ nought)
      | inr none ↦ wrong_none octets (omega arith)
    ]

some_behind : (octets rest : List ℕ) → IsBehind octets rest
    → (get_or rest (length rest - 1) 0 ≡ 0 → ⊥) → 0 < length rest
some_behind octets rest is other =
    elim (cases_lt 0 (length rest)) [
      | inl some ↦ some
      | inr none ↦ absurd (other (get_or_past rest (length rest - 1) 0 (omega arith)))
    ]

bad_padding : (octets rest : List ℕ) → IsBehind octets rest → IsPadded octets
    → (last_octet octets ≡ 0) ⊎ (length octets < headers_end octets + last_octet octets)
    → IsBadPadding octets
bad_padding octets rest is padded wrong =
    record {
      whole = is.whole;
      version = is.version;
      headers = is.headers;
      padded = padded;
      wrong =
          wrong;
    }

counted_stands : (octets rest : List ℕ) (z s : Bool) → IsBehind octets rest → IsPadded octets
    → eqb (get_or rest (length rest - 1) 0) 0 ≡ z
    → ltb (length rest) (get_or rest (length rest - 1) 0) ≡ s
    → Stands octets
    (cond (z || s) (Err BadPadding)
    (Ok (take (length rest - get_or rest (length rest - 1) 0) rest)) >>=
    λ w. Ok (rtp_of octets w))
counted_stands octets rest true s is padded ez es =
    bad_padding octets rest is padded
    (wrong_zero octets rest is (eqb-true (get_or rest (length rest - 1) 0) 0 ez))
counted_stands octets rest false true is padded ez es =
    let more : length rest < get_or rest (length rest - 1) 0 =
    ltb-true (length rest) (get_or rest (length rest - 1) 0) es in
    let last =
    last_behind octets rest is
    (some_behind octets rest is (eqb-false (get_or rest (length rest - 1) 0) 0 ez)) in
    let count = count_behind octets rest is in
    bad_padding octets rest is padded (inr (omega arith))
counted_stands octets rest false false is padded ez es =
    let fits : get_or rest (length rest - 1) 0 ≤ length rest =
    ltb-false (length rest) (get_or rest (length rest - 1) 0) es in
    let other : get_or rest (length rest - 1) 0 ≡ 0
    → ⊥ = eqb-false (get_or rest (length rest - 1) 0) 0 ez in
    let last = last_behind octets rest is (some_behind octets rest is other) in
    let count = count_behind octets rest is in
    record {
      whole = is.whole;
      version = is.version;
      headers = is.headers;
      counted =
          λ _. (λ (nought : last_octet octets ≡ 0). other (last ∙ nought), omega arith);
    }

padding_stands : (octets rest : List ℕ) (p : Bool) → IsBehind octets rest
    → eqb (get_or octets 0 0 / 32 % 2) 1 ≡ p
    → Stands octets (without_padding p rest >>= λ w. Ok (rtp_of octets w))
padding_stands octets rest false is e =
    record {
      whole = is.whole;
      version = is.version;
      headers = is.headers;
      counted =
          λ set. absurd (eqb-false (get_or octets 0 0 / 32 % 2) 1 e set);
    }
padding_stands octets rest true is e =
    counted_stands octets rest (eqb (get_or rest (length rest - 1) 0) 0)
    (ltb (length rest) (get_or rest (length rest - 1) 0)) is
    (eqb-true (get_or octets 0 0 / 32 % 2) 1 e) refl refl

-- ---- the extension

end_plain : (octets : List ℕ) → eqb (get_or octets 0 0 / 16 % 2) 1 ≡ false
    → headers_end octets ≡ sources_end octets
unfolding headers_end
end_plain octets e =
    ap (λ (x : Bool). cond x (sources_end octets + 4 + 4 * extension_words octets)
    (sources_end octets)) e

end_extended : (octets : List ℕ) → eqb (get_or octets 0 0 / 16 % 2) 1 ≡ true
    → headers_end octets ≡ sources_end octets + (4 + 4 * extension_words octets)
unfolding headers_end
end_extended octets e =
    ap (λ (x : Bool). cond x (sources_end octets + 4 + 4 * extension_words octets)
    (sources_end octets)) e ∙ omega arith

-- what is behind the sources, whole as they are
record IsBehindSources (octets rest : List ℕ) : Type 0 where
  whole : 12 ≤ length octets
  version : version_bits octets ≡ 2
  sources : sources_end octets ≤ length octets
  is : rest ≡ drop (sources_end octets) octets

count_sources : (octets rest : List ℕ) → IsBehindSources octets rest
    → length rest + sources_end octets ≡ length octets
count_sources octets rest is =
    omega (arith, ap length is.is, length-drop (sources_end octets) octets, is.sources)

words_behind : (octets rest : List ℕ) → IsBehindSources octets rest
    → from_be_bytes w16 (take 2 (drop 2 rest)) ≡ extension_words octets
unfolding extension_words
words_behind octets rest is =
    ap (λ (x : List ℕ). from_be_bytes w16 (take 2 (drop 2 x))) is.is
    ∙ ap (λ (x : List ℕ). from_be_bytes w16 (take 2 x)) (drop-drop 2 (sources_end octets) octets)

short_extension : (octets rest : List ℕ) → IsBehindSources octets rest
    → length octets < headers_end octets → IsShortExtension octets
short_extension octets rest is cut = record { whole = is.whole; version = is.version; cut = cut }

words_stand : (octets rest : List ℕ) (k : ℕ) (s p : Bool) → IsBehindSources octets rest
    → headers_end octets ≡ sources_end octets + (4 + 4 * k)
    → ltb (length rest) (4 + 4 * k) ≡ s → eqb (get_or octets 0 0 / 32 % 2) 1 ≡ p
    → Stands octets
    (cond s (Err ShortExtension) (Ok (drop (4 + 4 * k) rest)) >>= λ z. without_padding p z >>=
    λ w. Ok (rtp_of octets w))
words_stand octets rest k true p is end e ep =
    let count = count_sources octets rest is in
    let less : length rest < 4 + 4 * k = ltb-true (length rest) (4 + 4 * k) e in
    short_extension octets rest is (omega arith)
words_stand octets rest k false p is end e ep =
    let count = count_sources octets rest is in
    let fits : 4 + 4 * k ≤ length rest = ltb-false (length rest) (4 + 4 * k) e in
    padding_stands octets (drop (4 + 4 * k) rest) p
    (record {
      whole = is.whole;
      version = is.version;
      headers = omega arith;
      is =
          ap (drop (4 + 4 * k)) is.is ∙ drop-drop (4 + 4 * k) (sources_end octets) octets
          ∙ ap (λ (n : ℕ). drop n octets) (sym end);
    })
    ep

count_stands : (octets rest : List ℕ) (s p : Bool) → IsBehindSources octets rest
    → eqb (get_or octets 0 0 / 16 % 2) 1 ≡ true → ltb (length rest) 4 ≡ s
    → eqb (get_or octets 0 0 / 32 % 2) 1 ≡ p
    → Stands octets
    (cond s (Err ShortExtension)
    (rest_behind (4 + 4 * from_be_bytes w16 (take 2 (drop 2 rest))) rest) >>=
    λ z. without_padding p z >>= λ w. Ok (rtp_of octets w))
count_stands octets rest true p is ex es ep =
    let count = count_sources octets rest is in
    let less : length rest < 4 = ltb-true (length rest) 4 es in
    short_extension octets rest is (omega (arith, end_extended octets ex))
count_stands octets rest false p is ex es ep =
    let k : ℕ = from_be_bytes w16 (take 2 (drop 2 rest)) in
    words_stand octets rest k (ltb (length rest) (4 + 4 * k)) p is
    (end_extended octets ex
    ∙ ap (λ (n : ℕ). sources_end octets + (4 + 4 * n))
    (sym (words_behind octets rest is))) refl ep

extension_stands : (octets rest : List ℕ) (x p : Bool) → IsBehindSources octets rest
    → eqb (get_or octets 0 0 / 16 % 2) 1 ≡ x → eqb (get_or octets 0 0 / 32 % 2) 1 ≡ p
    → Stands octets
    (behind_extension x rest >>= λ z. without_padding p z >>= λ w. Ok (rtp_of octets w))
extension_stands octets rest false p is ex ep =
    let end = end_plain octets ex in
    padding_stands octets rest p
    (record {
      whole = is.whole;
      version = is.version;
      headers = omega (arith, is.sources);
      is =
          is.is ∙ ap (λ (n : ℕ). drop n octets) (sym end);
    }) ep
extension_stands octets rest true p is ex ep =
    count_stands octets rest (ltb (length rest) 4) p is ex refl ep

-- ---- the sources, and the fixed header

end_least : (octets : List ℕ) (x : Bool) → eqb (get_or octets 0 0 / 16 % 2) 1 ≡ x
    → sources_end octets ≤ headers_end octets
end_least octets false e = omega (arith, end_plain octets e)
end_least octets true e = omega (arith, end_extended octets e)

sources_stand : (octets : List ℕ) (s x p : Bool) → 12 ≤ length octets → version_bits octets ≡ 2
    → ltb (length (drop 12 octets)) (4 * (get_or octets 0 0 % 16)) ≡ s
    → eqb (get_or octets 0 0 / 16 % 2) 1 ≡ x → eqb (get_or octets 0 0 / 32 % 2) 1 ≡ p
    → Stands octets
    (cond s (Err ShortExtension) (Ok (drop (4 * (get_or octets 0 0 % 16)) (drop 12 octets))) >>=
    λ y. behind_extension x y >>= λ z. without_padding p z >>= λ w. Ok (rtp_of octets w))
unfolding sources_end
sources_stand octets true x p whole version es ex ep =
    let least = end_least octets x ex in
    let less = ltb-true (length (drop 12 octets)) (4 * (get_or octets 0 0 % 16)) es in
    record { whole = whole; version = version; cut = omega (arith, length-drop 12 octets) }
sources_stand octets false x p whole version es ex ep =
    let fits = ltb-false (length (drop 12 octets)) (4 * (get_or octets 0 0 % 16)) es in
    extension_stands octets (drop (4 * (get_or octets 0 0 % 16)) (drop 12 octets)) x p
    (record {
      whole = whole;
      version = version;
      sources =
          omega (arith, length-drop 12 octets);
      is =
          drop-drop (4 * (get_or octets 0 0 % 16)) 12 octets;
    })
    ex ep

fixed_stands : (octets : List ℕ) (s v : Bool) → ltb (length octets) 12 ≡ s
    → eqb (get_or octets 0 0 / 64) 2 ≡ v
    → Stands octets
    (cond s (Err ShortHeader) (cond (not v) (Err BadVersion) (Ok (drop 12 octets))) >>=
    λ words. rest_behind (4 * (get_or octets 0 0 % 16)) words
    >>= λ y. behind_extension (eqb (get_or octets 0 0 / 16 % 2) 1) y >>=
    λ z. without_padding (eqb (get_or octets 0 0 / 32 % 2) 1) z >>=
    λ w. Ok (rtp_of octets w))
fixed_stands octets true v es ev = ltb-true (length octets) 12 es
fixed_stands octets false false es ev =
    record {
      whole = ltb-false (length octets) 12 es;
      other =
          eqb-false (get_or octets 0 0 / 64) 2 ev;
    }
fixed_stands octets false true es ev =
    sources_stand octets (ltb (length (drop 12 octets)) (4 * (get_or octets 0 0 % 16)))
    (eqb (get_or octets 0 0 / 16 % 2) 1) (eqb (get_or octets 0 0 / 32 % 2) 1)
    (ltb-false (length octets) 12 es) (eqb-true (get_or octets 0 0 / 64) 2 ev) refl refl refl

rtp_stands : (octets : List ℕ) → Stands octets (rtp_walk octets)
unfolding rtp_walk
rtp_stands octets =
    fixed_stands octets (ltb (length octets) 12) (eqb (get_or octets 0 0 / 64) 2) refl refl

-- ---- one fault at most stands in the octets

unlike : (e d : RtpFault) (octets : List ℕ) → HasRtpFault octets e → HasRtpFault octets d → e ≡ d
unlike ShortHeader ShortHeader octets h g = refl
unlike ShortHeader BadVersion octets h g = absurd (omega (arith, g.whole))
unlike ShortHeader ShortExtension octets h g = absurd (omega (arith, g.whole))
unlike ShortHeader BadPadding octets h g = absurd (omega (arith, g.whole))
unlike BadVersion ShortHeader octets h g = absurd (omega (arith, h.whole))
unlike BadVersion BadVersion octets h g = refl
unlike BadVersion ShortExtension octets h g = absurd (h.other g.version)
unlike BadVersion BadPadding octets h g = absurd (h.other g.version)
unlike ShortExtension ShortHeader octets h g = absurd (omega (arith, h.whole))
unlike ShortExtension BadVersion octets h g = absurd (g.other h.version)
unlike ShortExtension ShortExtension octets h g = refl
unlike ShortExtension BadPadding octets h g = absurd (omega (arith, h.cut, g.headers))
unlike BadPadding ShortHeader octets h g = absurd (omega (arith, h.whole))
unlike BadPadding BadVersion octets h g = absurd (g.other h.version)
unlike BadPadding ShortExtension octets h g = absurd (omega (arith, g.cut, h.headers))
unlike BadPadding BadPadding octets h g = refl

not_wrong : (octets : List ℕ)
    → (last_octet octets ≡ 0 → ⊥) × (headers_end octets + last_octet octets ≤ length octets)
    → (last_octet octets ≡ 0) ⊎ (length octets < headers_end octets + last_octet octets) → ⊥
not_wrong octets counted wrong =
    elim wrong [ inl nought ↦ counted.0 nought | inr more ↦ omega (arith, counted.1) ]

not_faulted : (e : RtpFault) (octets : List ℕ) → IsFaultless octets → HasRtpFault octets e → ⊥
not_faulted ShortHeader octets is h = omega (arith, is.whole)
not_faulted BadVersion octets is h = h.other is.version
not_faulted ShortExtension octets is h = omega (arith, is.headers, h.cut)
not_faulted BadPadding octets is h = not_wrong octets (is.counted h.padded) h.wrong

-- ---- the fault that is told

told : (e : RtpFault) (octets : List ℕ) (r : Result Rtp RtpFault) → Stands octets r
    → HasRtpFault octets e → r ≡ Err e
told e octets (Ok r) stands h = absurd (not_faulted e octets stands h)
told e octets (Err d) stands h = ap (λ (x : RtpFault). rtp_err x) (unlike d e octets stands h)

-- A fault is told exactly where it stands in the octets.
pub rtp_faulted : (e : RtpFault) (octets : List ℕ)
    → (rtp_walk octets ≡ Err e) ↔ HasRtpFault octets e
rtp_faulted e octets = (
  λ (h : rtp_walk octets ≡ Err e). subst (Stands octets) h (rtp_stands octets),
  told e octets (rtp_walk octets) (rtp_stands octets),
)

err_is : (d e : RtpFault) → rtp_err d ≡ rtp_err e → d ≡ e
err_is d e h = cc

view_err : (d e : RtpFault) → view_of d ≡ view_of e → d ≡ e
view_err d e h = cc

from_view : (e : RtpFault) (octets : List ℕ) (r : Result RtpView RtpFault)
    → Gives seen_rtp r (rtp_walk octets) → IsErrOf r e → rtp_walk octets ≡ Err e
from_view e octets (Ok v) gives is = absurd cc
from_view e octets (Err d) gives is = gives ∙ ap rtp_err (view_err d e is)

to_view : (e : RtpFault) (octets : List ℕ) (r : Result RtpView RtpFault)
    → Gives seen_rtp r (rtp_walk octets) → rtp_walk octets ≡ Err e → IsErrOf r e
to_view e octets (Ok v) gives is = absurd cc
to_view e octets (Err d) gives is = ap view_of (err_is d e (sym gives ∙ is))

pub is_faulted : (e : RtpFault) (octets : List ℕ) (r : Result RtpView RtpFault)
    → Gives seen_rtp r (rtp_walk octets) → IsErrOf r e ↔ HasRtpFault octets e
is_faulted e octets r gives =
    let law = rtp_faulted e octets in (
      λ (is : IsErrOf r e). law.0 (from_view e octets r gives is),
      λ (h : HasRtpFault octets e). to_view e octets r gives (law.1 h),
    )
