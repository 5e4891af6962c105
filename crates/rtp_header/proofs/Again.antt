-- What is in the grammar of headers is read.
use Rattle.std.proofs.Common.{◌≡◌, ℕ, ◌+◌, ◌-◌, ◌*◌, ◌/◌, ◌%◌, ◌^◌, ◌<◌, Bool, true, false, cond}
use Rattle.std.proofs.Common.{not, eqb, ltb, leb, ◌||◌, List, ◌++◌, length, get_or, take, drop}
use Rattle.std.proofs.Common.{Result, Ok, Err, append_assoc, refl, sym, ap, ◌∙◌, arith}
use Rattle.std.specs.Prelude.{IfOk, IfErr, IsOkAnd}
use Rattle.std.specs.Int.{w16, w32, from_be_bytes, to_be_bytes}
use Rattle.std.proofs.lemmas.Bool.{eq-eqb, ne_eqb, le-ltb, le-leb, lt-leb}
use Rattle.std.proofs.lemmas.List.{take_at, drop_at, length-append, append-nil, get_or-append-add}
use Rattle.std.proofs.lemmas.Nat.{from_be_bytes-to_be_bytes_2, from_be_bytes-to_be_bytes_4}
use Rattle.rtp_header.specs.declared.header.RtpFault.{RtpFault}
use Rattle.rtp_header.specs.declared.header.RtpFault.TheVariants.{ShortHeader, BadVersion}
use Rattle.rtp_header.specs.declared.header.RtpFault.TheVariants.{ShortExtension, BadPadding}
use Rattle.rtp_header.specs.Grammar.{Rtp, Flags, bit, fixed_text, IsExtensionIf}
use Rattle.rtp_header.specs.Grammar.{AreOctets, IsPaddingIf, IsRtp}
use Rattle.rtp_header.specs.Reading.{rest_behind, behind_extension, without_padding, rtp_of}
use Rattle.rtp_header.specs.Reading.{◌>>=◌, Gives, fixed_at, rtp_walk}
use Rattle.rtp_header.specs.Views.{seen_rtp}
use Rattle.rtp_header.specs.declared.header.RtpView.{RtpView}
use Rattle.rtp_header.proofs.Taken.{rtp_takes}

abbrev rtp_ok : Rtp → Result Rtp RtpFault
rtp_ok r = Ok r

abbrev ok_list : List ℕ → Result (List ℕ) RtpFault
ok_list x = Ok x

-- n octets and a rest
behind_again : (n : ℕ) (front rest : List ℕ) → length front ≡ n → rest_behind n (front ++ rest)
    ≡ Ok rest
behind_again n front rest len =
    let long : ltb (length (front ++ rest)) n ≡ false =
    le-ltb (length (front ++ rest)) n (omega (arith, length-append front rest)) in
    ap (λ (b : Bool). cond b (Err ShortExtension) (ok_list (drop n (front ++ rest)))) long
    ∙ ap ok_list (drop_at front rest n len)

extension_again : (flag : Bool) (extension rest : List ℕ) → IsExtensionIf flag extension
    → behind_extension flag (extension ++ rest) ≡ Ok rest
extension_again false extension rest is = ap (λ (x : List ℕ). ok_list (x ++ rest)) is
extension_again true extension rest is =
    let n : ℕ = length is.words / 4 in
    let size : length extension ≡ 4 + 4 * n =
    ap length is.parts
    ∙ omega (
      arith,
      length-append is.profile (to_be_bytes w16 n ++ is.words),
      length-append (to_be_bytes w16 n) is.words,
      is.profile_length,
      is.whole_words,
    ) in
    let grouped : extension ++ rest ≡ is.profile ++ (to_be_bytes w16 n ++ (is.words ++ rest)) =
    ap (λ (x : List ℕ). x ++ rest) is.parts
    ∙ append_assoc is.profile (to_be_bytes w16 n ++ is.words) rest
    ∙ ap (λ (x : List ℕ). is.profile ++ x) (append_assoc (to_be_bytes w16 n) is.words rest) in
    let number : take 2 (drop 2 (extension ++ rest)) ≡ to_be_bytes w16 n =
    ap (λ (x : List ℕ). take 2 (drop 2 x)) grouped
    ∙ ap (take 2)
    (drop_at is.profile (to_be_bytes w16 n ++ (is.words ++ rest)) 2 is.profile_length)
    ∙ take_at (to_be_bytes w16 n) (is.words ++ rest) 2 refl in
    let value : from_be_bytes w16 (take 2 (drop 2 (extension ++ rest))) ≡ n =
    ap (from_be_bytes w16) number ∙ from_be_bytes-to_be_bytes_2 n is.few in
    let long : ltb (length (extension ++ rest)) 4 ≡ false =
    le-ltb (length (extension ++ rest)) 4 (omega (arith, length-append extension rest, size)) in
    ap (λ (b : Bool). cond b (Err ShortExtension)
    (rest_behind (4 + 4 * from_be_bytes w16 (take 2 (drop 2 (extension ++ rest))))
    (extension ++ rest))) long
    ∙ ap (λ (k : ℕ). rest_behind (4 + 4 * k) (extension ++ rest)) value
    ∙ behind_again (4 + 4 * n) extension rest size

padding_again : (flag : Bool) (payload padding : List ℕ) → IsPaddingIf flag padding
    → without_padding flag (payload ++ padding) ≡ Ok payload
padding_again false payload padding is =
    ap (λ (x : List ℕ). ok_list (payload ++ x)) is ∙ ap ok_list (append-nil payload)
padding_again true payload padding is =
    let all : List ℕ = payload ++ padding in
    let len : length all ≡ length payload + length padding = length-append payload padding in
    let at : length all - 1 ≡ length payload + (length padding - 1) = omega (arith, is.some) in
    let n : get_or all (length all - 1) 0 ≡ length padding =
    ap (λ (i : ℕ). get_or all i 0) at
    ∙ get_or-append-add payload padding (length padding - 1) 0 ∙ is.counted in
    let some : eqb (length padding) 0 ≡ false =
    ne_eqb (length padding) 0 (λ e. absurd (omega (arith, is.some))) in
    let fits : ltb (length all) (length padding) ≡ false =
    le-ltb (length all) (length padding) (omega arith) in
    let keep : length all - length padding ≡ length payload = omega arith in
    ap (λ (k : ℕ). cond (eqb k 0 || ltb (length all) k) (Err BadPadding)
    (ok_list (take (length all - k) all))) n
    ∙ ap
    (λ (b : Bool). cond (b || ltb (length all) (length padding)) (Err BadPadding)
    (ok_list (take (length all - length padding) all))) some
    ∙ ap
    (λ (b : Bool). cond b (Err BadPadding)
    (ok_list (take (length all - length padding) all))) fits
    ∙ ap (λ (k : ℕ). ok_list (take k all)) keep
    ∙ ap ok_list (take_at payload padding (length payload) refl)

-- the fields of the first octet
abbrev first : Bool → Bool → ℕ → ℕ
first p x n = 2 * 64 + bit p 32 + bit x 16 + n

record FirstOf (p x : Bool) (n : ℕ) : Type 0 where
  version : first p x n / 64 ≡ 2
  sources : first p x n % 16 ≡ n
  extended : eqb (first p x n / 16 % 2) 1 ≡ x
  padded : eqb (first p x n / 32 % 2) 1 ≡ p

first_of : (p x : Bool) (n : ℕ) → n < 16 → FirstOf p x n
first_of true true n lt =
    record {
      version = omega arith;
      sources = omega arith;
      extended =
          eq-eqb (first true true n / 16 % 2) 1 (omega arith);
      padded =
          eq-eqb (first true true n / 32 % 2) 1 (omega arith);
    }
first_of true false n lt =
    record {
      version = omega arith;
      sources = omega arith;
      extended =
          ne_eqb (first true false n / 16 % 2) 1 (λ e. absurd (omega arith));
      padded =
          eq-eqb (first true false n / 32 % 2) 1 (omega arith);
    }
first_of false true n lt =
    record {
      version = omega arith;
      sources = omega arith;
      extended =
          eq-eqb (first false true n / 16 % 2) 1 (omega arith);
      padded =
          ne_eqb (first false true n / 32 % 2) 1 (λ e. absurd (omega arith));
    }
first_of false false n lt =
    record {
      version = omega arith;
      sources = omega arith;
      extended =
          ne_eqb (first false false n / 16 % 2) 1 (λ e. absurd (omega arith));
      padded =
          ne_eqb (first false false n / 32 % 2) 1 (λ e. absurd (omega arith));
    }

record SecondOf (m : Bool) (n : ℕ) : Type 0 where
  marker : leb 128 (bit m 128 + n) ≡ m
  payload_type : (bit m 128 + n) % 128 ≡ n

second_of : (m : Bool) (n : ℕ) → n < 128 → SecondOf m n
second_of true n lt =
    record { marker = le-leb 128 (bit true 128 + n) (omega arith); payload_type = omega arith }
second_of false n lt =
    record { marker = lt-leb 128 (bit false 128 + n) (omega arith); payload_type = omega arith }

abbrev made : Bool → ℕ → ℕ → ℕ → ℕ → List ℕ → Rtp
made m t s ts c payload =
    record {
      marker = m;
      payload_type = t;
      sequence = s;
      timestamp = ts;
      ssrc = c;
      payload =
          payload;
    }

-- the fields of a fixed header's text
fields_again : (g : Flags) (r : Rtp) (tail : List ℕ) → r.payload_type < 128 → r.sequence < 2 ^ 16
    → r.timestamp < 2 ^ 32 → r.ssrc < 2 ^ 32 → rtp_of (fixed_text g r ++ tail) r.payload ≡ r
fields_again g r tail pt sequence timestamp ssrc =
    let two = second_of r.marker r.payload_type pt in
    let s : ℕ = from_be_bytes w16 (to_be_bytes w16 r.sequence) in
    let ts : ℕ = from_be_bytes w32 (to_be_bytes w32 r.timestamp) in
    let c : ℕ = from_be_bytes w32 (to_be_bytes w32 r.ssrc) in
    ap (λ (b : Bool). made b
    ((bit r.marker 128 + r.payload_type) % 128) s ts c r.payload) two.marker
    ∙ ap (λ (n : ℕ). made r.marker n s ts c r.payload) two.payload_type
    ∙ ap (λ (n : ℕ). made r.marker r.payload_type n ts c r.payload)
    (from_be_bytes-to_be_bytes_2 r.sequence sequence)
    ∙ ap (λ (n : ℕ). made r.marker r.payload_type r.sequence n c r.payload)
    (from_be_bytes-to_be_bytes_4 r.timestamp timestamp)
    ∙ ap (λ (n : ℕ). made r.marker r.payload_type r.sequence r.timestamp n r.payload)
    (from_be_bytes-to_be_bytes_4 r.ssrc ssrc)

fixed_again : (g : Flags) (r : Rtp) (tail : List ℕ) → g.sources < 16
    → fixed_at (fixed_text g r ++ tail) ≡ Ok tail
fixed_again g r tail few =
    let f = first_of g.padded g.extended g.sources few in
    let long : ltb (length (fixed_text g r ++ tail)) 12 ≡ false =
    le-ltb (length (fixed_text g r ++ tail)) 12
    (omega (arith, length-append (fixed_text g r) tail)) in
    let version : eqb (first g.padded g.extended g.sources / 64) 2 ≡ true =
    eq-eqb (first g.padded g.extended g.sources / 64) 2 f.version in
    ap (λ (b : Bool). cond b (Err ShortHeader)
    (cond (not (eqb (first g.padded g.extended g.sources / 64) 2)) (Err BadVersion)
    (ok_list tail))) long
    ∙ ap (λ (b : Bool). cond (not b) (Err BadVersion) (ok_list tail)) version

-- What is in the grammar of headers is read.
pub rtp_again : (r : Rtp) (octets : List ℕ) → IsRtp octets r → rtp_walk octets ≡ Ok r
unfolding rtp_walk
rtp_again r octets is =
    let g : Flags = is.flags in
    let o : ℕ = first g.padded g.extended g.sources in
    let f = first_of g.padded g.extended g.sources is.few_sources in
    let tail : List ℕ = is.source_list ++ (is.extension ++ (r.payload ++ is.padding)) in
    let whole : List ℕ = fixed_text g r ++ tail in
    ap rtp_walk is.whole
    ∙ ap
    (λ (a : Result (List ℕ) RtpFault). a >>= λ words. rest_behind (4 * (o % 16)) words >>=
    λ x. behind_extension (eqb (o / 16 % 2) 1) x >>=
    λ z. without_padding (eqb (o / 32 % 2) 1) z >>= λ w. Ok (rtp_of whole w))
    (fixed_again g r tail is.few_sources)
    ∙ ap
    (λ (n : ℕ). rest_behind (4 * n) tail >>= λ x. behind_extension (eqb (o / 16 % 2) 1) x >>=
    λ z. without_padding (eqb (o / 32 % 2) 1) z >>= λ w. Ok (rtp_of whole w)) f.sources
    ∙ ap
    (λ (a : Result (List ℕ) RtpFault). a >>= λ x. behind_extension (eqb (o / 16 % 2) 1) x >>=
    λ z. without_padding (eqb (o / 32 % 2) 1) z >>= λ w. Ok (rtp_of whole w))
    (behind_again (4 * g.sources) is.source_list
    (is.extension ++ (r.payload ++ is.padding)) is.sources)
    ∙ ap
    (λ (b : Bool). behind_extension b (is.extension ++ (r.payload ++ is.padding)) >>=
    λ z. without_padding (eqb (o / 32 % 2) 1) z >>= λ w. Ok (rtp_of whole w)) f.extended
    ∙ ap
    (λ (a : Result (List ℕ) RtpFault). a >>= λ z. without_padding (eqb (o / 32 % 2) 1) z >>=
    λ w. Ok (rtp_of whole w))
    (extension_again g.extended is.extension (r.payload ++ is.padding) is.is_extension)
    ∙ ap
    (λ (b : Bool). without_padding b (r.payload ++ is.padding) >>=
    λ w. Ok (rtp_of whole w)) f.padded
    ∙ ap (λ (a : Result (List ℕ) RtpFault). a >>= λ w. Ok (rtp_of whole w))
    (padding_again g.padded r.payload is.padding is.is_padding)
    ∙ ap (λ (q : Rtp). Ok q)
    (fields_again g r tail is.payload_type is.sequence is.timestamp is.ssrc)

-- The clauses of a reader that gives what reading gives
pub is_found : (octets : List ℕ) (r : Result RtpView RtpFault) → AreOctets octets
    → Gives seen_rtp r (rtp_walk octets) → IfOk r (λ v. IsRtp octets (seen_rtp v))
is_found octets (Ok v) bytes gives = rtp_takes octets (seen_rtp v) bytes gives
is_found octets (Err e) bytes gives = tt

ok_is : (r q : Rtp) → rtp_ok r ≡ rtp_ok q → r ≡ q
ok_is r q e = cc

pub is_only : (octets : List ℕ) (r : Result RtpView RtpFault) → Gives seen_rtp r (rtp_walk octets)
    → (q : Rtp) → IsRtp octets q → IsOkAnd r (λ v. seen_rtp v ≡ q)
is_only octets (Ok v) gives q is = ok_is (seen_rtp v) q (sym gives ∙ rtp_again q octets is)
is_only octets (Err e) gives q is = let again : rtp_walk octets ≡ Ok q =
    rtp_again q octets is in absurd cc

pub is_none : (octets : List ℕ) (r : Result RtpView RtpFault) → Gives seen_rtp r (rtp_walk octets)
    → IfErr r (λ e. (q : Rtp) → IsRtp octets q → ⊥)
is_none octets (Ok v) gives = tt
is_none octets (Err e) gives = λ q is. let again : rtp_walk octets ≡ Ok q =
    rtp_again q octets is in absurd cc
