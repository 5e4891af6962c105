-- The line that is written of an address names it, and has no LF.
use Rattle.std.proofs.Common.{◌≡◌, ℕ, ◌<◌, ◌≤◌, Bool, true, false, cond, not, ◌&&◌, List}
use Rattle.std.proofs.Common.{[], ◌∷◌, ◌++◌, length, refl, ap, ◌∙◌, sym, arith, codes, inl, inr}
use Rattle.std.proofs.Common.{Option, Some, None}
use Rattle.std.specs.Prelude.{◌==◌, nat_le, slice_index, IfSome}
use Rattle.std.specs.List.{list_all}
use Rattle.std.proofs.lemmas.Bool.Decides.{nat_tests}
use Rattle.std.proofs.lemmas.List.{length-append, append-nil}
use Rattle.std.specs.declared.net.ip_addr.IpAddr.{IpAddr}
use Rattle.std.specs.declared.net.ip_addr.IpAddr.TheVariants.{V4, V6}
use Rattle.std.specs.declared.net.ipv4_addr.Ipv4Addr.{Ipv4Addr}
use Rattle.std.specs.declared.net.ipv6_addr.Ipv6Addr.{Ipv6Addr}
use Rattle.std.specs.Net.Addr.{ipv4_octets, ipv6_segments, IsIpv4Addr, IsIpv6Addr, MatchIp}
use Rattle.std.specs.Net.Grammar.{IsGroups, IsColonHex}
use Rattle.std.specs.Net.Text.{dotted_text, ipv4_text, ipv6_text}
use Rattle.std.proofs.NetLemmas.Alphabet.{IsDigitOrDot, IsHexOrColon}
use Rattle.std.proofs.NetLemmas.Texts.{IsDotted-ipv4_text, IsColonHex-ipv6_text}
use Rattle.sdp_format.specs.Bytes.{front, trim_end}
use Rattle.sdp_format.specs.Destinations.{IsConnection}
use Rattle.sdp_format.proofs.Again.{is_word, cut_at}
use Rattle.sdp_format.proofs.Line.{all_append, uncut}
use Rattle.sdp_format.proofs.LineForms.{trim_solid}
use Rattle.sdp_writing.specs.Written.{connection_line, connection_lines, lifetime_text}
use Rattle.sdp_writing.proofs.Alphabets.{PassesAddress, ipv4_passes, ipv6_passes}
use Rattle.sdp_writing.proofs.Splits.{is_within_line, IsOneLine, AreOneLine}

-- ---- tests that addresses pass

abbrev pub is_no_slash : ℕ → Bool
is_no_slash b = not (b == 47)

digit_in_line : (c : ℕ) → IsDigitOrDot c → is_within_line c ≡ true
digit_in_line c (inl h) = grind (arith, nat_tests)
digit_in_line c (inr h) = grind (arith, nat_tests)

group_in_line : (c : ℕ) → IsHexOrColon c → is_within_line c ≡ true
group_in_line c (inl h) = grind (arith, nat_tests)
group_in_line c (inr h) = grind (arith, nat_tests)

digit_no_slash : (c : ℕ) → IsDigitOrDot c → is_no_slash c ≡ true
digit_no_slash c (inl h) = grind (arith, nat_tests)
digit_no_slash c (inr h) = grind (arith, nat_tests)

group_no_slash : (c : ℕ) → IsHexOrColon c → is_no_slash c ≡ true
group_no_slash c (inl h) = grind (arith, nat_tests)
group_no_slash c (inr h) = grind (arith, nat_tests)

digit_word : (c : ℕ) → IsDigitOrDot c → is_word c ≡ true
digit_word c (inl h) = grind (arith, nat_tests)
digit_word c (inr h) = grind (arith, nat_tests)

group_word : (c : ℕ) → IsHexOrColon c → is_word c ≡ true
group_word c (inl h) = grind (arith, nat_tests)
group_word c (inr h) = grind (arith, nat_tests)

in_line : PassesAddress is_within_line
in_line = record { digits = digit_in_line; groups = group_in_line }

without_slash : PassesAddress is_no_slash
without_slash = record { digits = digit_no_slash; groups = group_no_slash }

as_word : PassesAddress is_word
as_word = record { digits = digit_word; groups = group_word }

-- ---- no address is written as nothing

some_dotted : (a b c d : ℕ) → 1 ≤ length (dotted_text a b c d)
some_dotted a b c d = simp length-append (omega arith)

some_groups : (text segments : List ℕ) → length segments ≡ 8 → IsGroups true text segments
    → 1 ≤ length text
some_groups text [] eight h = absurd (omega arith)
some_groups text (s ∷ ss) eight (inl h) =
    let some : 0 < length h.0 = h.3.0.0.0 in
    let whole : length text ≡ length (h.0 ++ h.1) = ap length h.2 in
    omega (arith, length-append h.0 h.1)
some_groups text (s ∷ ss) eight (inr h) =
    let some : 1 ≤ length (dotted_text h.4.a h.4.b h.4.c h.4.d) =
    some_dotted h.4.a h.4.b h.4.c h.4.d in
    let whole : length text ≡ length (dotted_text h.4.a h.4.b h.4.c h.4.d) =
    ap length h.3 ∙ ap length h.4.spelled in
    omega arith

some_colon_hex : (text segments : List ℕ) → IsColonHex text segments → 1 ≤ length text
some_colon_hex text segments (inl h) = some_groups text segments h.1 h.0
some_colon_hex text segments (inr h) =
    let whole : length text ≡ length (h.head_text ++ codes "::" ++ h.tail_text) =
    ap length h.spelled in
    omega (
      arith,
      length-append (h.head_text ++ codes "::") h.tail_text,
      length-append h.head_text (codes "::"),
    )

-- ---- what stands before the slash

named_alone : (word text : List ℕ) → list_all is_word text ≡ true → 1 ≤ length text
    → list_all is_no_slash (word ++ text) ≡ true
    → front 47 (trim_end (word ++ text)) ≡ word ++ text
named_alone word text solid some free =
    ap (front 47) (trim_solid word text solid some)
    ∙ ap (front 47) (sym (append-nil (word ++ text)))
    ∙ (uncut 47 (word ++ text) free).0

named_before : (lives : Bool) (word text : List ℕ) → list_all is_word text ≡ true
    → 1 ≤ length text → list_all is_no_slash (word ++ text) ≡ true
    → front 47 (trim_end (word ++ text ++ cond lives (codes "/64") [])) ≡ word ++ text
named_before true word text solid some free =
    ap (front 47) (trim_solid (word ++ text) (codes "/64") refl (omega arith))
    ∙ (cut_at 47 (word ++ text) (codes "64") free refl).0
named_before false word text solid some free =
    ap (λ z. front 47 (trim_end z)) (append-nil (word ++ text))
    ∙ named_alone word text solid some free

-- ---- the lines

module _ (a : Ipv4Addr) (is : IsIpv4Addr a) where
  v4_named : IsConnection (connection_line (V4 a)) (V4 a)
  v4_named =
      let text : List ℕ = ipv4_text (ipv4_octets a) in (
        ipv4_text (ipv4_octets a),
        named_before
            (nat_le 224 (slice_index (ipv4_octets a) 0) && nat_le (slice_index (ipv4_octets a) 0) 239)
            (codes "c=IN IP4 ") (ipv4_text (ipv4_octets a))
            (ipv4_passes is_word (ipv4_octets a) as_word is.1)
            (some_dotted (slice_index (ipv4_octets a) 0) (slice_index (ipv4_octets a) 1)
            (slice_index (ipv4_octets a) 2) (slice_index (ipv4_octets a) 3))
            (all_append is_no_slash (codes "c=IN IP4 ") (ipv4_text (ipv4_octets a)) refl
            (ipv4_passes is_no_slash (ipv4_octets a) without_slash is.1)),
        IsDotted-ipv4_text (ipv4_octets a) is.0 is.1,
      )

  lifetime_in_line : (first : ℕ) → IsOneLine (lifetime_text first)
  lifetime_in_line first = by_cases (nat_le 224 first && nat_le first 239)
    where
      by_cases : (t : Bool) → IsOneLine (cond t (codes "/64") [])
      by_cases true = refl
      by_cases false = refl

  v4_one_line : IsOneLine (connection_line (V4 a))
  v4_one_line =
      all_append is_within_line (codes "c=IN IP4 " ++ ipv4_text (ipv4_octets a))
      (lifetime_text (slice_index (ipv4_octets a) 0))
      (all_append is_within_line (codes "c=IN IP4 ") (ipv4_text (ipv4_octets a)) refl
      (ipv4_passes is_within_line (ipv4_octets a) in_line is.1))
      (lifetime_in_line (slice_index (ipv4_octets a) 0))

module _ (a : Ipv6Addr) (is : IsIpv6Addr a) where
  v6_named : IsConnection (connection_line (V6 a)) (V6 a)
  v6_named =
      let spelled = IsColonHex-ipv6_text (ipv6_segments a) is.0 is.1 in (
        ipv6_text (ipv6_segments a),
        named_alone (codes "c=IN IP6 ") (ipv6_text (ipv6_segments a))
            (ipv6_passes is_word (ipv6_segments a) as_word is.1)
            (some_colon_hex (ipv6_text (ipv6_segments a)) (ipv6_segments a) spelled)
            (all_append is_no_slash (codes "c=IN IP6 ") (ipv6_text (ipv6_segments a)) refl
            (ipv6_passes is_no_slash (ipv6_segments a) without_slash is.1)),
        spelled,
      )

  v6_one_line : IsOneLine (connection_line (V6 a))
  v6_one_line =
      all_append is_within_line (codes "c=IN IP6 ") (ipv6_text (ipv6_segments a)) refl
      (ipv6_passes is_within_line (ipv6_segments a) in_line is.1)

-- what a flow keeps of its address
abbrev pub IsAddress : IpAddr → Type 0
IsAddress a = MatchIp a IsIpv4Addr IsIpv6Addr

pub connection_named : (a : IpAddr) → IsAddress a → IsConnection (connection_line a) a
connection_named (V4 a) is = v4_named a is
connection_named (V6 a) is = v6_named a is

pub connection_one_line : (address : Option IpAddr) → IfSome address IsAddress
    → AreOneLine (connection_lines address)
connection_one_line None is = tt
connection_one_line (Some (V4 a)) is = (v4_one_line a is, tt)
connection_one_line (Some (V6 a)) is = (v6_one_line a is, tt)
