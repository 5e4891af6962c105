-- A text spells one flow at most, whose parts are found before and behind its last @, its last >
-- and its last colon.
use Rattle.std.proofs.Common.{◌≡◌, ℕ, ◌<◌, ◌≤◌, ◌^◌, Bool, true, false, cond, ◌&&◌, List}
use Rattle.std.proofs.Common.{[], ◌∷◌, ◌++◌, length, get_or, Option, Some, None, All, refl, sym, ap}
use Rattle.std.proofs.Common.{drop, zero, suc, inl, inr, ◌∙◌, subst, arith, append_assoc, codes, decimal}
use Rattle.std.proofs.Common.{lit<}
use Rattle.std.specs.Prelude.{◌↔◌, nat_le, IfSome}
use Rattle.std.specs.Char.{digit_value, is_ascii_digit}
use Rattle.std.specs.List.{list_all}
use Rattle.std.specs.Str.Parse.{AllDigits, digits_value}
use Rattle.std.proofs.lemmas.Bool.Decides.{nat_tests}
use Rattle.std.proofs.lemmas.Fmt.{digits_decimal, digits_value-decimal, decimal_nonempty}
use Rattle.std.proofs.lemmas.Fmt.{length-decimal-le}
use Rattle.std.proofs.lemmas.List.{append_cancel_left, append_cancel_right, drop_at}
use Rattle.std.proofs.lemmas.List.Elements.{All-append, All-nil, All-cons, All-head, All-tail}
use Rattle.std.specs.declared.net.ip_addr.IpAddr.{IpAddr}
use Rattle.std.specs.declared.net.ip_addr.IpAddr.TheVariants.{V4, V6}
use Rattle.std.specs.declared.net.ipv4_addr.Ipv4Addr.{Ipv4Addr}
use Rattle.std.specs.declared.net.ipv6_addr.Ipv6Addr.{Ipv6Addr}
use Rattle.std.specs.Net.Addr.{ipv4_octets, ipv6_segments, IsIpv4Addr, IsIpv6Addr, MatchIp}
use Rattle.std.specs.Net.Grammar.{IsColonHex, IsDotted, IsGroupsAfter, IsIpv4Text, IsIpv6Text}
use Rattle.std.specs.Net.Text.{ipv6_text}
use Rattle.std.proofs.NetLemmas.Alphabet.{IsDigitOrDot, All-ipv4_text}
use Rattle.std.proofs.NetLemmas.Texts.{IsDotted-ipv4_text, IsColonHex-ipv6_text}
use Rattle.std.proofs.NetLemmas.Theorems.{IsIpv4Text_unique, IsIpv6Text_unique}
use Rattle.interface_name.specs.declared.name.InterfaceName.{InterfaceName}
use Rattle.interface_name.specs.Name.{IsInterfaceName, IsName, name_text}
use Rattle.interface_name.proofs.Names.{name_again, name_once}
use Rattle.st_format.specs.Words.{IsNumber, is_number, number}
use Rattle.st_format.proofs.Decimals.{digits, and_parts}
use Rattle.st_format.proofs.Forms.{number_by}
use Rattle.flow.specs.declared.flows.Flow.{Flow}
use Rattle.flow.specs.Flow.{IsFlow}
use Rattle.flow.specs.FlowText.{Finds, IsFlowText, IsHost, IsInterfaceText, IsOther, SpellsPlace}
use Rattle.flow.specs.FlowText.{IsPlaceText, IsPort, SpellsEnds, SpellsSource, ends_text, flow_text}
use Rattle.flow.specs.FlowText.{host_text, interface_text, place_text, source_text}

-- ---- what is found

pub same_some : {A : Type 0} (x y : A) → Some x ≡ Some y → x ≡ y
same_some x y e = cc

pub not_none : {A : Type 0} (x : A) → Some x ≡ None → ⊥
not_none x e = cc

module _ {X : Type 0} (Spells : List ℕ → X → Type 0) (text : List ℕ) where
  pub found : ((x y : X) → Spells text x → Spells text y → x ≡ y) → (x : X) → Spells text x
      → Finds Spells text (Some x)
  found once x h = λ y. (
    λ k. ap Some (once x y h k),
    λ e. subst (Spells text) (same_some x y e) h,
  )

  pub missed : ((x : X) → Spells text x → ⊥) → Finds Spells text None
  missed none = λ y. (λ k. absurd (none y k), λ e. absurd (not_none y (sym e)))

-- ---- ports

cond_some : {A : Type 0} (t : Bool) (o : Option A) (x : A) → cond t o None ≡ Some x → t ≡ true
cond_some true o x e = refl
cond_some false o x e = absurd (not_none x (sym e))

number_digits : (text : List ℕ) (n : ℕ) → number text ≡ Some n → list_all is_ascii_digit text ≡ true
unfolding number
number_digits text n e =
    let whole =
    and_parts (nat_le 1 (length text) && nat_le (length text) 10
    && list_all is_ascii_digit text) (nat_le (digits_value 10 text) 4294967295)
    (cond_some (is_number text) (Some (digits_value 10 text)) n e) in
    (and_parts (nat_le 1 (length text) && nat_le (length text) 10)
    (list_all is_ascii_digit text) whole.0).1

digit_other : (m c : ℕ) → 57 < m → is_ascii_digit c ≡ true → IsOther m c
digit_other m c above e = λ same. grind (arith, nat_tests)

digits_other : (m : ℕ) (text : List ℕ) → 57 < m → list_all is_ascii_digit text ≡ true
    → All (IsOther m) text
digits_other m [] above e = All-nil (IsOther m)
digits_other m (c ∷ cs) above e =
    let h = and_parts (is_ascii_digit c) (list_all is_ascii_digit cs) e in
    All-cons (IsOther m) c cs (digit_other m c above h.0) (digits_other m cs above h.1)

-- a port has none of the marks behind the digits
pub port_other : (m : ℕ) (text : List ℕ) (port : ℕ) → 57 < m → IsPort text port
    → All (IsOther m) text
port_other m text port above h = digits_other m text above (number_digits text port h.0)

port_once : (text : List ℕ) (p q : ℕ) → IsPort text p → IsPort text q → p ≡ q
port_once text p q h k = same_some p q (sym h.0 ∙ k.0)

-- ---- hosts

no_bracket : (c : ℕ) → IsDigitOrDot c → c ≡ 91 → ⊥
no_bracket c (inl h) e = omega (arith, h, e)
no_bracket c (inr h) e = omega (arith, h, e)

small_at : (x : ℕ) (xs : List ℕ) → x < 256 → ((k : ℕ) → get_or xs k 0 < 2 ^ 8) → (k : ℕ)
    → get_or (x ∷ xs) k 0 < 2 ^ 8
small_at x xs h later zero = omega (arith, h)
small_at x xs h later (suc k) = later k

small_nil : (k : ℕ) → get_or [] k 0 < 2 ^ 8
small_nil k = lit< tt

dotted_fine : (text octets : List ℕ) → IsDotted text octets → All IsDigitOrDot text
dotted_fine text octets h =
    let small : (k : ℕ) → get_or (h.a ∷ h.b ∷ h.c ∷ h.d ∷ []) k 0 < 2 ^ 8 =
    small_at h.a (h.b ∷ h.c ∷ h.d ∷ []) h.fit.0
    (small_at h.b (h.c ∷ h.d ∷ []) h.fit.1
    (small_at h.c (h.d ∷ []) h.fit.2 (small_at h.d [] h.fit.3 small_nil))) in
    subst (All IsDigitOrDot) (sym h.spelled) (All-ipv4_text (h.a ∷ h.b ∷ h.c ∷ h.d ∷ []) small)

no_dotted : (inside octets : List ℕ) → IsDotted (91 ∷ inside) octets → ⊥
no_dotted inside octets h =
    no_bracket 91 (All-head IsDigitOrDot 91 inside (dotted_fine (91 ∷ inside) octets h)) refl

bracketed_once : (x y : List ℕ) → codes "[" ++ x ++ codes "]" ≡ codes "[" ++ y ++ codes "]" → x ≡ y
bracketed_once x y e =
    append_cancel_right x y (codes "]")
    (append_cancel_left (codes "[") (x ++ codes "]") (y ++ codes "]") e)

pub host_once : (text : List ℕ) (a b : IpAddr) → IsHost text a → IsHost text b → a ≡ b
host_once text (V4 a) (V4 b) h k = ap V4 (IsIpv4Text_unique text a b h k)
host_once text (V4 a) (V6 b) h k =
    absurd (no_dotted (k.0 ++ codes "]") (ipv4_octets a)
    (subst (λ t. IsIpv4Text t a) k.1 h))
host_once text (V6 a) (V4 b) h k =
    absurd (no_dotted (h.0 ++ codes "]") (ipv4_octets b)
    (subst (λ t. IsIpv4Text t b) h.1 k))
host_once text (V6 a) (V6 b) h k =
    let same : h.0 ≡ k.0 = bracketed_once h.0 k.0 (sym h.1 ∙ k.1) in
    ap V6 (IsIpv6Text_unique h.0 a b h.2 (subst (λ t. IsIpv6Text t b) (sym same) k.2))

-- ---- neither > nor @ stands in a host

-- a mark that stands in no host and in no port
record IsMark (m : ℕ) : Type 0 where
  above : 57 < m
  no_colon : 58 ≡ m → ⊥
  no_opening : 91 ≡ m → ⊥
  no_closing : 93 ≡ m → ⊥
  no_digit : 16 ≤ digit_value m

angle : IsMark 62
angle = record {
  above = omega arith;
  no_colon = λ e. omega (arith, e);
  no_opening = λ e. omega (arith, e);
  no_closing = λ e. omega (arith, e);
  no_digit = omega arith;
}

at_sign : IsMark 64
at_sign = record {
  above = omega arith;
  no_colon = λ e. omega (arith, e);
  no_opening = λ e. omega (arith, e);
  no_closing = λ e. omega (arith, e);
  no_digit = omega arith;
}

one_other : (m c : ℕ) → IsOther m c → All (IsOther m) (c ∷ [])
one_other m c h = All-cons (IsOther m) c [] h (All-nil (IsOther m))

module _ (m : ℕ) (is : IsMark m) where
  digit_unmarked : (c : ℕ) → IsDigitOrDot c → IsOther m c
  digit_unmarked c (inl h) = λ e. omega (arith, h, e, is.above)
  digit_unmarked c (inr h) = λ e. omega (arith, h, e, is.above)

  dotted_unmarked : (text octets : List ℕ) → IsDotted text octets → All (IsOther m) text
  dotted_unmarked text octets h =
      λ k d inside. digit_unmarked (get_or text k d) (dotted_fine text octets h k d inside)

  hex_unmarked : (c : ℕ) → digit_value c < 16 → IsOther m c
  hex_unmarked c h = λ e. let at : digit_value m < 16 = subst (λ x. digit_value x < 16) e h in
      omega (arith, at, is.no_digit)

  hexes_unmarked : (text : List ℕ) → AllDigits 16 text → All (IsOther m) text
  hexes_unmarked [] h = All-nil (IsOther m)
  hexes_unmarked (c ∷ cs) h =
      All-cons (IsOther m) c cs (hex_unmarked c h.0) (hexes_unmarked cs h.1)

  colon_unmarked : All (IsOther m) (58 ∷ [])
  colon_unmarked = one_other m 58 is.no_colon

  groups_unmarked : (ipv4 : Bool) (lead text segments : List ℕ) → All (IsOther m) lead
      → IsGroupsAfter ipv4 lead text segments → All (IsOther m) text
  groups_unmarked ipv4 lead text [] fine h = subst (All (IsOther m)) (sym h) (All-nil (IsOther m))
  groups_unmarked ipv4 lead text (s ∷ segments) fine (inl h) =
      let front = All-append (IsOther m) lead h.0 fine (hexes_unmarked h.0 h.3.0.0.1) in
      let rest = groups_unmarked ipv4 (codes ":") h.1 segments colon_unmarked h.4 in
      subst (All (IsOther m)) (sym h.2) (All-append (IsOther m) (lead ++ h.0) h.1 front rest)
  groups_unmarked ipv4 lead text (s ∷ segments) fine (inr h) =
      subst (All (IsOther m)) (sym h.3)
      (All-append (IsOther m) lead h.0 fine (dotted_unmarked h.0 h.1 h.4))

  colon_hex_unmarked : (text segments : List ℕ) → IsColonHex text segments
      → All (IsOther m) text
  colon_hex_unmarked text segments (inl h) =
      groups_unmarked true [] text segments (All-nil (IsOther m)) h.0
  colon_hex_unmarked text segments (inr h) =
      let front =
      groups_unmarked false [] h.head_text h.head (All-nil (IsOther m)) h.head_groups in
      let colons = All-cons (IsOther m) 58 (58 ∷ []) is.no_colon colon_unmarked in
      let behind =
      groups_unmarked true [] h.tail_text h.tail (All-nil (IsOther m)) h.tail_groups in
      subst (All (IsOther m)) (sym h.spelled)
      (All-append (IsOther m) (h.head_text ++ codes "::") h.tail_text
      (All-append (IsOther m) h.head_text (codes "::") front colons) behind)

  host_unmarked : (text : List ℕ) (a : IpAddr) → IsHost text a → All (IsOther m) text
  host_unmarked text (V4 a) h = dotted_unmarked text (ipv4_octets a) h
  host_unmarked text (V6 a) h =
      let inside = colon_hex_unmarked h.0 (ipv6_segments a) h.2 in
      subst (All (IsOther m)) (sym h.1)
      (All-append (IsOther m) (codes "[" ++ h.0) (codes "]")
      (All-append (IsOther m) (codes "[") h.0 (one_other m 91 is.no_opening) inside)
      (one_other m 93 is.no_closing))

  place_unmarked : (text : List ℕ) (a : Option IpAddr) (port : ℕ) → IsPlaceText text a port
      → All (IsOther m) text
  place_unmarked text None port h = port_other m text port is.above h
  place_unmarked text (Some a) port h =
      subst (All (IsOther m)) (sym h.2)
      (All-append (IsOther m) h.0 (codes ":" ++ h.1) (host_unmarked h.0 a h.3)
      (All-append (IsOther m) (codes ":") h.1 colon_unmarked
      (port_other m h.1 port is.above h.4)))

-- ---- the last mark

pub mark_in : (m : ℕ) (xs ys : List ℕ) → All (IsOther m) (xs ++ m ∷ ys) → ⊥
mark_in m [] ys h = All-head (IsOther m) m ys h refl
mark_in m (x ∷ xs) ys h = mark_in m xs ys (All-tail (IsOther m) x (xs ++ m ∷ ys) h)

tails : (x y : ℕ) (xs ys : List ℕ) → x ∷ xs ≡ y ∷ ys → (x ≡ y) × (xs ≡ ys)
tails x y xs ys e = (cc, cc)

pub last_mark : (m : ℕ) (xs ys us vs : List ℕ) → xs ++ m ∷ ys ≡ us ++ m ∷ vs
    → All (IsOther m) ys → All (IsOther m) vs → (xs ≡ us) × (ys ≡ vs)
last_mark m [] ys [] vs e h k = (refl, (tails m m ys vs e).1)
last_mark m [] ys (u ∷ us) vs e h k =
    absurd (mark_in m us vs (subst (All (IsOther m)) (tails m u ys (us ++ m ∷ vs) e).1 h))
last_mark m (x ∷ xs) ys [] vs e h k =
    absurd (mark_in m xs ys (subst (All (IsOther m)) (sym (tails x m (xs ++ m ∷ ys) vs e).1) k))
last_mark m (x ∷ xs) ys (u ∷ us) vs e h k =
    let t = tails x u (xs ++ m ∷ ys) (us ++ m ∷ vs) e in
    let r = last_mark m xs ys us vs t.1 h k in
    (ap (λ z. z ∷ xs) t.0 ∙ ap (λ zs. u ∷ zs) r.0, r.1)

-- a text, split behind an octet that isn't the mark, is split before it
pub one_more : (m : ℕ) (text rest less : List ℕ) (last : ℕ) → rest ≡ less ++ last ∷ []
    → text ≡ rest ++ drop (length rest) text → All (IsOther m) (drop (length rest) text)
    → IsOther m last
    → (text ≡ less ++ drop (length less) text) × All (IsOther m) (drop (length less) text)
one_more m text rest less last is e fine h =
    let behind = drop (length rest) text in
    let whole : text ≡ less ++ last ∷ behind =
    e ∙ ap (λ (x : List ℕ). x ++ behind) is ∙ append_assoc less (last ∷ []) behind in
    let dropped : drop (length less) text ≡ last ∷ behind =
    ap (λ (x : List ℕ). drop (length less) x) whole
    ∙ drop_at less (last ∷ behind) (length less) refl in (
      whole ∙ ap (λ (x : List ℕ). less ++ x) (sym dropped),
      subst (All (IsOther m)) (sym dropped) (All-cons (IsOther m) last behind h fine),
    )

-- ---- places

above_colon : 57 < 58
above_colon = omega arith

port_no_colon : (text : List ℕ) (port : ℕ) → IsPort text port → All (IsOther 58) text
port_no_colon text port h = port_other 58 text port above_colon h

place_once : (text : List ℕ) (a b : Option IpAddr) (p q : ℕ) → IsPlaceText text a p
    → IsPlaceText text b q → (a ≡ b) × (p ≡ q)
place_once text None None p q h k = (refl, port_once text p q h k)
place_once text None (Some b) p q h k =
    absurd (mark_in 58 k.0 k.1 (subst (All (IsOther 58)) k.2 (port_no_colon text p h)))
place_once text (Some a) None p q h k =
    absurd (mark_in 58 h.0 h.1 (subst (All (IsOther 58)) h.2 (port_no_colon text q k)))
place_once text (Some a) (Some b) p q h k =
    let r =
    last_mark 58 h.0 h.1 k.0 k.1 (sym h.2 ∙ k.2) (port_no_colon h.1 p h.4)
    (port_no_colon k.1 q k.4) in (
      ap Some (host_once h.0 a b h.3 (subst (λ t. IsHost t b) (sym r.0) k.3)),
      port_once h.1 p q h.4 (subst (λ t. IsPort t q) (sym r.1) k.4),
    )

pub place_of_once : (text : List ℕ) (x y : Option IpAddr × ℕ) → SpellsPlace text x
    → SpellsPlace text y → x ≡ y
place_of_once text x y h k =
    let r = place_once text x.0 y.0 x.1 y.1 h k in λ i. (r.0 i, r.1 i)

-- a text without a colon is a port
no_host_by : (text : List ℕ) (a : Option IpAddr) (port : ℕ) → All (IsOther 58) text
    → IsPlaceText text a port → (a ≡ None) × IsPort text port
no_host_by text None port none h = (refl, h)
no_host_by text (Some a) port none h =
    absurd (mark_in 58 h.0 h.1 (subst (All (IsOther 58)) h.2 none))

pub no_port_alone : (text : List ℕ) → All (IsOther 58) text → Finds IsPort text None
    → Finds SpellsPlace text None
no_port_alone text none ports =
    missed SpellsPlace text
    (λ x h. not_none x.1 (sym ((ports x.1).0 (no_host_by text x.0 x.1 none h).1)))

pub port_alone : (text : List ℕ) (port : ℕ) → Finds IsPort text (Some port)
    → Finds SpellsPlace text (Some (None, port))
port_alone text port ports =
    found SpellsPlace text (place_of_once text) (None, port) ((ports port).1 refl)

-- of a text with a colon, behind whose last one stand digits
module _ (text host digits : List ℕ) (parts : text ≡ host ++ 58 ∷ digits)
    (last : All (IsOther 58) digits) where
  at_colon : (a : Option IpAddr) (port : ℕ) → IsPlaceText text a port
      → (b : IpAddr) × (a ≡ Some b) × IsHost host b × IsPort digits port
  at_colon None port h =
      absurd (mark_in 58 host digits (subst (All (IsOther 58)) parts (port_no_colon text port h)))
  at_colon (Some b) port h =
      let r =
      last_mark 58 h.0 h.1 host digits (sym h.2 ∙ parts) (port_no_colon h.1 port h.4) last in
      (b, refl, subst (λ t. IsHost t b) r.0 h.3, subst (λ t. IsPort t port) r.1 h.4)

  pub no_host_found : Finds IsHost host None → Finds SpellsPlace text None
  no_host_found hosts =
      missed SpellsPlace text
      (λ x h. let r = at_colon x.0 x.1 h in not_none r.0 (sym ((hosts r.0).0 r.2)))

  pub no_port_found : Finds IsPort digits None → Finds SpellsPlace text None
  no_port_found ports =
      missed SpellsPlace text
      (λ x h. let r = at_colon x.0 x.1 h in not_none x.1 (sym ((ports x.1).0 r.3)))

  pub both_found : (a : IpAddr) (port : ℕ) → Finds IsHost host (Some a)
      → Finds IsPort digits (Some port) → Finds SpellsPlace text (Some (Some a, port))
  both_found a port hosts ports =
      found SpellsPlace text (place_of_once text) (Some a, port)
      (host, digits, parts, (hosts a).1 refl, (ports port).1 refl)

-- ---- places with their sources

abbrev IsNoAngle : ℕ → Type 0
IsNoAngle = IsOther 62

source_once : (text : List ℕ) (s t : Option IpAddr) (p q : Option IpAddr × ℕ)
    → SpellsSource text s p → SpellsSource text t q → (s ≡ t) × (p ≡ q)
source_once text None None p q h k = (refl, place_of_once text p q h k)
source_once text None (Some t) p q h k =
    absurd (mark_in 62 k.0 k.1 (subst (All IsNoAngle) k.2 (place_unmarked 62 angle text p.0 p.1 h)))
source_once text (Some s) None p q h k =
    absurd (mark_in 62 h.0 h.1 (subst (All IsNoAngle) h.2 (place_unmarked 62 angle text q.0 q.1 k)))
source_once text (Some s) (Some t) p q h k =
    let r =
    last_mark 62 h.0 h.1 k.0 k.1 (sym h.2 ∙ k.2) (place_unmarked 62 angle h.1 p.0 p.1 h.4)
    (place_unmarked 62 angle k.1 q.0 q.1 k.4) in (
      ap Some (host_once h.0 s t h.3 (subst (λ x. IsHost x t) (sym r.0) k.3)),
      place_of_once h.1 p q h.4 (subst (λ x. SpellsPlace x q) (sym r.1) k.4),
    )

-- a place, and its source if that is named
abbrev TwoEnds : Type 0
TwoEnds = Option IpAddr × (Option IpAddr × ℕ)

pub ends_once : (text : List ℕ) (x y : TwoEnds) → SpellsEnds text x → SpellsEnds text y → x ≡ y
ends_once text x y h k =
    let r = source_once text x.0 y.0 x.1 y.1 h k in λ i. (r.0 i, r.1 i)

-- a text without > names no source
no_source : (text : List ℕ) (s : Option IpAddr) (p : Option IpAddr × ℕ) → All IsNoAngle text
    → SpellsSource text s p → (s ≡ None) × SpellsPlace text p
no_source text None p none h = (refl, h)
no_source text (Some s) p none h =
    absurd (mark_in 62 h.0 h.1 (subst (All IsNoAngle) h.2 none))

pub no_place_alone : (text : List ℕ) → All IsNoAngle text → Finds SpellsPlace text None
    → Finds SpellsEnds text None
no_place_alone text none places =
    missed SpellsEnds text
    (λ x h. not_none x.1 (sym ((places x.1).0 (no_source text x.0 x.1 none h).1)))

pub place_alone : (text : List ℕ) (p : Option IpAddr × ℕ) → Finds SpellsPlace text (Some p)
    → Finds SpellsEnds text (Some (None, p))
place_alone text p places =
    found SpellsEnds text (ends_once text) (None, p) ((places p).1 refl)

-- of a text with >, behind whose last one stands a place
module _ (text host rest : List ℕ) (parts : text ≡ host ++ 62 ∷ rest)
    (last : All IsNoAngle rest) where
  at_angle : (s : Option IpAddr) (p : Option IpAddr × ℕ) → SpellsSource text s p
      → (a : IpAddr) × (s ≡ Some a) × IsHost host a × SpellsPlace rest p
  at_angle None p h =
      absurd (mark_in 62 host rest
      (subst (All IsNoAngle) parts (place_unmarked 62 angle text p.0 p.1 h)))
  at_angle (Some a) p h =
      let r =
      last_mark 62 h.0 h.1 host rest (sym h.2 ∙ parts) (place_unmarked 62 angle h.1 p.0 p.1 h.4)
      last in
      (a, refl, subst (λ t. IsHost t a) r.0 h.3, subst (λ t. SpellsPlace t p) r.1 h.4)

  pub no_source_found : Finds IsHost host None → Finds SpellsEnds text None
  no_source_found hosts =
      missed SpellsEnds text
      (λ x h. let r = at_angle x.0 x.1 h in not_none r.0 (sym ((hosts r.0).0 r.2)))

  pub no_place_found : Finds SpellsPlace rest None → Finds SpellsEnds text None
  no_place_found places =
      missed SpellsEnds text
      (λ x h. not_none x.1 (sym ((places x.1).0 (at_angle x.0 x.1 h).3)))

  pub source_found : (a : IpAddr) (p : Option IpAddr × ℕ) → Finds IsHost host (Some a)
      → Finds SpellsPlace rest (Some p) → Finds SpellsEnds text (Some (Some a, p))
  source_found a p hosts places =
      found SpellsEnds text (ends_once text) (Some a, p)
      (host, rest, parts, (hosts a).1 refl, (places p).1 refl)

-- ---- flows

abbrev IsNoAt : ℕ → Type 0
IsNoAt = IsOther 64

source_no_at : (text : List ℕ) (s : Option IpAddr) (p : Option IpAddr × ℕ) → SpellsSource text s p
    → All IsNoAt text
source_no_at text None p h = place_unmarked 64 at_sign text p.0 p.1 h
source_no_at text (Some s) p h =
    let mark : IsNoAt 62 = λ e. omega (arith, e) in
    subst (All IsNoAt) (sym h.2)
    (All-append IsNoAt h.0 (codes ">" ++ h.1) (host_unmarked 64 at_sign h.0 s h.3)
    (All-append IsNoAt (codes ">") h.1 (one_other 64 62 mark)
    (place_unmarked 64 at_sign h.1 p.0 p.1 h.4)))

ends_no_at : (text : List ℕ) (x : TwoEnds) → SpellsEnds text x → All IsNoAt text
ends_no_at text x h = source_no_at text x.0 x.1 h

interface_once : (text : List ℕ) (m n : Option InterfaceName) (x y : TwoEnds)
    → IsInterfaceText text m x → IsInterfaceText text n y → (m ≡ n) × (x ≡ y)
interface_once text None None x y h k = (refl, ends_once text x y h k)
interface_once text None (Some n) x y h k =
    absurd (mark_in 64 k.0 k.1 (subst (All IsNoAt) k.2 (ends_no_at text x h)))
interface_once text (Some m) None x y h k =
    absurd (mark_in 64 h.0 h.1 (subst (All IsNoAt) h.2 (ends_no_at text y k)))
interface_once text (Some m) (Some n) x y h k =
    let r =
    last_mark 64 h.0 h.1 k.0 k.1 (sym h.2 ∙ k.2) (ends_no_at h.1 x h.4) (ends_no_at k.1 y k.4) in (
      ap Some (name_once h.0 m n h.3 (subst (λ t. IsName t n) (sym r.0) k.3)),
      ends_once h.1 x y h.4 (subst (λ t. SpellsEnds t y) (sym r.1) k.4),
    )

abbrev ends_of : Flow → TwoEnds
ends_of f = (f.source, (f.address, f.port))

abbrev flow_by : Option InterfaceName → TwoEnds → Flow
flow_by n x =
    record { interface = n; source = x.0; address = x.1.0; port = x.1.1 }

pub flow_once : (text : List ℕ) (f g : Flow) → IsFlowText text f → IsFlowText text g → f ≡ g
flow_once text f g h k =
    let r = interface_once text f.interface g.interface (ends_of f) (ends_of g) h k in
    λ i. record {
      interface = r.0 i;
      source = (r.1 i).0;
      address = (r.1 i).1.0;
      port = (r.1 i).1.1;
    }

-- a text without @ names no interface
no_interface : (text : List ℕ) (n : Option InterfaceName) (x : TwoEnds) → All IsNoAt text
    → IsInterfaceText text n x → (n ≡ None) × SpellsEnds text x
no_interface text None x none h = (refl, h)
no_interface text (Some n) x none h =
    absurd (mark_in 64 h.0 h.1 (subst (All IsNoAt) h.2 none))

pub no_ends_alone : (text : List ℕ) → All IsNoAt text → Finds SpellsEnds text None
    → Finds IsFlowText text None
no_ends_alone text none ends =
    missed IsFlowText text
    (λ f h. let x : TwoEnds = ends_of f in
    not_none x (sym ((ends x).0 (no_interface text f.interface x none h).1)))

pub ends_alone : (text : List ℕ) (x : TwoEnds) → Finds SpellsEnds text (Some x)
    → Finds IsFlowText text (Some (flow_by None x))
ends_alone text x ends =
    found IsFlowText text (flow_once text) (flow_by None x) ((ends x).1 refl)

-- of a text with @, behind whose last one stand the ends
module _ (text name rest : List ℕ) (parts : text ≡ name ++ 64 ∷ rest)
    (last : All IsNoAt rest) where
  behind_at : (n : Option InterfaceName) (x : TwoEnds) → IsInterfaceText text n x
      → (m : InterfaceName) × (n ≡ Some m) × IsName name m × SpellsEnds rest x
  behind_at None x h =
      absurd (mark_in 64 name rest (subst (All IsNoAt) parts (ends_no_at text x h)))
  behind_at (Some m) x h =
      let r =
      last_mark 64 h.0 h.1 name rest (sym h.2 ∙ parts) (ends_no_at h.1 x h.4) last in
      (m, refl, subst (λ t. IsName t m) r.0 h.3, subst (λ t. SpellsEnds t x) r.1 h.4)

  pub no_interface_found : Finds IsName name None → Finds IsFlowText text None
  no_interface_found names =
      missed IsFlowText text
      (λ f h. let r = behind_at f.interface (ends_of f) h in
      not_none r.0 (sym ((names r.0).0 r.2)))

  pub no_ends_found : Finds SpellsEnds rest None → Finds IsFlowText text None
  no_ends_found ends =
      missed IsFlowText text
      (λ f h. let x : TwoEnds = ends_of f in
      not_none x (sym ((ends x).0 (behind_at f.interface x h).3)))

  pub interface_found : (n : InterfaceName) (x : TwoEnds) → Finds IsName name (Some n)
      → Finds SpellsEnds rest (Some x) → Finds IsFlowText text (Some (flow_by (Some n) x))
  interface_found n x names ends =
      found IsFlowText text (flow_once text) (flow_by (Some n) x)
      (name, rest, parts, (names n).1 refl, (ends x).1 refl)

-- ---- what is read of hosts

pub host_v4 : (text : List ℕ) (a : Ipv4Addr) → IsIpv4Text text a → Finds IsHost text (Some (V4 a))
host_v4 text a h = found IsHost text (host_once text) (V4 a) h

pub host_v6 : (text inside : List ℕ) (a : Ipv6Addr) → text ≡ codes "[" ++ inside ++ codes "]"
    → IsIpv6Text inside a → Finds IsHost text (Some (V6 a))
host_v6 text inside a e h = found IsHost text (host_once text) (V6 a) (inside, e, h)

-- ---- what is written is read again

port_decimal : (port : ℕ) → port < 2 ^ 16 → IsPort (decimal port) port
port_decimal port small =
    let wide : port < 2 ^ 64 = omega arith in
    let value : digits_value 10 (decimal port) ≡ port = digits_value-decimal digits port wide in
    let is : IsNumber (decimal port) = record {
      digits = digits.to (decimal port) (digits_decimal digits port wide);
      some = decimal_nonempty port wide;
      few = length-decimal-le 10 port (lit< tt) (omega arith) wide;
      fits = omega (arith, value);
    } in
    (number_by (decimal port) port is value, omega arith)

host_again : (a : IpAddr) → MatchIp a IsIpv4Addr IsIpv6Addr → IsHost (host_text a) a
host_again (V4 a) h = IsDotted-ipv4_text (ipv4_octets a) h.0 h.1
host_again (V6 a) h =
    (ipv6_text (ipv6_segments a), refl, IsColonHex-ipv6_text (ipv6_segments a) h.0 h.1)

place_again : (a : Option IpAddr) (port : ℕ) → IfSome a (λ ip. MatchIp ip IsIpv4Addr IsIpv6Addr)
    → port < 2 ^ 16 → IsPlaceText (place_text a port) a port
place_again None port h small = port_decimal port small
place_again (Some a) port h small = (
  host_text a,
  decimal port,
  append_assoc (host_text a) (codes ":") (decimal port),
  host_again a h,
  port_decimal port small,
)

source_again : (s a : Option IpAddr) (port : ℕ)
    → IfSome s (λ ip. MatchIp ip IsIpv4Addr IsIpv6Addr)
    → IsPlaceText (place_text a port) a port
    → SpellsSource (source_text s ++ place_text a port) s (a, port)
source_again None a port h place = place
source_again (Some s) a port h place = (
  host_text s,
  place_text a port,
  append_assoc (host_text s) (codes ">") (place_text a port),
  host_again s h,
  place,
)

interface_again : (n : Option InterfaceName) (rest : List ℕ) (x : TwoEnds)
    → IfSome n IsInterfaceName → SpellsEnds rest x
    → IsInterfaceText (interface_text n ++ rest) n x
interface_again None rest x h ends = ends
interface_again (Some n) rest x h ends = (
  name_text n,
  rest,
  append_assoc (name_text n) (codes "@") rest,
  (name_again n n h).1 refl,
  ends,
)

pub flow_again : (f g : Flow) → IsFlow f → IsFlowText (flow_text f) g ↔ (g ≡ f)
flow_again f g h =
    let again : IsFlowText (flow_text f) f =
    interface_again f.interface (ends_text f) (ends_of f) h.0
    (source_again f.source f.address f.port h.1 (place_again f.address f.port h.2 h.3)) in (
      λ k. flow_once (flow_text f) g f k again,
      λ e. subst (IsFlowText (flow_text f)) (sym e) again,
    )
