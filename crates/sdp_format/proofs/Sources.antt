-- Where sections come from: of an address a section has one source at most.
use Rattle.std.proofs.Common.{◌≡◌, ℕ, Bool, false, List, [], ◌∷◌, ◌++◌, codes, Option}
use Rattle.std.proofs.Common.{Some, None, get_or, refl, sym, ap, ◌∙◌, subst, inl, inr}
use Rattle.std.specs.Prelude.{◌≢◌, ◌↔◌, ◌⊎◌, IsTrue, bytes_eq}
use Rattle.std.proofs.lemmas.Bool.{false≢true}
use Rattle.std.proofs.lemmas.List.{append_cancel_left}
use Rattle.std.specs.declared.net.ip_addr.IpAddr.{IpAddr}
use Rattle.std.specs.declared.net.ip_addr.IpAddr.TheVariants.{V4, V6}
use Rattle.std.specs.declared.net.ipv4_addr.Ipv4Addr.{Ipv4Addr}
use Rattle.std.specs.declared.net.ipv6_addr.Ipv6Addr.{Ipv6Addr}
use Rattle.std.specs.Net.Grammar.{IsIpText, IsIpv4Text, IsIpv6Text}
use Rattle.std.proofs.NetLemmas.Theorems.{IsIpText_unique, IsIpv4Text_unique, IsIpv6Text_unique}
use Rattle.flow.specs.FlowText.{Finds}
use Rattle.flow.proofs.FlowTexts.{found, not_none, same_some}
use Rattle.sdp_format.specs.Bytes.{behind, trim_end}
use Rattle.sdp_format.specs.Destinations.{IsDestination, IsFilter, IsFirstFilter, IsOneSource}
use Rattle.sdp_format.specs.Destinations.{IsSourceAddress, IsSourceOf, filter_word}
use Rattle.sdp_format.specs.Sections.{Section, section_lines}
use Rattle.sdp_format.proofs.Doubles.{same_bytes}
use Rattle.sdp_format.proofs.LineForms.{trim_off}

-- ---- lines

rest_once : (line : List ℕ) (address : IpAddr) (x y : List ℕ)
    → trim_end line ≡ filter_word address ++ x → trim_end line ≡ filter_word address ++ y → x ≡ y
rest_once line address x y h k =
    append_cancel_left (filter_word address) x y (sym h ∙ k)

filter_once : (line : List ℕ) (address : IpAddr) (x y : List ℕ) → IsFilter line address x
    → IsFilter line address y → x ≡ y
filter_once line address x y h k =
    let same : h.rest ≡ k.rest = rest_once line address h.rest k.rest h.spelled k.spelled in
    same_some x y (sym h.listed ∙ ap (behind 32) same ∙ k.listed)

-- ---- destinations

destined_once : (text : List ℕ) (address found : IpAddr) → bytes_eq text (codes "*") ≡ false
    → IsIpText text found → IsDestination text address → found ≡ address
destined_once text address found other is (inl star) =
    absurd (false≢true (sym other ∙ same_bytes text (codes "*") star))
destined_once text address found other is (inr h) = IsIpText_unique text found address is h

pub destined : (text : List ℕ) (address found : IpAddr) (r : Bool)
    → bytes_eq text (codes "*") ≡ false → IsIpText text found → (IsTrue r ↔ (found ≡ address))
    → IsTrue r ↔ IsDestination text address
destined text address found r other is same = (
  λ t. inr (subst (IsIpText text) (same.0 t) is),
  λ h. same.1 (destined_once text address found other is h),
)

-- ---- the first line

first_once : (ls : List (List ℕ)) (address : IpAddr) (x y : Option (List ℕ))
    → IsFirstFilter ls address x → IsFirstFilter ls address y → x ≡ y
first_once [] address x y h k = h ∙ sym k
first_once (l ∷ ls) address x y (inl h) (inl k) =
    h.2 ∙ ap Some (filter_once l address h.0 k.0 h.1 k.1) ∙ sym k.2
first_once (l ∷ ls) address x y (inl h) (inr k) = absurd (k.0 h.0 h.1)
first_once (l ∷ ls) address x y (inr h) (inl k) = absurd (h.0 k.0 k.1)
first_once (l ∷ ls) address x y (inr h) (inr k) = first_once ls address x y h.1 k.1

pub first_in_front : (ls more : List (List ℕ)) (address : IpAddr) (sources : List ℕ)
    → IsFirstFilter ls address (Some sources) → IsFirstFilter (ls ++ more) address (Some sources)
first_in_front [] more address sources h = absurd (not_none sources h)
first_in_front (l ∷ ls) more address sources (inl h) = inl h
first_in_front (l ∷ ls) more address sources (inr h) =
    inr (h.0, first_in_front ls more address sources h.1)

pub first_behind : (ls more : List (List ℕ)) (address : IpAddr) (listed : Option (List ℕ))
    → IsFirstFilter ls address None → IsFirstFilter more address listed
    → IsFirstFilter (ls ++ more) address listed
first_behind [] more address listed h k = k
first_behind (l ∷ ls) more address listed (inl h) k = absurd (not_none h.0 (sym h.2))
first_behind (l ∷ ls) more address listed (inr h) k =
    inr (h.0, first_behind ls more address listed h.1 k)

-- ---- lines that are no filters

begins_so : (line : List ℕ) (address : IpAddr) (sources : List ℕ) → IsFilter line address sources
    → (get_or line 0 0 ≡ 97) × (get_or line 2 0 ≡ 115)
begins_so line (V4 a) sources h =
    let off = trim_off line in
    let whole = off.1 ∙ ap (λ (x : List ℕ). x ++ off.0) h.spelled in
    (ap (λ (x : List ℕ). get_or x 0 0) whole, ap (λ (x : List ℕ). get_or x 2 0) whole)
begins_so line (V6 a) sources h =
    let off = trim_off line in
    let whole = off.1 ∙ ap (λ (x : List ℕ). x ++ off.0) h.spelled in
    (ap (λ (x : List ℕ). get_or x 0 0) whole, ap (λ (x : List ℕ). get_or x 2 0) whole)

-- lines that begin in another way
abbrev pub BeginsOther : List ℕ → Type 0
BeginsOther line = (get_or line 0 0 ≢ 97) ⊎ (get_or line 2 0 ≢ 115)

abbrev pub BeginOther : List (List ℕ) → Type 0
BeginOther [] = Unit {0}
BeginOther (l ∷ ls) = BeginsOther l × BeginOther ls

no_filter : (line : List ℕ) (address : IpAddr) → BeginsOther line → (sources : List ℕ)
    → IsFilter line address sources → ⊥
no_filter line address (inl h) sources k = h (begins_so line address sources k).0
no_filter line address (inr h) sources k = h (begins_so line address sources k).1

pub none_first : (ls : List (List ℕ)) (address : IpAddr) → BeginOther ls
    → IsFirstFilter ls address None
none_first [] address h = refl
none_first (l ∷ ls) address h = inr (no_filter l address h.0, none_first ls address h.1)

pub begin_other_both : (ls more : List (List ℕ)) → BeginOther ls → BeginOther more
    → BeginOther (ls ++ more)
begin_other_both [] more h k = k
begin_other_both (l ∷ ls) more h k = (h.0, begin_other_both ls more h.1 k)

-- ---- sources

source_once : (address : IpAddr) (text : List ℕ) (x y : IpAddr) → IsSourceAddress address text x
    → IsSourceAddress address text y → x ≡ y
source_once (V4 a) text (V4 x) (V4 y) h k = ap V4 (IsIpv4Text_unique text x y h k)
source_once (V4 a) text (V4 x) (V6 y) h k = absurd k
source_once (V4 a) text (V6 x) y h k = absurd h
source_once (V6 a) text (V4 x) y h k = absurd h
source_once (V6 a) text (V6 x) (V4 y) h k = absurd k
source_once (V6 a) text (V6 x) (V6 y) h k = ap V6 (IsIpv6Text_unique text x y h k)

module _ (address : IpAddr) (text : List ℕ) where
  pub found_v4 : (a s : Ipv4Addr) → address ≡ V4 a → IsIpv4Text text s
      → Finds (IsSourceAddress address) text (Some (V4 s))
  found_v4 a s e h =
      subst (λ (x : IpAddr). Finds (IsSourceAddress x) text (Some (V4 s))) (sym e)
      (found (IsSourceAddress (V4 a)) text (source_once (V4 a) text) (V4 s) h)

  pub found_v6 : (a s : Ipv6Addr) → address ≡ V6 a → IsIpv6Text text s
      → Finds (IsSourceAddress address) text (Some (V6 s))
  found_v6 a s e h =
      subst (λ (x : IpAddr). Finds (IsSourceAddress x) text (Some (V6 s))) (sym e)
      (found (IsSourceAddress (V6 a)) text (source_once (V6 a) text) (V6 s) h)

finds_once : {X : Type 0} (Spells : List ℕ → X → Type 0) (text : List ℕ) (x y : Option X)
    → Finds Spells text x → Finds Spells text y → x ≡ y
finds_once Spells text None None h k = refl
finds_once Spells text None (Some b) h k = (h b).0 ((k b).1 refl)
finds_once Spells text (Some a) y h k = sym ((k a).0 ((h a).1 refl))

one_once : (address : IpAddr) (listed : Option (List ℕ)) (x y : Option IpAddr)
    → IsOneSource address listed x → IsOneSource address listed y → x ≡ y
one_once address None x y h k = h ∙ sym k
one_once address (Some listed) x y h k = finds_once (IsSourceAddress address) listed x y h k

pub sent_from_once : (lines : List (List ℕ)) (s : Section) (address x y : Option IpAddr)
    → IsSourceOf lines s address x → IsSourceOf lines s address y → x ≡ y
sent_from_once lines s None x y h k = h ∙ sym k
sent_from_once lines s (Some address) x y h k =
    let same = first_once (s.lines ++ section_lines lines) address h.0 k.0 h.1 k.1 in
    one_once address h.0 x y h.2
    (subst (λ (o : Option (List ℕ)). IsOneSource address o y) (sym same) k.2)
