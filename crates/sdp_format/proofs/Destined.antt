-- Where sections are sent to: a line names one address at most, and a section has one flow or one
-- fault.
use Rattle.std.proofs.Common.{◌≡◌, ℕ, List, ◌++◌, Option, Some, None, Result, Ok, Err, refl, sym}
use Rattle.std.proofs.Common.{ap, ◌∙◌, subst, get_or, codes, arith, [], ◌∷◌, inl, inr}
use Rattle.std.specs.Prelude.{◌↔◌}
use Rattle.std.proofs.lemmas.List.{append_cancel_left}
use Rattle.std.specs.declared.net.ip_addr.IpAddr.{IpAddr}
use Rattle.std.specs.declared.net.ip_addr.IpAddr.TheVariants.{V4, V6}
use Rattle.std.specs.declared.net.ipv4_addr.Ipv4Addr.{Ipv4Addr}
use Rattle.std.specs.declared.net.ipv6_addr.Ipv6Addr.{Ipv6Addr}
use Rattle.std.specs.Net.Grammar.{IsIpv4Text, IsIpv6Text}
use Rattle.std.proofs.NetLemmas.Theorems.{IsIpv4Text_unique, IsIpv6Text_unique}
use Rattle.arrayvec.specs.ArrayVec.{ArrayVec}
use Rattle.flow.specs.declared.flows.Flow.{Flow}
use Rattle.flow.specs.FlowText.{Finds}
use Rattle.flow.proofs.FlowTexts.{found, missed}
use Rattle.sdp_format.specs.declared.flows_fault.FlowsFault.{FlowsFault}
use Rattle.sdp_format.specs.declared.flows_fault.FlowsFault.TheVariants.{NoVideo, TooManyLegs}
use Rattle.sdp_format.specs.declared.flows_fault.FlowsFault.TheVariants.{BadMediaLine}
use Rattle.sdp_format.specs.declared.flows_fault.FlowsFault.TheVariants.{BadConnection}
use Rattle.sdp_format.specs.Bytes.{front, trim_end}
use Rattle.sdp_format.specs.Destinations.{IsConnectionText, IsConnection, IsAddressOf, NamesNone}
use Rattle.sdp_format.specs.Destinations.{IsFlowOf, IsFlowFault, SectionsFault, connection_of}
use Rattle.sdp_format.specs.Destinations.{IsSourceOf, flows_seen}
use Rattle.sdp_format.specs.Reading.{media_of}
use Rattle.sdp_format.specs.Sections.{Section}
use Rattle.sdp_format.proofs.LineForms.{media_says, says_media, media_once}
use Rattle.sdp_format.proofs.Said.{not_none}
use Rattle.sdp_format.proofs.Sources.{sent_from_once}

-- ---- lines

other_word : (x y : List ℕ) → codes "c=IN IP4 " ++ x ≡ codes "c=IN IP6 " ++ y → ⊥
other_word x y e = let h : 52 ≡ 54 = ap (λ (l : List ℕ). get_or l 7 0) e in omega (arith, h)

named_once : (text : List ℕ) (a b : IpAddr) → IsConnectionText text a → IsConnectionText text b
    → a ≡ b
named_once text (V4 a) (V4 b) h k =
    let same : h.0 ≡ k.0 = append_cancel_left (codes "c=IN IP4 ") h.0 k.0 (sym h.1 ∙ k.1) in
    ap V4 (IsIpv4Text_unique h.0 a b h.2 (subst (λ t. IsIpv4Text t b) (sym same) k.2))
named_once text (V4 a) (V6 b) h k = absurd (other_word h.0 k.0 (sym h.1 ∙ k.1))
named_once text (V6 a) (V4 b) h k = absurd (other_word k.0 h.0 (sym k.1 ∙ h.1))
named_once text (V6 a) (V6 b) h k =
    let same : h.0 ≡ k.0 = append_cancel_left (codes "c=IN IP6 ") h.0 k.0 (sym h.1 ∙ k.1) in
    ap V6 (IsIpv6Text_unique h.0 a b h.2 (subst (λ t. IsIpv6Text t b) (sym same) k.2))

connection_once : (line : List ℕ) (a b : IpAddr) → IsConnection line a → IsConnection line b
    → a ≡ b
connection_once line a b h k = named_once (front 47 (trim_end line)) a b h k

-- of what stands before the first / of a line
module _ (line text : List ℕ) (cut : text ≡ front 47 (trim_end line)) where
  pub named_v4 : (rest : List ℕ) (a : Ipv4Addr) → text ≡ codes "c=IN IP4 " ++ rest
      → IsIpv4Text rest a → Finds IsConnection line (Some (V4 a))
  named_v4 rest a e h =
      found IsConnection line (connection_once line) (V4 a) (rest, sym cut ∙ e, h)

  pub named_v6 : (rest : List ℕ) (a : Ipv6Addr) → text ≡ codes "c=IN IP6 " ++ rest
      → IsIpv6Text rest a → Finds IsConnection line (Some (V6 a))
  named_v6 rest a e h =
      found IsConnection line (connection_once line) (V6 a) (rest, sym cut ∙ e, h)

  none_v4 : (rest : List ℕ) → text ≡ codes "c=IN IP4 " ++ rest
      → ((a : Ipv4Addr) → IsIpv4Text rest a → ⊥) → (b : IpAddr) → IsConnection line b → ⊥
  none_v4 rest e none (V4 b) k =
      let same : k.0 ≡ rest =
      append_cancel_left (codes "c=IN IP4 ") k.0 rest (sym k.1 ∙ sym cut ∙ e) in
      none b (subst (λ t. IsIpv4Text t b) same k.2)
  none_v4 rest e none (V6 b) k = other_word rest k.0 (sym e ∙ cut ∙ k.1)

  none_v6 : (rest : List ℕ) → text ≡ codes "c=IN IP6 " ++ rest
      → ((a : Ipv6Addr) → IsIpv6Text rest a → ⊥) → (b : IpAddr) → IsConnection line b → ⊥
  none_v6 rest e none (V4 b) k = other_word k.0 rest (sym k.1 ∙ sym cut ∙ e)
  none_v6 rest e none (V6 b) k =
      let same : k.0 ≡ rest =
      append_cancel_left (codes "c=IN IP6 ") k.0 rest (sym k.1 ∙ sym cut ∙ e) in
      none b (subst (λ t. IsIpv6Text t b) same k.2)

  none_word : ((rest : List ℕ) → text ≡ codes "c=IN IP4 " ++ rest → ⊥)
      → ((rest : List ℕ) → text ≡ codes "c=IN IP6 " ++ rest → ⊥) → (b : IpAddr)
      → IsConnection line b → ⊥
  none_word four six (V4 b) k = four k.0 (cut ∙ k.1)
  none_word four six (V6 b) k = six k.0 (cut ∙ k.1)

  pub unnamed_v4 : (rest : List ℕ) → text ≡ codes "c=IN IP4 " ++ rest
      → ((a : Ipv4Addr) → IsIpv4Text rest a → ⊥) → Finds IsConnection line None
  unnamed_v4 rest e none = missed IsConnection line (none_v4 rest e none)

  pub unnamed_v6 : (rest : List ℕ) → text ≡ codes "c=IN IP6 " ++ rest
      → ((a : Ipv6Addr) → IsIpv6Text rest a → ⊥) → Finds IsConnection line None
  unnamed_v6 rest e none = missed IsConnection line (none_v6 rest e none)

  pub unnamed : ((rest : List ℕ) → text ≡ codes "c=IN IP4 " ++ rest → ⊥)
      → ((rest : List ℕ) → text ≡ codes "c=IN IP6 " ++ rest → ⊥) → Finds IsConnection line None
  unnamed four six = missed IsConnection line (none_word four six)

-- ---- sections

address_once : (o : Option (List ℕ)) (a b : Option IpAddr) → IsAddressOf o a → IsAddressOf o b
    → a ≡ b
address_once None None None h k = refl
address_once None None (Some b) h k = absurd k
address_once None (Some a) b h k = absurd h
address_once (Some line) None b h k = absurd h
address_once (Some line) (Some a) None h k = absurd k
address_once (Some line) (Some a) (Some b) h k = ap Some (connection_once line a b h k)

no_address : (o : Option (List ℕ)) (a : Option IpAddr) → IsAddressOf o a → NamesNone o → ⊥
no_address None a h k = k
no_address (Some line) None h k = h
no_address (Some line) (Some a) h k = k a h

-- the answer of a reader of a section is its flow or its fault, and nothing else is
abbrev pub IsSectionRead : List (List ℕ) → Section → Result Flow FlowsFault → Type 0
IsSectionRead lines s r =
    ((f : Flow) → (IsFlowOf lines s f ↔ (r ≡ Ok f)))
    × ((e : FlowsFault) → (IsFlowFault lines s e ↔ (r ≡ Err e)))

same_ok : (f g : Flow) → ◌≡◌ {A = Result Flow FlowsFault} (Ok f) (Ok g) → f ≡ g
same_ok f g e = cc

same_err : (d e : FlowsFault) → ◌≡◌ {A = Result Flow FlowsFault} (Err d) (Err e) → d ≡ e
same_err d e h = cc

ok_err : (f : Flow) (e : FlowsFault) → ◌≡◌ {A = Result Flow FlowsFault} (Ok f) (Err e) → ⊥
ok_err f e h = cc

module _ (lines : List (List ℕ)) (s : Section) where
  flow_once : (f g : Flow) → IsFlowOf lines s f → IsFlowOf lines s g → f ≡ g
  flow_once f g h k =
      let port = (media_once s.media f.port h.0.0 g.port k.0.0 h.0.1 k.0.1).0 in
      let address = address_once (connection_of lines s) f.address g.address h.1 k.1 in
      let source =
      sent_from_once lines s f.address f.source g.source h.2
      (subst (λ (a : Option IpAddr). IsSourceOf lines s a g.source) (sym address) k.2) in
      let interface : f.interface ≡ g.interface = h.3 ∙ sym k.3 in
      λ i. record {
        interface = interface i;
        source = source i;
        address = address i;
        port = port i;
      }

  -- a flow of a section
  abbrev sent_so : Option IpAddr → Option IpAddr → ℕ → Flow
  sent_so source address port =
      record { interface = None; source = source; address = address; port = port }

  not_both : (f : Flow) (e : FlowsFault) → IsFlowOf lines s f → IsFlowFault lines s e → ⊥
  not_both f NoVideo h k = k
  not_both f TooManyLegs h k = k
  not_both f BadMediaLine h k = k f.port h.0.0 h.0.1
  not_both f BadConnection h k = no_address (connection_of lines s) f.address h.1 k.1

  fault_once : (d e : FlowsFault) → IsFlowFault lines s d → IsFlowFault lines s e → d ≡ e
  fault_once NoVideo e h k = absurd h
  fault_once TooManyLegs e h k = absurd h
  fault_once BadMediaLine NoVideo h k = absurd k
  fault_once BadMediaLine TooManyLegs h k = absurd k
  fault_once BadMediaLine BadMediaLine h k = refl
  fault_once BadMediaLine BadConnection h k = absurd (h k.0.0 k.0.1 k.0.2)
  fault_once BadConnection NoVideo h k = absurd k
  fault_once BadConnection TooManyLegs h k = absurd k
  fault_once BadConnection BadMediaLine h k = absurd (k h.0.0 h.0.1 h.0.2)
  fault_once BadConnection BadConnection h k = refl

  pub flow_read : (f : Flow) → IsFlowOf lines s f → IsSectionRead lines s (Ok f)
  flow_read f h = (
    λ g. (
      λ k. ap Ok (flow_once f g h k),
      λ e. subst (IsFlowOf lines s) (same_ok f g e) h,
    ),
    λ e. (
      λ k. absurd (not_both f e h k),
      λ same. absurd (ok_err f e same),
    ),
  )

  pub fault_read : (d : FlowsFault) → IsFlowFault lines s d → IsSectionRead lines s (Err d)
  fault_read d h = (
    λ g. (
      λ k. absurd (not_both g d k h),
      λ e. absurd (ok_err g d (sym e)),
    ),
    λ e. (
      λ k. ap Err (fault_once d e h k),
      λ same. subst (IsFlowFault lines s) (same_err d e same) h,
    ),
  )

  -- what is read of a section, by its media line, its connection and what that names
  pub bad_media : media_of s.media ≡ None → IsSectionRead lines s (Err BadMediaLine)
  bad_media e =
      fault_read BadMediaLine
      (λ port type is. not_none (port, type) (sym (says_media s.media port type is) ∙ e))

  pub nowhere : (m : ℕ × ℕ) → media_of s.media ≡ Some m → connection_of lines s ≡ None
      → IsSectionRead lines s (Ok (sent_so None None m.0))
  nowhere m e none =
      flow_read (sent_so None None m.0)
      ((m.1, media_says s.media m e), subst (λ o. IsAddressOf o None) (sym none) tt, refl, refl)

  pub somewhere : (m : ℕ × ℕ) (line : List ℕ) (a : IpAddr) (source : Option IpAddr)
      → media_of s.media ≡ Some m → connection_of lines s ≡ Some line
      → Finds IsConnection line (Some a) → IsSourceOf lines s (Some a) source
      → IsSectionRead lines s (Ok (sent_so source (Some a) m.0))
  somewhere m line a source e counts names from =
      flow_read (sent_so source (Some a) m.0) (
        (m.1, media_says s.media m e),
        subst (λ o. IsAddressOf o (Some a)) (sym counts) ((names a).1 refl),
        from,
        refl,
      )

  pub bad_connection : (m : ℕ × ℕ) (line : List ℕ) → media_of s.media ≡ Some m
      → connection_of lines s ≡ Some line → Finds IsConnection line None
      → IsSectionRead lines s (Err BadConnection)
  bad_connection m line e counts names =
      fault_read BadConnection (
        (m.0, m.1, media_says s.media m e),
        subst NamesNone (sym counts) (λ a is. not_none a (sym ((names a).0 is))),
      )

-- ---- two sections

seen_err : (d e : FlowsFault) → ◌≡◌ {A = Result (List Flow) FlowsFault} (Err d) (Err e) → d ≡ e
seen_err d e h = cc

pub second_fault : (lines : List (List ℕ)) (s t : Section) (f : Flow) (d : FlowsFault)
    (r : Result (ArrayVec Flow) FlowsFault) → r ≡ Err d → IsSectionRead lines s (Ok f)
    → IsSectionRead lines t (Err d) → (e : FlowsFault)
    → (SectionsFault lines (s ∷ t ∷ []) e ↔ (flows_seen r ≡ Err e))
second_fault lines s t f d r is first second e = (
  λ k. ap flows_seen is ∙ elim k [
    | inl h ↦ absurd (ok_err f e ((first.1 e).0 h))
    | inr h ↦ ap Err (same_err d e ((second.1 e).0 h.1))
  ],
  λ k. inr (
    (f, (first.0 f).1 refl),
    (second.1 e).1 (ap Err (seen_err d e (sym (ap flows_seen is) ∙ k))),
  ),
)
