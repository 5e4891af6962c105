-- The texts of packets, and the texts of flows.
use Rattle.std.proofs.Common.{◌≡◌, ℕ, ◌≤◌, ◌++◌, List, length, take, drop, sym, ap, ◌∙◌, arith}
use Rattle.std.proofs.Common.{Option, Some, None, refl, subst, true, false}
use Rattle.std.specs.Prelude.{MatchOption, is_some}
use Rattle.std.proofs.lemmas.List.{length-append, length-drop, take-append-le, take_all}
use Rattle.std.specs.declared.net.ip_addr.IpAddr.{IpAddr}
use Rattle.media_file.specs.Records.{Entry}
use Rattle.flow.specs.FlowText.{Finds, IsFlowText, IsInterfaceText, SpellsSource}
use Rattle.interface_name.specs.declared.name.InterfaceName.{InterfaceName}
use Rattle.flow.specs.declared.flows.Flow.{Flow}
use Rattle.export_engine.specs.Packets.{IsEnvelopeText, datagram_record, envelope_from}
use Rattle.export_engine.specs.Packets.{packet_record, packet_text, sent_by}
use Rattle.export_engine.specs.declared.places.Envelopes.{Envelopes}
use Rattle.export_engine.specs.declared.places.IpEnvelope.{IpEnvelope}

-- what was written over the first octets of a buffer stands at its front
front_taken : (n : ℕ) (text old new : List ℕ) → new ≡ text ++ drop n old
    → length new ≡ length old → n ≤ length old → take n new ≡ text
front_taken n text old new is same room =
    let size : length text ≡ n =
    omega (
      arith,
      ap (λ (t : List ℕ). length t) is,
      length-append text (drop n old),
      length-drop n old,
      same,
      room,
    ) in
    ap (take n) is ∙ take-append-le n text (drop n old) (omega (arith, size))
    ∙ take_all n text (omega (arith, size))

-- so where that many were answered
pub front_written : (count n : ℕ) (text old new : List ℕ) → count ≡ n → new ≡ text ++ drop n old
    → length new ≡ length old → n ≤ length old → take count new ≡ text
front_written count n text old new value is same room =
    ap (λ (k : ℕ). take k new) value ∙ front_taken n text old new is same room

-- the packet of a record
pub packet_taken : (es : Envelopes) (e : Entry) (envelope : IpEnvelope) (text : List ℕ)
    → Some envelope ≡ sent_by es e → text ≡ datagram_record envelope e.moment e.octets
    → text ≡ packet_text es e
packet_taken es e envelope text sent is =
    is ∙ ap (λ (o : Option IpEnvelope). packet_record o e) sent

-- ---- flows

abbrev pub flow_at : Option IpAddr → IpAddr → ℕ → Flow
flow_at source address port =
    record { interface = None; source = source; address = Some address; port = port }

-- no flow was found
pub no_flow : (text : List ℕ) (r : Option Flow) → Finds IsFlowText text r → r ≡ None
    → (e : IpEnvelope) → IsEnvelopeText text e → ⊥
no_flow text r found none e is =
    not_some (sym none ∙ (found (flow_at is.source is.address is.port)).0 is.flow)
  where
    not_some : {X : Type 0} {x : X} → None ≡ Some x → ⊥
    not_some same = cc

inner : {X : Type 0} (x y : X) → Some x ≡ Some y → x ≡ y
inner x y same = cc

-- the flow that was found is the one that the text spells
the_flow : (text : List ℕ) (f : Flow) → Finds IsFlowText text (Some f) → (e : IpEnvelope)
    → (is : IsEnvelopeText text e) → f ≡ flow_at is.source is.address is.port
the_flow text f found e is =
    let wanted : Flow = flow_at is.source is.address is.port in
    inner f wanted ((found wanted).0 is.flow)

-- the flow that was found names no address
pub no_envelope : (text : List ℕ) (f : Flow) → Finds IsFlowText text (Some f) → f.address ≡ None
    → (e : IpEnvelope) → IsEnvelopeText text e → ⊥
no_envelope text f found none e is =
    clash (sym none ∙ ap (λ (g : Flow). g.address) (the_flow text f found e is))
  where
    clash : {x : IpAddr} → None ≡ Some x → ⊥
    clash same = cc

-- the flow that was found names an interface, or it names none
pub no_interface : (text : List ℕ) (f : Flow) → Finds IsFlowText text (Some f)
    → is_some f.interface ≡ true → (e : IpEnvelope) → IsEnvelopeText text e → ⊥
no_interface text f found named e is =
    clash (subst (λ (n : Option InterfaceName). is_some n ≡ true)
    (ap (λ (g : Flow). g.interface) (the_flow text f found e is)) named)
  where
    clash : false ≡ true → ⊥
    clash same = cc

pub anywhere : (n : Option InterfaceName) → is_some n ≡ false → n ≡ None
anywhere None e = refl
anywhere (Some n) e = absurd cc

-- what is made of the flow that was found
abbrev IsMade : List ℕ → Option IpEnvelope → Type 0
IsMade text r = MatchOption r ((e : IpEnvelope) → IsEnvelopeText text e → ⊥) (IsEnvelopeText text)

pub envelope_found : (text : List ℕ) (f : Flow) (a : IpAddr) (r : Option IpEnvelope)
    → Finds IsFlowText text (Some f) → f.interface ≡ None → f.address ≡ Some a
    → r ≡ envelope_from f.source a f.port → IsMade text r
envelope_found text f a None found unnamed named is = λ e h.
    let same = the_flow text f found e h in
    let at : a ≡ h.address =
    inner a h.address (sym named ∙ ap (λ (g : Flow). g.address) same) in
    clash (is
    ∙ ap (λ (s : Option IpAddr). envelope_from s a f.port) (ap (λ (g : Flow). g.source) same)
    ∙ ap (λ (x : IpAddr). envelope_from h.source x f.port) at
    ∙ ap (λ (p : ℕ). envelope_from h.source h.address p) (ap (λ (g : Flow). g.port) same)
    ∙ h.envelope)
  where
    clash : {x : IpEnvelope} → None ≡ Some x → ⊥
    clash same = cc
envelope_found text f a (Some e) found unnamed named is = record {
  source = f.source;
  address = a;
  port = f.port;
  flow =
      subst (λ (o : Option IpAddr). SpellsSource text f.source (o, f.port)) named
      (subst
      (λ (n : Option InterfaceName). IsInterfaceText text n (f.source, (f.address, f.port)))
      unnamed ((found f).1 refl));
  envelope = sym is;
}
