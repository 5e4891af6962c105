-- A recorded packet by the number of its link layer.
use Rattle.std.proofs.Common.{◌≡◌, ℕ, ◌↔◌, inl, inr, List, Option, None, Some, Result, Err}
use Rattle.std.proofs.Common.{sym, subst, ◌∙◌}
use Rattle.pcap_file.specs.declared.datagram.NoDatagram.{NoDatagram}
use Rattle.pcap_file.specs.declared.link.Link.{Link}
use Rattle.pcap_file.specs.Link.{link_of}
use Rattle.pcap_file.specs.PacketDatagram.{LacksDatagram}
use Rattle.pcap_file.specs.Reasons.{IsNoDatagram}

same_link : (a b : Link) → (let x : Option Link = Some a in x) ≡ Some b → a ≡ b
same_link a b e = cc

no_link : (a : Link) → (let x : Option Link = Some a in x) ≡ None → ⊥
no_link a e = cc

reason_in : (number : ℕ) (o : List ℕ) (link : Link) (reason : NoDatagram)
    → link_of number ≡ Some link → LacksDatagram number o reason → IsNoDatagram link o reason
reason_in number o link reason is (inl l) = absurd (no_link link (sym is ∙ l.0))
reason_in number o link reason is (inr l) =
    subst (λ (x : Link). IsNoDatagram x o reason) (same_link l.0 link (sym l.1 ∙ is)) l.2

pub lacks : {V : Type 0} (number : ℕ) (o : List ℕ) (link : Link) (r : Result V NoDatagram)
    → link_of number ≡ Some link
    → ((reason : NoDatagram) → (r ≡ Err reason) ↔ IsNoDatagram link o reason)
    → (reason : NoDatagram) → (r ≡ Err reason) ↔ LacksDatagram number o reason
lacks number o link r is each reason = (
  λ e. inr (link, is, (each reason).0 e),
  λ l. (each reason).1 (reason_in number o link reason is l),
)
