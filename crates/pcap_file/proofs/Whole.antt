-- The layers joined.
use Rattle.std.proofs.Common.{◌≡◌, ℕ, ◌⊎◌, inl, inr, List, Result, Ok, Err, refl}
use Rattle.st_format.specs.Reading.{◌>>=◌}
use Rattle.pcap_file.specs.declared.datagram.NoDatagram.{NoDatagram}
use Rattle.pcap_file.specs.declared.link.IpVersion.{IpVersion}
use Rattle.pcap_file.specs.declared.link.IpVersion.TheVariants.{V4, V6}
use Rattle.pcap_file.specs.declared.link.Link.{Link}
use Rattle.pcap_file.specs.Link.{IsLinked}
use Rattle.pcap_file.specs.Ip.{IsUdpPacket, Packet}
use Rattle.pcap_file.specs.Udp.{Datagram, IsUdp}
use Rattle.pcap_file.specs.Datagram.{IsDatagram}
use Rattle.pcap_file.specs.Reading.{datagram_walk, link_at, packet_at, udp_at}
use Rattle.pcap_file.specs.Reasons.{IsNoDatagram, IsNoLink, IsNoPacket, IsNoUdp}
use Rattle.pcap_file.proofs.Exact.{Exact, exact_like, exact_then}
use Rattle.pcap_file.proofs.Links.{link_exact}
use Rattle.pcap_file.proofs.Packets4.{exact_4}
use Rattle.pcap_file.proofs.Packets6.{exact_6}
use Rattle.pcap_file.proofs.Udps.{exact_udp}

pub packet_exact : (version : IpVersion) (o : List ℕ)
    → Exact (packet_at version o) (IsUdpPacket version o) (IsNoPacket version o)
packet_exact V4 o = exact_4 o
packet_exact V6 o = exact_6 o

abbrev Linked : Type 0
Linked = IpVersion × List ℕ

-- behind a link layer, an IP packet and what it carries
abbrev InPacket : Linked → Datagram → Type 0
InPacket x d = (p : Packet) × IsUdpPacket x.0 x.1 p × IsUdp p d

abbrev NotInPacket : Linked → NoDatagram → Type 0
NotInPacket x e =
    IsNoPacket x.0 x.1 e ⊎ ((p : Packet) × IsUdpPacket x.0 x.1 p × IsNoUdp p.carried e)

inner : (x : Linked) → Exact (packet_at x.0 x.1 >>= λ p. udp_at p) (InPacket x) (NotInPacket x)
inner x =
    exact_then (packet_at x.0 x.1) (λ p. udp_at p) (IsUdpPacket x.0 x.1) (IsNoPacket x.0 x.1)
    (λ (p : Packet). IsUdp p) (λ (p : Packet). IsNoUdp p.carried) (packet_exact x.0 x.1)
    (λ p. exact_udp p)

abbrev Joined : Link → List ℕ → Datagram → Type 0
Joined link o d = (x : Linked) × IsLinked link o x.0 x.1 × InPacket x d

abbrev Parted : Link → List ℕ → NoDatagram → Type 0
Parted link o e = IsNoLink link o e ⊎ ((x : Linked) × IsLinked link o x.0 x.1 × NotInPacket x e)

joined : (link : Link) (o : List ℕ)
    → Exact (datagram_walk link o) (Joined link o) (Parted link o)
unfolding datagram_walk
joined link o =
    exact_then (link_at link o) (λ x. packet_at x.0 x.1 >>= λ p. udp_at p)
    (λ (x : Linked). IsLinked link o x.0 x.1) (IsNoLink link o) InPacket NotInPacket
    (link_exact link o) inner

datagram_from : (link : Link) (o : List ℕ) (d : Datagram) → Joined link o d → IsDatagram link o d
datagram_from link o d w =
    record {
      packet = w.2.0;
      has = record { version = w.0.0; packet = w.0.1; linked = w.1; is = w.2.1 };
      is = w.2.2;
    }

datagram_to : (link : Link) (o : List ℕ) (d : Datagram) → IsDatagram link o d → Joined link o d
datagram_to link o d is =
    ((is.has.version, is.has.packet), is.has.linked, (is.packet, is.has.is, is.is))

reason_behind : (link : Link) (o : List ℕ) (e : NoDatagram) (x : Linked)
    → IsLinked link o x.0 x.1 → NotInPacket x e → IsNoDatagram link o e
reason_behind link o e x linked (inl n) =
    inr (inl (record { version = x.0; packet = x.1; linked = linked; no = n }))
reason_behind link o e x linked (inr w) =
    inr (inr (record {
      packet = w.0;
      has = record { version = x.0; packet = x.1; linked = linked; is = w.1 };
      no = w.2;
    }))

reason_from : (link : Link) (o : List ℕ) (e : NoDatagram) → Parted link o e
    → IsNoDatagram link o e
reason_from link o e (inl n) = inl n
reason_from link o e (inr w) = reason_behind link o e w.0 w.1 w.2

reason_to : (link : Link) (o : List ℕ) (e : NoDatagram) → IsNoDatagram link o e
    → Parted link o e
reason_to link o e (inl n) = inl n
reason_to link o e (inr (inl h)) = inr ((h.version, h.packet), h.linked, inl h.no)
reason_to link o e (inr (inr h)) =
    inr ((h.has.version, h.has.packet), h.has.linked, inr (h.packet, h.has.is, h.no))

pub datagram_exact : (link : Link) (o : List ℕ)
    → Exact (datagram_walk link o) (IsDatagram link o) (IsNoDatagram link o)
datagram_exact link o =
    exact_like (datagram_walk link o) (Joined link o) (IsDatagram link o) (Parted link o)
    (IsNoDatagram link o) (joined link o) (datagram_from link o) (datagram_to link o)
    (reason_from link o) (reason_to link o)

-- ---- the laws

some_at : (link : Link) (o : List ℕ) (r : Result Datagram NoDatagram) → datagram_walk link o ≡ r
    → ((d : Datagram) × IsDatagram link o d) ⊎ ((e : NoDatagram) × IsNoDatagram link o e)
some_at link o (Ok d) h = inl (d, (datagram_exact link o).takes d h)
some_at link o (Err e) h = inr (e, (datagram_exact link o).told e h)

pub some : (link : Link) (o : List ℕ)
    → ((d : Datagram) × IsDatagram link o d) ⊎ ((e : NoDatagram) × IsNoDatagram link o e)
some link o = some_at link o (datagram_walk link o) refl

pub apart : (link : Link) (o : List ℕ) (d : Datagram) (e : NoDatagram) → IsDatagram link o d
    → IsNoDatagram link o e → ⊥
apart link o d e is isnt =
    let x = datagram_exact link o in
    let read : datagram_walk link o ≡ Ok d = x.again d is in
    let refused : datagram_walk link o ≡ Err e = x.has e isnt in
    absurd cc

pub one_reason : (link : Link) (o : List ℕ) (d e : NoDatagram) → IsNoDatagram link o d
    → IsNoDatagram link o e → d ≡ e
one_reason link o d e a b =
    let x = datagram_exact link o in
    let first : datagram_walk link o ≡ Err d = x.has d a in
    let second : datagram_walk link o ≡ Err e = x.has e b in
    cc

pub one_datagram : (link : Link) (o : List ℕ) (c d : Datagram) → IsDatagram link o c
    → IsDatagram link o d → c ≡ d
one_datagram link o c d a b =
    let x = datagram_exact link o in
    let first : datagram_walk link o ≡ Ok c = x.again c a in
    let second : datagram_walk link o ≡ Ok d = x.again d b in
    cc
