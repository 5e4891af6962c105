-- Where a datagram's octets stand in those of its packet.
use Rattle.std.proofs.Common.{◌≡◌, ℕ, zero, suc, ◌+◌, ◌-◌, ◌*◌, ◌%◌, ◌≤◌, inl, inr, List, [], ◌∷◌}
use Rattle.std.proofs.Common.{◌++◌, length, slice_index, append_assoc, length-append}
use Rattle.std.proofs.Common.{append-nil, refl, sym, ap, ◌∙◌, arith}
use Rattle.std.specs.List.{concat}
use Rattle.pcap_file.specs.Ip.{IsPacket4, IsPacket6, IsUdpPacket, Packet, header_octets}
use Rattle.pcap_file.specs.Link.{IsFramed, IsLinked, IsTyped}
use Rattle.pcap_file.specs.Parts.{number_16}
use Rattle.pcap_file.specs.Udp.{Datagram, IsUdp}
use Rattle.pcap_file.specs.declared.link.IpVersion.{IpVersion}
use Rattle.pcap_file.specs.declared.link.IpVersion.TheVariants.{V4, V6}
use Rattle.pcap_file.specs.declared.link.Link.{Link}
use Rattle.pcap_file.specs.declared.link.Link.TheVariants.{Null, Ethernet, Ip, Loop, Cooked, Ip4}
use Rattle.pcap_file.specs.declared.link.Link.TheVariants.{Ip6, Cooked2}
use Rattle.pcap_file.proofs.Links.{number_front}
use Rattle.recording_reader.specs.Found.{CanCarry, StandAt, carried_place}

-- octets in octets that stand in others
pub stand_deeper : (p q : ℕ) (a b c : List ℕ) → StandAt p a b → StandAt q b c → StandAt (q + p) a c
stand_deeper p q a b c inner outer =
    let at : List ℕ = outer.front ++ inner.front in
    let rest : List ℕ = inner.behind ++ outer.behind in
    record {
      front = at;
      behind = rest;
      counted = omega (arith, length-append outer.front inner.front, inner.counted, outer.counted);
      whole =
          outer.whole
          ∙ ap (λ (x : List ℕ). outer.front ++ (x ++ outer.behind)) inner.whole
          ∙ ap (λ (x : List ℕ). outer.front ++ x)
          (append_assoc inner.front (a ++ inner.behind) outer.behind
          ∙ ap (λ (x : List ℕ). inner.front ++ x) (append_assoc a inner.behind outer.behind))
          ∙ sym (append_assoc outer.front inner.front (a ++ rest));
    }

-- at another place that is the same
pub stand_same : (p q : ℕ) (a b : List ℕ) → p ≡ q → StandAt p a b → StandAt q a b
stand_same p q a b same at = record {
  front = at.front;
  behind = at.behind;
  counted = at.counted ∙ same;
  whole = at.whole;
}

-- ---- the packet behind a link layer

-- octets are some first ones, and then these
abbrev pub EndsWith : List ℕ → List ℕ → Type 0
EndsWith octets packet = (front : List ℕ) × (octets ≡ front ++ packet)

ends_deeper : (a b c front : List ℕ) → a ≡ front ++ b → EndsWith b c → EndsWith a c
ends_deeper a b c front is behind = (
  front ++ behind.0,
  is ∙ ap (λ (x : List ℕ). front ++ x) behind.1 ∙ sym (append_assoc front behind.0 c),
)

typed_ends : (n : ℕ) (octets : List ℕ) (v : IpVersion) (packet : List ℕ)
    → IsTyped n octets v packet → EndsWith octets packet
typed_ends zero octets v packet is = (is.type, is.begins.parts)
typed_ends (suc n) octets v packet (inl is) = (is.type, is.begins.parts)
typed_ends (suc n) octets v packet (inr is) =
    ends_deeper octets is.1 packet is.0 is.2.begins.parts (typed_ends n is.1 v packet is.3)

framed_ends : (n : ℕ) (octets : List ℕ) (v : IpVersion) (packet : List ℕ)
    → IsFramed n octets v packet → EndsWith octets packet
framed_ends n octets v packet is =
    ends_deeper octets is.typed packet is.front is.begins.parts
    (typed_ends 2 is.typed v packet is.is)

linked_ends : (link : Link) (octets : List ℕ) (v : IpVersion) (packet : List ℕ)
    → IsLinked link octets v packet → EndsWith octets packet
linked_ends Null octets v packet is = (is.header, is.begins.parts)
linked_ends Ethernet octets v packet is = framed_ends 12 octets v packet is
linked_ends Ip octets v packet is = ([], is.same)
linked_ends Loop octets v packet is = (is.header, is.begins.parts)
linked_ends Cooked octets v packet is = framed_ends 14 octets v packet is
linked_ends Ip4 octets v packet is = ([], is.0)
linked_ends Ip6 octets v packet is = ([], is.0)
linked_ends Cooked2 octets v packet is = (is.header, is.begins.parts)

-- the packet stands behind as many octets as there are more
pub linked_stands : (link : Link) (octets : List ℕ) (v : IpVersion) (packet : List ℕ)
    → IsLinked link octets v packet → StandAt (length octets - length packet) packet octets
linked_stands link octets v packet is =
    let ends = linked_ends link octets v packet is in
    record {
      front = ends.0;
      behind = [];
      counted =
          omega (arith, ap (λ (x : List ℕ). length x) ends.1, length-append ends.0 packet);
      whole =
          ends.1 ∙ ap (λ (x : List ℕ). ends.0 ++ x) (sym (append-nil packet));
    }

pub linked_shorter : (link : Link) (octets : List ℕ) (v : IpVersion) (packet : List ℕ)
    → IsLinked link octets v packet → length packet ≤ length octets
linked_shorter link octets v packet is =
    let ends = linked_ends link octets v packet is in
    omega (arith, ap (λ (x : List ℕ). length x) ends.1, length-append ends.0 packet)

-- ---- what a packet carries

-- the first octet of a header
first_front : (header rest : List ℕ) → length header ≡ 20
    → slice_index (header ++ rest) 0 ≡ slice_index header 0
first_front [] rest is = absurd (omega (arith, is))
first_front (x ∷ header) rest is = refl

stands_4 : (octets : List ℕ) (p : Packet) → IsPacket4 octets p
    → StandAt (header_octets octets) p.carried octets
stands_4 octets p is =
    let rest : List ℕ = is.options ++ (p.carried ++ is.behind) in
    let same : slice_index octets 0 ≡ slice_index is.header 0 =
    ap (λ (x : List ℕ). slice_index x 0) is.whole ∙ first_front is.header rest is.counted in
    record {
      front = is.header ++ is.options;
      behind = is.behind;
      counted =
          length-append is.header is.options ∙ is.words
          ∙ ap (λ (n : ℕ). 4 * (n % 16)) (sym same);
      whole = is.whole ∙ sym (append_assoc is.header is.options (p.carried ++ is.behind));
    }

-- the octets behind a header of IPv6
payload_6 : (octets : List ℕ) (p : Packet) → (is : IsPacket6 octets p)
    → number_16 4 octets ≡ length is.payload
payload_6 octets p is =
    ap (number_16 4) is.whole
    ∙ number_front 4 is.header (is.payload ++ is.behind) (omega (arith, is.counted))
    ∙ sym is.total

stands_6 : (octets : List ℕ) (p : Packet) → IsPacket6 octets p
    → StandAt (40 + number_16 4 octets - length p.carried) p.carried octets
stands_6 octets p is =
    let passed : List ℕ = concat is.leads.extensions in
    let there = payload_6 octets p is in
    let parts = is.leads.parts in
    record {
      front = is.header ++ passed;
      behind = is.behind;
      counted =
          omega (
            arith,
            length-append is.header passed,
            is.counted,
            there,
            ap (λ (x : List ℕ). length x) parts,
            length-append passed p.carried,
          );
      whole =
          is.whole
          ∙ ap (λ (x : List ℕ). is.header ++ x)
          (ap (λ (x : List ℕ). x ++ is.behind) parts ∙ append_assoc passed p.carried is.behind)
          ∙ sym (append_assoc is.header passed (p.carried ++ is.behind));
    }

pub packet_stands : (v : IpVersion) (octets : List ℕ) (p : Packet) → IsUdpPacket v octets p
    → StandAt (carried_place v octets (length p.carried)) p.carried octets
packet_stands V4 octets p is = stands_4 octets p is
packet_stands V6 octets p is = stands_6 octets p is

pub packet_carries : (v : IpVersion) (octets : List ℕ) (p : Packet) → IsUdpPacket v octets p
    → CanCarry v octets (length p.carried)
packet_carries V4 octets p is =
    omega (
      arith,
      ap (λ (x : List ℕ). length x) is.whole,
      length-append is.header (is.options ++ (p.carried ++ is.behind)),
      is.counted,
    )
packet_carries V6 octets p is = (
  omega (
    arith,
    ap (λ (x : List ℕ). length x) is.whole,
    length-append is.header (is.payload ++ is.behind),
    is.counted,
  ),
  omega (
    arith,
    payload_6 octets p is,
    ap (λ (x : List ℕ). length x) is.leads.parts,
    length-append (concat is.leads.extensions) p.carried,
  ),
)

-- ---- the datagram

pub udp_stands : (p : Packet) (d : Datagram) → IsUdp p d → StandAt 8 d.payload p.carried
udp_stands p d is = record {
  front = is.header;
  behind = is.behind;
  counted = is.counted;
  whole = is.whole;
}

-- where octets stand and how many they are
pub stand_within : (place : ℕ) (part octets : List ℕ) → StandAt place part octets
    → place + length part ≤ length octets
stand_within place part octets stands =
    omega (
      arith,
      ap (λ (x : List ℕ). length x) stands.whole,
      length-append stands.front (part ++ stands.behind),
      length-append part stands.behind,
      stands.counted,
    )

-- a datagram in what a packet carries, in the packet, behind the link layer
pub datagram_stands : (link : Link) (octets packet : List ℕ) (v : IpVersion) (p : Packet)
    (d : Datagram) → IsLinked link octets v packet → IsUdpPacket v packet p → IsUdp p d
    → StandAt (length octets - length packet + carried_place v packet (length p.carried) + 8)
    d.payload octets
datagram_stands link octets packet v p d linked is udp =
    let behind = carried_place v packet (length p.carried) in
    let front = length octets - length packet in
    let carried = stand_deeper behind front p.carried packet octets (packet_stands v packet p is)
    (linked_stands link octets v packet linked) in
    stand_deeper 8 (front + behind) d.payload p.carried octets (udp_stands p d udp) carried
