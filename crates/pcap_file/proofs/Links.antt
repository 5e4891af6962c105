-- The header of a link layer, and the packet behind it.
use Rattle.std.proofs.Common.{◌≡◌, ℕ, zero, suc, ◌+◌, ◌≤◌, inl, inr, Bool, true, false}
use Rattle.std.proofs.Common.{cond, eqb, ltb, leb, List, ◌++◌, length, take, drop, Option}
use Rattle.std.proofs.Common.{Some, None, Result, Ok, Err, refl, sym, ap, ◌∙◌, subst, arith}
use Rattle.std.specs.Int.{w16, w32, from_be_bytes}
use Rattle.std.proofs.lemmas.Bool.{eqb-true, ltb-true, ltb-false, le-leb}
use Rattle.std.proofs.lemmas.Bool.{lt-ltb, le-ltb, and_parts, and_from, and_right}
use Rattle.std.proofs.lemmas.List.{length-drop, take-append-drop}
use Rattle.std.proofs.lemmas.List.{take-append-le, drop-append-le, drop-drop}
use Rattle.pcap_file.specs.declared.datagram.NoDatagram.{NoDatagram}
use Rattle.pcap_file.specs.declared.datagram.NoDatagram.TheVariants.{NotIp, CutShort, BadIpHeader}
use Rattle.pcap_file.specs.declared.datagram.NoDatagram.TheVariants.{NotUdp, Fragment, BadUdpLength}
use Rattle.pcap_file.specs.declared.link.IpVersion.{IpVersion}
use Rattle.pcap_file.specs.declared.link.IpVersion.TheVariants.{V4, V6}
use Rattle.pcap_file.specs.declared.link.Link.{Link}
use Rattle.pcap_file.specs.declared.link.Link.TheVariants.{Null, Ethernet, Ip, Loop, Cooked, Ip4}
use Rattle.pcap_file.specs.declared.link.Link.TheVariants.{Ip6, Cooked2}
use Rattle.pcap_file.specs.Parts.{Begins, number_16}
use Rattle.pcap_file.specs.Link.{IsFramed, IsHeaded, IsLinked, IsTagged, IsType}
use Rattle.pcap_file.specs.Link.{IsTyped, begins_tag, is_tag_type, packet_place, said_version}
use Rattle.pcap_file.specs.Link.{tag_octets, type_place, version_of_either, version_of_family}
use Rattle.pcap_file.specs.Link.{version_of_packet, version_of_type}
use Rattle.pcap_file.specs.Reading.{link_at, version_or}
use Rattle.pcap_file.specs.Reasons.{IsNoLink}
use Rattle.pcap_file.proofs.Exact.{Exact, begins_at, begins_drop, begins_length, begins_take, no}

-- a number in a header stands there whatever follows
pub number_front : (i : ℕ) (header rest : List ℕ) → i + 2 ≤ length header
    → number_16 i (header ++ rest) ≡ number_16 i header
number_front i header rest fits =
    ap (λ (x : List ℕ). from_be_bytes w16 (take 2 x))
    (drop-append-le i header rest (omega arith))
    ∙ ap (λ (x : List ℕ). from_be_bytes w16 x)
    (take-append-le 2 (drop i header) rest (omega (arith, length-drop i header)))

-- ---- headers of a fixed length

-- what a header says where it stands
record HeadedAt (n : ℕ) (f : List ℕ → Option IpVersion) (o : List ℕ) (v : IpVersion)
    (p : List ℕ) : Type 0 where
  whole : n ≤ length o
  known : f (take n o) ≡ Some v
  packet : drop n o ≡ p

headed_to : (n : ℕ) (f : List ℕ → Option IpVersion) (o : List ℕ) (v : IpVersion) (p : List ℕ)
    → IsHeaded n f o v p → HeadedAt n f o v p
headed_to n f o v p is =
    let long = begins_length o n is.header p is.begins in
    record {
      whole = omega arith;
      known = ap f (begins_take o n is.header p is.begins) ∙ is.known;
      packet = begins_drop o n is.header p is.begins;
    }

headed_from : (n : ℕ) (f : List ℕ → Option IpVersion) (o : List ℕ) (v : IpVersion) (p : List ℕ)
    → HeadedAt n f o v p → IsHeaded n f o v p
headed_from n f o v p at =
    record {
      header = take n o;
      begins =
          subst (λ (x : List ℕ). Begins o n (take n o) x) at.packet (begins_at o n at.whole);
      known = at.known;
    }

-- ---- an EtherType behind tags

-- an EtherType at a place, and the packet behind it
record TypedAt (k : ℕ) (o : List ℕ) (v : IpVersion) (p : List ℕ) : Type 0 where
  whole : k + 2 ≤ length o
  known : version_of_type (number_16 k o) ≡ Some v
  packet : drop (k + 2) o ≡ p

type_to : (o : List ℕ) (v : IpVersion) (p : List ℕ) → IsType o v p → TypedAt 0 o v p
type_to o v p is =
    let long = begins_length o 2 is.type p is.begins in
    record {
      whole = omega arith;
      known =
          ap (λ (x : List ℕ). version_of_type (number_16 0 x)) is.begins.parts
          ∙ ap version_of_type (number_front 0 is.type p (omega (arith, is.begins.counted)))
          ∙ is.known;
      packet = begins_drop o 2 is.type p is.begins;
    }

type_from : (o : List ℕ) (v : IpVersion) (p : List ℕ) → TypedAt 0 o v p → IsType o v p
type_from o v p at =
    let begins : Begins o 2 (take 2 o) (drop 2 o) = begins_at o 2 at.whole in
    record {
      type = take 2 o;
      begins = subst (λ (x : List ℕ). Begins o 2 (take 2 o) x) at.packet begins;
      known =
          ap version_of_type
          (sym (number_front 0 (take 2 o) (drop 2 o) (omega (arith, begins.counted))))
          ∙ ap (λ (x : List ℕ). version_of_type (number_16 0 x)) (take-append-drop 2 o) ∙ at.known;
    }

-- the same place, counted from c octets further to the left
shift : (c k : ℕ) (o : List ℕ) (v : IpVersion) (p : List ℕ) → c ≤ length o
    → TypedAt k (drop c o) v p → TypedAt (c + k) o v p
shift c k o v p long at =
    let further : c + (k + 2) ≡ c + k + 2 = omega arith in
    record {
      whole = omega (arith, at.whole, length-drop c o);
      known =
          ap (λ (x : List ℕ). version_of_type (from_be_bytes w16 (take 2 x)))
          (sym (drop-drop k c o)) ∙ at.known;
      packet =
          ap (λ (n : ℕ). drop n o) (sym further) ∙ sym (drop-drop (k + 2) c o) ∙ at.packet;
    }

unshift : (c k : ℕ) (o : List ℕ) (v : IpVersion) (p : List ℕ) → TypedAt (c + k) o v p
    → TypedAt k (drop c o) v p
unshift c k o v p at =
    let further : c + (k + 2) ≡ c + k + 2 = omega arith in
    record {
      whole = omega (arith, at.whole, length-drop c o);
      known =
          ap (λ (x : List ℕ). version_of_type (from_be_bytes w16 (take 2 x)))
          (drop-drop k c o) ∙ at.known;
      packet =
          drop-drop (k + 2) c o ∙ ap (λ (n : ℕ). drop n o) further ∙ at.packet;
    }

not_tag_at : (t : ℕ) (v : IpVersion) (a b : Bool) → eqb t 0x0800 ≡ a → eqb t 0x86dd ≡ b
    → cond a (Some V4) (cond b (Some V6) None) ≡ Some v → is_tag_type t ≡ false
not_tag_at t v true b ea eb h = ap is_tag_type (eqb-true t 0x0800 ea)
not_tag_at t v false true ea eb h = ap is_tag_type (eqb-true t 0x86dd eb)
not_tag_at t v false false ea eb h = absurd cc

-- the type of IP is no tag's
not_tag : (t : ℕ) (v : IpVersion) → version_of_type t ≡ Some v → is_tag_type t ≡ false
not_tag t v h = not_tag_at t v (eqb t 0x0800) (eqb t 0x86dd) refl refl h

no_tags : (n : ℕ) (o : List ℕ) → begins_tag o ≡ false → tag_octets (suc n) o ≡ 0
no_tags n o e = ap (λ (b : Bool). cond b (4 + tag_octets n (drop 4 o)) 0) e

one_tag : (n : ℕ) (o : List ℕ) → begins_tag o ≡ true
    → tag_octets (suc n) o ≡ 4 + tag_octets n (drop 4 o)
one_tag n o e = ap (λ (b : Bool). cond b (4 + tag_octets n (drop 4 o)) 0) e

tag_begins : (o tag rest : List ℕ) → IsTagged o tag rest → begins_tag o ≡ true
tag_begins o tag rest is =
    let long = begins_length o 4 tag rest is.begins in
    and_from (leb 2 (length o)) (is_tag_type (number_16 0 o)) (le-leb 2 (length o) (omega arith))
    (ap (λ (x : List ℕ). is_tag_type (number_16 0 x)) is.begins.parts
    ∙ ap is_tag_type (number_front 0 tag rest (omega (arith, is.begins.counted))) ∙ is.type)

typed_to : (n : ℕ) (o : List ℕ) (v : IpVersion) (p : List ℕ) → IsTyped n o v p
    → TypedAt (tag_octets n o) o v p
typed_to zero o v p is = type_to o v p is
typed_to (suc n) o v p (inl is) =
    let at = type_to o v p is in
    let none : begins_tag o ≡ false =
    and_right (leb 2 (length o)) (is_tag_type (number_16 0 o))
    (not_tag (number_16 0 o) v at.known) in
    subst (λ (k : ℕ). TypedAt k o v p) (sym (no_tags n o none)) at
typed_to (suc n) o v p (inr w) =
    let tagged : IsTagged o w.0 w.1 = w.2 in
    let long = begins_length o 4 w.0 w.1 tagged.begins in
    let inner : TypedAt (tag_octets n (drop 4 o)) (drop 4 o) v p =
    subst (λ (x : List ℕ). TypedAt (tag_octets n x) x v p)
    (sym (begins_drop o 4 w.0 w.1 tagged.begins)) (typed_to n w.1 v p w.3) in
    subst (λ (k : ℕ). TypedAt k o v p) (sym (one_tag n o (tag_begins o w.0 w.1 tagged)))
    (shift 4 (tag_octets n (drop 4 o)) o v p (omega arith) inner)

tagged_at : (o : List ℕ) → 4 ≤ length o → begins_tag o ≡ true
    → IsTagged o (take 4 o) (drop 4 o)
tagged_at o long e =
    let begins : Begins o 4 (take 4 o) (drop 4 o) = begins_at o 4 long in
    record {
      begins = begins;
      type =
          ap is_tag_type
          (sym (number_front 0 (take 4 o) (drop 4 o) (omega (arith, begins.counted)))
          ∙ ap (λ (x : List ℕ). number_16 0 x) (take-append-drop 4 o))
          ∙ (and_parts (leb 2 (length o)) (is_tag_type (number_16 0 o)) e).1;
    }

typed_by : (n : ℕ) (o : List ℕ) (v : IpVersion) (p : List ℕ) (b : Bool) → begins_tag o ≡ b
    → ((q : List ℕ) → TypedAt (tag_octets n q) q v p → IsTyped n q v p)
    → TypedAt (tag_octets (suc n) o) o v p → IsTyped (suc n) o v p
typed_by n o v p false e later at =
    inl (type_from o v p (subst (λ (k : ℕ). TypedAt k o v p) (no_tags n o e) at))
typed_by n o v p true e later at =
    let behind : TypedAt (4 + tag_octets n (drop 4 o)) o v p =
    subst (λ (k : ℕ). TypedAt k o v p) (one_tag n o e) at in
    inr (
      take 4 o,
      drop 4 o,
      tagged_at o (omega (arith, behind.whole)) e,
      later (drop 4 o) (unshift 4 (tag_octets n (drop 4 o)) o v p behind),
    )

typed_from : (n : ℕ) (o : List ℕ) (v : IpVersion) (p : List ℕ) → TypedAt (tag_octets n o) o v p
    → IsTyped n o v p
typed_from zero o v p at = type_from o v p at
typed_from (suc n) o v p at =
    typed_by n o v p (begins_tag o) refl (λ q. typed_from n q v p) at

framed_to : (c : ℕ) (o : List ℕ) (v : IpVersion) (p : List ℕ) → IsFramed c o v p
    → TypedAt (type_place c o) o v p
framed_to c o v p is =
    let long = begins_length o c is.front is.typed is.begins in
    shift c (tag_octets 2 (drop c o)) o v p (omega arith)
    (subst (λ (x : List ℕ). TypedAt (tag_octets 2 x) x v p)
    (sym (begins_drop o c is.front is.typed is.begins)) (typed_to 2 is.typed v p is.is))

framed_from : (c : ℕ) (o : List ℕ) (v : IpVersion) (p : List ℕ) → TypedAt (type_place c o) o v p
    → IsFramed c o v p
framed_from c o v p at =
    record {
      front = take c o;
      typed = drop c o;
      begins = begins_at o c (omega (arith, at.whole));
      is = typed_from 2 (drop c o) v p (unshift c (tag_octets 2 (drop c o)) o v p at);
    }

-- ---- each link layer

-- where the packet stands, and what the header says
record Placed (link : Link) (o : List ℕ) (v : IpVersion) (p : List ℕ) : Type 0 where
  whole : packet_place link o ≤ length o
  said : said_version link o ≡ Some v
  packet : drop (packet_place link o) o ≡ p

abbrev some : IpVersion → Option IpVersion
some v = Some v

placed : (link : Link) (o : List ℕ) (v : IpVersion) (p : List ℕ) → IsLinked link o v p
    → Placed link o v p
placed Null o v p is =
    let at = headed_to 4 version_of_either o v p is in
    record { whole = at.whole; said = at.known; packet = at.packet }
placed Ethernet o v p is =
    let at = framed_to 12 o v p is in
    record { whole = at.whole; said = at.known; packet = at.packet }
placed Ip o v p is =
    record {
      whole = omega arith;
      said = ap version_of_packet is.same ∙ is.known;
      packet = is.same;
    }
placed Loop o v p is =
    let at =
    headed_to 4 (λ (x : List ℕ). version_of_family (from_be_bytes w32 x)) o v p is in
    record { whole = at.whole; said = at.known; packet = at.packet }
placed Cooked o v p is =
    let at = framed_to 14 o v p is in
    record { whole = at.whole; said = at.known; packet = at.packet }
placed Ip4 o v p is = record { whole = omega arith; said = ap some is.1; packet = is.0 }
placed Ip6 o v p is = record { whole = omega arith; said = ap some is.1; packet = is.0 }
placed Cooked2 o v p is =
    let at = headed_to 20 (λ (x : List ℕ). version_of_type (number_16 0 x)) o v p is in
    record { whole = at.whole; said = at.known; packet = at.packet }

same_version : (v w : IpVersion) → some v ≡ some w → v ≡ w
same_version v w h = cc

linked : (link : Link) (o : List ℕ) (v : IpVersion) (p : List ℕ) → Placed link o v p
    → IsLinked link o v p
linked Null o v p at =
    headed_from 4 version_of_either o v p
    (record { whole = at.whole; known = at.said; packet = at.packet })
linked Ethernet o v p at =
    framed_from 12 o v p (record { whole = at.whole; known = at.said; packet = at.packet })
linked Ip o v p at =
    record { same = at.packet; known = ap version_of_packet (sym at.packet) ∙ at.said }
linked Loop o v p at =
    headed_from 4 (λ (x : List ℕ). version_of_family (from_be_bytes w32 x)) o v p
    (record { whole = at.whole; known = at.said; packet = at.packet })
linked Cooked o v p at =
    framed_from 14 o v p (record { whole = at.whole; known = at.said; packet = at.packet })
linked Ip4 o v p at = (at.packet, same_version V4 v at.said)
linked Ip6 o v p at = (at.packet, same_version V6 v at.said)
linked Cooked2 o v p at =
    headed_from 20 (λ (x : List ℕ). version_of_type (number_16 0 x)) o v p
    (record { whole = at.whole; known = at.said; packet = at.packet })

-- ---- the reading

abbrev Read : Type 0
Read = Result (IpVersion × List ℕ) NoDatagram

abbrev read_ok : IpVersion × List ℕ → Read
read_ok x = Ok x

cut : (link : Link) (o : List ℕ) (b : Bool) → ltb (length o) (packet_place link o) ≡ b
    → link_at link o
    ≡ cond b (Err CutShort) (version_or (said_version link o) (drop (packet_place link o) o))
unfolding link_at
cut link o b e =
    ap (λ (c : Bool). cond c (no (IpVersion × List ℕ) CutShort)
    (version_or (said_version link o) (drop (packet_place link o) o))) e

whole : (link : Link) (o : List ℕ) (v : Option IpVersion)
    → packet_place link o ≤ length o → said_version link o ≡ v
    → link_at link o ≡ version_or v (drop (packet_place link o) o)
whole link o v long e =
    cut link o false (le-ltb (length o) (packet_place link o) long)
    ∙ ap (λ (x : Option IpVersion). version_or x (drop (packet_place link o) o)) e

-- what is answered stands there
abbrev Stands : Link → List ℕ → Read → Type 0
Stands link o (Ok x) = IsLinked link o x.0 x.1
Stands link o (Err e) = IsNoLink link o e

version_stands : (link : Link) (o : List ℕ) (v : Option IpVersion)
    → packet_place link o ≤ length o → said_version link o ≡ v
    → Stands link o (version_or v (drop (packet_place link o) o))
version_stands link o (Some v) long e =
    linked link o v (drop (packet_place link o) o)
    (record { whole = long; said = e; packet = refl })
version_stands link o None long e = record { whole = long; other = e }

link_stands_at : (link : Link) (o : List ℕ) (b : Bool)
    → ltb (length o) (packet_place link o) ≡ b → Stands link o (link_at link o)
link_stands_at link o true e =
    subst (Stands link o) (sym (cut link o true e)) (ltb-true (length o) (packet_place link o) e)
link_stands_at link o false e =
    let long = ltb-false (length o) (packet_place link o) e in
    subst (Stands link o) (sym (whole link o (said_version link o) long refl))
    (version_stands link o (said_version link o) long refl)

link_stands : (link : Link) (o : List ℕ) → Stands link o (link_at link o)
link_stands link o = link_stands_at link o (ltb (length o) (packet_place link o)) refl

link_again : (link : Link) (o : List ℕ) (v : IpVersion) (p : List ℕ) → IsLinked link o v p
    → link_at link o ≡ read_ok (v, p)
link_again link o v p is =
    let at = placed link o v p is in
    whole link o (Some v) at.whole at.said ∙ ap (λ (x : List ℕ). read_ok (v, x)) at.packet

link_has : (link : Link) (o : List ℕ) (e : NoDatagram) → IsNoLink link o e
    → link_at link o ≡ Err e
link_has link o CutShort n =
    cut link o true (lt-ltb (length o) (packet_place link o) n)
link_has link o NotIp n = whole link o None n.whole n.other
link_has link o BadIpHeader n = absurd n
link_has link o NotUdp n = absurd n
link_has link o Fragment n = absurd n
link_has link o BadUdpLength n = absurd n

pub link_exact : (link : Link) (o : List ℕ)
    → Exact (link_at link o) (λ (x : IpVersion × List ℕ). IsLinked link o x.0 x.1)
    (IsNoLink link o)
link_exact link o =
    record {
      takes = λ x e. subst (Stands link o) e (link_stands link o);
      again = λ x is. link_again link o x.0 x.1 is;
      told = λ e h. subst (Stands link o) h (link_stands link o);
      has = link_has link o;
    }
