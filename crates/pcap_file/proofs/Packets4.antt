-- Packets of IPv4.
use Rattle.std.proofs.Common.{◌≡◌, ℕ, ◌+◌, ◌-◌, ◌<◌, ◌≤◌, inl, inr, Bool, true, false, cond}
use Rattle.std.proofs.Common.{not, eqb, ltb, ◌||◌, List, ◌++◌, length, take, drop, Option, Some}
use Rattle.std.proofs.Common.{None}
use Rattle.std.proofs.Common.{Result, Ok, Err, append_assoc, refl, sym, ap, ◌∙◌, subst, arith}
use Rattle.std.proofs.lemmas.Bool.{eqb-true, eqb-false, ltb-true, ltb-false, eq-eqb, ne_eqb, lt-ltb}
use Rattle.std.proofs.lemmas.Bool.{le-ltb, or_left, or_right, or_from}
use Rattle.std.proofs.lemmas.List.{length-append, length-drop, length-take, length-take-le}
use Rattle.std.proofs.lemmas.List.{take-append-drop, take-take, take_at, drop_at}
use Rattle.std.proofs.Math.Seq.{take-add}
use Rattle.pcap_file.specs.declared.datagram.NoDatagram.{NoDatagram}
use Rattle.pcap_file.specs.declared.datagram.NoDatagram.TheVariants.{NotIp, CutShort, BadIpHeader}
use Rattle.pcap_file.specs.declared.datagram.NoDatagram.TheVariants.{NotUdp, Fragment, BadUdpLength}
use Rattle.pcap_file.specs.declared.link.IpVersion.TheVariants.{V4}
use Rattle.pcap_file.specs.Parts.{Begins}
use Rattle.pcap_file.specs.Ip.{IsBadHeader4, IsHeader4, IsPacket4, Packet, fragment_of}
use Rattle.pcap_file.specs.Ip.{header_octets, protocol_of, total_octets, udp, version_of}
use Rattle.pcap_file.specs.Reading.{packet_4, packet_4_at, reason_4, reason_or}
use Rattle.pcap_file.specs.Reasons.{IsNoPacket}
use Rattle.pcap_file.proofs.Exact.{Exact, begins_at, begins_length, begins_take, no}
use Rattle.pcap_file.proofs.Exact.{yes}

-- ---- the header

-- nothing speaks against a header where so many octets are there
record IsFine (h : List ℕ) (n : ℕ) : Type 0 where
  is_header : IsHeader4 h
  there : total_octets h ≤ n
  protocol : protocol_of h ≡ udp
  unfragmented : fragment_of h ≡ 0

-- what speaks against it
abbrev Says : List ℕ → ℕ → NoDatagram → Type 0
Says h n CutShort = IsHeader4 h × (n < total_octets h)
Says h n NotIp = ⊥
Says h n BadIpHeader = IsBadHeader4 h
Says h n NotUdp = IsHeader4 h × (total_octets h ≤ n) × (protocol_of h ≡ udp → ⊥)
Says h n Fragment =
    IsHeader4 h × (total_octets h ≤ n) × (protocol_of h ≡ udp) × (fragment_of h ≡ 0 → ⊥)
Says h n BadUdpLength = ⊥

abbrev Stands : List ℕ → ℕ → Option NoDatagram → Type 0
Stands h n None = IsFine h n
Stands h n (Some e) = Says h n e

-- the tests in their order
abbrev tests : Bool → Bool → Bool → Bool → Option NoDatagram
tests a b c d =
    cond a (Some BadIpHeader) (cond b (Some CutShort)
    (cond c (Some NotUdp) (cond d (Some Fragment) None)))

header_4 : (h : List ℕ) → version_of h ≡ 4 → 20 ≤ header_octets h
    → header_octets h ≤ total_octets h → IsHeader4 h
header_4 h v f i = record { version = v; fixed = f; inside = i }

stands_at : (h : List ℕ) (n : ℕ) (v f i t p g : Bool) → eqb (version_of h) 4 ≡ v
    → ltb (header_octets h) 20 ≡ f → ltb (total_octets h) (header_octets h) ≡ i
    → ltb n (total_octets h) ≡ t → eqb (protocol_of h) udp ≡ p → eqb (fragment_of h) 0 ≡ g
    → Stands h n (tests (not v || f || i) t (not p) (not g))
stands_at h n false f i t p g ev ef ei et ep eg = inl (eqb-false (version_of h) 4 ev)
stands_at h n true true i t p g ev ef ei et ep eg = inr (inl (ltb-true (header_octets h) 20 ef))
stands_at h n true false true t p g ev ef ei et ep eg =
    inr (inr (ltb-true (total_octets h) (header_octets h) ei))
stands_at h n true false false true p g ev ef ei et ep eg = (
  header_4 h (eqb-true (version_of h) 4 ev) (ltb-false (header_octets h) 20 ef)
      (ltb-false (total_octets h) (header_octets h) ei),
  ltb-true n (total_octets h) et,
)
stands_at h n true false false false false g ev ef ei et ep eg = (
  header_4 h (eqb-true (version_of h) 4 ev) (ltb-false (header_octets h) 20 ef)
      (ltb-false (total_octets h) (header_octets h) ei),
  ltb-false n (total_octets h) et,
  eqb-false (protocol_of h) udp ep,
)
stands_at h n true false false false true false ev ef ei et ep eg = (
  header_4 h (eqb-true (version_of h) 4 ev) (ltb-false (header_octets h) 20 ef)
      (ltb-false (total_octets h) (header_octets h) ei),
  ltb-false n (total_octets h) et,
  eqb-true (protocol_of h) udp ep,
  eqb-false (fragment_of h) 0 eg,
)
stands_at h n true false false false true true ev ef ei et ep eg =
    record {
      is_header =
          header_4 h (eqb-true (version_of h) 4 ev) (ltb-false (header_octets h) 20 ef)
          (ltb-false (total_octets h) (header_octets h) ei);
      there = ltb-false n (total_octets h) et;
      protocol = eqb-true (protocol_of h) udp ep;
      unfragmented = eqb-true (fragment_of h) 0 eg;
    }

stands : (h : List ℕ) (n : ℕ) → Stands h n (reason_4 h n)
stands h n =
    stands_at h n (eqb (version_of h) 4) (ltb (header_octets h) 20)
    (ltb (total_octets h) (header_octets h)) (ltb n (total_octets h)) (eqb (protocol_of h) udp)
    (eqb (fragment_of h) 0) refl refl refl refl refl refl

same_tests : (a b c d k l m n : Bool) → a ≡ k → b ≡ l → c ≡ m → d ≡ n
    → tests a b c d ≡ tests k l m n
same_tests a b c d k l m n p q r s =
    ap (λ (x : Bool). tests x b c d) p ∙ ap (λ (x : Bool). tests k x c d) q
    ∙ ap (λ (x : Bool). tests k l x d) r ∙ ap (λ (x : Bool). tests k l m x) s

abbrev bad : List ℕ → Bool
bad h =
    not (eqb (version_of h) 4) || ltb (header_octets h) 20
    || ltb (total_octets h) (header_octets h)

is_bad : (h : List ℕ) → IsBadHeader4 h → bad h ≡ true
is_bad h (inl other) =
    or_left (not (eqb (version_of h) 4) || ltb (header_octets h) 20)
    (ltb (total_octets h) (header_octets h))
    (or_left (not (eqb (version_of h) 4)) (ltb (header_octets h) 20)
    (ap not (ne_eqb (version_of h) 4 other)))
is_bad h (inr (inl short)) =
    or_left (not (eqb (version_of h) 4) || ltb (header_octets h) 20)
    (ltb (total_octets h) (header_octets h))
    (or_right (not (eqb (version_of h) 4)) (ltb (header_octets h) 20)
    (lt-ltb (header_octets h) 20 short))
is_bad h (inr (inr less)) =
    or_right (not (eqb (version_of h) 4) || ltb (header_octets h) 20)
    (ltb (total_octets h) (header_octets h))
    (lt-ltb (total_octets h) (header_octets h) less)

is_good : (h : List ℕ) → IsHeader4 h → bad h ≡ false
is_good h is =
    or_from (not (eqb (version_of h) 4) || ltb (header_octets h) 20)
    (ltb (total_octets h) (header_octets h))
    (or_from (not (eqb (version_of h) 4)) (ltb (header_octets h) 20)
    (ap not (eq-eqb (version_of h) 4 is.version)) (le-ltb (header_octets h) 20 is.fixed))
    (le-ltb (total_octets h) (header_octets h) is.inside)

said : (h : List ℕ) (n : ℕ) (e : NoDatagram) → Says h n e → reason_4 h n ≡ Some e
said h n CutShort s =
    same_tests (bad h) (ltb n (total_octets h)) (not (eqb (protocol_of h) udp))
    (not (eqb (fragment_of h) 0)) false true (not (eqb (protocol_of h) udp))
    (not (eqb (fragment_of h) 0)) (is_good h s.0) (lt-ltb n (total_octets h) s.1) refl refl
said h n NotIp s = absurd s
said h n BadIpHeader s =
    same_tests (bad h) (ltb n (total_octets h)) (not (eqb (protocol_of h) udp))
    (not (eqb (fragment_of h) 0)) true (ltb n (total_octets h)) (not (eqb (protocol_of h) udp))
    (not (eqb (fragment_of h) 0)) (is_bad h s) refl refl refl
said h n NotUdp s =
    same_tests (bad h) (ltb n (total_octets h)) (not (eqb (protocol_of h) udp))
    (not (eqb (fragment_of h) 0)) false false true (not (eqb (fragment_of h) 0)) (is_good h s.0)
    (le-ltb n (total_octets h) s.1) (ap not (ne_eqb (protocol_of h) udp s.2)) refl
said h n Fragment s =
    same_tests (bad h) (ltb n (total_octets h)) (not (eqb (protocol_of h) udp))
    (not (eqb (fragment_of h) 0)) false false false true (is_good h s.0)
    (le-ltb n (total_octets h) s.1) (ap not (eq-eqb (protocol_of h) udp s.2))
    (ap not (ne_eqb (fragment_of h) 0 s.3))
said h n BadUdpLength s = absurd s

fine : (h : List ℕ) (n : ℕ) → IsFine h n → reason_4 h n ≡ None
fine h n is =
    same_tests (bad h) (ltb n (total_octets h)) (not (eqb (protocol_of h) udp))
    (not (eqb (fragment_of h) 0)) false false false false (is_good h is.is_header)
    (le-ltb n (total_octets h) is.there) (ap not (eq-eqb (protocol_of h) udp is.protocol))
    (ap not (eq-eqb (fragment_of h) 0 is.unfragmented))

-- ---- the packet

-- octets in four parts, cut behind a, b and c octets
pub four_parts : (a b c : ℕ) (o : List ℕ) → a ≤ b → b ≤ c
    → o ≡ take a o ++ (take (b - a) (drop a o) ++ (drop b (take c o) ++ drop c o))
four_parts a b c o ab bc =
    let first : take b o ≡ take a o ++ take (b - a) (drop a o) =
    ap (λ (n : ℕ). take n o) (let e : b ≡ a + (b - a) = omega arith in e)
    ∙ take-add a (b - a) o in
    let upto : take c o ≡ take b o ++ drop b (take c o) =
    sym (take-append-drop b (take c o))
    ∙ ap (λ (x : List ℕ). x ++ drop b (take c o)) (take-take b c o bc) in
    sym (take-append-drop c o)
    ∙ ap (λ (x : List ℕ). x ++ drop c o)
    (upto ∙ ap (λ (x : List ℕ). x ++ drop b (take c o)) first
    ∙ append_assoc (take a o) (take (b - a) (drop a o)) (drop b (take c o)))
    ∙ append_assoc (take a o) (take (b - a) (drop a o) ++ drop b (take c o)) (drop c o)
    ∙ ap (λ (x : List ℕ). take a o ++ x)
    (append_assoc (take (b - a) (drop a o)) (drop b (take c o)) (drop c o))

abbrev packet : List ℕ → List ℕ → List ℕ → Packet
packet source destination carried =
    record { source = source; destination = destination; carried = carried }

pub same_packet : (a b c k l m : List ℕ) → a ≡ k → b ≡ l → c ≡ m → packet a b c ≡ packet k l m
same_packet a b c k l m p q r =
    ap (λ (x : List ℕ). packet x b c) p ∙ ap (λ (x : List ℕ). packet k x c) q
    ∙ ap (λ (x : List ℕ). packet k l x) r

takes_packet : (o : List ℕ) → 20 ≤ length o → IsFine (take 20 o) (length o)
    → IsPacket4 o (packet_4 (take 20 o) o)
takes_packet o long is =
    let h : List ℕ = take 20 o in
    let b : ℕ = header_octets h in
    let c : ℕ = total_octets h in
    let fixed : 20 ≤ b = is.is_header.fixed in
    let inside : b ≤ c = is.is_header.inside in
    let there : c ≤ length o = is.there in
    let counted : length h ≡ 20 = length-take-le 20 o long in
    let options : length (take (b - 20) (drop 20 o)) ≡ b - 20 =
    omega (arith, length-take (b - 20) (drop 20 o), length-drop 20 o) in
    let carried : length (drop b (take c o)) ≡ c - b =
    omega (arith, length-drop b (take c o), length-take c o) in
    record {
      header = h;
      options = take (b - 20) (drop 20 o);
      behind = drop c o;
      counted = counted;
      is_header = is.is_header;
      words = omega arith;
      total = omega arith;
      protocol = is.protocol;
      unfragmented = is.unfragmented;
      source = refl;
      destination = refl;
      whole = four_parts 20 b c o fixed inside;
    }

-- a packet as reading finds it
record Found (h o : List ℕ) (p : Packet) : Type 0 where
  long : 20 ≤ length o
  fine : IsFine h (length o)
  same : packet_4 h o ≡ p

back_packet : (o : List ℕ) (p : Packet) → (is : IsPacket4 o p) → Found is.header o p
back_packet o p is =
    let h : List ℕ = is.header in
    let b : ℕ = header_octets h in
    let c : ℕ = total_octets h in
    let front : List ℕ = h ++ is.options in
    let all : List ℕ = front ++ p.carried in
    let front_length : length front ≡ b =
    omega (arith, length-append h is.options, is.words) in
    let all_length : length all ≡ c =
    omega (arith, length-append front p.carried, length-append h is.options, is.total) in
    let parts : o ≡ all ++ is.behind =
    is.whole
    ∙ ap (λ (x : List ℕ). h ++ x) (sym (append_assoc is.options p.carried is.behind))
    ∙ sym (append_assoc h (is.options ++ p.carried) is.behind)
    ∙ ap (λ (x : List ℕ). x ++ is.behind) (sym (append_assoc h is.options p.carried)) in
    let carried : drop b (take c o) ≡ p.carried =
    ap (λ (x : List ℕ). drop b x) (ap (take c) parts ∙ take_at all is.behind c all_length)
    ∙ drop_at front p.carried b front_length in
    let count : length o ≡ length all + length is.behind =
    ap (λ (x : List ℕ). length x) parts ∙ length-append all is.behind in
    record {
      long = omega (arith, is.counted, is.total);
      fine = record {
        is_header = is.is_header;
        there = omega arith;
        protocol = is.protocol;
        unfragmented = is.unfragmented;
      };
      same =
          same_packet (take 4 (drop 12 h)) (take 4 (drop 16 h)) (drop b (take c o)) p.source
          p.destination p.carried (sym is.source) (sym is.destination) carried;
    }

packet_begins : (o : List ℕ) (p : Packet) → (is : IsPacket4 o p)
    → Begins o 20 is.header (is.options ++ (p.carried ++ is.behind))
packet_begins o p is = record { counted = is.counted; parts = is.whole }

-- ---- the reading

abbrev read_as : List ℕ → List ℕ → Result Packet NoDatagram
read_as h o = reason_or (reason_4 h (length o)) (packet_4 h o)

cut : (o : List ℕ) (b : Bool) → ltb (length o) 20 ≡ b
    → packet_4_at o ≡ cond b (Err CutShort) (read_as (take 20 o) o)
unfolding packet_4_at
cut o b e = ap (λ (c : Bool). cond c (no Packet CutShort) (read_as (take 20 o) o)) e

behind : (o h rest : List ℕ) → Begins o 20 h rest → packet_4_at o ≡ read_as h o
behind o h rest is =
    let count = begins_length o 20 h rest is in
    cut o false (le-ltb (length o) 20 (omega arith))
    ∙ ap (λ (x : List ℕ). read_as x o) (begins_take o 20 h rest is)

refuses : (o h : List ℕ) (e : NoDatagram) → packet_4_at o ≡ read_as h o → Says h (length o) e
    → packet_4_at o ≡ Err e
refuses o h e at s =
    at ∙ ap (λ (x : Option NoDatagram). reason_or x (packet_4 h o)) (said h (length o) e s)

abbrev Told : List ℕ → Result Packet NoDatagram → Type 0
Told o (Ok p) = IsPacket4 o p
Told o (Err e) = IsNoPacket V4 o e

no_packet : (o : List ℕ) (e : NoDatagram) → 20 ≤ length o → Says (take 20 o) (length o) e
    → IsNoPacket V4 o e
no_packet o CutShort long s = inr (take 20 o, drop 20 o, begins_at o 20 long, s.0, s.1)
no_packet o NotIp long s = s
no_packet o BadIpHeader long s = (take 20 o, drop 20 o, begins_at o 20 long, s)
no_packet o NotUdp long s = (
  take 20 o,
  drop 20 o,
  record { begins = begins_at o 20 long; is_header = s.0; there = s.1 },
  s.2,
)
no_packet o Fragment long s = (
  take 20 o,
  drop 20 o,
  record { begins = begins_at o 20 long; is_header = s.0; there = s.1 },
  s.2,
  s.3,
)
no_packet o BadUdpLength long s = s

told_header : (o : List ℕ) (r : Option NoDatagram) → 20 ≤ length o
    → Stands (take 20 o) (length o) r → Told o (reason_or r (packet_4 (take 20 o) o))
told_header o None long s = takes_packet o long s
told_header o (Some e) long s = no_packet o e long s

told_at : (o : List ℕ) (b : Bool) → ltb (length o) 20 ≡ b
    → Told o (cond b (Err CutShort) (read_as (take 20 o) o))
told_at o true e = inl (ltb-true (length o) 20 e)
told_at o false e =
    told_header o (reason_4 (take 20 o) (length o)) (ltb-false (length o) 20 e)
    (stands (take 20 o) (length o))

told : (o : List ℕ) → Told o (packet_4_at o)
told o = subst (Told o) (sym (cut o (ltb (length o) 20) refl)) (told_at o (ltb (length o) 20) refl)

has_no : (o : List ℕ) (e : NoDatagram) → IsNoPacket V4 o e → packet_4_at o ≡ Err e
has_no o CutShort (inl short) = cut o true (lt-ltb (length o) 20 short)
has_no o CutShort (inr w) = refuses o w.0 CutShort (behind o w.0 w.1 w.2) (w.3, w.4)
has_no o NotIp n = absurd n
has_no o BadIpHeader w = refuses o w.0 BadIpHeader (behind o w.0 w.1 w.2) w.3
has_no o NotUdp w =
    refuses o w.0 NotUdp (behind o w.0 w.1 w.2.begins) (w.2.is_header, w.2.there, w.3)
has_no o Fragment w =
    refuses o w.0 Fragment (behind o w.0 w.1 w.2.begins) (w.2.is_header, w.2.there, w.3, w.4)
has_no o BadUdpLength n = absurd n

reads : (o : List ℕ) (p : Packet) → IsPacket4 o p → packet_4_at o ≡ Ok p
reads o p is =
    let f = back_packet o p is in
    behind o is.header (is.options ++ (p.carried ++ is.behind)) (packet_begins o p is)
    ∙ ap (λ (x : Option NoDatagram). reason_or x (packet_4 is.header o))
    (fine is.header (length o) f.fine)
    ∙ ap (λ (x : Packet). yes x) f.same

pub exact_4 : (o : List ℕ) → Exact (packet_4_at o) (IsPacket4 o) (IsNoPacket V4 o)
exact_4 o =
    record {
      takes = λ p e. subst (Told o) e (told o);
      again = reads o;
      told = λ e h. subst (Told o) h (told o);
      has = has_no o;
    }
