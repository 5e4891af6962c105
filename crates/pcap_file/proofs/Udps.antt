-- UDP in what a packet carries.
use Rattle.std.proofs.Common.{◌≡◌, ℕ, ◌+◌, ◌-◌, ◌<◌, ◌≤◌, ◌⊎◌, inl, inr, Bool, true, false, cond}
use Rattle.std.proofs.Common.{ltb}
use Rattle.std.proofs.Common.{◌||◌, List, ◌++◌, length, take, drop, Option, Some, None, Result, Ok}
use Rattle.std.proofs.Common.{Err}
use Rattle.std.proofs.Common.{append_assoc, refl, sym, ap, ◌∙◌, subst, arith}
use Rattle.std.proofs.lemmas.Bool.{ltb-true, ltb-false, lt-ltb, le-ltb, or_left, or_right, or_from}
use Rattle.std.proofs.lemmas.List.{length-append, length-drop, length-take, length-take-le}
use Rattle.std.proofs.lemmas.List.{take-append-drop, take-take, take_at, drop_at}
use Rattle.pcap_file.specs.declared.datagram.NoDatagram.{NoDatagram}
use Rattle.pcap_file.specs.declared.datagram.NoDatagram.TheVariants.{NotIp, CutShort, BadIpHeader}
use Rattle.pcap_file.specs.declared.datagram.NoDatagram.TheVariants.{NotUdp, Fragment, BadUdpLength}
use Rattle.pcap_file.specs.Parts.{Begins, number_16}
use Rattle.pcap_file.specs.Ip.{Packet}
use Rattle.pcap_file.specs.Udp.{Datagram, IsUdp, udp_octets}
use Rattle.pcap_file.specs.Reading.{datagram_by, reason_or, reason_udp, udp_at}
use Rattle.pcap_file.specs.Reasons.{IsNoUdp}
use Rattle.pcap_file.proofs.Exact.{Exact, begins_at, begins_length, begins_take, yes}

abbrev tests : Bool → Bool → Option NoDatagram
tests a b = cond (a || b) (Some BadUdpLength) None

abbrev read_as : Packet → List ℕ → Result Datagram NoDatagram
read_as p h = reason_or (reason_udp h (length p.carried)) (datagram_by p h)

abbrev bad : Result Datagram NoDatagram
bad = Err BadUdpLength

cut : (p : Packet) (b : Bool) → ltb (length p.carried) 8 ≡ b
    → udp_at p ≡ cond b (Err BadUdpLength) (read_as p (take 8 p.carried))
unfolding udp_at
cut p b e = ap (λ (c : Bool). cond c bad (read_as p (take 8 p.carried))) e

behind : (p : Packet) (h rest : List ℕ) → Begins p.carried 8 h rest → udp_at p ≡ read_as p h
behind p h rest is =
    let count = begins_length p.carried 8 h rest is in
    cut p false (le-ltb (length p.carried) 8 (omega arith))
    ∙ ap (read_as p) (begins_take p.carried 8 h rest is)

refuses : (p : Packet) (h rest : List ℕ) → Begins p.carried 8 h rest
    → (ltb (udp_octets h) 8 || ltb (length p.carried) (udp_octets h)) ≡ true
    → udp_at p ≡ Err BadUdpLength
refuses p h rest is e =
    behind p h rest is
    ∙ ap (λ (b : Bool). reason_or (cond b (Some BadUdpLength) None) (datagram_by p h)) e

has_length : (p : Packet) (h rest : List ℕ) → Begins p.carried 8 h rest
    → (udp_octets h < 8) ⊎ (length p.carried < udp_octets h) → udp_at p ≡ Err BadUdpLength
has_length p h rest is (inl few) =
    refuses p h rest is
    (or_left (ltb (udp_octets h) 8) (ltb (length p.carried) (udp_octets h))
    (lt-ltb (udp_octets h) 8 few))
has_length p h rest is (inr many) =
    refuses p h rest is
    (or_right (ltb (udp_octets h) 8) (ltb (length p.carried) (udp_octets h))
    (lt-ltb (length p.carried) (udp_octets h) many))

has_no : (p : Packet) (e : NoDatagram) → IsNoUdp p.carried e → udp_at p ≡ Err e
has_no p CutShort n = absurd n
has_no p NotIp n = absurd n
has_no p BadIpHeader n = absurd n
has_no p NotUdp n = absurd n
has_no p Fragment n = absurd n
has_no p BadUdpLength (inl short) = cut p true (lt-ltb (length p.carried) 8 short)
has_no p BadUdpLength (inr w) = has_length p w.0 w.1 w.2 w.3

abbrev datagram : Packet → ℕ → ℕ → List ℕ → Datagram
datagram p source destination payload =
    record {
      source = p.source;
      destination = p.destination;
      source_port = source;
      destination_port = destination;
      payload = payload;
    }

abbrev all_of : List ℕ → List ℕ → ℕ → ℕ → List ℕ → Datagram
all_of a b s t payload =
    record {
      source = a;
      destination = b;
      source_port = s;
      destination_port = t;
      payload = payload;
    }

same_all : (a b : List ℕ) (s t : ℕ) (c : List ℕ) (k l : List ℕ) (m n : ℕ) (q : List ℕ) → a ≡ k
    → b ≡ l → s ≡ m → t ≡ n → c ≡ q → all_of a b s t c ≡ all_of k l m n q
same_all a b s t c k l m n q ea eb es et ec =
    ap (λ (x : List ℕ). all_of x b s t c) ea ∙ ap (λ (x : List ℕ). all_of k x s t c) eb
    ∙ ap (λ (x : ℕ). all_of k l x t c) es ∙ ap (λ (x : ℕ). all_of k l m x c) et
    ∙ ap (λ (x : List ℕ). all_of k l m n x) ec

reads : (p : Packet) (d : Datagram) → IsUdp p d → udp_at p ≡ Ok d
reads p d is =
    let h : List ℕ = is.header in
    let k : ℕ = udp_octets h in
    let all : List ℕ = h ++ d.payload in
    let parts : p.carried ≡ all ++ is.behind =
    is.whole ∙ sym (append_assoc h d.payload is.behind) in
    let all_length : length all ≡ k = length-append h d.payload ∙ is.total in
    let count : length p.carried ≡ length all + length is.behind =
    ap (λ (x : List ℕ). length x) parts ∙ length-append all is.behind in
    let some : 8 ≤ k = omega (arith, is.counted, is.total) in
    let there : k ≤ length p.carried = omega arith in
    let payload : drop 8 (take k p.carried) ≡ d.payload =
    ap (λ (x : List ℕ). drop 8 x) (ap (take k) parts ∙ take_at all is.behind k all_length)
    ∙ drop_at h d.payload 8 is.counted in
    behind p h (d.payload ++ is.behind) (record { counted = is.counted; parts = is.whole })
    ∙ ap (λ (b : Bool). reason_or (cond b (Some BadUdpLength) None) (datagram_by p h))
    (or_from (ltb k 8) (ltb (length p.carried) k) (le-ltb k 8 some)
    (le-ltb (length p.carried) k there))
    ∙ ap (λ (x : Datagram). yes x)
    (same_all p.source p.destination (number_16 0 h) (number_16 2 h) (drop 8 (take k p.carried))
    d.source d.destination d.source_port d.destination_port d.payload (sym is.source)
    (sym is.destination) (sym is.source_port) (sym is.destination_port) payload)

-- ---- what is told

abbrev Told : Packet → Result Datagram NoDatagram → Type 0
Told p (Ok d) = IsUdp p d
Told p (Err e) = IsNoUdp p.carried e

takes_udp : (p : Packet) → 8 ≤ length p.carried → 8 ≤ udp_octets (take 8 p.carried)
    → udp_octets (take 8 p.carried) ≤ length p.carried → IsUdp p (datagram_by p (take 8 p.carried))
takes_udp p long some there =
    let o : List ℕ = p.carried in
    let h : List ℕ = take 8 o in
    let k : ℕ = udp_octets h in
    let all : take k o ≡ h ++ drop 8 (take k o) =
    sym (take-append-drop 8 (take k o))
    ∙ ap (λ (x : List ℕ). x ++ drop 8 (take k o)) (take-take 8 k o some) in
    let payload : length (drop 8 (take k o)) ≡ k - 8 =
    omega (arith, length-drop 8 (take k o), length-take k o) in
    let counted : length h ≡ 8 = length-take-le 8 o long in
    record {
      header = h;
      behind = drop k o;
      counted = counted;
      total = omega arith;
      source = refl;
      destination = refl;
      source_port = refl;
      destination_port = refl;
      whole =
          sym (take-append-drop k o) ∙ ap (λ (x : List ℕ). x ++ drop k o) all
          ∙ append_assoc h (drop 8 (take k o)) (drop k o);
    }

told_header : (p : Packet) (a b : Bool) → 8 ≤ length p.carried
    → ltb (udp_octets (take 8 p.carried)) 8 ≡ a
    → ltb (length p.carried) (udp_octets (take 8 p.carried)) ≡ b
    → Told p (reason_or (tests a b) (datagram_by p (take 8 p.carried)))
told_header p true b long ea eb =
    let h : List ℕ = take 8 p.carried in
    inr (h, drop 8 p.carried, begins_at p.carried 8 long, inl (ltb-true (udp_octets h) 8 ea))
told_header p false true long ea eb =
    let h : List ℕ = take 8 p.carried in
    inr (
      h,
      drop 8 p.carried,
      begins_at p.carried 8 long,
      inr (ltb-true (length p.carried) (udp_octets h) eb),
    )
told_header p false false long ea eb =
    let h : List ℕ = take 8 p.carried in
    takes_udp p long (ltb-false (udp_octets h) 8 ea)
    (ltb-false (length p.carried) (udp_octets h) eb)

told_at : (p : Packet) (b : Bool) → ltb (length p.carried) 8 ≡ b
    → Told p (cond b (Err BadUdpLength) (read_as p (take 8 p.carried)))
told_at p true e = inl (ltb-true (length p.carried) 8 e)
told_at p false e =
    let h : List ℕ = take 8 p.carried in
    told_header p (ltb (udp_octets h) 8) (ltb (length p.carried) (udp_octets h))
    (ltb-false (length p.carried) 8 e) refl refl

told : (p : Packet) → Told p (udp_at p)
told p =
    subst (Told p) (sym (cut p (ltb (length p.carried) 8) refl))
    (told_at p (ltb (length p.carried) 8) refl)

pub exact_udp : (p : Packet) → Exact (udp_at p) (IsUdp p) (IsNoUdp p.carried)
exact_udp p =
    record {
      takes = λ d e. subst (Told p) e (told p);
      again = reads p;
      told = λ e h. subst (Told p) h (told p);
      has = has_no p;
    }
