-- Packets of IPv6.
use Rattle.std.proofs.Common.{◌≡◌, ℕ, ◌<◌, ◌≤◌, inl, inr, Bool, true, false, cond, not, eqb}
use Rattle.std.proofs.Common.{ltb, List, ◌++◌, length, take, drop, Option, Some, None, Result, Ok}
use Rattle.std.proofs.Common.{Err}
use Rattle.std.proofs.Common.{refl, sym, ap, ◌∙◌, subst, arith}
use Rattle.std.proofs.lemmas.Bool.{eqb-true, eqb-false, ltb-true, ltb-false, eq-eqb, ne_eqb, lt-ltb}
use Rattle.std.proofs.lemmas.Bool.{le-ltb}
use Rattle.std.proofs.lemmas.List.{length-append, length-take-le, take-append-drop}
use Rattle.std.proofs.lemmas.List.{take_at}
use Rattle.pcap_file.specs.declared.datagram.NoDatagram.{NoDatagram}
use Rattle.pcap_file.specs.declared.datagram.NoDatagram.TheVariants.{NotIp, CutShort, BadIpHeader}
use Rattle.pcap_file.specs.declared.datagram.NoDatagram.TheVariants.{NotUdp, Fragment, BadUdpLength}
use Rattle.pcap_file.specs.declared.link.IpVersion.TheVariants.{V6}
use Rattle.st_format.specs.Reading.{◌>>=◌}
use Rattle.pcap_file.specs.Parts.{Begins}
use Rattle.pcap_file.specs.Ip.{IsPacket6, IsWhole6, Packet, next_of}
use Rattle.pcap_file.specs.Ip.{payload_octets, version_of}
use Rattle.pcap_file.specs.Reading.{carried_at, packet_6, packet_6_at, packet_6_by, reason_6}
use Rattle.pcap_file.specs.Reading.{reason_or}
use Rattle.pcap_file.specs.Reasons.{IsNoPacket}
use Rattle.pcap_file.proofs.Chains.{carried_has, carried_told}
use Rattle.pcap_file.proofs.Chains.{Told as ChainTold}
use Rattle.pcap_file.proofs.Exact.{Exact, begins_at, begins_drop, begins_length, begins_take, no}
use Rattle.pcap_file.proofs.Exact.{yes}
use Rattle.pcap_file.proofs.Packets4.{same_packet}

-- ---- the header

abbrev tests : Bool → Bool → Option NoDatagram
tests a b = cond a (Some BadIpHeader) (cond b (Some CutShort) None)

same_tests : (a b k l : Bool) → a ≡ k → b ≡ l → tests a b ≡ tests k l
same_tests a b k l p q =
    ap (λ (x : Bool). tests x b) p ∙ ap (λ (x : Bool). tests k x) q

bad_header : (h : List ℕ) (n : ℕ) → (version_of h ≡ 6 → ⊥) → reason_6 h n ≡ Some BadIpHeader
bad_header h n other =
    same_tests (not (eqb (version_of h) 6)) (ltb n (payload_octets h)) true
    (ltb n (payload_octets h)) (ap not (ne_eqb (version_of h) 6 other)) refl

cut_payload : (h : List ℕ) (n : ℕ) → version_of h ≡ 6 → n < payload_octets h
    → reason_6 h n ≡ Some CutShort
cut_payload h n is short =
    same_tests (not (eqb (version_of h) 6)) (ltb n (payload_octets h)) false true
    (ap not (eq-eqb (version_of h) 6 is)) (lt-ltb n (payload_octets h) short)

whole_payload : (h : List ℕ) (n : ℕ) → version_of h ≡ 6 → payload_octets h ≤ n
    → reason_6 h n ≡ None
whole_payload h n is long =
    same_tests (not (eqb (version_of h) 6)) (ltb n (payload_octets h)) false false
    (ap not (eq-eqb (version_of h) 6 is)) (le-ltb n (payload_octets h) long)

-- ---- the reading

cut : (o : List ℕ) (b : Bool) → ltb (length o) 40 ≡ b
    → packet_6_at o ≡ cond b (Err CutShort) (packet_6_by (take 40 o) (drop 40 o))
unfolding packet_6_at
cut o b e =
    ap (λ (c : Bool). cond c (no Packet CutShort) (packet_6_by (take 40 o) (drop 40 o))) e

behind : (o h rest : List ℕ) → Begins o 40 h rest → packet_6_at o ≡ packet_6_by h rest
behind o h rest is =
    let count = begins_length o 40 h rest is in
    cut o false (le-ltb (length o) 40 (omega arith))
    ∙ ap (λ (x : List ℕ). packet_6_by x (drop 40 o)) (begins_take o 40 h rest is)
    ∙ ap (packet_6_by h) (begins_drop o 40 h rest is)

abbrev read_as : List ℕ → List ℕ → Result Packet NoDatagram
read_as h payload =
    carried_at (next_of h) payload >>= λ carried. Ok (packet_6 h carried)

-- a header, by what speaks against it
by_reason : (h rest : List ℕ) (r : Option NoDatagram) → reason_6 h (length rest) ≡ r
    → packet_6_by h rest ≡ (reason_or r (take (payload_octets h) rest) >>= read_as h)
by_reason h rest r e =
    ap (λ (x : Option NoDatagram). reason_or x (take (payload_octets h) rest) >>= read_as h) e

by_payload : (o h payload rest : List ℕ) → IsWhole6 o h payload rest
    → packet_6_at o ≡ read_as h payload
by_payload o h payload rest is =
    let long : payload_octets h ≤ length (payload ++ rest) =
    omega (arith, length-append payload rest, is.there) in
    behind o h (payload ++ rest) is.begins
    ∙ by_reason h (payload ++ rest) None
    (whole_payload h (length (payload ++ rest)) is.version long)
    ∙ ap (read_as h) (take_at payload rest (payload_octets h) is.there)

by_carried : (h payload : List ℕ) (r : Result (List ℕ) NoDatagram)
    → ChainTold (next_of h) payload r
    → read_as h payload ≡ (r >>= λ carried. yes (packet_6 h carried))
by_carried h payload r told =
    ap (λ (x : Result (List ℕ) NoDatagram). x >>= λ carried. yes (packet_6 h carried))
    (carried_has (next_of h) payload r told)

has_no : (o : List ℕ) (e : NoDatagram) → IsNoPacket V6 o e → packet_6_at o ≡ Err e
has_no o CutShort (inl short) = cut o true (lt-ltb (length o) 40 short)
has_no o CutShort (inr w) =
    behind o w.0 w.1 w.2
    ∙ by_reason w.0 w.1 (Some CutShort) (cut_payload w.0 (length w.1) w.3 w.4)
has_no o NotIp n = absurd n
has_no o BadIpHeader (inl w) =
    behind o w.0 w.1 w.2
    ∙ by_reason w.0 w.1 (Some BadIpHeader) (bad_header w.0 (length w.1) w.3)
has_no o BadIpHeader (inr w) =
    by_payload o w.0 w.1 w.2 w.3 ∙ by_carried w.0 w.1 (Err BadIpHeader) w.4
has_no o NotUdp w = by_payload o w.0 w.1 w.2 w.3 ∙ by_carried w.0 w.1 (Err NotUdp) w.4
has_no o Fragment w = by_payload o w.0 w.1 w.2 w.3 ∙ by_carried w.0 w.1 (Err Fragment) w.4
has_no o BadUdpLength n = absurd n

whole_6 : (o : List ℕ) (p : Packet) → (is : IsPacket6 o p)
    → IsWhole6 o is.header is.payload is.behind
whole_6 o p is =
    record {
      begins = record { counted = is.counted; parts = is.whole };
      version = is.version;
      there = is.total;
    }

reads : (o : List ℕ) (p : Packet) → IsPacket6 o p → packet_6_at o ≡ Ok p
reads o p is =
    by_payload o is.header is.payload is.behind (whole_6 o p is)
    ∙ by_carried is.header is.payload (Ok p.carried) is.leads
    ∙ ap (λ (x : Packet). yes x)
    (same_packet (take 16 (drop 8 is.header)) (take 16 (drop 24 is.header)) p.carried p.source
    p.destination p.carried (sym is.source) (sym is.destination) refl)

-- ---- what is told

abbrev Told : List ℕ → Result Packet NoDatagram → Type 0
Told o (Ok p) = IsPacket6 o p
Told o (Err e) = IsNoPacket V6 o e

told_carried : (o h payload rest : List ℕ) (r : Result (List ℕ) NoDatagram)
    → IsWhole6 o h payload rest → ChainTold (next_of h) payload r
    → Told o (r >>= λ carried. yes (packet_6 h carried))
told_carried o h payload rest (Ok carried) is leads =
    record {
      header = h;
      payload = payload;
      behind = rest;
      counted = is.begins.counted;
      version = is.version;
      total = is.there;
      leads = leads;
      source = refl;
      destination = refl;
      whole = is.begins.parts;
    }
told_carried o h payload rest (Err CutShort) is t = absurd t
told_carried o h payload rest (Err NotIp) is t = absurd t
told_carried o h payload rest (Err BadIpHeader) is t = inr (h, payload, rest, is, t)
told_carried o h payload rest (Err NotUdp) is t = (h, payload, rest, is, t)
told_carried o h payload rest (Err Fragment) is t = (h, payload, rest, is, t)
told_carried o h payload rest (Err BadUdpLength) is t = absurd t

told_header : (o h rest : List ℕ) (a b : Bool) → Begins o 40 h rest → eqb (version_of h) 6 ≡ a
    → ltb (length rest) (payload_octets h) ≡ b
    → Told o (reason_or (tests (not a) b) (take (payload_octets h) rest) >>= read_as h)
told_header o h rest false b begins ea eb =
    inl (h, rest, begins, eqb-false (version_of h) 6 ea)
told_header o h rest true true begins ea eb =
    inr (
      h,
      rest,
      begins,
      eqb-true (version_of h) 6 ea,
      ltb-true (length rest) (payload_octets h)
          eb,
    )
told_header o h rest true false begins ea eb =
    let n : ℕ = payload_octets h in
    let long : n ≤ length rest = ltb-false (length rest) n eb in
    told_carried o h (take n rest) (drop n rest) (carried_at (next_of h) (take n rest))
    (record {
      begins = subst (λ (x : List ℕ). Begins o 40 h x) (sym (take-append-drop n rest)) begins;
      version = eqb-true (version_of h) 6 ea;
      there = length-take-le n rest long;
    }) (carried_told (next_of h) (take n rest))

told_at : (o : List ℕ) (b : Bool) → ltb (length o) 40 ≡ b
    → Told o (cond b (Err CutShort) (packet_6_by (take 40 o) (drop 40 o)))
told_at o true e = inl (ltb-true (length o) 40 e)
told_at o false e =
    told_header o (take 40 o) (drop 40 o) (eqb (version_of (take 40 o)) 6)
    (ltb (length (drop 40 o)) (payload_octets (take 40 o)))
    (begins_at o 40 (ltb-false (length o) 40 e)) refl refl

told : (o : List ℕ) → Told o (packet_6_at o)
told o = subst (Told o) (sym (cut o (ltb (length o) 40) refl)) (told_at o (ltb (length o) 40) refl)

pub exact_6 : (o : List ℕ) → Exact (packet_6_at o) (IsPacket6 o) (IsNoPacket V6 o)
exact_6 o =
    record {
      takes = λ p e. subst (Told o) e (told o);
      again = reads o;
      told = λ e h. subst (Told o) h (told o);
      has = has_no o;
    }
