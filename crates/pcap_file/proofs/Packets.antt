-- What packet blocks say.
use Rattle.std.proofs.Common.{◌≡◌, ℕ, ◌+◌, ◌*◌, ◌^◌, ◌≤◌, Bool, true, false, cond, ltb, List, ◌++◌}
use Rattle.std.proofs.Common.{length, take, drop, Option, Some, None, Result, Ok, Err, refl, sym}
use Rattle.std.proofs.Common.{ap}
use Rattle.std.proofs.Common.{◌∙◌, arith}
use Rattle.std.specs.Prelude.{IfOk, slice_get}
use Rattle.std.proofs.lemmas.Bool.{ltb-false, le-ltb}
use Rattle.std.proofs.lemmas.List.{length-append, length-take-le, take-append-drop, take_at}
use Rattle.std.proofs.lemmas.List.{drop_at}
use Rattle.interface_name.specs.declared.name.InterfaceName.{InterfaceName}
use Rattle.pcap_file.specs.declared.blocks.Interface.{Interface}
use Rattle.pcap_file.specs.declared.fault.RecordingFault.{RecordingFault}
use Rattle.pcap_file.specs.declared.fault.RecordingFault.TheVariants.{BadBlock}
use Rattle.pcap_file.specs.declared.order.ByteOrder.{ByteOrder}
use Rattle.pcap_file.specs.declared.pcap.PacketHead.{PacketHead}
use Rattle.pcap_file.specs.Orders.{long_at}
use Rattle.pcap_file.specs.Blocks.{IsSimple, IsStamped, kept_of, time_at}
use Rattle.pcap_file.specs.BlockReading.{packet_by, simple_by, simple_of, stamped_by, stamped_in}
use Rattle.pcap_file.specs.BlockReading.{stamped_of}

abbrev Read : Type 0
Read = Result PacketHead RecordingFault

abbrev yes : PacketHead → Read
yes p = Ok p

abbrev no : RecordingFault → Read
no f = Err f

abbrev pub head : Option ℕ → ℕ → ℕ → ℕ → Option InterfaceName → PacketHead
head time link captured original interface =
    record {
      time = time;
      link = link;
      captured = captured;
      original = original;
      interface = interface;
    }

pub same_head : (a k : Option ℕ) (b c d l m n : ℕ) (e o : Option InterfaceName) → a ≡ k → b ≡ l
    → c ≡ m → d ≡ n → e ≡ o → head a b c d e ≡ head k l m n o
same_head a k b c d l m n e o p q r s t =
    ap (λ (x : Option ℕ). head x b c d e) p ∙ ap (λ (x : ℕ). head k x c d e) q
    ∙ ap (λ (x : ℕ). head k l x d e) r ∙ ap (λ (x : ℕ). head k l m x e) s
    ∙ ap (head k l m n) t

-- what a reading that answers a value tells of a test
fits : (b : Bool) (f : RecordingFault) (r : Read) (p : PacketHead) → cond b (no f) r ≡ yes p
    → (b ≡ false) × (r ≡ yes p)
fits true f r p e = absurd cc
fits false f r p e = (refl, e)

same_yes : (p q : PacketHead) → yes p ≡ yes q → p ≡ q
same_yes p q e = cc

some : ℕ → Option ℕ
some t = Some t

-- ---- packets with their time

record Timed (t : Option ℕ) (i : Interface) (captured original : ℕ) (p : PacketHead) : Type 0 where
  time : p.time ≡ t
  told : (n : ℕ) × (t ≡ Some n)
  link : p.link ≡ i.link
  captured_is : p.captured ≡ captured
  original_is : p.original ≡ original
  named : p.interface ≡ i.name

timed : (t : Option ℕ) (i : Interface) (captured original : ℕ) (p : PacketHead)
    → packet_by t i captured original ≡ yes p → Timed t i captured original p
timed None i captured original p e = absurd cc
timed (Some n) i captured original p e =
    let same : head (Some n) i.link captured original i.name ≡ p =
    same_yes (head (Some n) i.link captured original i.name) p e in
    record {
      time = ap (λ (x : PacketHead). x.time) (sym same);
      told = (n, refl);
      link = ap (λ (x : PacketHead). x.link) (sym same);
      captured_is = ap (λ (x : PacketHead). x.captured) (sym same);
      original_is = ap (λ (x : PacketHead). x.original) (sym same);
      named = ap (λ (x : PacketHead). x.interface) (sym same);
    }

stamped_takes_by : (number : List ℕ → ℕ) (order : ByteOrder) (is : List Interface) (body : List ℕ)
    (p : PacketHead)
    (i : Option Interface) → 20 ≤ length body
    → long_at order 12 (take 20 body) ≤ length (drop 20 body)
    → slice_get is (number (take 20 body)) ≡ i
    → stamped_by order i (take 20 body) ≡ yes p
    → IsStamped number order is body p (take p.captured (drop 20 body))
stamped_takes_by number order is body p None long whole at e = absurd cc
stamped_takes_by number order is body p (Some i) long whole at e =
    let front : List ℕ = take 20 body in
    let t =
    timed (time_at i (long_at order 4 front * 2 ^ 32 + long_at order 8 front)) i
    (long_at order 12 front) (long_at order 16 front) p e in
    let there : p.captured ≤ length (drop 20 body) = omega (arith, t.captured_is) in
    record {
      front = front;
      behind = drop p.captured (drop 20 body);
      interface = i;
      front_octets = length-take-le 20 body long;
      interface_is = at;
      time = t.time;
      told = (t.told.0, t.time ∙ t.told.1);
      link = t.link;
      captured = t.captured_is;
      counted = length-take-le p.captured (drop 20 body) there;
      original = t.original_is;
      named = t.named;
      whole =
          sym (take-append-drop 20 body)
          ∙ ap (λ (x : List ℕ). front ++ x) (sym (take-append-drop p.captured (drop 20 body)));
    }

pub stamped_takes : (number : List ℕ → ℕ) (order : ByteOrder) (is : List Interface)
    (body : List ℕ) (p : PacketHead)
    → stamped_of number order is body ≡ Ok p → IsStamped number order is body p
    (take p.captured (drop 20 body))
unfolding stamped_of
stamped_takes number order is body p e =
    let front : List ℕ = take 20 body in
    let a =
    fits (ltb (length body) 20) BadBlock (stamped_in order (number front) is front (drop 20 body)) p
    e in
    let b =
    fits (ltb (length (drop 20 body)) (long_at order 12 front)) BadBlock
    (stamped_by order (slice_get is (number front)) front) p a.1 in
    stamped_takes_by number order is body p (slice_get is (number front))
    (ltb-false (length body) 20 a.0)
    (ltb-false (length (drop 20 body)) (long_at order 12 front) b.0) refl b.1

-- what a block's parts are, cut again
record Cut (n : ℕ) (front octets behind body : List ℕ) : Type 0 where
  front_is : take n body ≡ front
  rest_is : drop n body ≡ octets ++ behind
  long : n ≤ length body
  octets_is : octets ≡ take (length octets) (drop n body)

cut : (n : ℕ) (front octets behind body : List ℕ) → length front ≡ n
    → body ≡ front ++ (octets ++ behind) → Cut n front octets behind body
cut n front octets behind body count whole =
    let rest : drop n body ≡ octets ++ behind =
    ap (drop n) whole ∙ drop_at front (octets ++ behind) n count in
    record {
      front_is = ap (take n) whole ∙ take_at front (octets ++ behind) n count;
      rest_is = rest;
      long =
          omega (
            arith,
            ap (λ (x : List ℕ). length x) whole,
            length-append front (octets ++ behind),
          );
      octets_is =
          sym (ap (take (length octets)) rest ∙ take_at octets behind (length octets) refl);
    }

pub stamped_again : (number : List ℕ → ℕ) (order : ByteOrder) (is : List Interface)
    (body : List ℕ) (p : PacketHead)
    (octets : List ℕ) → IsStamped number order is body p octets → stamped_of number order is body ≡
    Ok p
unfolding stamped_of
stamped_again number order is body p octets e =
    let c = cut 20 e.front octets e.behind body e.front_octets e.whole in
    let front : List ℕ = e.front in
    let there : long_at order 12 front ≤ length (octets ++ e.behind) =
    omega (arith, length-append octets e.behind, e.counted, e.captured) in
    let i : Interface = e.interface in
    ap (λ (b : Bool). cond b (no BadBlock) (stamped_in order (number (take 20 body)) is
    (take 20 body) (drop 20 body)))
    (le-ltb (length body) 20 c.long)
    ∙ ap (λ (x : List ℕ). stamped_in order (number x) is x (drop 20 body)) c.front_is
    ∙ ap (stamped_in order (number front) is front) c.rest_is
    ∙ ap (λ (b : Bool). cond b (no BadBlock)
    (stamped_by order (slice_get is (number front)) front))
    (le-ltb (length (octets ++ e.behind)) (long_at order 12 front) there)
    ∙ ap (λ (x : Option Interface). stamped_by order x front) e.interface_is
    ∙ ap (λ (t : Option ℕ). packet_by t i (long_at order 12 front) (long_at order 16 front))
    (sym e.time ∙ e.told.1)
    ∙ ap (λ (x : PacketHead). yes x)
    (same_head (Some e.told.0) p.time i.link (long_at order 12 front) (long_at order 16 front)
    p.link p.captured p.original i.name p.interface (sym e.told.1) (sym e.link) (sym e.captured)
    (sym e.original) (sym e.named))

pub stamped_octets : (number : List ℕ → ℕ) (order : ByteOrder) (is : List Interface)
    (body : List ℕ) (p : PacketHead)
    (octets : List ℕ) → IsStamped number order is body p octets
    → octets ≡ take p.captured (drop 20 body)
stamped_octets number order is body p octets e =
    let c = cut 20 e.front octets e.behind body e.front_octets e.whole in
    c.octets_is ∙ ap (λ (n : ℕ). take n (drop 20 body)) e.counted

-- ---- simple packets

simple_takes_by : (order : ByteOrder) (is : List Interface) (body : List ℕ) (p : PacketHead)
    (i : Option Interface) → 4 ≤ length body → slice_get is 0 ≡ i
    → simple_by order i (take 4 body) (drop 4 body) ≡ yes p
    → IsSimple order is body p (take p.captured (drop 4 body))
simple_takes_by order is body p None long at e = absurd cc
simple_takes_by order is body p (Some i) long at e =
    let front : List ℕ = take 4 body in
    let k : ℕ = kept_of (long_at order 0 front) i.snap in
    let made : PacketHead = head None i.link k (long_at order 0 front) i.name in
    let a = fits (ltb (length (drop 4 body)) k) BadBlock (yes made) p e in
    let same : made ≡ p = same_yes made p a.1 in
    let captured : p.captured ≡ k = ap (λ (x : PacketHead). x.captured) (sym same) in
    let original : p.original ≡ long_at order 0 front =
    ap (λ (x : PacketHead). x.original) (sym same) in
    let there : p.captured ≤ length (drop 4 body) =
    omega (arith, captured, ltb-false (length (drop 4 body)) k a.0) in
    record {
      front = front;
      behind = drop p.captured (drop 4 body);
      interface = i;
      front_octets = length-take-le 4 body long;
      interface_is = at;
      time = ap (λ (x : PacketHead). x.time) (sym same);
      link = ap (λ (x : PacketHead). x.link) (sym same);
      original = original;
      captured = captured ∙ ap (λ (n : ℕ). kept_of n i.snap) (sym original);
      named = ap (λ (x : PacketHead). x.interface) (sym same);
      counted = length-take-le p.captured (drop 4 body) there;
      whole =
          sym (take-append-drop 4 body)
          ∙ ap (λ (x : List ℕ). front ++ x) (sym (take-append-drop p.captured (drop 4 body)));
    }

pub simple_takes : (order : ByteOrder) (is : List Interface) (body : List ℕ) (p : PacketHead)
    → simple_of order is body ≡ Ok p → IsSimple order is body p (take p.captured (drop 4 body))
unfolding simple_of
simple_takes order is body p e =
    let a =
    fits (ltb (length body) 4) BadBlock
    (simple_by order (slice_get is 0) (take 4 body) (drop 4 body)) p e in
    simple_takes_by order is body p (slice_get is 0) (ltb-false (length body) 4 a.0) refl a.1

pub simple_again : (order : ByteOrder) (is : List Interface) (body : List ℕ) (p : PacketHead)
    (octets : List ℕ) → IsSimple order is body p octets → simple_of order is body ≡ Ok p
unfolding simple_of
simple_again order is body p octets e =
    let c = cut 4 e.front octets e.behind body e.front_octets e.whole in
    let front : List ℕ = e.front in
    let i : Interface = e.interface in
    let k : ℕ = kept_of (long_at order 0 front) i.snap in
    let kept : p.captured ≡ k = e.captured ∙ ap (λ (n : ℕ). kept_of n i.snap) e.original in
    let there : k ≤ length (octets ++ e.behind) =
    omega (arith, length-append octets e.behind, e.counted, kept) in
    ap (λ (b : Bool). cond b (no BadBlock)
    (simple_by order (slice_get is 0) (take 4 body) (drop 4 body)))
    (le-ltb (length body) 4 c.long)
    ∙ ap (λ (x : Option Interface). simple_by order x (take 4 body) (drop 4 body)) e.interface_is
    ∙ ap (λ (x : List ℕ). simple_by order (Some i) x (drop 4 body)) c.front_is
    ∙ ap (simple_by order (Some i) front) c.rest_is
    ∙ ap (λ (b : Bool). cond b (no BadBlock)
    (yes (head None i.link k (long_at order 0 front) i.name)))
    (le-ltb (length (octets ++ e.behind)) k there)
    ∙ ap (λ (x : PacketHead). yes x)
    (same_head None p.time i.link k (long_at order 0 front) p.link p.captured p.original i.name
    p.interface (sym e.time) (sym e.link) (sym kept) (sym e.original) (sym e.named))

pub simple_octets : (order : ByteOrder) (is : List Interface) (body : List ℕ) (p : PacketHead)
    (octets : List ℕ) → IsSimple order is body p octets
    → octets ≡ take p.captured (drop 4 body)
simple_octets order is body p octets e =
    let c = cut 4 e.front octets e.behind body e.front_octets e.whole in
    c.octets_is ∙ ap (λ (n : ℕ). take n (drop 4 body)) e.counted

-- ---- the clauses

pub found_by : (r : Read) (P : PacketHead → Type 0) → ((p : PacketHead) → r ≡ Ok p → P p)
    → IfOk r P
found_by (Ok p) P h = h p refl
found_by (Err f) P h = tt

pub stamped_within : (number : List ℕ → ℕ) (order : ByteOrder) (is : List Interface)
    (body : List ℕ) (p : PacketHead)
    (octets : List ℕ) → IsStamped number order is body p octets → 20 + p.captured ≤ length body
stamped_within number order is body p octets e =
    omega (
      arith,
      ap (λ (x : List ℕ). length x) e.whole,
      length-append e.front (octets ++ e.behind),
      length-append octets e.behind,
      e.front_octets,
      e.counted,
    )

pub simple_within : (order : ByteOrder) (is : List Interface) (body : List ℕ) (p : PacketHead)
    (octets : List ℕ) → IsSimple order is body p octets → 4 + p.captured ≤ length body
simple_within order is body p octets e =
    omega (
      arith,
      ap (λ (x : List ℕ). length x) e.whole,
      length-append e.front (octets ++ e.behind),
      length-append octets e.behind,
      e.front_octets,
      e.counted,
    )
