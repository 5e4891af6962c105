-- Reading the classic layout step by step gives the packets of a recording, and no others.
use Rattle.std.proofs.Common.{◌≡◌, ℕ, ◌+◌, ◌*◌, ◌<◌, ◌≤◌, Bool, true, false, cond, ltb}
use Rattle.std.proofs.Common.{List, [], ◌∷◌, ◌++◌, length, take, drop, Option, None, Some, Result}
use Rattle.std.proofs.Common.{Ok}
use Rattle.std.proofs.Common.{Err, append_assoc, refl, sym, ap, ◌∙◌, subst, arith}
use Rattle.std.proofs.lemmas.Bool.{le-ltb, ltb-false}
use Rattle.std.proofs.lemmas.List.{length-append, length-take-le, take-append-drop, take_at}
use Rattle.std.proofs.lemmas.List.{drop_at}
use Rattle.st_format.specs.Reading.{◌>>=◌}
use Rattle.st_format.proofs.Readings.{bind_ok}
use Rattle.pcap_file.specs.declared.fault.RecordingFault.{RecordingFault}
use Rattle.pcap_file.specs.declared.fault.RecordingFault.TheVariants.{PacketTooLong, Truncated}
use Rattle.pcap_file.specs.declared.pcap.PacketHead.{PacketHead}
use Rattle.pcap_file.specs.declared.pcap.PcapHead.{PcapHead}
use Rattle.pcap_file.specs.Orders.{long_at}
use Rattle.pcap_file.specs.Fields.{field_at}
use Rattle.st_format.specs.Given.{field_by}
use Rattle.pcap_file.specs.Pcap.{IsPacketHead, record_head_of, unit_of}
use Rattle.pcap_file.specs.PcapReading.{IsRecord, Recorded, head_at, head_by, octets_at}
use Rattle.pcap_file.specs.PcapReading.{packet_behind, record_at}
use Rattle.pcap_file.proofs.Packets.{head, same_head}

abbrev pub Field : Type 0
Field = Result (List ℕ × List ℕ) RecordingFault

abbrev pub field : List ℕ × List ℕ → Field
field x = Ok x

abbrev cut : Field
cut = Err Truncated

abbrev Step : Type 0
Step = Result (Option Recorded × List ℕ) RecordingFault

abbrev step : Option Recorded × List ℕ → Step
step x = Ok x

abbrev Heads : Type 0
Heads = Result (Option PacketHead × List ℕ) RecordingFault

abbrev heads : Option PacketHead × List ℕ → Heads
heads x = Ok x

-- ---- fields

pub field_whole : (n : ℕ) (xs rest : List ℕ) → length xs ≡ n → field_at n (xs ++ rest) ≡ field
    (xs, rest)
unfolding field_by
field_whole n xs rest count =
    let o : List ℕ = xs ++ rest in
    ap (λ (b : Bool). cond b cut (field (take n o, drop n o)))
    (le-ltb (length o) n (omega (arith, length-append xs rest)))
    ∙ ap (λ (x : List ℕ). field (x, drop n o)) (take_at xs rest n count)
    ∙ ap (λ (x : List ℕ). field (xs, x)) (drop_at xs rest n count)

pub record Cuts (n : ℕ) (o xs rest : List ℕ) : Type 0 where
  pub count : length xs ≡ n
  pub parts : o ≡ xs ++ rest

same_field : (a b : List ℕ × List ℕ) → field a ≡ field b → a ≡ b
same_field a b e = cc

cuts_at : (n : ℕ) (o xs rest : List ℕ) (b : Bool) → ltb (length o) n ≡ b
    → cond b cut (field (take n o, drop n o)) ≡ field (xs, rest) → Cuts n o xs rest
cuts_at n o xs rest true e h = absurd cc
cuts_at n o xs rest false e h =
    let same : (take n o, drop n o) ≡ (xs, rest) = same_field (take n o, drop n o) (xs, rest) h in
    let front : take n o ≡ xs = ap (λ (x : List ℕ × List ℕ). x.0) same in
    let back : drop n o ≡ rest = ap (λ (x : List ℕ × List ℕ). x.1) same in
    record {
      count =
          sym (ap (λ (x : List ℕ). length x) front)
          ∙ length-take-le n o (ltb-false (length o) n e);
      parts =
          sym (take-append-drop n o) ∙ ap (λ (x : List ℕ). x ++ drop n o) front
          ∙ ap (λ (x : List ℕ). xs ++ x) back;
    }

pub cuts : (n : ℕ) (o xs rest : List ℕ) → field_at n o ≡ field (xs, rest) → Cuts n o xs rest
unfolding field_by
cuts n o xs rest h = cuts_at n o xs rest (ltb (length o) n) refl h

-- ---- the head of a record

head_is : (file : PcapHead) (front : List ℕ) (p : PacketHead) → IsPacketHead file front p
    → record_head_of file front ≡ p
head_is file front p is =
    let time : Option ℕ = Some
    (long_at file.order 0 front * 1000000000
    + long_at file.order 4 front * unit_of file.nanoseconds) in
    same_head time p.time file.link (long_at file.order 8 front) (long_at file.order 12 front)
    p.link p.captured p.original None p.interface (sym is.time) (sym is.link) (sym is.captured)
    (sym is.original) (sym is.unnamed)

is_head : (file : PcapHead) (front : List ℕ) → IsPacketHead file front (record_head_of file front)
is_head file front =
    record { time = refl; link = refl; captured = refl; original = refl; unnamed = refl }

head_at_whole : (file : PcapHead) (o : List ℕ) → 0 < length o
    → head_at file o ≡ (field_at 16 o >>= λ y. head_by file y.0 y.1)
unfolding head_at
head_at_whole file [] some = absurd (omega arith)
head_at_whole file (x ∷ xs) some = refl

octets_whole : (room : ℕ) (p : PacketHead) (o : List ℕ) → p.captured ≤ room
    → octets_at room p o ≡ field_at p.captured o
unfolding octets_at
octets_whole room p o fits =
    ap (λ (b : Bool). cond b (let r : Field = Err PacketTooLong in r) (field_at p.captured o))
    (le-ltb room p.captured fits)

-- ---- what is a record is read

pub record_again : (room : ℕ) (file : PcapHead) (text rest : List ℕ) (p : Recorded)
    → IsRecord file text p → p.head.captured ≤ room
    → record_at room file (text ++ rest) ≡ Ok (Some p, rest)
unfolding record_at
record_again room file text rest p is fits =
    let o : List ℕ = text ++ rest in
    let parts : o ≡ is.front ++ (p.octets ++ rest) =
    ap (λ (x : List ℕ). x ++ rest) is.whole ∙ append_assoc is.front p.octets rest in
    let some : 0 < length o =
    omega (
      arith,
      ap (λ (x : List ℕ). length x) parts,
      length-append is.front (p.octets ++ rest),
      is.front_octets,
    ) in
    let front : field_at 16 o ≡ field (is.front, p.octets ++ rest) =
    ap (field_at 16) parts ∙ field_whole 16 is.front (p.octets ++ rest) is.front_octets in
    let begins : head_at file o ≡ heads (Some p.head, p.octets ++ rest) =
    head_at_whole file o some
    ∙ ap (λ (r : Field). r >>= λ y. head_by file y.0 y.1) front
    ∙ ap (λ (h : PacketHead). heads (Some h, p.octets ++ rest))
    (head_is file is.front p.head is.is) in
    let octets : octets_at room p.head (p.octets ++ rest) ≡ field (p.octets, rest) =
    octets_whole room p.head (p.octets ++ rest) fits
    ∙ field_whole p.head.captured p.octets rest is.counted in
    ap (λ (r : Heads). r >>= λ x. packet_behind room x.0 x.1) begins
    ∙ ap (λ (r : Field). r >>= λ y. step (Some (record { head = p.head; octets = y.0 }), y.1))
    octets

-- ---- what is read is a record

record Begun (file : PcapHead) (o : List ℕ) (h : PacketHead) (rest : List ℕ) : Type 0 where
  front : List ℕ
  count : length front ≡ 16
  is : IsPacketHead file front h
  parts : o ≡ front ++ rest

same_heads : (a b : Option PacketHead × List ℕ) → heads a ≡ heads b → a ≡ b
same_heads a b e = cc

same_some : (a b : PacketHead) → (let x : Option PacketHead = Some a in x) ≡ Some b → a ≡ b
same_some a b e = cc

no_head : (h : PacketHead) → (let x : Option PacketHead = None in x) ≡ Some h → ⊥
no_head h e = cc

no_recorded : (p : Recorded) → (let x : Option Recorded = None in x) ≡ Some p → ⊥
no_recorded p e = cc

begun : (file : PcapHead) (o : List ℕ) (h : PacketHead) (rest : List ℕ)
    → head_at file o ≡ heads (Some h, rest) → Begun file o h rest
unfolding head_at
begun file [] h rest read =
    absurd (no_head h (ap (λ (y : Option PacketHead × List ℕ). y.0)
    (same_heads (None, []) (Some h, rest) read)))
begun file (x ∷ xs) h rest read =
    let o : List ℕ = x ∷ xs in
    let b = bind_ok (field_at 16 o) (λ y. head_by file y.0 y.1) (Some h, rest) read in
    let c = cuts 16 o b.0.0 b.0.1 b.1 in
    let same : (Some (record_head_of file b.0.0), b.0.1) ≡ (Some h, rest) =
    same_heads (Some (record_head_of file b.0.0), b.0.1) (Some h, rest) b.2 in
    let head_same : record_head_of file b.0.0 ≡ h =
    same_some (record_head_of file b.0.0) h
    (ap (λ (y : Option PacketHead × List ℕ). y.0) same) in
    let rest_same : b.0.1 ≡ rest = ap (λ (y : Option PacketHead × List ℕ). y.1) same in
    record {
      front = b.0.0;
      count = c.count;
      is = subst (IsPacketHead file b.0.0) head_same (is_head file b.0.0);
      parts = c.parts ∙ ap (λ (y : List ℕ). b.0.0 ++ y) rest_same;
    }

chosen : (room : ℕ) (p : PacketHead) (o : List ℕ) (b : Bool) (y : List ℕ × List ℕ)
    → ltb room p.captured ≡ b
    → cond b (let r : Field = Err PacketTooLong in r) (field_at p.captured o) ≡ field y
    → (field_at p.captured o ≡ field y) × (p.captured ≤ room)
chosen room p o true y e h = absurd cc
chosen room p o false y e h = (h, ltb-false room p.captured e)

octets_cut : (room : ℕ) (p : PacketHead) (o : List ℕ) (y : List ℕ × List ℕ)
    → octets_at room p o ≡ field y → (field_at p.captured o ≡ field y) × (p.captured ≤ room)
unfolding octets_at
octets_cut room p o y h = chosen room p o (ltb room p.captured) y refl h

pub record Takes (room : ℕ) (file : PcapHead) (o : List ℕ) (p : Recorded)
    (rest : List ℕ) : Type 0 where
  pub text : List ℕ
  pub is : IsRecord file text p
  pub fits : p.head.captured ≤ room
  pub parts : o ≡ text ++ rest

same_step : (a b : Option Recorded × List ℕ) → step a ≡ step b → a ≡ b
same_step a b e = cc

same_recorded : (a b : Recorded) → (let x : Option Recorded = Some a in x) ≡ Some b → a ≡ b
same_recorded a b e = cc

takes_by : (room : ℕ) (file : PcapHead) (o : List ℕ) (p : Recorded) (rest : List ℕ)
    (h : Option PacketHead) (r : List ℕ) → head_at file o ≡ heads (h, r)
    → packet_behind room h r ≡ step (Some p, rest) → Takes room file o p rest
takes_by room file o p rest None r begins read =
    absurd (no_recorded p (ap (λ (y : Option Recorded × List ℕ). y.0)
    (same_step (None, r) (Some p, rest) read)))
takes_by room file o p rest (Some h) r begins read =
    let g = begun file o h r begins in
    let b =
    bind_ok (octets_at room h r) (λ y. step (Some (record { head = h; octets = y.0 }), y.1))
    (Some p, rest) read in
    let c = octets_cut room h r b.0 b.1 in
    let d = cuts h.captured r b.0.0 b.0.1 c.0 in
    let made : Recorded = record { head = h; octets = b.0.0 } in
    let same : (Some made, b.0.1) ≡ (Some p, rest) =
    same_step (Some made, b.0.1) (Some p, rest) b.2 in
    let same_p : made ≡ p =
    same_recorded made p (ap (λ (y : Option Recorded × List ℕ). y.0) same) in
    let rest_same : b.0.1 ≡ rest = ap (λ (y : Option Recorded × List ℕ). y.1) same in
    let is : IsRecord file (g.front ++ b.0.0) made = record {
      front = g.front;
      front_octets = g.count;
      is = g.is;
      counted = d.count;
      whole = refl;
    } in
    record {
      text = g.front ++ b.0.0;
      is = subst (IsRecord file (g.front ++ b.0.0)) same_p is;
      fits = subst (λ (q : Recorded). q.head.captured ≤ room) same_p c.1;
      parts =
          g.parts ∙ ap (λ (y : List ℕ). g.front ++ y) d.parts
          ∙ ap (λ (y : List ℕ). g.front ++ (b.0.0 ++ y)) rest_same
          ∙ sym (append_assoc g.front b.0.0 rest);
    }

pub record_takes : (room : ℕ) (file : PcapHead) (o : List ℕ) (p : Recorded) (rest : List ℕ)
    → record_at room file o ≡ Ok (Some p, rest) → Takes room file o p rest
unfolding record_at
record_takes room file o p rest read =
    let b =
    bind_ok (head_at file o) (λ x. packet_behind room x.0 x.1) (Some p, rest) read in
    takes_by room file o p rest b.0.0 b.0.1 b.1 b.2
