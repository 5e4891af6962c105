-- Reading the classic layout from its front to its end gives just the packets of a recording.
use Rattle.std.proofs.Common.{◌≡◌, ℕ, ◌%◌, ◌^◌, Bool, true, false, not, eqb, ◌||◌, List, [], ◌∷◌}
use Rattle.std.proofs.Common.{◌++◌, take, Option, None, Some, Result, Ok, refl, sym, ap, ◌∙◌}
use Rattle.std.proofs.Common.{subst}
use Rattle.std.proofs.lemmas.Bool.{eqb-true, eq-eqb}
use Rattle.st_format.specs.Device.{AreOctets}
use Rattle.st_format.specs.Reading.{◌>>=◌}
use Rattle.st_format.proofs.Readings.{bind_ok}
use Rattle.st_format.proofs.Octets.{AreOctets-take}
use Rattle.std.proofs.lemmas.List.{take_at}
use Rattle.pcap_file.specs.declared.fault.RecordingFault.{RecordingFault}
use Rattle.pcap_file.specs.declared.pcap.PacketHead.{PacketHead}
use Rattle.pcap_file.specs.declared.pcap.PcapHead.{PcapHead}
use Rattle.pcap_file.specs.Orders.{long_at, short_at}
use Rattle.pcap_file.specs.Fields.{field_at}
use Rattle.st_format.specs.Given.{with_rest}
use Rattle.pcap_file.specs.Pcap.{IsPcapHead, magic_number, magic_of, pcap_head_by, pcap_head_of}
use Rattle.pcap_file.specs.Pcap.{record_head_of}
use Rattle.pcap_file.specs.PcapReading.{AreRecords, GivesPackets, GivesPcap, HaveRoom, IsPcap}
use Rattle.pcap_file.specs.PcapReading.{Recorded, head_at, head_by, octets_at, packet_behind}
use Rattle.pcap_file.specs.PcapReading.{pcap_at, record_at}
use Rattle.pcap_file.proofs.Pcaps.{Kind, Says, head_if, head_of, says, some_magic}
use Rattle.pcap_file.proofs.Recordings.{Field, cuts, field, field_whole, record_again, record_takes}

-- ---- the front

abbrev Front : Type 0
Front = Result PcapHead RecordingFault

abbrev front_ok : PcapHead → Front
front_ok h = Ok h

abbrev Opened : Type 0
Opened = Result (PcapHead × List ℕ) RecordingFault

abbrev opened : PcapHead × List ℕ → Opened
opened x = Ok x

same_front : (a b : PcapHead) → front_ok a ≡ front_ok b → a ≡ b
same_front a b e = cc

same_opened : (a b : PcapHead × List ℕ) → opened a ≡ opened b → a ≡ b
same_opened a b e = cc

front_takes_by : (o : List ℕ) (x : Kind) (h : PcapHead) (a c : Bool)
    → eqb (short_at x.0 4 o) 2 ≡ a → eqb (short_at x.0 6 o) 4 ≡ c
    → long_at x.0 0 o ≡ magic_number x.1 → head_if (not a || not c) (head_of x o) ≡ front_ok h
    → IsPcapHead o h
front_takes_by o x h true true ea ec magic e =
    let is : IsPcapHead o (head_of x o) = record {
      magic = magic;
      major = eqb-true (short_at x.0 4 o) 2 ea;
      minor = eqb-true (short_at x.0 6 o) 4 ec;
      snap = refl;
      link = refl;
    } in
    subst (IsPcapHead o) (same_front (head_of x o) h e) is
front_takes_by o x h true false ea ec magic e = absurd cc
front_takes_by o x h false c ea ec magic e = absurd cc

front_takes_at : (o : List ℕ) (k : Option Kind) (h : PcapHead) → Says o k
    → pcap_head_by k o ≡ front_ok h → IsPcapHead o h
front_takes_at o None h s e = absurd cc
front_takes_at o (Some x) h s e =
    front_takes_by o x h (eqb (short_at x.0 4 o) 2) (eqb (short_at x.0 6 o) 4) refl refl s e

front_takes : (o : List ℕ) (h : PcapHead) → pcap_head_of o ≡ front_ok h → IsPcapHead o h
front_takes o h e = front_takes_at o (magic_of o) h (says o) e

front_again : (o : List ℕ) (h : PcapHead) → AreOctets o → IsPcapHead o h
    → pcap_head_of o ≡ front_ok h
front_again o h fit is =
    let x : Kind = (h.order, h.nanoseconds) in
    ap (λ (k : Option Kind). pcap_head_by k o) (some_magic o h.order h.nanoseconds fit is.magic)
    ∙ ap (λ (b : Bool). head_if (not b || not (eqb (short_at h.order 6 o) 4)) (head_of x o))
    (eq-eqb (short_at h.order 4 o) 2 is.major)
    ∙ ap (λ (b : Bool). head_if (not b) (head_of x o)) (eq-eqb (short_at h.order 6 o) 4 is.minor)
    ∙ ap (λ (s : ℕ). front_ok (record {
      order = h.order;
      nanoseconds = h.nanoseconds;
      snap = s;
      link = long_at h.order 20 o % 2 ^ 16;
    })) (sym is.snap)
    ∙ ap (λ (l : ℕ). front_ok (record {
      order = h.order;
      nanoseconds = h.nanoseconds;
      snap = h.snap;
      link = l;
    })) (sym is.link)

-- ---- the records

pub end_at : (room : ℕ) (file : PcapHead) → record_at room file [] ≡ Ok (None, [])
unfolding record_at head_at
end_at room file = refl

abbrev Step : Type 0
Step = Result (Option Recorded × List ℕ) RecordingFault

abbrev step : Option Recorded × List ℕ → Step
step x = Ok x

some_recorded : (p : Recorded) → (let x : Option Recorded = Some p in x) ≡ None → ⊥
some_recorded p e = cc

same_step : (a b : Option Recorded × List ℕ) → step a ≡ step b → a ≡ b
same_step a b e = cc

-- a packet that begins is one, or a fault
no_end : (room : ℕ) (h : PacketHead) (r rest : List ℕ)
    → packet_behind room (Some h) r ≡ step (None, rest) → ⊥
no_end room h r rest e =
    let b =
    bind_ok (octets_at room h r) (λ y. step (Some (record { head = h; octets = y.0 }), y.1))
    (None, rest) e in
    some_recorded (record { head = h; octets = b.0.0 })
    (ap (λ (y : Option Recorded × List ℕ). y.0)
    (same_step (Some (record { head = h; octets = b.0.0 }), b.0.1) (None, rest) b.2))

abbrev Heads : Type 0
Heads = Result (Option PacketHead × List ℕ) RecordingFault

abbrev heads : Option PacketHead × List ℕ → Heads
heads x = Ok x

same_heads : (a b : Option PacketHead × List ℕ) → heads a ≡ heads b → a ≡ b
same_heads a b e = cc

some_head : (h : PacketHead) → (let x : Option PacketHead = Some h in x) ≡ None → ⊥
some_head h e = cc

begun : (room : ℕ) (file : PcapHead) (front rest left : List ℕ) (z : Option PacketHead × List ℕ)
    → head_by file front rest ≡ Ok z → packet_behind room z.0 z.1 ≡ step (None, left) → ⊥
begun room file front rest left (None, r) e h =
    some_head (record_head_of file front)
    (ap (λ (y : Option PacketHead × List ℕ). y.0)
    (same_heads (Some (record_head_of file front), rest) (None, r) e))
begun room file front rest left (Some p, r) e h = no_end room p r left h

pub ends : (room : ℕ) (file : PcapHead) (o rest : List ℕ)
    → record_at room file o ≡ Ok (None, rest) → o ≡ []
unfolding record_at head_at
ends room file [] rest e = refl
ends room file (x ∷ xs) rest e =
    let b =
    bind_ok (field_at 16 (x ∷ xs) >>= λ y. head_by file y.0 y.1)
    (λ z. packet_behind room z.0 z.1) (None, rest) e in
    let d = bind_ok (field_at 16 (x ∷ xs)) (λ y. head_by file y.0 y.1) b.0 b.1 in
    absurd (begun room file d.0.0 d.0.1 rest b.0 d.2 b.2)

pub records_again : (room : ℕ) (file : PcapHead) (o : List ℕ) (ps : List Recorded)
    → AreRecords file o ps → HaveRoom room ps → GivesPackets room file o ps
records_again room file o [] is fits =
    ap (record_at room file) is ∙ end_at room file
records_again room file o (p ∷ ps) is fits =
    let rest = is.1 in (
      rest,
      ap (record_at room file) is.3 ∙ record_again room file is.0 rest p is.2 fits.0,
      records_again room file rest ps is.4 fits.1,
    )

pub records_take : (room : ℕ) (file : PcapHead) (o : List ℕ) (ps : List Recorded)
    → GivesPackets room file o ps → AreRecords file o ps
records_take room file o [] read = ends room file o [] read
records_take room file o (p ∷ ps) read =
    let t = record_takes room file o p read.0 read.1 in
    (t.text, read.0, t.is, t.parts, records_take room file read.0 ps read.2)

-- ---- the whole

pub pcap_again : (room : ℕ) (o : List ℕ) (ps : List Recorded) → AreOctets o → IsPcap o ps
    → HaveRoom room ps → GivesPcap room o ps
unfolding pcap_at
pcap_again room o ps fit is fits =
    let same : take 24 o ≡ is.front =
    ap (take 24) is.whole ∙ take_at is.front is.rest 24 is.front_octets in
    let small : AreOctets is.front = subst AreOctets same (AreOctets-take 24 o fit) in
    let front : field_at 24 o ≡ field (is.front, is.rest) =
    ap (field_at 24) is.whole ∙ field_whole 24 is.front is.rest is.front_octets in (
      is.file,
      is.rest,
      ap (λ (r : Field). r >>= λ x. with_rest (pcap_head_of x.0) x.1) front
          ∙ ap (λ (r : Front). with_rest r is.rest) (front_again is.front is.file small is.is),
      records_again room is.file is.rest ps is.records fits,
    )

pub pcap_takes : (room : ℕ) (o : List ℕ) (ps : List Recorded) → GivesPcap room o ps → IsPcap o ps
unfolding pcap_at
pcap_takes room o ps read =
    let b =
    bind_ok (field_at 24 o) (λ x. with_rest (pcap_head_of x.0) x.1) (read.0, read.1) read.2 in
    let d =
    bind_ok (pcap_head_of b.0.0) (λ h. opened (h, b.0.1)) (read.0, read.1) b.2 in
    let same = same_opened (d.0, b.0.1) (read.0, read.1) d.2 in
    let file : d.0 ≡ read.0 = ap (λ (y : PcapHead × List ℕ). y.0) same in
    let rest : b.0.1 ≡ read.1 = ap (λ (y : PcapHead × List ℕ). y.1) same in
    let c = cuts 24 o b.0.0 b.0.1 b.1 in
    record {
      file = read.0;
      front = b.0.0;
      rest = read.1;
      front_octets = c.count;
      is = subst (IsPcapHead b.0.0) file (front_takes b.0.0 d.0 d.1);
      records = records_take room read.0 read.1 ps read.3;
      whole = c.parts ∙ ap (λ (y : List ℕ). b.0.0 ++ y) rest;
    }
