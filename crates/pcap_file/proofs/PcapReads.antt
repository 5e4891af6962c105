-- Reading the classic layout from a source.
use Rattle.std.proofs.Common.{◌≡◌, ℕ, ◌<◌, ◌≤◌, Bool, cond, List, [], ◌∷◌}
use Rattle.std.proofs.Common.{length, Option, None, Some, Result, Ok, Err}
use Rattle.std.proofs.Common.{refl, sym, ap, ◌∙◌, subst, arith}
use Rattle.std.specs.Prelude.{IfOk, IfErr, OnOk}
use Rattle.std.specs.Io.KnownBytes.{Consumes, IsAtEnd}
use Rattle.std.proofs.lemmas.Bool.{lt-ltb, le-ltb}
use Rattle.std.proofs.lemmas.List.{length-append}
use Rattle.pcap_file.specs.declared.fault.RecordingFault.{RecordingFault}
use Rattle.pcap_file.specs.declared.fault.RecordingFault.TheVariants.{Truncated, PacketTooLong}
use Rattle.pcap_file.specs.declared.pcap.PacketHead.{PacketHead}
use Rattle.pcap_file.specs.declared.pcap.PcapHead.{PcapHead}
use Rattle.pcap_file.specs.Fields.{Fails, field_at, recording_fault_origin}
use Rattle.st_format.specs.Given.{Takes, with_rest}
use Rattle.pcap_file.specs.Pcap.{pcap_head_of, record_head_of}
use Rattle.pcap_file.specs.PcapReading.{Recorded, head_at, head_by, octets_at, packet_behind}
use Rattle.pcap_file.specs.PcapReading.{pcap_at}
use Rattle.pcap_file.specs.PcapReading.{record_at}
use Rattle.st_format.proofs.Origins.{if_content_weaker}
use Rattle.st_format.proofs.Parsing.{fails_field, fails_first, fails_pure, fails_then, gives_field}
use Rattle.st_format.proofs.Parsing.{gives_pure, gives_then, then_reads}

-- ---- the head of a file

abbrev head_rest : List ℕ → List ℕ → Result (PcapHead × List ℕ) RecordingFault
head_rest front rest = with_rest (pcap_head_of front) rest

pub pcap_cut : (old : Option (List ℕ)) (f : RecordingFault) → Fails (field_at 24) old f
    → Fails pcap_at old f
unfolding pcap_at
pcap_cut old f fails = fails_first recording_fault_origin (field_at 24) head_rest old f fails

pub pcap_gives : (old new : Option (List ℕ)) (front : List ℕ) (r : Result PcapHead RecordingFault)
    → Takes (field_at 24) old new front → r ≡ pcap_head_of front
    → IfOk r (λ h. Takes pcap_at old new h)
unfolding pcap_at
pcap_gives old new front (Ok h) takes e =
    gives_then (field_at 24) head_rest old new new front h takes
    (gives_pure (pcap_head_of front) new h (sym e))
pcap_gives old new front (Err f) takes e = tt

pub pcap_fails : (old new : Option (List ℕ)) (front : List ℕ) (r : Result PcapHead RecordingFault)
    → Takes (field_at 24) old new front → r ≡ pcap_head_of front
    → IfErr r (λ f. Fails pcap_at old f)
unfolding pcap_at
pcap_fails old new front (Ok h) takes e = tt
pcap_fails old new front (Err f) takes e =
    fails_then recording_fault_origin (field_at 24) head_rest old new front f takes
    (fails_pure recording_fault_origin (pcap_head_of front) new f (sym e))

-- ---- the head of a record

abbrev heads : PcapHead → List ℕ → Result (Option PacketHead × List ℕ) RecordingFault
heads file = then_reads (field_at 16) (head_by file)

head_some : (file : PcapHead) (o : List ℕ) → 0 < length o → head_at file o ≡ heads file o
unfolding head_at
head_some file [] some = absurd (omega arith)
head_some file (x ∷ xs) some = refl

abbrev ended : List ℕ → Result (Option PacketHead × List ℕ) RecordingFault
ended rest = Ok (None, rest)

-- nothing was there
pub head_end : (file : PcapHead) (old new : Option (List ℕ)) (given : List ℕ) → length given ≡ 0
    → Consumes old new given → IsAtEnd new → Takes (head_at file) old new None
unfolding head_at
head_end file None new given none p e = tt
head_end file (Some o) None given none p e = absurd p
head_end file (Some o) (Some rest) [] none p e = ap (head_at file) (p ∙ e) ∙ ap ended (sym e)
head_end file (Some o) (Some rest) (x ∷ xs) none p e = absurd (omega arith)

pub head_gives : (file : PcapHead) (old new : Option (List ℕ)) (given : List ℕ)
    → length given ≡ 16 → Consumes old new given
    → Takes (head_at file) old new (Some (record_head_of file given))
head_gives file None new given sixteen p = tt
head_gives file (Some o) None given sixteen p = absurd p
head_gives file (Some o) (Some rest) given sixteen p =
    head_some file o (omega (arith, ap (λ (x : List ℕ). length x) p, length-append given rest))
    ∙ gives_then (field_at 16) (head_by file) (Some o) (Some rest) (Some rest) given
    (Some (record_head_of file given))
    (gives_field Truncated 16 (Some o) (Some rest) given sixteen p) refl

pub head_cut : (file : PcapHead) (old new : Option (List ℕ)) (given : List ℕ) → 0 < length given
    → length given < 16 → Consumes old new given → IsAtEnd new
    → Fails (head_at file) old Truncated
head_cut file None new given some short p e = tt
head_cut file (Some o) None given some short p e = absurd p
head_cut file (Some o) (Some rest) given some short p e =
    head_some file o (omega (arith, ap (λ (x : List ℕ). length x) p, length-append given rest))
    ∙ fails_first recording_fault_origin (field_at 16) (head_by file) (Some o) Truncated
    (fails_field recording_fault_origin Truncated 16 (Some o) (Some rest) given short p e)

-- ---- the octets of a packet

octets_fit : (room : ℕ) (p : PacketHead) (o : List ℕ) → p.captured ≤ room
    → octets_at room p o ≡ field_at p.captured o
unfolding octets_at
octets_fit room p o fits =
    ap (λ (b : Bool). cond b
    (let r : Result (List ℕ × List ℕ) RecordingFault = Err PacketTooLong in r)
    (field_at p.captured o)) (le-ltb room p.captured fits)

rest_gives : (room n : ℕ) (p : PacketHead) (old new : Option (List ℕ)) (xs : List ℕ)
    → p.captured ≤ room → n ≡ p.captured → Takes (field_at n) old new xs
    → Takes (octets_at room p) old new xs
rest_gives room n p None new xs fits is takes = tt
rest_gives room n p (Some o) None xs fits is takes = absurd takes
rest_gives room n p (Some o) (Some rest) xs fits is takes =
    octets_fit room p o fits ∙ ap (λ (k : ℕ). field_at k o) (sym is) ∙ takes

rest_fails : (room n : ℕ) (p : PacketHead) (old : Option (List ℕ)) (f : RecordingFault)
    → p.captured ≤ room → n ≡ p.captured → Fails (field_at n) old f
    → Fails (octets_at room p) old f
rest_fails room n p None f fits is fails = tt
rest_fails room n p (Some o) f fits is fails =
    if_content_weaker recording_fault_origin f (field_at n o ≡ Err f) (octets_at room p o ≡ Err f)
    (λ e. octets_fit room p o fits ∙ ap (λ (k : ℕ). field_at k o) (sym is) ∙ e) fails

pub rest_gives_if : (room n : ℕ) (p : PacketHead) (old new : Option (List ℕ)) (xs ys : List ℕ)
    (r : Result (Unit {0}) RecordingFault) → p.captured ≤ room → n ≡ p.captured → xs ≡ ys
    → OnOk r (Takes (field_at n) old new xs) → OnOk r (Takes (octets_at room p) old new ys)
rest_gives_if room n p old new xs ys (Ok u) fits is same takes =
    subst (Takes (octets_at room p) old new) same (rest_gives room n p old new xs fits is takes)
rest_gives_if room n p old new xs ys (Err f) fits is same takes = tt

pub rest_fails_if : (room n : ℕ) (p : PacketHead) (old : Option (List ℕ))
    (r : Result (Unit {0}) RecordingFault) → p.captured ≤ room → n ≡ p.captured
    → IfErr r (λ f. Fails (field_at n) old f) → IfErr r (λ f. Fails (octets_at room p) old f)
rest_fails_if room n p old (Ok u) fits is fails = tt
rest_fails_if room n p old (Err f) fits is fails = rest_fails room n p old f fits is fails

pub rest_long : (room : ℕ) (p : PacketHead) (old : Option (List ℕ)) → room < p.captured
    → Fails (octets_at room p) old PacketTooLong
unfolding octets_at
rest_long room p None long = tt
rest_long room p (Some o) long =
    ap (λ (b : Bool). cond b
    (let r : Result (List ℕ × List ℕ) RecordingFault = Err PacketTooLong in r)
    (field_at p.captured o)) (lt-ltb room p.captured long)

-- ---- a packet

abbrev recorded : PacketHead → List ℕ → Option Recorded
recorded p xs = Some (record { head = p; octets = xs })

abbrev behind_octets : PacketHead → List ℕ → List ℕ
    → Result (Option Recorded × List ℕ) RecordingFault
behind_octets p xs rest = Ok (recorded p xs, rest)

ends_so : (room : ℕ) (new : Option (List ℕ)) → Takes (packet_behind room None) new new None
ends_so room None = tt
ends_so room (Some o) = refl

given_so : (p : PacketHead) (xs : List ℕ) (new : Option (List ℕ))
    → Takes (behind_octets p xs) new new (recorded p xs)
given_so p xs None = tt
given_so p xs (Some o) = refl

pub record_cut : (room : ℕ) (file : PcapHead) (old : Option (List ℕ)) (f : RecordingFault)
    → Fails (head_at file) old f → Fails (record_at room file) old f
unfolding record_at
record_cut room file old f fails =
    fails_first recording_fault_origin (head_at file) (packet_behind room) old f fails

pub record_end : (room : ℕ) (file : PcapHead) (old new : Option (List ℕ))
    → Takes (head_at file) old new None → Takes (record_at room file) old new None
unfolding record_at
record_end room file old new takes =
    gives_then (head_at file) (packet_behind room) old new new None None takes (ends_so room new)

pub record_gives : (room : ℕ) (file : PcapHead) (p : PacketHead) (xs : List ℕ)
    (old mid new : Option (List ℕ)) → Takes (head_at file) old mid (Some p)
    → Takes (octets_at room p) mid new xs
    → Takes (record_at room file) old new (Some (record { head = p; octets = xs }))
unfolding record_at
record_gives room file p xs old mid new head octets =
    gives_then (head_at file) (packet_behind room) old mid new (Some p) (recorded p xs) head
    (gives_then (octets_at room p) (behind_octets p) mid new new xs (recorded p xs) octets
    (given_so p xs new))

pub record_fails : (room : ℕ) (file : PcapHead) (p : PacketHead) (old mid : Option (List ℕ))
    (f : RecordingFault) → Takes (head_at file) old mid (Some p)
    → Fails (octets_at room p) mid f → Fails (record_at room file) old f
unfolding record_at
record_fails room file p old mid f head fails =
    fails_then recording_fault_origin (head_at file) (packet_behind room) old mid (Some p) f head
    (fails_first recording_fault_origin (octets_at room p) (behind_octets p) mid f fails)
