-- Packets that are noted, recording by recording.
use Rattle.std.proofs.Common.{◌≡◌, ℕ, zero, suc, ◌+◌, ◌-◌, ◌<◌, ◌≤◌, Bool, true, false, ◌||◌, ◌&&◌}
use Rattle.std.proofs.Common.{List, [], ◌∷◌, ◌++◌, length, take, drop, get_or, set, Option, None}
use Rattle.std.proofs.Common.{Some, Result, Ok, Err, refl, ap, sym, ◌∙◌, subst, arith, append_assoc}
use Rattle.std.proofs.Common.{append-nil, inl, inr, IfOk}
use Rattle.std.proofs.lemmas.Grind.{flat_map-append}
use Rattle.std.proofs.lemmas.List.{drop_at, length-drop, length-take, take_all}
use Rattle.std.specs.List.{AllZip, flat_map, list_all, list_any, zip}
use Rattle.st_format.specs.History.{IsRead, since}
use Rattle.recording_counts.specs.FlowCounts.{flow_counts}
use Rattle.recording_counts.specs.Flows.{Arrival}
use Rattle.pcap_file.specs.Fields.{IfContent}
use Rattle.pcap_file.specs.PcapReading.{Recorded}
use Rattle.pcap_file.specs.Runs.{HasFailed, HasRead, HasReadAll, ReadsFault, ReadsPacket}
use Rattle.pcap_file.specs.Runs.{ReadsToEnd}
use Rattle.pcap_file.specs.Runs.{Seen, fault_in, packets_in}
use Rattle.pcap_file.specs.Ip.{IsUdpPacket, Packet}
use Rattle.pcap_file.specs.Udp.{Datagram}
use Rattle.pcap_file.specs.declared.link.IpVersion.{IpVersion}
use Rattle.pcap_file.specs.declared.link.IpVersion.TheVariants.{V4, V6}
use Rattle.pcap_file.specs.declared.datagram.NoDatagram.{NoDatagram}
use Rattle.pcap_file.specs.declared.fault.RecordingFault.{RecordingFault}
use Rattle.pcap_file.specs.declared.fault.RecordingFault.TheVariants.{Device, Truncated, BadMagic}
use Rattle.pcap_file.specs.declared.fault.RecordingFault.TheVariants.{BadVersion, BadBlock}
use Rattle.pcap_file.specs.declared.fault.RecordingFault.TheVariants.{BadInterface, BadTime}
use Rattle.pcap_file.specs.declared.fault.RecordingFault.TheVariants.{TooManyInterfaces}
use Rattle.pcap_file.specs.declared.fault.RecordingFault.TheVariants.{PacketTooLong, Packed}
use Rattle.pcap_file.specs.declared.fault.RecordingFault.TheVariants.{TooManyBlocks}
use Rattle.inspect_engine.specs.Arrivals.{IsAddress, arrival_by, arrivals_of, omission_by}
use Rattle.inspect_engine.specs.Arrivals.{omissions_of}
use Rattle.inspect_engine.specs.Inspected.{HasReadUpTo, NotesAll, NotesBehind, NotesEach}
use Rattle.inspect_engine.specs.Inspected.{NotesOctets}
use Rattle.inspect_engine.specs.Inspected.{NotesUnless}
use Rattle.inspect_engine.specs.Inspected.{end_of, is_cut, is_told}
use Rattle.recording_counts.specs.LeftOut.{left_out_of}
use Rattle.recording_counts.specs.declared.omission.Omission.{Omission}
use Rattle.recording_counts.specs.declared.omission.Omission.TheVariants as by
use Rattle.inspect_engine.specs.declared.inspection.Inspection.{Inspection}
use Rattle.pcap_file.specs.PacketDatagram.{HasDatagram, datagram_in}
use Rattle.run_outcome.proofs.Splits.{Split, split_tell}

-- ---- packets

abbrev here : Recorded → List Arrival
here p = arrival_by p (datagram_in p)

abbrev why : Recorded → List Omission
why p = omission_by (datagram_in p)

pub notes_none : {A : Type 0} (s : Inspection A) → NotesEach [] s s
notes_none s = record {
  flows = λ arrivals e. e ∙ ap flow_counts (sym (append-nil arrivals));
  left_out = λ omissions e. e ∙ ap left_out_of (sym (append-nil omissions));
}

pub notes_then : {A : Type 0} (p q : List Recorded) (old mid new : Inspection A)
    → NotesEach p old mid → NotesEach q mid new → NotesEach (p ++ q) old new
notes_then p q old mid new first second = record {
  flows = λ arrivals e.
      second.flows (arrivals ++ arrivals_of p) (first.flows arrivals e)
      ∙ ap flow_counts
      (append_assoc arrivals (arrivals_of p) (arrivals_of q)
      ∙ ap (λ (x : List Arrival). arrivals ++ x) (sym (flat_map-append here p q)));
  left_out = λ omissions e.
      second.left_out (omissions ++ omissions_of p) (first.left_out omissions e)
      ∙ ap left_out_of
      (append_assoc omissions (omissions_of p) (omissions_of q)
      ∙ ap (λ (x : List Omission). omissions ++ x) (sym (flat_map-append why p q)));
}

pub notes_datagram : {A : Type 0} (p : Recorded) (d : Datagram) (a : Arrival)
    (old new : Inspection A) → datagram_in p ≡ Ok d → arrival_by p (Ok d) ≡ a ∷ []
    → ((arrivals : List Arrival) → old.flows ≡ flow_counts arrivals
    → new.flows ≡ flow_counts (arrivals ++ a ∷ []))
    → new.left_out ≡ old.left_out → NotesEach (p ∷ []) old new
notes_datagram p d a old new e is flows same = record {
  flows = λ arrivals was.
      flows arrivals was
      ∙ ap (λ (x : List Arrival). flow_counts (arrivals ++ x))
      (sym (ap (λ (r : Result Datagram NoDatagram). arrival_by p r ++ []) e
      ∙ ap (λ (x : List Arrival). x ++ []) is));
  left_out = λ omissions was.
      same ∙ was
      ∙ ap left_out_of
      (sym (ap (λ (r : Result Datagram NoDatagram). omissions ++ (omission_by r ++ [])) e
      ∙ append-nil omissions));
}

-- the address of a datagram
address_of : (version : IpVersion) (octets : List ℕ) (p : Packet) → IsUdpPacket version octets p
    → IsAddress p.destination
address_of V4 octets p is =
    inl (ap length is.destination ∙ four is.header is.counted)
  where
    four : (h : List ℕ) → length h ≡ 20 → length (take 4 (drop 16 h)) ≡ 4
    four h e = omega (arith, length-take 4 (drop 16 h), length-drop 16 h, e)
address_of V6 octets p is =
    inr (ap length is.destination ∙ sixteen is.header is.counted)
  where
    sixteen : (h : List ℕ) → length h ≡ 40 → length (take 16 (drop 24 h)) ≡ 16
    sixteen h e = omega (arith, length-take 16 (drop 24 h), length-drop 24 h, e)

pub has_address : (number : ℕ) (octets : List ℕ) (d : Datagram) → HasDatagram number octets d
    → IsAddress d.destination
has_address number octets d h =
    subst IsAddress (sym h.2.is.destination)
    (address_of h.2.has.version h.2.has.packet h.2.packet h.2.has.is)

-- what lies behind a place
pub rest_is : (place : ℕ) (xs : List ℕ)
    → take (length xs - place) (drop place xs) ≡ drop place xs
rest_is place xs =
    take_all (length xs - place) (drop place xs) (omega (arith, length-drop place xs))

-- ---- a recording

-- what was noted of a recording so far
pub record Going {A : Type 0} (room : ℕ) (start seen : Seen) (read now : List ℕ)
    (old new : Inspection A) : Type 0 where
  pub packets : List Recorded
  pub noted : NotesEach packets old new
  pub reads : (before : List ℕ) (earlier : List Recorded)
      → HasRead room before read start earlier → HasRead room before now seen (earlier ++ packets)

pub going_none : {A : Type 0} (room : ℕ) (start : Seen) (read : List ℕ) (s : Inspection A)
    → Going room start start read read s s
going_none room start read s = record {
  packets = [];
  noted = notes_none s;
  reads = λ before earlier h.
      subst (λ (x : List Recorded). HasRead room before read start x) (sym (append-nil earlier)) h;
}

pub going_on : {A : Type 0} (room : ℕ) (start mid seen : Seen) (read was now : List ℕ)
    (old table new : Inspection A) (p : Recorded) → Going room start mid read was old table
    → ReadsPacket room was now mid seen p → NotesEach (p ∷ []) table new
    → Going room start seen read now old new
going_on room start mid seen read was now old table new p g reads noted = record {
  packets = g.packets ++ p ∷ [];
  noted = notes_then g.packets (p ∷ []) old table new g.noted noted;
  reads = λ before earlier h.
      subst (λ (x : List Recorded). HasRead room before now seen x)
      (append_assoc earlier g.packets (p ∷ []))
      (reads before (earlier ++ g.packets) (g.reads before earlier h));
}

pub going_all : {A : Type 0} (room : ℕ) (start mid : Seen) (read was now : List ℕ)
    (ended : Type 0) (old new : Inspection A) → Going room start mid read was old new
    → ReadsToEnd room was now ended mid → NotesBehind room start read now ended None old new
going_all room start mid read was now ended old new g reads = record {
  packets = g.packets;
  noted = g.noted;
  stops = λ before earlier h. reads before (earlier ++ g.packets) (g.reads before earlier h);
}

pub going_wrong : {A : Type 0} (room : ℕ) (start mid : Seen) (read was now : List ℕ)
    (ended : Type 0) (f : RecordingFault) (old new : Inspection A)
    → Going room start mid read was old new → ReadsFault room was now ended mid f
    → NotesBehind room start read now ended (Some f) old new
going_wrong room start mid read was now ended f old new g reads = record {
  packets = g.packets;
  noted = g.noted;
  stops = λ before earlier h. reads before (earlier ++ g.packets) (g.reads before earlier h);
}

since_is : (before now part : List ℕ) → now ≡ before ++ part → since before now ≡ part
since_is before now part e =
    ap (drop (length before)) e ∙ drop_at before part (length before) refl

-- octets that were read are the part that was given, and what is behind it
octets_are : (before now part : List ℕ) (ended : Type 0) (octets : List ℕ)
    → now ≡ before ++ part → (read : IsRead before now ended octets)
    → octets ≡ part ++ read.behind
octets_are before now part ended octets e read =
    read.parts ∙ ap (λ (x : List ℕ). x ++ read.behind) (since_is before now part e)

from_packets : {A : Type 0} (room : ℕ) (told : List ℕ → Type 0) (end : Option RecordingFault)
    (packets : List Recorded) (old new : Inspection A) → NotesEach packets old new
    → ((octets : List ℕ) → told octets
    → (packets_in room octets ≡ packets) × (fault_in room octets ≡ end))
    → NotesOctets room told end old new
from_packets room told end packets old new notes is = record {
  noted = λ octets t.
      subst (λ (x : List Recorded). NotesEach x old new) (sym (is octets t).0) notes;
  ends = λ octets t. (is octets t).1;
}

all_read : {A : Type 0} (room : ℕ) (before now : List ℕ) (ended : Type 0)
    (packets : List Recorded) (old new : Inspection A) → NotesEach packets old new
    → HasReadAll room before now ended packets
    → NotesOctets room (IsRead before now ended) None old new
all_read room before now ended packets old new notes all =
    from_packets room (IsRead before now ended) None packets old new notes
    (λ octets read.
    let whole : octets ≡ all.part =
    octets_are before now all.part ended octets all.grown read
    ∙ ap (λ (x : List ℕ). all.part ++ x) (read.all all.over) ∙ append-nil all.part in (
      ap (packets_in room) whole ∙ all.packets_are,
      ap (fault_in room) whole ∙ all.none,
    ))

-- what holds at each of some octets of a fault that is the recording's
content_all : (f : RecordingFault) (Told : List ℕ → Type 0) (P : List ℕ → Type 0) (Q : Type 0)
    → ((octets : List ℕ) → Told octets → IfContent f (P octets))
    → (((octets : List ℕ) → Told octets → P octets) → Q) → IfContent f Q
content_all Device Told P Q h k = tt
content_all Truncated Told P Q h k = k h
content_all BadMagic Told P Q h k = k h
content_all BadVersion Told P Q h k = k h
content_all BadBlock Told P Q h k = k h
content_all BadInterface Told P Q h k = k h
content_all TooManyInterfaces Told P Q h k = k h
content_all BadTime Told P Q h k = k h
content_all PacketTooLong Told P Q h k = k h
content_all Packed Told P Q h k = k h
content_all TooManyBlocks Told P Q h k = k h

failed_read : {A : Type 0} (room : ℕ) (before now : List ℕ) (ended : Type 0)
    (f : RecordingFault) (packets : List Recorded) (old new : Inspection A)
    → NotesEach packets old new → HasFailed room before now ended f packets
    → IfContent f (NotesOctets room (IsRead before now ended) (Some f) old new)
failed_read room before now ended f packets old new notes failed =
    content_all f (IsRead before now ended)
    (λ octets. (packets_in room octets ≡ packets) × (fault_in room octets ≡ Some f))
    (NotesOctets room (IsRead before now ended) (Some f) old new)
    (λ octets read.
    let whole : octets ≡ failed.part ++ read.behind =
    octets_are before now failed.part ended octets failed.grown read in
    subst
    (λ (x : List ℕ). IfContent f ((packets_in room x ≡ packets)
    × (fault_in room x ≡ Some f))) (sym whole)
    (failed.says read.behind read.all))
    (from_packets room (IsRead before now ended) (Some f) packets old new notes)

-- where reading has stopped, what was noted is what was read
pub stopped : {A : Type 0} (room : ℕ) (before now : List ℕ) (ended : Type 0)
    (end : Option RecordingFault) (packets : List Recorded) (old new : Inspection A)
    → NotesEach packets old new → HasReadUpTo room before now ended end packets
    → NotesUnless room (IsRead before now ended) end old new
stopped room before now ended None packets old new notes all =
    all_read room before now ended packets old new notes all
stopped room before now ended (Some f) packets old new notes failed =
    failed_read room before now ended f packets old new notes failed

-- of a recording that was opened
pub behind_noted : {A E : Type 0} (r : Result (Option RecordingFault) E) (room n : ℕ)
    (seen : Seen) (before read now : List ℕ) (ended : Type 0) (old new : Inspection A) → n ≡ room
    → HasRead room before read seen []
    → IfOk r (λ end. NotesBehind n seen read now ended end old new)
    → IfOk r (λ end. NotesUnless room (IsRead before now ended) end old new)
behind_noted (Ok end) room n seen before read now ended old new e h noted =
    let b : NotesBehind room seen read now ended end old new =
    subst (λ (m : ℕ). NotesBehind m seen read now ended end old new) e noted in
    stopped room before now ended end b.packets old new b.noted (b.stops before [] h)
behind_noted (Err f) room n seen before read now ended old new e h noted = tt

-- ---- recordings

all_more : {X : Type 0} (p : X → Bool) (xs : List X) (x : X) → list_all p xs ≡ true
    → p x ≡ true → list_all p (xs ++ x ∷ []) ≡ true
all_more p [] x e q = ap (λ (b : Bool). b && true) q
all_more p (y ∷ xs) x e q = grind (arith, all_more p xs x)

any_more : {X : Type 0} (p : X → Bool) (xs : List X) (x : X)
    → list_any p (xs ++ x ∷ []) ≡ (list_any p xs || p x)
any_more p [] x = or_false (p x)
  where
    or_false : (b : Bool) → (b || false) ≡ b
    or_false true = refl
    or_false false = refl
any_more p (y ∷ xs) x =
    ap (λ (b : Bool). p y || b) (any_more p xs x) ∙ or_assoc (p y) (list_any p xs) (p x)
  where
    or_assoc : (a b c : Bool) → (a || (b || c)) ≡ ((a || b) || c)
    or_assoc true b c = refl
    or_assoc false b c = refl

told_end : (cut : Bool) → is_told (end_of cut) ≡ true
told_end true = refl
told_end false = refl

cut_end : (cut : Bool) → is_cut (end_of cut) ≡ cut
cut_end true = refl
cut_end false = refl

pub none_noted : {S A : Type 0} (room : ℕ) (told : S → List ℕ → Type 0) (s : Inspection A)
    → NotesAll room told [] false s s
none_noted room told s = record {
  noted = noted;
  ends = ends;
  cuts = cuts;
}
  where
    noted : (octets : List (List ℕ)) → AllZip told [] octets
        → NotesEach (flat_map (packets_in room) octets) s s
    noted [] t = notes_none s
    noted (o ∷ octets) t = absurd t

    ends : (octets : List (List ℕ)) → AllZip told [] octets
        → list_all (λ o. is_told (fault_in room o)) octets ≡ true
    ends [] t = refl
    ends (o ∷ octets) t = absurd t

    cuts : (octets : List (List ℕ)) → AllZip told [] octets
        → false ≡ list_any (λ o. is_cut (fault_in room o)) octets
    cuts [] t = refl
    cuts (o ∷ octets) t = absurd t

one_noted : {S A : Type 0} (room : ℕ) (told : S → List ℕ → Type 0) (xs : List S) (x : S)
    (cut short : Bool) (old mid new : Inspection A) → NotesAll room told xs cut old mid
    → NotesOctets room (told x) (end_of short) mid new
    → NotesAll room told (xs ++ x ∷ []) (cut || short) old new
one_noted room told xs x cut short old mid new all one = record {
  noted = λ octets t.
      let s : Split told xs x octets = split_tell told xs x octets t in
      let packets : flat_map (packets_in room) octets
      ≡ flat_map (packets_in room) s.front ++ packets_in room s.last =
      ap (flat_map (packets_in room)) s.whole
      ∙ flat_map-append (packets_in room) s.front (s.last ∷ [])
      ∙ ap (λ (l : List Recorded). flat_map (packets_in room) s.front ++ l)
      (append-nil (packets_in room s.last)) in
      subst (λ (l : List Recorded). NotesEach l old new) (sym packets)
      (notes_then (flat_map (packets_in room) s.front) (packets_in room s.last) old mid new
      (all.noted s.front s.tell)
      (one.noted s.last s.one));
  ends = λ octets t.
      let s : Split told xs x octets = split_tell told xs x octets t in
      ap (list_all (λ o. is_told (fault_in room o))) s.whole
      ∙ all_more (λ o. is_told (fault_in room o)) s.front s.last (all.ends s.front s.tell)
      (ap is_told (one.ends s.last s.one) ∙ told_end short);
  cuts = λ octets t.
      let s : Split told xs x octets = split_tell told xs x octets t in
      ap (λ (b : Bool). b || short) (all.cuts s.front s.tell)
      ∙ ap (λ (b : Bool). list_any (λ o. is_cut (fault_in room o)) s.front || b)
      (sym (ap is_cut (one.ends s.last s.one) ∙ cut_end short))
      ∙ sym (any_more (λ o. is_cut (fault_in room o)) s.front s.last)
      ∙ ap (list_any (λ o. is_cut (fault_in room o))) (sym s.whole);
}

-- one source more, with what it is then
pairs_more : {S : Type 0} (start now : List S) (k : ℕ) (d y : S) → drop k now ≡ drop k start
    → length now ≡ length start → k < length now → d ≡ get_or now k d
    → zip (take (suc k) start) (take (suc k) (set now k y))
    ≡ zip (take k start) (take k now) ++ (d, y) ∷ []
pairs_more start [] k d y e len lt is = absurd (omega (arith, lt))
pairs_more [] (n ∷ now) k d y e len lt is = absurd (omega (arith, len))
pairs_more {S} (s ∷ start) (n ∷ now) zero d y e len lt is =
    ap (λ (x : S). (x, y) ∷ []) (first_is n s now start e ∙ sym is) where
      first_is : {X : Type 0} (x z : X) (xs zs : List X) → x ∷ xs ≡ z ∷ zs → z ≡ x
      first_is x z xs zs e = cc
pairs_more {S} (s ∷ start) (n ∷ now) (suc k) d y e len lt is =
    ap (λ (l : List (S × S)). (s, n) ∷ l)
    (pairs_more start now k d y e (omega (arith, len)) (omega (arith, lt)) is)

pub more_noted : {S A : Type 0} (room : ℕ) (told : S × S → List ℕ → Type 0)
    (start now : List S) (k : ℕ) (d y : S) (cut short : Bool) (old mid new : Inspection A)
    → NotesAll room told (zip (take k start) (take k now)) cut old mid
    → drop k now ≡ drop k start → length now ≡ length start → k < length now
    → d ≡ get_or now k d → NotesOctets room (told (d, y)) (end_of short) mid new
    → NotesAll room told (zip (take (k + 1) start) (take (k + 1) (set now k y))) (cut || short)
    old new
more_noted {S} {A} room told start now k d y cut short old mid new all e len lt is one =
    let n : suc k ≡ k + 1 = omega arith in
    subst
    (λ (m : ℕ). NotesAll room told (zip (take m start) (take m (set now k y))) (cut || short)
    old new) n
    (subst (λ (l : List (S × S)). NotesAll room told l (cut || short) old new)
    (sym (pairs_more start now k d y e len lt is))
    (one_noted room told (zip (take k start) (take k now)) (d, y) cut short old mid new all one))

-- all of them
pub all_noted : {S A : Type 0} (room : ℕ) (told : S × S → List ℕ → Type 0)
    (start now : List S) (k : ℕ) (cut : Bool) (old new : Inspection A)
    → NotesAll room told (zip (take k start) (take k now)) cut old new → length start ≤ k
    → length now ≡ length start → NotesAll room told (zip start now) cut old new
all_noted {S} room told start now k cut old new all end same =
    subst (λ (l : List S). NotesAll room told (zip l now) cut old new) (take_all k start end)
    (subst (λ (l : List S). NotesAll room told (zip (take k start) l) cut old new)
    (take_all k now (omega (arith, same, end))) all)
