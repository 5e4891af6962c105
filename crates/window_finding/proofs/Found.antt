-- What was found of one file.
use Rattle.std.proofs.Common.{◌≡◌, ℕ, ◌<◌, ◌≤◌, List, [], ◌∷◌, ◌++◌, length, Option, None, Some}
use Rattle.std.proofs.Common.{Result, Ok, Err, inl, inr, refl, sym, ap, subst, ◌∙◌, append_assoc}
use Rattle.std.proofs.Common.{append-nil, arith, take, zero, suc, Bool, true, false}
use Rattle.std.proofs.lemmas.List.{map-append}
use Rattle.std.specs.Prelude.{IsSome, IsTrue, OnErr, OnOk, ⊤, ◌↔◌}
use Rattle.flow.specs.declared.flows.Flows.{Flows}
use Rattle.media_file.specs.Records.{Entry}
use Rattle.recording_reader.specs.FileReader.{FileReader, FindsOne, HasGivenFile, IsKnownBy}
use Rattle.recording_reader.specs.FileReader.{octets_at_hand}
use Rattle.recording_reader.specs.Files.{AreFirst, records_of_file}
use Rattle.recording_reader.specs.declared.way.Standing.{Standing}
use Rattle.recording_reader.specs.declared.way.Standing.TheVariants.{Ended, Reads}
use Rattle.run_outcome.specs.Refusing.{OfRefusal}
use Rattle.run_outcome.specs.declared.fault.Fault.{Fault}
use Rattle.st_format.specs.History.{IsRead}
use Rattle.capture_engines.specs.Files.{IsReadWhole, file_datagrams, flows_in, octets_of}
use Rattle.capture_engines.specs.Received.{IsFrontRefusal, Opens}
use Rattle.capture_engines.specs.Stopping.{IsWithinTaken, StopsOpened}
use Rattle.capture_engines.specs.Taking.{Holding, RecordsGo, said_behind, said_by}
use Rattle.capture_engines.specs.declared.way.Way.{Way}
use Rattle.capture_engines.proofs.Readings.{ended_has, ended_taken, file_goes, said_same}
use Rattle.window_finding.specs.Finding.{AnnouncesType, FindsFile, FindsRecords, FindsSought}
use Rattle.window_finding.specs.Finding.{FindsSoFar, IsFull}
use Rattle.window_finding.specs.First.{first_timestamps}
use Rattle.window_finding.specs.Turns.{IsDone, IsStop}
use Rattle.window_finding.specs.declared.finder.Finder.{Finder}
use Rattle.window_finding.specs.declared.finder.Sought.{Sought}
use Rattle.window_finding.proofs.Noted.{first_full}

-- ---- datagrams

-- the first timestamps, by what is sought
abbrev first_by : Sought → ℕ → List (List ℕ) → List ℕ
first_by p type ds = first_timestamps p.count type p.ssrc ds

-- behind one datagram more
pub turn_found : (p q : Sought) (s t : ℕ) (w w' : List ℕ) (ds came came' : List (List ℕ))
    (d : List ℕ) → q ≡ p → t ≡ s → came' ≡ came ++ d ∷ []
    → ((l : List (List ℕ)) → w ≡ first_by q t l → w' ≡ first_by q t (l ++ d ∷ []))
    → w ≡ first_by p s (ds ++ came) → w' ≡ first_by p s (ds ++ came')
turn_found p q s t w w' ds came came' d sought type more noted is =
    let all : List (List ℕ) = ds ++ came in
    noted all
    (is ∙ ap (λ (x : Sought). first_by x s all) (sym sought)
    ∙ ap (λ (n : ℕ). first_by q n all) (sym type))
    ∙ ap (λ (x : Sought). first_by x t (all ++ d ∷ [])) sought
    ∙ ap (λ (n : ℕ). first_by p n (all ++ d ∷ [])) type
    ∙ ap (λ (l : List (List ℕ)). first_by p s l)
    (append_assoc ds came (d ∷ []) ∙ ap (λ (l : List (List ℕ)). ds ++ l) (sym more))

-- where no record was read
pub none_came : {A : Type 0} (b : Finder A) (ds : List (List ℕ)) (records : List Entry)
    → records ≡ [] → b.window.items ≡ first_by b.sought b.payload_type ds
    → b.window.items ≡ first_by b.sought b.payload_type (ds ++ octets_of records)
none_came b ds records none is =
    is
    ∙ ap (first_by b.sought b.payload_type)
    (sym (ap (λ (es : List Entry). ds ++ octets_of es) none ∙ append-nil ds))

-- the datagrams of one record more
pub record_came : {S : Type 0} (old new : FileReader S) (octets : List ℕ) → FindsOne old new
    → octets ≡ octets_at_hand new.at_hand
    → octets_of new.records ≡ octets_of old.records ++ octets ∷ []
record_came old new octets found is =
    let one : octets ≡ found.entry.octets = is ∙ ap octets_at_hand found.at_hand in
    ap octets_of found.records
    ∙ map-append (λ (e : Entry). e.octets) old.records (found.entry ∷ [])
    ∙ ap (λ (l : List ℕ). octets_of old.records ++ l ∷ []) (sym one)

-- by what a finder sought, a list of timestamps is the first of these datagrams
abbrev pub IsFirst : {A : Type 0} → Finder A → List ℕ → List (List ℕ) → Type 0
IsFirst b w ds = w ≡ first_by b.sought b.payload_type ds

-- those of more datagrams were found
pub record FindsMore {A : Type 0} (xs : List (List ℕ)) (b a : Finder A) : Type 0 where
  pub sought : a.sought ≡ b.sought
  pub payload_type : a.payload_type ≡ b.payload_type
  pub finds : (ds : List (List ℕ)) → IsFirst b b.window.items ds
      → IsFirst b a.window.items (ds ++ xs)

-- ---- a file

found_by : {A : Type 0} (o : Sought) (said : List ℕ) (b a : Finder A)
    (xs ds : List (List ℕ)) → FindsMore xs b a → FindsSought o said b ds
    → FindsSought o said a (ds ++ xs)
found_by o said b a xs ds found before = record {
  sought = found.sought ∙ before.sought;
  announced = subst (λ (n : ℕ). AnnouncesType said n) (sym found.payload_type) before.announced;
  first =
      found.finds ds
      (before.first ∙ ap (λ (p : Sought). first_by p b.payload_type ds) (sym before.sought))
      ∙ ap (λ (p : Sought). first_by p b.payload_type (ds ++ xs)) before.sought
      ∙ ap (λ (n : ℕ). first_by o n (ds ++ xs)) (sym found.payload_type);
}

-- so one that had begun by a text stands by it
stands_by : {A : Type 0} (o : Sought) (text : List ℕ) (b a : Finder A) (xs : List (List ℕ))
    → FindsMore xs b a → (said : Option (List ℕ)) (ds : List (List ℕ))
    → FindsSoFar o (Some b) said ds → FindsSoFar o (Some a) (said_by said text) (ds ++ xs)
stands_by o text b a xs found None ds stands = absurd stands
stands_by o text b a xs found (Some said) ds stands = found_by o said b a xs ds found stands

-- one that began with the file stands by its text
begun_by : {A : Type 0} (o : Sought) (text : List ℕ) (b a : Finder A) (xs : List (List ℕ))
    → FindsMore xs b a → FindsSought o text b [] → (said : Option (List ℕ)) (ds : List (List ℕ))
    → FindsSoFar {A = A} o None said ds → FindsSoFar o (Some a) (said_by said text) (ds ++ xs)
begun_by o text b a xs found begun (Some said) ds stands = absurd stands
begun_by o text b a xs found begun None ds stands =
    found_by o text b a xs ds found
    (subst (λ (l : List (List ℕ)). FindsSought o text b l) (sym stands) begun)

pub records_found : {A : Type 0} (o : Sought) (text : List ℕ) (begun : Option (Finder A))
    (b a : Finder A) (xs : List (List ℕ)) → begun ≡ Some b → FindsMore xs b a
    → FindsRecords o text xs begun (Some a)
records_found {A} o text begun b a xs is found =
    subst (λ (s : Option (Finder A)). FindsRecords o text xs s (Some a)) (sym is) (record {
      stands = λ said ds stands. stands_by o text b a xs found said ds stands;
    })

pub first_found : {A : Type 0} (o : Sought) (text : List ℕ) (begun : Option (Finder A))
    (b a : Finder A) (xs : List (List ℕ)) → begun ≡ None → FindsSought o text b []
    → FindsMore xs b a → FindsRecords o text xs begun (Some a)
first_found {A} o text begun b a xs is opened found =
    subst (λ (s : Option (Finder A)). FindsRecords o text xs s (Some a)) (sym is) (record {
      stands = λ said ds stands. begun_by o text b a xs found opened said ds stands;
    })

-- ---- where all are found

-- whether they are
pub is_full : {P : Type 0} (b : Bool) → (IsTrue b ↔ P) → b ≡ true → P
is_full b full is = full.0 is

pub not_full : {P : Type 0} (b : Bool) → (IsTrue b ↔ P) → b ≡ false → P → ⊥
not_full b full is p = let no : false ≡ true = sym is ∙ full.1 p in cc

pub ok_any : {V E : Type 0} (r : Result V E) (P : Type 0) → P → OnOk r P
ok_any (Ok v) P p = p
ok_any (Err e) P p = tt

pub err_any : {V E : Type 0} (r : Result V E) (P : Type 0) → P → OnErr r P
err_any (Ok v) P p = tt
err_any (Err e) P p = p

-- where all are, it has begun
pub full_begun : {A : Type 0} (begun : Option (Finder A)) → IsFull begun → begun ≡ None → ⊥
full_begun None full none = full
full_begun (Some s) full none = cc

full_on : {A : Type 0} (o : Sought) (a : Option (Finder A)) (said : Option (List ℕ))
    (ds more : List (List ℕ)) → IsFull a → FindsSoFar o a said ds → FindsSoFar o a said (ds ++ more)
full_on o None said ds more full stands = absurd full
full_on o (Some s) None ds more full stands = absurd stands
full_on o (Some s) (Some said) ds more full stands = record {
  sought = stands.sought;
  announced = stands.announced;
  first =
      first_full o.count s.payload_type o.ssrc ds more s.window.items stands.first
      (subst (λ (p : Sought). p.count ≤ length s.window.items) stands.sought full);
}

-- a file that is not looked at
full_stays : {A : Type 0} (o : Sought) (s : Finder A) (octets : List ℕ)
    (said : Option (List ℕ)) (ds more : List (List ℕ)) → IsFull (Some s)
    → FindsSoFar o (Some s) said ds
    → FindsSoFar o (Some s) (said_behind said (octets ∷ [])) (ds ++ more)
full_stays o s octets None ds more full stands = absurd stands
full_stays o s octets (Some said) ds more full stands =
    full_on o (Some s) (Some said) ds more full stands

pub full_found : {A : Type 0} (o : Sought) (w : Way) (told : List ℕ → Type 0)
    (begun : Option (Finder A)) → IsFull begun → FindsFile o w told begun begun
full_found o w told None full = absurd full
full_found o w told (Some s) full = record {
  stands = λ octets said ds known stands.
      full_stays o s octets said ds (file_datagrams w octets) full stands;
}

-- one that was looked at up to there
full_goes : {S A : Type 0} (o : Sought) (gave : S → List ℕ) (ended : S → Type 0)
    (r : FileReader S) (w : Way) (text : List ℕ) (b a : Option (Finder A))
    → r.flows ≡ flows_in w → text ≡ r.text → r.standing ≡ Reads → IsFull a
    → HasGivenFile gave ended r → FindsRecords o text (octets_of r.records) b a
    → FindsFile o w (IsRead r.before.gave (gave r.source) (ended r.source)) b a
full_goes o gave ended r w text b a by same reads full given found = record {
  stands = λ octets said ds read stands.
      let known = given octets read in
      let first : AreFirst r.records (records_of_file r.flows octets) =
      subst (λ (s : Standing). IsKnownBy r.flows s octets r.records r.left_out) reads known.known
      in
      let all : octets_of r.records ++ octets_of first.0 ≡ file_datagrams w octets =
      sym (map-append (λ (e : Entry). e.octets) r.records first.0)
      ∙ ap octets_of (sym first.1
      ∙ ap (λ (f : Option Flows). records_of_file f octets) by) in
      subst (λ (t : Option (List ℕ)). FindsSoFar o a t (ds ++ file_datagrams w octets))
      (said_same said text octets (known.text ∙ sym same))
      (subst (λ (l : List (List ℕ)). FindsSoFar o a (said_by said text) l)
      (append_assoc ds (octets_of r.records) (octets_of first.0)
      ∙ ap (λ (l : List (List ℕ)). ds ++ l) all)
      (full_on o a (said_by said text) (ds ++ octets_of r.records) (octets_of first.0) full
      (found.stands said ds stands)));
}

-- a file was looked at, to its end or up to where all were found
file_found : {S A : Type 0} (o : Sought) (gave : S → List ℕ) (ended : S → Type 0)
    (r : FileReader S) (w : Way) (text : List ℕ) (b a : Option (Finder A))
    → r.flows ≡ flows_in w → text ≡ r.text → IsDone r.standing (IsFull a)
    → HasGivenFile gave ended r → FindsRecords o text (octets_of r.records) b a
    → FindsFile o w (IsRead r.before.gave (gave r.source) (ended r.source)) b a
file_found o gave ended r w text b a by same (inl over) given found =
    file_goes w (IsRead r.before.gave (gave r.source) (ended r.source)) text r.records
    (FindsSoFar o b) (FindsSoFar o a) (ended_has gave ended r w text by same over given) found
file_found o gave ended r w text b a by same (inr full) given found =
    full_goes o gave ended r w text b a by same full.0 full.1 given found

-- of a source that is lent to the reader, and is as it was left
pub file_found_if : {S T A V E : Type 0} (o : Sought) (r : FileReader S) (at : S → T)
    (gave : T → List ℕ) (ended : T → Type 0) (old new : T) (w : Way) (text : List ℕ)
    (b a : Option (Finder A)) (result : Result V E) → r.before.gave ≡ gave old
    → new ≡ at r.source → r.flows ≡ flows_in w → text ≡ r.text
    → OnOk result (IsDone r.standing (IsFull a))
    → HasGivenFile (λ (s : S). gave (at s)) (λ (s : S). ended (at s)) r
    → OnOk result (FindsRecords o text (octets_of r.records) b a)
    → OnOk result (FindsFile o w (IsRead (gave old) (gave new) (ended new)) b a)
file_found_if {S} {T} o r at gave ended old new w text b a (Ok v) before now by same done given
    found =
    subst (λ (t : T). FindsFile o w (IsRead (gave old) (gave t) (ended t)) b a) (sym now)
    (subst (λ (l : List ℕ). FindsFile o w (IsRead l (gave (at r.source)) (ended (at r.source))) b
    a) before
    (file_found o (λ (s : S). gave (at s)) (λ (s : S). ended (at s)) r w text b a by same done
    given found))
file_found_if o r at gave ended old new w text b a (Err e) before now by same done given found =
    tt

-- ---- a file that was read to its end

-- whatever text and datagrams there are
abbrev pub Any : Holding
Any said datagrams = ⊤

is_over : (stands : Standing) (Full : Type 0) → IsDone stands Full → (Full → ⊥) → stands ≡ Ended
is_over stands Full (inl over) lacks = over
is_over stands Full (inr full) lacks = absurd (lacks full.1)

few_read : (stands : Standing) (count : ℕ) → IsWithinTaken stands count → stands ≡ Ended
    → count < 16777216
few_read stands count (inl few) over = few
few_read stands count (inr reads) over = absurd (apart (sym reads ∙ over))
  where
    apart : Reads ≡ Ended → ⊥
    apart same = cc

-- where not all are found then, it has no fault
pub whole_if : {S T A V E : Type 0} (r : FileReader S) (at : S → T) (gave : T → List ℕ)
    (ended : T → Type 0) (old new : T) (w : Way) (a : Option (Finder A)) (result : Result V E)
    → r.before.gave ≡ gave old → new ≡ at r.source → r.flows ≡ flows_in w
    → (r.is_recording ≡ true → IsSome r.flows)
    → OnOk result (IsDone r.standing (IsFull a)) → IsWithinTaken r.standing (length r.records)
    → HasGivenFile (λ (s : S). gave (at s)) (λ (s : S). ended (at s)) r
    → OnOk result ((IsFull a → ⊥) → IsReadWhole w (IsRead (gave old) (gave new) (ended new)))
whole_if {S} {T} {A} {V} {E} r at gave ended old new w a (Ok v) before now by kind done within
    given = λ lacks.
    let over : r.standing ≡ Ended = is_over r.standing (IsFull a) done lacks in
    (ended_taken {E = E} r at gave ended old new w r.text Any Any (Ok v) before now by refl kind
    over (few_read r.standing (length r.records) within over) given any_records).1
  where
    any_records : RecordsGo r.text (octets_of r.records) Any Any
    any_records = record { stands = λ said ds any. tt }
whole_if r at gave ended old new w a (Err e) before now by kind done within given = tt

-- ---- what ended it

-- as `receive` tells that; where memory was wanted it is no refusal
pub stop_told : (window text : List ℕ) (Unopened : Type 0) (standing : Standing) (count : ℕ)
    (f : Fault) → (Unopened → Opens window text) → IsWithinTaken standing count
    → IsStop standing count f → StopsOpened window text Unopened standing count f
stop_told window text Unopened standing count f opens within (inl stop) =
    inl (opens, within, stop)
stop_told window text Unopened standing count f opens within (inr wanted) =
    inr (subst (λ (x : Fault). OfRefusal x (λ r. Unopened × IsFrontRefusal window text r))
    (sym wanted.1) tt)

-- ---- the beginning

nothing : (n : ℕ) → let none : List ℕ = [] in none ≡ take n none
nothing zero = refl
nothing (suc n) = refl

-- a text that announces a payload type opens a receiver of one timestamp
pub announced_opens : (text : List ℕ) (number : ℕ) → AnnouncesType text number
    → Opens (0 ∷ []) text
announced_opens text number says = record {
  sdp = (says.description, says.described);
  is_window = record {
    size = record { some = omega arith; most = omega arith };
    different = (λ member. member, tt);
  };
}
