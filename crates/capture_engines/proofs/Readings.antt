-- What was taken of a file that a reader read.
use Rattle.std.proofs.Common.{◌≡◌, ◌⊎◌, inl, inr, ◌∙◌, ℕ, List, [], ◌∷◌, ◌++◌, Option, None, Some}
use Rattle.std.proofs.Common.{Result, Ok, Err, refl, sym, ap, subst, append-nil}
use Rattle.std.proofs.Common.{false, length, true, ◌<◌}
use Rattle.std.specs.Prelude.{IfErr, IsSome, OnOk}
use Rattle.std.proofs.lemmas.List.{map-append}
use Rattle.flow.specs.declared.flows.Flows.{Flows}
use Rattle.media_file.specs.Records.{Entry}
use Rattle.recording_reader.specs.FileReader.{FileReader, HasGivenFile, IsKnownBy, IsSameFile}
use Rattle.recording_reader.specs.Files.{AreFirst, HaveFileRecords, IfFile, IsFileFault}
use Rattle.recording_reader.specs.Files.{IsWholeFile, records_of_file, text_of_file}
use Rattle.recording_reader.specs.Kinds.{is_recording}
use Rattle.recording_reader.specs.declared.way.Standing.{Standing}
use Rattle.recording_reader.specs.declared.way.Standing.TheVariants.{Ended, Failed, Reads}
use Rattle.recording_reader.specs.declared.fault.ReadingFault.{ReadingFault}
use Rattle.recording_reader.specs.declared.fault.ReadingFault.TheVariants.{Capture, Recording}
use Rattle.recording_counts.specs.declared.left_out.LeftOut.{LeftOut}
use Rattle.media_file.specs.declared.fault.FileFault.TheVariants as file
use Rattle.pcap_file.specs.declared.fault.RecordingFault.TheVariants as recording
use Rattle.run_outcome.specs.Refusing.{OfRefusal}
use Rattle.run_outcome.proofs.Refusals.{of_refusal_map}
use Rattle.run_outcome.specs.declared.fault.Fault.{Fault}
use Rattle.run_outcome.specs.LowerFaults.{reading_fault}
use Rattle.st_format.specs.History.{IsRead, since}
use Rattle.capture_engines.specs.Rescued.{IsFrontOf, MayTake}
use Rattle.capture_engines.specs.Stopping.{IsReadingStop}
use Rattle.capture_engines.specs.declared.intake.Intake.{Intake}
use Rattle.capture_engines.specs.declared.receiving.Asked.{Asked}
use Rattle.capture_engines.specs.Files.{IsReadWhole, file_datagrams, flows_in, octets_of}
use Rattle.capture_engines.specs.Taking.{FileGoes, Holding, RecordsGo, TakesRecords}
use Rattle.capture_engines.specs.Taking.{said_behind, said_by}
use Rattle.capture_engines.specs.declared.way.Way.{Way}

-- a file stays the same over two calls
pub same_twice : {S : Type 0} (a b c : FileReader S) → IsSameFile a b → IsSameFile b c
    → IsSameFile a c
same_twice a b c first more = record {
  before = more.before ∙ first.before;
  flows = more.flows ∙ first.flows;
  kind = more.kind ∙ first.kind;
  text = more.text ∙ first.text;
}

pub said_same : (said : Option (List ℕ)) (text octets : List ℕ) → text_of_file octets ≡ text
    → said_by said text ≡ said_behind said (octets ∷ [])
said_same None text octets is = ap (λ (t : List ℕ). Some t) (sym is)
said_same (Some said) text octets is = refl

-- a file has the records and the text that were read
abbrev pub Has : Way → List ℕ → List Entry → List ℕ → Type 0
Has w octets records text =
    (records_of_file (flows_in w) octets ≡ records) × (text_of_file octets ≡ text)

pub file_goes : (w : Way) (told : List ℕ → Type 0) (text : List ℕ) (records : List Entry)
    (B A : Holding) → ((octets : List ℕ) → told octets → Has w octets records text)
    → RecordsGo text (octets_of records) B A → FileGoes w told B A
file_goes w told text records B A has taken = record {
  stands = λ octets said ds read stands.
      let k : Has w octets records text = has octets read in
      subst (λ (t : Option (List ℕ)). A t (ds ++ file_datagrams w octets))
      (said_same said text octets k.1)
      (subst (λ (es : List Entry). A (said_by said text) (ds ++ octets_of es)) (sym k.0)
      (taken.stands said ds stands));
}

-- at its end
pub ended_has : {S : Type 0} (gave : S → List ℕ) (ended : S → Type 0) (r : FileReader S)
    (w : Way) (text : List ℕ) → r.flows ≡ flows_in w → text ≡ r.text → r.standing ≡ Ended
    → HasGivenFile gave ended r → (octets : List ℕ)
    → IsRead r.before.gave (gave r.source) (ended r.source) octets → Has w octets r.records text
ended_has gave ended r w text by same over given octets read =
    let known = given octets read in
    let have : HaveFileRecords r.flows octets r.records r.left_out =
    (subst (λ (s : Standing). IsKnownBy r.flows s octets r.records r.left_out) over known.known).0
    in (
      subst (λ (f : Option Flows). records_of_file f octets ≡ r.records) by have.records_are,
      known.text ∙ sym same,
    )

-- of a source that is lent to the reader, and is as it was left
pub ended_goes : {S T V E : Type 0} (r : FileReader S) (at : S → T) (gave : T → List ℕ)
    (ended : T → Type 0) (old new : T) (w : Way) (text : List ℕ) (B A : Holding)
    (result : Result V E) → r.before.gave ≡ gave old → new ≡ at r.source → r.flows ≡ flows_in w
    → text ≡ r.text → OnOk result (r.standing ≡ Ended)
    → HasGivenFile (λ (s : S). gave (at s)) (λ (s : S). ended (at s)) r
    → OnOk result (RecordsGo text (octets_of r.records) B A)
    → OnOk result (FileGoes w (IsRead (gave old) (gave new) (ended new)) B A)
ended_goes {S} {T} r at gave ended old new w text B A (Ok v) before now by same over given taken =
    let left : T = at r.source in
    subst (λ (t : T). FileGoes w (IsRead (gave old) (gave t) (ended t)) B A) (sym now)
    (subst (λ (l : List ℕ). FileGoes w (IsRead l (gave left) (ended left)) B A) before
    (file_goes w (IsRead r.before.gave (gave left) (ended left)) text r.records B A
    (ended_has (λ (s : S). gave (at s)) (λ (s : S). ended (at s)) r w text by same over given)
    taken))
ended_goes r at gave ended old new w text B A (Err e) before now by same over given taken = tt

-- it has no fault, and fewer records than are taken
ended_whole : {S : Type 0} (gave : S → List ℕ) (ended : S → Type 0) (r : FileReader S)
    (w : Way) → r.flows ≡ flows_in w → (r.is_recording ≡ true → IsSome r.flows)
    → r.standing ≡ Ended → length r.records < 16777216 → HasGivenFile gave ended r
    → IsReadWhole w (IsRead r.before.gave (gave r.source) (ended r.source))
ended_whole gave ended r w by kind over few given = λ octets read.
    let known = given octets read in
    let is : HaveFileRecords r.flows octets r.records r.left_out × IsWholeFile octets =
    subst (λ (s : Standing). IsKnownBy r.flows s octets r.records r.left_out) over known.known in
    record {
      whole = is.1;
      few =
          subst (λ (f : Option Flows). length (records_of_file f octets) < 16777216) by
          (subst (λ (es : List Entry). length es < 16777216) (sym is.0.records_are) few);
      by_flows = λ recording.
          subst (λ (f : Option Flows). IsSome f) by (kind (sym known.kind ∙ recording));
    }

pub ended_taken : {S T V E : Type 0} (r : FileReader S) (at : S → T) (gave : T → List ℕ)
    (ended : T → Type 0) (old new : T) (w : Way) (text : List ℕ) (B A : Holding)
    (result : Result V E) → r.before.gave ≡ gave old → new ≡ at r.source → r.flows ≡ flows_in w
    → text ≡ r.text → (r.is_recording ≡ true → IsSome r.flows)
    → OnOk result (r.standing ≡ Ended) → OnOk result (length r.records < 16777216)
    → HasGivenFile (λ (s : S). gave (at s)) (λ (s : S). ended (at s)) r
    → OnOk result (RecordsGo text (octets_of r.records) B A)
    → OnOk result (FileGoes w (IsRead (gave old) (gave new) (ended new)) B A
    × IsReadWhole w (IsRead (gave old) (gave new) (ended new)))
ended_taken {S} {T} {V} {E} r at gave ended old new w text B A (Ok v) before now by same kind over
    few given taken =
    let left : T = at r.source in (
      ended_goes {E = E} r at gave ended old new w text B A (Ok v) before now by same over given
          taken,
      subst (λ (t : T). IsReadWhole w (IsRead (gave old) (gave t) (ended t))) (sym now)
          (subst (λ (l : List ℕ). IsReadWhole w (IsRead l (gave left) (ended left))) before
          (ended_whole (λ (s : S). gave (at s)) (λ (s : S). ended (at s)) r w by kind over few
          given)),
    )
ended_taken r at gave ended old new w text B A (Err e) before now by same kind over few given
    taken = tt

-- ---- at a fault

-- what is known of its first datagrams
front_first : (flows : Option Flows) (standing : Standing) (octets : List ℕ)
    (records : List Entry) (left : LeftOut) → IsKnownBy flows standing octets records left
    → AreFirst records (records_of_file flows octets)
front_first flows Reads octets records left known = known
front_first flows Ended octets records left known =
    ([], known.0.records_are ∙ sym (append-nil records))
front_first flows (Failed g) octets records left known = known.0

firsts : (w : Way) (octets : List ℕ) (records : List Entry)
    → AreFirst records (records_of_file (flows_in w) octets)
    → (rest : List (List ℕ)) × (file_datagrams w octets ≡ octets_of records ++ rest)
firsts w octets records (more, is) =
    (octets_of more, ap octets_of is ∙ map-append (λ (e : Entry). e.octets) records more)

-- all that was read has, where it ended by a refusal
known_here : (flows : Option Flows) (g : ReadingFault) (octets : List ℕ) (records : List Entry)
    (left : LeftOut) → IfFile g (HaveFileRecords flows octets records left × IsFileFault g octets)
    → OfRefusal (reading_fault g) (λ r. records_of_file flows octets ≡ records)
known_here flows (Capture file.NoMemory) octets records left known = tt
known_here flows (Capture file.Device) octets records left known = tt
known_here flows (Capture f) octets records left known = known.0.records_are
known_here flows (Recording recording.Device) octets records left known = tt
known_here flows (Recording f) octets records left known = known.0.records_are

-- what was taken of a file up to what ended its reading
module _ {S : Type 0} (gave : S → List ℕ) (ended : S → Type 0) (r : FileReader S) (w : Way)
    (by : r.flows ≡ flows_in w) (given : HasGivenFile gave ended r) where
  abbrev here : List ℕ
  here = since r.before.gave (gave r.source)

  read_here : IsRead r.before.gave (gave r.source) (ended r.source) here
  read_here = record { behind = []; parts = sym (append-nil here); all = λ _. refl }

  pub refused_here : (f : Fault) → IsReadingStop r.standing (length r.records) f
      → (r.standing ≡ Reads → HaveFileRecords r.flows here r.records r.left_out)
      → OfRefusal f (λ x. records_of_file r.flows here ≡ r.records)
  refused_here f (inl (g, failed, is)) between =
      subst (λ (x : Fault). OfRefusal x (λ y. records_of_file r.flows here ≡ r.records)) (sym is)
      (known_here r.flows g here r.records r.left_out
      (subst (λ (s : Standing). IsKnownBy r.flows s here r.records r.left_out) failed
      (given here read_here).known).1)
  refused_here f (inr (reads, is, count)) between =
      subst (λ (x : Fault). OfRefusal x (λ y. records_of_file r.flows here ≡ r.records)) (sym is)
      (between reads).records_are

-- so of a source that was lent to the reader, and is as it was left
front_of : {S T : Type 0} (r : FileReader S) (at : S → T) (gave : T → List ℕ)
    (ended : T → Type 0) (w : Way) (f : Fault) (text : List ℕ) (old new : T)
    → r.before.gave ≡ gave old → new ≡ at r.source → r.flows ≡ flows_in w → text ≡ r.text
    → HasGivenFile (λ (s : S). gave (at s)) (λ (s : S). ended (at s)) r
    → (r.standing ≡ Reads → HaveFileRecords r.flows (since r.before.gave (gave (at r.source)))
    r.records r.left_out)
    → (r.is_recording ≡ false
    → HaveFileRecords r.flows (since r.before.gave (gave (at r.source))) r.records r.left_out)
    → IsReadingStop r.standing (length r.records) f
    → IsFrontOf w gave ended f (old, new)
    (record { text = text; datagrams = octets_of r.records })
front_of {S} {T} r at gave ended w f text old new before now by same given between capture stop =
    let left : T = at r.source in
    let gave_by : S → List ℕ = λ (s : S). gave (at s) in
    let ended_by : S → Type 0 = λ (s : S). ended (at s) in
    let all : List ℕ = since r.before.gave (gave left) in
    let back : (octets : List ℕ) → IsRead (gave old) (gave left) (ended left) octets
    → IsRead r.before.gave (gave left) (ended left) octets =
    λ octets read.
    subst (λ (l : List ℕ). IsRead l (gave left) (ended left) octets) (sym before) read in
    let datagrams : records_of_file r.flows all ≡ r.records
    → file_datagrams w all ≡ octets_of r.records =
    λ is. ap octets_of (ap (λ (x : Option Flows). records_of_file x all) (sym by) ∙ is) in
    let itself : IsRead r.before.gave (gave left) (ended left) all =
    read_here gave_by ended_by r w by given in
    subst (λ (t : T). IsFrontOf w gave ended f (old, t)
    (record { text = text; datagrams = octets_of r.records })) (sym now)
    (record {
      text = λ octets read. (given octets (back octets read)).text ∙ sym same;
      first = λ octets read.
          firsts w octets r.records
          (subst (λ (x : Option Flows). AreFirst r.records (records_of_file x octets)) by
          (front_first r.flows r.standing octets r.records r.left_out
          (given octets (back octets read)).known));
      given =
          subst (λ (l : List ℕ). is_recording (since l (gave left)) ≡ false
          → file_datagrams w (since l (gave left)) ≡ octets_of r.records) before
          (λ kind. datagrams (capture (sym (given all itself).kind ∙ kind)).records_are);
      refused =
          subst (λ (l : List ℕ). OfRefusal f
          (λ _. file_datagrams w (since l (gave left)) ≡ octets_of r.records)) before
          (of_refusal_map f (λ x is. datagrams is)
          (refused_here gave_by ended_by r w by given f stop between));
    })

-- so a file's part was taken
pub part_taken : {S T A V : Type 0} (o : Asked A) (r : FileReader S) (at : S → T)
    (gave : T → List ℕ) (ended : T → Type 0) (old new : T) (w : Way) (text : List ℕ)
    (b a : Option (Intake A)) (Opening : Fault → Type 0) (result : Result V Fault)
    → r.before.gave ≡ gave old → new ≡ at r.source → r.flows ≡ flows_in w → text ≡ r.text
    → HasGivenFile (λ (s : S). gave (at s)) (λ (s : S). ended (at s)) r
    → (r.standing ≡ Reads → HaveFileRecords r.flows (since r.before.gave (gave (at r.source)))
    r.records r.left_out)
    → (r.is_recording ≡ false
    → HaveFileRecords r.flows (since r.before.gave (gave (at r.source))) r.records r.left_out)
    → IfErr result (λ f. (TakesRecords o text (octets_of r.records) b a
    × IsReadingStop r.standing (length r.records) f) ⊎ ((a ≡ b) × Opening f))
    → IfErr result (λ f. MayTake o w gave ended f b a (old, new))
part_taken o r at gave ended old new w text b a Opening (Ok v) before now by same given between
    capture stop = tt
part_taken o r at gave ended old new w text b a Opening (Err f) before now by same given between
    capture (inl (taken, stop)) =
    inl (
      record { text = text; datagrams = octets_of r.records },
      front_of r at gave ended w f text old new before now by same given between capture stop,
      taken,
    )
part_taken o r at gave ended old new w text b a Opening (Err f) before now by same given between
    capture (inr none) = inr none.0
