-- What was noted of a file that a reader read.
use Rattle.std.proofs.Common.{◌≡◌, ◌∙◌, ℕ, inl, inr, List, [], ◌∷◌, ◌++◌, length, Bool, true}
use Rattle.std.proofs.Common.{false, Option, None, Some, Result, Ok, Err, refl, ap, sym, subst}
use Rattle.std.specs.Prelude.{IfErr, IfOk, IsSome, MatchOption, OnOk}
use Rattle.capture_engines.specs.Files.{HasFileText, flows_in}
use Rattle.capture_engines.specs.Received.{IsFrontRefusal, StopsFront}
use Rattle.capture_engines.specs.declared.way.Way.{Way}
use Rattle.run_outcome.proofs.Blaming.{reading_blamed}
use Rattle.run_outcome.proofs.Refusals.{of_refusal_map}
use Rattle.capture_engines.proofs.ReceivedRefusals.{no_text, text_opens}
use Rattle.flow.specs.declared.flows.Flows.{Flows}
use Rattle.media_file.specs.Faults.{file_fault_origin}
use Rattle.media_file.specs.Records.{Entry, records_text}
use Rattle.pcap_file.specs.Fields.{recording_fault_origin}
use Rattle.recording_reader.specs.FileReader.{FileReader, HasGivenFile, HasGivenRecords, IsKnownBy}
use Rattle.recording_reader.specs.Files.{AreFirst, HasFrontBy, HaveFileRecords, IfFile}
use Rattle.recording_reader.specs.Files.{IsFileFault}
use Rattle.recording_reader.specs.Files.{records_of_file, text_of_file}
use Rattle.recording_reader.specs.Kinds.{is_recording}
use Rattle.recording_reader.specs.declared.fault.ReadingFault.{ReadingFault}
use Rattle.recording_reader.specs.declared.fault.ReadingFault.TheVariants.{Capture, Recording}
use Rattle.recording_reader.specs.declared.way.Standing.{Standing}
use Rattle.recording_reader.specs.declared.way.Standing.TheVariants.{Ended, Failed, Reads}
use Rattle.run_outcome.specs.Fault.{Accounts, counts}
use Rattle.run_outcome.specs.Refusing.{OfRefusal}
use Rattle.run_outcome.specs.declared.fault.Fault.{Fault}
use Rattle.run_outcome.specs.LowerFaults.{reading_fault}
use Rattle.st_format.specs.Given.{IfOfContent, OfContent, OfDevice, OfMemory, Origin}
use Rattle.st_format.specs.History.{IsRead}
use Rattle.st_format.proofs.Origins.{if_content, if_content_weaker}
use Rattle.stream_inspection.specs.Aim.{AnnouncesTarget}
use Rattle.stream_inspection.specs.Inspected.{IsInspected, Notes}
use Rattle.stream_inspection.specs.Read.{EndsAfter, IfEnd, IsStartRefusal, MayBe}
use Rattle.stream_inspection.specs.Read.{StandsAtEnd}
use Rattle.stream_inspection.specs.Read.{NotesFile}
use Rattle.stream_inspection.specs.Read.{NotesRecords, Settles, SettlesBy, counts_end, end_outcome}
use Rattle.stream_inspection.specs.declared.inspection.Inspection.{Inspection}
use Rattle.stream_inspection.specs.declared.target.Target.{Target}

-- ---- ends

of_file : (f : ReadingFault) (P : Type 0) → P → IfFile f P
of_file (Capture f) P p = if_content file_fault_origin f P p
of_file (Recording f) P p = if_content recording_fault_origin f P p

file_weaker : (f : ReadingFault) (P Q : Type 0) → (P → Q) → IfFile f P → IfFile f Q
file_weaker (Capture f) P Q then is = if_content_weaker file_fault_origin f P Q then is
file_weaker (Recording f) P Q then is = if_content_weaker recording_fault_origin f P Q then is

pub if_end : (end : Option ReadingFault) (P Q : Type 0) → (P → Q) → IfEnd end P → IfEnd end Q
if_end None P Q then is = then is
if_end (Some f) P Q then is = file_weaker f P Q then is

-- what an end says of the source
pub end_counted : (end : Option ReadingFault) (old new : ℕ) → counts_end end old new
    → Accounts (end_outcome (Ok end)) (counts old new ∷ [])
end_counted None old new is = is
end_counted (Some f) old new is = reading_blamed f (reading_fault f) old old new refl is refl

-- what holds at each of some octets, where the fault is the content's
each_content : (o : Origin) (told P : List ℕ → Type 0)
    → ((octets : List ℕ) → told octets → IfOfContent o (P octets))
    → IfOfContent o ((octets : List ℕ) → told octets → P octets)
each_content OfDevice told P h = tt
each_content OfMemory told P h = tt
each_content OfContent told P h = h

each_file : (f : ReadingFault) (told P : List ℕ → Type 0)
    → ((octets : List ℕ) → told octets → IfFile f (P octets))
    → IfFile f ((octets : List ℕ) → told octets → P octets)
each_file (Capture f) told P h = each_content (file_fault_origin f) told P h
each_file (Recording f) told P h = each_content (recording_fault_origin f) told P h

-- of what went well
pub if_ok : {V E : Type 0} {P Q : V → Type 0} (r : Result V E) → ((v : V) → P v → Q v)
    → IfOk r P → IfOk r Q
if_ok (Ok v) then is = then v is
if_ok (Err e) then is = tt

-- ---- what is looked for

pub some_one : {X : Type 0} (x y : X) → Some x ≡ Some y → x ≡ y
some_one x y e = cc

pub none_some : {X : Type 0} (x : X) (o : Option X) → o ≡ None → o ≡ Some x → ⊥
none_some x o none some = cc

may_be : (after : Option Target) (t u : Target) → after ≡ Some t → MayBe after u → u ≡ t
may_be None t u is may = absurd (none_some t None refl is)
may_be (Some s) t u is may = may ∙ some_one s t is

settles_by : (before after : Option Target) (t : Target) (text : List ℕ) → after ≡ Some t
    → ((s : Target) → before ≡ Some s → t ≡ s) → (before ≡ None → AnnouncesTarget text t)
    → SettlesBy before text after
settles_by (Some s) after t text is kept says = is ∙ ap (λ (u : Target). Some u) (kept s refl)
settles_by None after t text is kept says = (t, is, says refl)

-- where nothing was begun with, the text refuses
pub none_begun : (begun : Option Target) (Refuses : Type 0) → MatchOption begun Refuses (λ _. ⊥)
    → (begun ≡ None) × Refuses
none_begun None Refuses is = (refl, is)
none_begun (Some t) Refuses is = absurd is

-- records were noted of what is looked for, which was settled by a text
pub records_noted : {A : Type 0} (text : List ℕ) (records : List Entry)
    (before after : Option Target) (t : Target) (old new : Inspection A) → after ≡ Some t
    → ((s : Target) → before ≡ Some s → t ≡ s) → (before ≡ None → AnnouncesTarget text t)
    → Notes t records old new → NotesRecords text records before after old new
records_noted text records before after t old new is kept says noted = record {
  settles = settles_by before after t text is kept says;
  noted = λ u may earlier i.
      let same : u ≡ t = may_be after t u is may in
      subst (λ (x : Target). IsInspected x new (earlier ++ records)) (sym same)
      (noted.counted earlier (subst (λ (x : Target). IsInspected x old earlier) same i));
}

settles_file : (before after : Option Target) (text octets : List ℕ) → text_of_file octets ≡ text
    → SettlesBy before text after → Settles before (octets ∷ []) after
settles_file (Some t) after text octets is settles = settles
settles_file None after text octets is settles = (
  settles.0,
  settles.1,
  subst (λ (l : List ℕ). AnnouncesTarget l settles.0) (sym is) settles.2,
)

-- ---- a file that was read up to an end

module _ {S : Type 0} (gave : S → List ℕ) (ended : S → Type 0) (r : FileReader S) (w : Way)
    (by : r.flows ≡ flows_in w) (flows : r.is_recording ≡ true → IsSome r.flows)
    (given : HasGivenFile gave ended r)
    (parts : r.is_recording ≡ false → HasGivenRecords gave ended r) where
  abbrev Told : List ℕ → Type 0
  Told = IsRead r.before.gave (gave r.source) (ended r.source)

  -- what is known by where its reader stands
  known_at : (standing : Standing) → r.standing ≡ standing → (octets : List ℕ) → Told octets
      → IsKnownBy r.flows standing octets r.records r.left_out
  known_at standing is octets read =
      subst (λ (s : Standing). IsKnownBy r.flows s octets r.records r.left_out) is
      (given octets read).known

  all_there : (octets : List ℕ) → HaveFileRecords r.flows octets r.records r.left_out
      → records_of_file (flows_in w) octets ≡ r.records
  all_there octets have =
      subst (λ (f : Option Flows). records_of_file f octets ≡ r.records) by have.records_are

  ends_at : (end : Option ReadingFault) → StandsAtEnd r.standing (length r.records) end
      → IfEnd end ((octets : List ℕ) → Told octets → EndsAfter (flows_in w) octets r.records end)
  ends_at None over = λ octets read.
      let known = known_at Ended over octets read in (all_there octets known.0, known.1)
  ends_at (Some f) (inl failed) =
      each_file f Told (λ octets. EndsAfter (flows_in w) octets r.records (Some f))
      (λ octets read.
      file_weaker f
      (HaveFileRecords r.flows octets r.records r.left_out × IsFileFault f octets)
      (EndsAfter (flows_in w) octets r.records (Some f))
      (λ known. inl (all_there octets known.0, known.1))
      (known_at (Failed f) failed octets read).1)
  ends_at (Some f) (inr many) =
      of_file f ((octets : List ℕ) → Told octets → EndsAfter (flows_in w) octets r.records (Some f))
      (λ octets read. inr (
        many.1,
        many.2,
        subst (λ (x : Option Flows). AreFirst r.records (records_of_file x octets)) by
            (known_at Reads many.0 octets read),
      ))

  text_there : (octets : List ℕ) → Told octets → (b : Bool) → r.is_recording ≡ b
      → HasFileText w octets r.text
  text_there octets read false kind =
      inr (
        records_text r.records ++ (parts kind octets read).behind,
        (given octets read).kind ∙ kind,
        (parts kind octets read).front,
      )
  text_there octets read true kind =
      let is : is_recording octets ≡ true = (given octets read).kind ∙ kind in
      inl (
        is,
        subst (λ (f : Option Flows). IsSome f) by (flows kind),
        no_text octets r.text is (given octets read).text,
        subst (λ (b : Bool). HasFrontBy b octets) kind (given octets read).front,
      )

  file_noted : {A : Type 0} (text : List ℕ) (end : Option ReadingFault)
      (before after : Option Target) (old new : Inspection A) → text ≡ r.text
      → StandsAtEnd r.standing (length r.records) end
      → NotesRecords text r.records before after old new
      → IfEnd end (NotesFile w Told end before after old new)
  file_noted text end before after old new same is notes =
      if_end end
      ((octets : List ℕ) → Told octets → EndsAfter (flows_in w) octets r.records end)
      (NotesFile w Told end before after old new)
      (λ ends. record {
        records = r.records;
        settles = λ octets read.
            settles_file before after text octets ((given octets read).text ∙ sym same)
            notes.settles;
        noted = λ octets read. (
          record {
            text = r.text;
            has_text = text_there octets read r.is_recording refl;
            ends = ends octets read;
          },
          notes.noted,
        );
      })
      (ends_at end is)

-- so of a source that was lent, and is as it was left
pub file_noted_if : {S T A E : Type 0} (r : FileReader T) (lent : T → S) (gave : S → List ℕ)
    (ended : S → Type 0) (old now : S) (w : Way) (text : List ℕ) (before after : Option Target)
    (i j : Inspection A) (result : Result (Option ReadingFault) E)
    → r.before.gave ≡ gave old → now ≡ lent r.source → r.flows ≡ flows_in w → text ≡ r.text
    → (r.is_recording ≡ true → IsSome r.flows)
    → HasGivenFile (λ (x : T). gave (lent x)) (λ (x : T). ended (lent x)) r
    → (r.is_recording ≡ false → HasGivenRecords (λ (x : T). gave (lent x)) (λ (x : T). ended (lent x)) r)
    → IfOk result (StandsAtEnd r.standing (length r.records))
    → OnOk result (NotesRecords text r.records before after i j)
    → IfOk result (λ end. IfEnd end (NotesFile w (IsRead (gave old) (gave now) (ended now)) end
    before after i j))
file_noted_if {S} {T} r lent gave ended old now w text before after i j (Ok end) was is by same flows
    given parts at notes =
    subst (λ (s : S). IfEnd end (NotesFile w (IsRead (gave old) (gave s) (ended s)) end before
    after i j)) (sym is)
    (subst (λ (l : List ℕ). IfEnd end (NotesFile w
    (IsRead l (gave (lent r.source)) (ended (lent r.source))) end before after i j)) was
    (file_noted (λ (x : T). gave (lent x)) (λ (x : T). ended (lent x)) r w by flows given parts text end
    before after i j same at notes))
file_noted_if r lent gave ended old now w text before after i j (Err e) was is by same flows given
    parts at notes = tt

-- and of the refusal of its text
pub text_refuses : {S T V : Type 0} (text : List ℕ) (w : Way) (Unknown : Type 0)
    (r : FileReader T) (lent : T → S) (gave : S → List ℕ) (ended : S → Type 0) (old now : S)
    (result : Result V Fault) → r.before.gave ≡ gave old → now ≡ lent r.source
    → r.flows ≡ flows_in w → text ≡ r.text → (r.is_recording ≡ true → IsSome r.flows)
    → HasGivenFile (λ (x : T). gave (lent x)) (λ (x : T). ended (lent x)) r
    → (r.is_recording ≡ false → HasGivenRecords (λ (x : T). gave (lent x)) (λ (x : T). ended (lent x)) r)
    → IfErr result (λ f. OfRefusal f (λ x. Unknown × IsFrontRefusal (0 ∷ []) text x))
    → IfErr result (λ f. OfRefusal f (IsStartRefusal w Unknown
    (IsRead (gave old) (gave now) (ended now))))
text_refuses text w Unknown r lent gave ended old now (Ok v) was is by same flows given parts of = tt
text_refuses {S} {T} text w Unknown r lent gave ended old now (Err f) was is by same flows given parts
    of =
    subst (λ (s : S). OfRefusal f (IsStartRefusal w Unknown (IsRead (gave old) (gave s) (ended s))))
    (sym is)
    (subst (λ (l : List ℕ). OfRefusal f (IsStartRefusal w Unknown
    (IsRead l (gave (lent r.source)) (ended (lent r.source))))) was
    (of_refusal_map f
    (λ x refused. inr (
      refused.0,
      text_opens (λ (y : T). gave (lent y)) (λ (y : T). ended (lent y)) r w by flows given parts x
          (0 ∷ []) text same refused.1,
    )) of))

-- what stopped a file before its records is its refusal
pub front_refuses : {T : Type 0} (w : Way) (Unknown : Type 0) (gave : T → List ℕ)
    (ended : T → Type 0) (old new now : T) (f : Fault) → new ≡ now
    → OfRefusal f (StopsFront w (IsRead (gave old) (gave now) (ended now)))
    → OfRefusal f (IsStartRefusal w Unknown (IsRead (gave old) (gave new) (ended new)))
front_refuses {T} w Unknown gave ended old new now f same stops =
    subst (λ (t : T). OfRefusal f (IsStartRefusal w Unknown
    (IsRead (gave old) (gave t) (ended t)))) (sym same)
    (of_refusal_map f (λ x is. inl is) stops)
