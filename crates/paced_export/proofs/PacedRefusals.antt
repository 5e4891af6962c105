-- Which refusal ends a run of `export --paced`, and what it leaves.
use Rattle.std.proofs.Common.{◌≡◌, ℕ, List, Option, inl, inr, Ok, Err, sym, ap, ◌++◌, ◌∙◌}
use Rattle.std.proofs.Common.{append_assoc, append-nil, refl, subst}
use Rattle.std.specs.Prelude.{◌⊎◌, unwrap_or}
use Rattle.st_format.specs.History.{IsRead, since}
use Rattle.st_format.specs.Given.{GaveValue, IfOfContent, OfContent, OfDevice, OfMemory, Origin}
use Rattle.media_file.specs.Capture.{capture_walk}
use Rattle.media_file.specs.Faults.{IfContent, file_fault_origin}
use Rattle.media_file.specs.Fields.{GaveFault}
use Rattle.media_file.specs.Fronts.{front_at}
use Rattle.media_file.specs.Records.{Entry}
use Rattle.media_file.specs.declared.fault.FileFault.{FileFault}
use Rattle.media_file.specs.declared.fault.FileFault.TheVariants as file
use Rattle.pcap_file.specs.Writing.{file_text}
use Rattle.st_format.proofs.Histories.{since_is}
use Rattle.run_outcome.specs.LowerFaults.{capture_fault}
use Rattle.run_outcome.specs.Refusing.{OfRefusal}
use Rattle.run_outcome.specs.TextRefusals.{IsDescriptionRefusal, IsSdp}
use Rattle.run_outcome.specs.declared.fault.Fault.{Fault}
use Rattle.run_outcome.specs.declared.fault.Fault.TheVariants as fault
use Rattle.run_outcome.specs.declared.refusal.Refusal.{Refusal}
use Rattle.run_outcome.specs.declared.refusal.Refusal.TheVariants as why
use Rattle.export_engine.specs.ExportRefused.{IsReadRefusal}
use Rattle.export_engine.specs.Exported.{CountsPackets, TakesUpTo}
use Rattle.export_engine.specs.Packets.{AreEnvelopes, packets_text, pcap_text}
use Rattle.export_engine.specs.declared.packets.ExportCounts.{ExportCounts}
use Rattle.export_engine.specs.declared.places.Envelopes.{Envelopes}
use Rattle.paced_export.specs.PacedRefused.{HasFrontFault, HasRate, IsAheadRefusal}
use Rattle.paced_export.specs.PacedRefused.{IsPacedRefusal, IsReadAhead}
use Rattle.paced_export.specs.Counts.{Counts, counted}
use Rattle.paced_export.specs.Paced.{count_in_all}
use Rattle.paced_export.specs.PacedExported.{IsPaceOf, LeavesPacing, PacesCapture, ReadsAhead}
use Rattle.paced_export.specs.PacedExported.{SaysActive, StopsPaced, StopsPacing}
use Rattle.paced_export.specs.PacedExported.LeavesPacing.{Stopped, Unwritten}
use Rattle.paced_export.specs.PacedExported.StopsPacing.{Begun, Unread}
use Rattle.paced_export.specs.declared.pace.Pace.{Pace}
use Rattle.paced_export.specs.declared.tally.FrameCounts.{FrameCounts}
use Rattle.paced_export.proofs.CountLemmas.{counted_is}
use Rattle.paced_export.proofs.PacedLists.{paced_alike}

-- ---- the first reading

-- what holds whatever was read, of a fault of the content
known_by : (o : Origin) (told : List ℕ → Type 0) (P : List ℕ → Type 0) (Q : Type 0)
    → ((octets : List ℕ) → told octets → IfOfContent o (P octets))
    → IfOfContent o (((octets : List ℕ) → told octets → P octets) ⊎ Q)
known_by OfDevice told P Q known = tt
known_by OfMemory told P Q known = tt
known_by OfContent told P Q known = inl known

always : (o : Origin) (P : Type 0) → P → IfOfContent o P
always OfDevice P p = tt
always OfMemory P p = tt
always OfContent P p = p

-- the fault is the front's
pub front_known : (a b : List ℕ) (ended : Type 0) (f : FileFault) → GaveFault front_at a b ended f
    → IfContent f (HasFrontFault (IsRead a b ended) f ⊎ HasRate (IsRead a b ended))
front_known a b ended f g =
    known_by (file_fault_origin f) (IsRead a b ended) (λ octets. front_at octets ≡ Err f)
    (HasRate (IsRead a b ended)) at
  where
    at : (octets : List ℕ) → IsRead a b ended octets → IfContent f (front_at octets ≡ Err f)
    at octets q =
        let here : octets ≡ g.part ++ q.behind =
        q.parts ∙ ap (λ (l : List ℕ). l ++ q.behind) (since_is a b g.part g.grown) in
        subst (λ (l : List ℕ). IfContent f (front_at l ≡ Err f)) (sym here)
        (g.says q.behind q.all)

-- or it is behind a text that says the rate
pub rate_known : (told : List ℕ → Type 0) (f : FileFault) → HasRate told
    → IfContent f (HasFrontFault told f ⊎ HasRate told)
rate_known told f has = always (file_fault_origin f) _ (inr has)

-- a capture's refusal is so one of the first reading
pub of_capture_ahead : (told : List ℕ → Type 0) (f : FileFault)
    → OfRefusal (capture_fault f) (IsReadRefusal told)
    → IfContent f (HasFrontFault told f ⊎ HasRate told)
    → OfRefusal (capture_fault f) (IsAheadRefusal told)
of_capture_ahead told file.NoMemory is known = tt
of_capture_ahead told file.Device is known = tt
of_capture_ahead told file.BadName is known = (is, known)
of_capture_ahead told file.BadVersion is known = (is, known)
of_capture_ahead told file.Truncated is known = (is, known)
of_capture_ahead told file.BadField is known = (is, known)
of_capture_ahead told file.TrailingBytes is known = (is, known)
of_capture_ahead told file.MixedGroup is known = (is, known)
of_capture_ahead told file.TooManyRecords is known = (is, known)

-- the front of a capture of which more was read
front_behind : (a b c text part : List ℕ) (ended : Type 0) → GaveValue front_at a b text
    → c ≡ b ++ part → (octets : List ℕ) → IsRead a c ended octets
    → (x : List ℕ × List ℕ) × (front_at octets ≡ Ok x) × (x.0 ≡ text)
front_behind a b c text part ended g more octets q =
    let all : c ≡ a ++ (g.part ++ part) =
    more ∙ ap (λ (l : List ℕ). l ++ part) g.grown ∙ append_assoc a g.part part in (
      (text, part ++ q.behind),
      ap front_at (q.parts
          ∙ ap (λ (l : List ℕ). l ++ q.behind) (since_is a c (g.part ++ part) all)
          ∙ append_assoc g.part part q.behind)
          ∙ g.says (part ++ q.behind),
      refl,
    )

pub has_rate : (a b c text part : List ℕ) (ended : Type 0) (active : ℕ)
    → GaveValue front_at a b text → c ≡ b ++ part → SaysActive text active
    → HasRate (IsRead a c ended)
has_rate a b c text part ended active g more said = λ octets q.
    let x = front_behind a b c text part ended g more octets q in (
      x.0,
      x.1,
      subst (λ (t : List ℕ). IsSdp t) (sym x.2) (said.sdp, said.described),
    )

-- all of it was read
pub read_whole : {Al : Type 0} (a b : List ℕ) (ended : Type 0) (active : ℕ) (t : FrameCounts Al)
    → ReadsAhead a b ended active t → IsReadAhead (IsRead a b ended)
read_whole a b ended active t reads = record {
  content = reads.content;
  read = λ octets q. ap (capture_walk 16777216) (here octets q) ∙ reads.read.says;
  rate = (reads.said.sdp, reads.said.described);
}
  where
    here : (octets : List ℕ) → IsRead a b ended octets → octets ≡ reads.read.part
    here octets q =
        q.parts ∙ ap (λ (l : List ℕ). since a b ++ l) (q.all reads.read.over)
        ∙ append-nil (since a b) ∙ since_is a b reads.read.part reads.read.grown

-- the refusal of a text is one of the capture with it at its front
front_is : (a b text : List ℕ) (ended : Type 0) → GaveValue front_at a b text
    → (octets : List ℕ) → IsRead a b ended octets
    → (x : List ℕ × List ℕ) × (front_at octets ≡ Ok x) × (x.0 ≡ text)
front_is a b text ended g octets q = (
  (text, q.behind),
  ap front_at (q.parts ∙ ap (λ (l : List ℕ). l ++ q.behind) (since_is a b g.part g.grown))
      ∙ g.says q.behind,
  refl,
)

one_of_text : (told : List ℕ → Type 0) (text : List ℕ)
    → ((octets : List ℕ) → told octets
    → (x : List ℕ × List ℕ) × (front_at octets ≡ Ok x) × (x.0 ≡ text))
    → (r : Refusal) → IsDescriptionRefusal text r → IsAheadRefusal told r
one_of_text told text at (why.Sdp l) is = λ octets was.
    let x = at octets was in
    (x.0, x.1, subst (λ (t : List ℕ). IsDescriptionRefusal t (why.Sdp l)) (sym x.2) is)
one_of_text told text at r is = absurd is

pub of_text_ahead : (a b text : List ℕ) (ended : Type 0) → GaveValue front_at a b text
    → (f : Fault) → OfRefusal f (IsDescriptionRefusal text)
    → OfRefusal f (IsAheadRefusal (IsRead a b ended))
of_text_ahead a b text ended g (fault.Refused r) is =
    one_of_text (IsRead a b ended) text (front_is a b text ended g) r is
of_text_ahead a b text ended g fault.Device is = tt
of_text_ahead a b text ended g fault.Memory is = tt

-- ---- the run

one_ahead : (a : List ℕ) (b : Option (List ℕ)) (ahead told : List ℕ → Type 0) (es : Envelopes)
    → AreEnvelopes a b es → (r : Refusal) → IsAheadRefusal ahead r
    → IsPacedRefusal a b ahead told r
one_ahead a b ahead told es are (why.Capture f) is = ((es, are), inl is)
one_ahead a b ahead told es are (why.Sdp l) is = ((es, are), inl is)
one_ahead a b ahead told es are r is = absurd is

pub ahead_refused : (a : List ℕ) (b : Option (List ℕ)) (ahead told : List ℕ → Type 0)
    (es : Envelopes) → AreEnvelopes a b es → (f : Fault) → OfRefusal f (IsAheadRefusal ahead)
    → OfRefusal f (IsPacedRefusal a b ahead told)
ahead_refused a b ahead told es are (fault.Refused r) is = one_ahead a b ahead told es are r is
ahead_refused a b ahead told es are fault.Device is = tt
ahead_refused a b ahead told es are fault.Memory is = tt

one_behind : (a : List ℕ) (b : Option (List ℕ)) (ahead told : List ℕ → Type 0) (es : Envelopes)
    → AreEnvelopes a b es → IsReadAhead ahead → (r : Refusal) → IsReadRefusal told r
    → IsPacedRefusal a b ahead told r
one_behind a b ahead told es are whole (why.Capture f) is = ((es, are), inr (whole, is))
one_behind a b ahead told es are whole r is = absurd is

pub behind_refused : (a : List ℕ) (b : Option (List ℕ)) (ahead told : List ℕ → Type 0)
    (es : Envelopes) → AreEnvelopes a b es → IsReadAhead ahead → (f : Fault)
    → OfRefusal f (IsReadRefusal told) → OfRefusal f (IsPacedRefusal a b ahead told)
behind_refused a b ahead told es are whole (fault.Refused r) is =
    one_behind a b ahead told es are whole r is
behind_refused a b ahead told es are whole fault.Device is = tt
behind_refused a b ahead told es are whole fault.Memory is = tt

-- ---- what it leaves

-- the pace that a first reading gives
pub pace_of : {Al : Type 0} (start active : ℕ) (p : Pace) (t : FrameCounts Al) (before now : List ℕ)
    (ended : Type 0) (ahead : ReadsAhead before now ended active t) → p.start ≡ start
    → p.first ≡ unwrap_or t.first 0 → p.active ≡ active → IsPaceOf start ahead.content p
pace_of start active p t before now ended ahead starts first same = record {
  starts = starts;
  first = first ∙ ap (λ (o : Option ℕ). unwrap_or o 0) ahead.counts.first;
  active = subst (SaysActive ahead.content.text) (sym same) ahead.said;
}

-- by the counts of a first reading a capture is paced as by its records
pub paces_all : {Al : Type 0} (es : Envelopes) (p : Pace) (t : FrameCounts Al) (whole : List Entry)
    (counts : ExportCounts) (before now : List ℕ) (ended : Type 0) (took took' : List ℕ)
    → Counts t whole → PacesCapture es p (counted t) counts before now ended took took'
    → PacesCapture es p (count_in_all whole) counts before now ended took took'
paces_all es p t whole counts before now ended took took' are is =
    let same = paced_alike p (counted t) (count_in_all whole) (counted_is t whole are)
    is.content.records in
    record {
      content = is.content;
      read = is.read;
      written = is.written ∙ ap (λ (l : List Entry). took ++ pcap_text es l) same;
      counted = subst (λ (l : List Entry). CountsPackets es l counts) same is.counted;
    }

stops_paced : {Al : Type 0} (head : List ℕ) (es : Envelopes) (p : Pace) (t : FrameCounts Al)
    (whole : List Entry) (f : FileFault) (before now took took' : List ℕ) → Counts t whole
    → StopsPaced head es p (counted t) f before now took took'
    → StopsPaced head es p (count_in_all whole) f before now took took'
stops_paced head es p t whole f before now took took' are is = record {
  entries = is.entries;
  fit = is.fit;
  rest = is.rest;
  grown = is.grown;
  none = is.none;
  taken =
      subst (λ (l : List Entry). TakesUpTo f took took' (head ++ packets_text es l))
      (paced_alike p (counted t) (count_in_all whole) (counted_is t whole are) is.entries) is.taken;
}

stops_all : {Al : Type 0} (es : Envelopes) (p : Pace) (t : FrameCounts Al)
    (whole : List Entry) (f : FileFault) (before now : List ℕ) (ended : Type 0)
    (took took' : List ℕ) → Counts t whole
    → StopsPacing es p (counted t) f before now ended took took'
    → StopsPacing es p (count_in_all whole) f before now ended took took'
stops_all es p t whole f before now ended took took' are (Unread wrong same) = Unread wrong same
stops_all es p t whole f before now ended took took' are (Begun text mid front is) =
    Begun text mid front (stops_paced file_text es p t whole f mid now took took' are is)

pub leaves_all : {Al : Type 0} (es : Envelopes) (p : Pace) (t : FrameCounts Al)
    (whole : List Entry) (before now : List ℕ) (ended : Type 0)
    (took took' : List ℕ) → Counts t whole
    → LeavesPacing es p (counted t) before now ended took took'
    → LeavesPacing es p (count_in_all whole) before now ended took took'
leaves_all es p t whole before now ended took took' are (Unwritten same) = Unwritten same
leaves_all es p t whole before now ended took took' are (Stopped f is) =
    Stopped f (stops_all es p t whole f before now ended took took' are is)
