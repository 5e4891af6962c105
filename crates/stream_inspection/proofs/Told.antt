-- What was printed is the text of what was read.
use Rattle.std.proofs.Common.{◌≡◌, ◌∙◌, ℕ, List, [], ◌∷◌, ◌++◌, take, Option, None, Some, refl, ap}
use Rattle.std.proofs.Common.{sym, subst, map, inl, inr, length, Result, Ok, Err, OnOk}
use Rattle.std.specs.List.{flat_map, zip}
use Rattle.capture_engines.specs.Files.{way_at}
use Rattle.flow.specs.declared.flows.Flows.{Flows}
use Rattle.media_file.specs.Records.{Entry}
use Rattle.media_file.specs.declared.fault.FileFault.TheVariants as file
use Rattle.pcap_file.specs.declared.fault.RecordingFault.TheVariants as recording
use Rattle.recording_reader.specs.Files.{IfFile, text_of_file}
use Rattle.recording_reader.specs.declared.fault.ReadingFault.{ReadingFault}
use Rattle.recording_reader.specs.declared.fault.ReadingFault.TheVariants.{Capture, Recording}
use Rattle.run_outcome.specs.declared.fault.Fault.{Fault}
use Rattle.run_outcome.specs.declared.fault.Fault.TheVariants.{Refused, Device, Memory}
use Rattle.run_outcome.specs.Refusing.{OfRefusal}
use Rattle.run_outcome.specs.declared.refusal.Refusal.{Refusal}
use Rattle.run_outcome.specs.LowerFaults.{reading_fault}
use Rattle.recording_counts.specs.Streams.{is_same, key_of}
use Rattle.recording_counts.specs.Tables.{different, of_key}
use Rattle.recording_counts.specs.declared.packet.Packet.{Packet}
use Rattle.recording_counts.specs.declared.packet.StreamKey.{StreamKey}
use Rattle.stream_inspection.specs.Aim.{AnnouncesTarget, IsAimed, IsBegunTarget, IsTarget}
use Rattle.stream_inspection.specs.Inspected.{IsInspected}
use Rattle.stream_inspection.specs.Numbers.{told_stream, told_streams}
use Rattle.stream_inspection.specs.Read.{IfEnd, IsFirstFront, IsSettled, IsStartRefusal, MayBe}
use Rattle.stream_inspection.specs.Read.{NotesFiles, NotesUpTo, Settles}
use Rattle.stream_inspection.specs.Streams.{stream_lines}
use Rattle.stream_inspection.specs.Told.{IsEndRefusal, IsStreamsRefusal, IsText}
use Rattle.stream_inspection.specs.Told.{PrintsText, TellsStreams, begins}
use Rattle.stream_inspection.specs.declared.inspection.Inspection.{Inspection}
use Rattle.stream_inspection.specs.declared.target.Target.{Target}
use Rattle.stream_inspection.specs.declared.target.Wanted.{Wanted}
use Rattle.stream_inspection.specs.declared.target.Wanted.TheVariants.{Said, Given}
use Rattle.stream_inspection.specs.declared.text.Form.{Form}
use Rattle.stream_inspection.proofs.Readings.{none_some, some_one}

-- what is looked for is what is wanted
is_target : (w : Wanted) (sdp : Option (List ℕ)) (begun after : Option Target)
    (octets : List (List ℕ)) (t : Target) → IsBegunTarget w sdp begun → Settles begun octets after
    → after ≡ Some t → IsTarget w sdp octets t
is_target (Given u) sdp begun after octets t opens settles is =
    some_one t u
    (sym is ∙ subst (λ (b : Option Target). Settles b octets after) opens settles)
is_target Said (Some text) begun after octets t opens settles is =
    subst (λ (u : Target). AnnouncesTarget text u)
    (some_one opens.0 t
    (sym (subst (λ (b : Option Target). Settles b octets after) opens.1 settles) ∙ is))
    opens.2
is_target Said None begun after [] t opens settles is =
    absurd (none_some t after
    (subst (λ (b : Option Target). Settles b [] after) opens settles) is)
is_target Said None begun after (o ∷ os) t opens settles is =
    let first = subst (λ (b : Option Target). Settles b (o ∷ os) after) opens settles in
    subst (λ (u : Target). AnnouncesTarget (text_of_file o) u)
    (some_one first.0 t (sym first.1 ∙ is)) first.2

-- where nothing was begun with, none was given to begin with
pub begun_none : (w : Wanted) (sdp : Option (List ℕ)) (begun : Option Target)
    → IsBegunTarget w sdp begun → begun ≡ None → begins w sdp ≡ None
begun_none (Given u) sdp begun is none = absurd (none_some u begun none is)
begun_none Said None begun is none = refl
begun_none Said (Some text) begun is none = absurd (none_some is.0 begun none is.1)

-- begun with by an SDP text
pub said_begun : (sdp : Option (List ℕ)) (text : List ℕ) (t : Target) → sdp ≡ Some text
    → AnnouncesTarget text t → IsBegunTarget Said sdp (Some t)
said_begun sdp text t is says =
    subst (λ (o : Option (List ℕ)). IsBegunTarget Said o (Some t)) (sym is) (t, refl, says)

-- a text speaks of no allocator
each_line : (A : Type 0) (form : Form) (ps : List Packet) (ks : List StreamKey)
    → flat_map (stream_lines {A = A} form)
    (map (λ k. told_stream k (of_key is_same key_of k ps)) ks)
    ≡ flat_map (stream_lines {A = Unit {0}} form)
    (map (λ k. told_stream k (of_key is_same key_of k ps)) ks)
each_line A form ps [] = refl
each_line A form ps (k ∷ ks) =
    ap
    (λ (l : List ℕ). stream_lines {A = Unit {0}} form (told_stream k (of_key is_same key_of k ps))
    ++ l) (each_line A form ps ks)

pub lines_same : (A : Type 0) (form : Form) (ps : List Packet)
    → flat_map (stream_lines {A = A} form) (told_streams ps)
    ≡ flat_map (stream_lines {A = Unit {0}} form) (told_streams ps)
lines_same A form ps = each_line A form ps (different is_same (map key_of ps))

pub tells : {S A : Type 0} (w : Wanted) (form : Form) (sdp : Option (List ℕ))
    (ways : List (Result Flows Refusal)) (told : S → List ℕ → Type 0) (files : List S)
    (end : Option ReadingFault) (begun after : Option Target) (t : Target)
    (old new : Inspection A) (text shown shown' : List ℕ)
    → IsBegunTarget w sdp begun → ((u : Target) → IsInspected u old [])
    → NotesFiles ways told files end begun after old new → after ≡ Some t
    → ((entries : List Entry) → IsInspected t new entries → IsText form t entries text)
    → shown' ≡ shown ++ text → TellsStreams w form sdp ways told files end shown shown'
tells w form sdp ways told files end begun after t old new text shown shown' opens fresh notes is
    texts printed = record {
      printed = λ octets read.
          let n = notes.noted octets read in (
            t,
            is_target w sdp begun after octets t opens (notes.settles octets read) is,
            notes.records,
            n.0,
            text,
            texts notes.records
                (n.1 t (subst (λ (o : Option Target). MayBe o t) (sym is) refl) [] (fresh t)),
            printed,
          );
    }

-- ---- the end of a run

refused_as : (x : Fault) (P : Refusal → Type 0) → ((r : Refusal) → x ≡ Refused r → P r)
    → OfRefusal x P
refused_as (Refused r) P h = h r refl
refused_as Device P h = tt
refused_as Memory P h = tt

-- the fault of a file refuses
pub end_refused : {A : Type 0} (form : Form) (t : Target) (i : Inspection A) (f : ReadingFault)
    (end : Option ReadingFault) (shown shown' : List ℕ) → end ≡ Some f
    → PrintsText form t i shown shown'
    → OfRefusal (reading_fault f) (IsEndRefusal form t i end shown shown')
end_refused form t i f end shown shown' is prints =
    refused_as (reading_fault f) (IsEndRefusal form t i end shown shown')
    (λ r same. record { fault = f; ended = is; is = same; printed = prints })

content_of : (f : ReadingFault) (r : Refusal) (P : Type 0) → reading_fault f ≡ Refused r
    → IfFile f P
    → P
content_of (Capture file.NoMemory) r P same is = absurd cc
content_of (Capture file.Device) r P same is = absurd cc
content_of (Capture f) r P same is = is
content_of (Recording recording.Device) r P same is = absurd cc
content_of (Recording f) r P same is = is

-- a run with no file
pub no_files : {S : Type 0} (old new : List S) → old ≡ [] → zip old new ≡ []
no_files {S} old new none = subst (λ (l : List S). zip l new ≡ []) (sym none) refl

-- what is looked for is known behind files, by what is wanted
is_aimed : (w : Wanted) (sdp : Option (List ℕ)) (begun after : Option Target)
    (octets : List (List ℕ)) → IsBegunTarget w sdp begun → Settles begun octets after
    → IsAimed w sdp octets
is_aimed (Given u) sdp begun after octets opens settles = tt
is_aimed Said (Some text) begun after octets opens settles = (opens.0, opens.2)
is_aimed Said None begun after [] opens settles = tt
is_aimed Said None begun after (o ∷ os) opens settles =
    let first = subst (λ (b : Option Target). Settles b (o ∷ os) after) opens settles in
    (first.0, first.2)

-- so the first front that is refused is the first of a run
pub front_aimed : {S : Type 0} (w : Wanted) (sdp : Option (List ℕ)) (begun : Option Target)
    (ways : List (Result Flows Refusal)) (told : S → List ℕ → Type 0) (files : List S)
    → IsBegunTarget w sdp begun → (r : Refusal)
    → IsFirstFront (begun ≡ None) (IsSettled begun) ways told files r
    → IsFirstFront (begins w sdp ≡ None) (IsAimed w sdp) ways told files r
front_aimed w sdp begun ways told files opens r first = record {
  front = first.front;
  at = first.at;
  behind = first.behind;
  parts = first.parts;
  known = λ octets read.
      let settled = first.known octets read in
      is_aimed w sdp begun settled.0 octets opens settled.1;
  whole = first.whole;
  refused = by first.refused;
}
  where
    by : IsStartRefusal (way_at ways (length first.front)) ((begun ≡ None) × (first.front ≡ []))
        (told first.at) r
        → IsStartRefusal (way_at ways (length first.front))
        ((begins w sdp ≡ None) × (first.front ≡ [])) (told first.at) r
    by (inl stops) = inl stops
    by (inr opened) = inr ((begun_none w sdp begun opens opened.0.0, opened.0.1), opened.1)

-- ---- the run

module _ {S A : Type 0} (w : Wanted) (form : Form) (sdp : Option (List ℕ))
    (ways : List (Result Flows Refusal)) (told : S → List ℕ → Type 0) (files : List S)
    (end : Option ReadingFault) (begun after : Option Target) (t : Target)
    (old new : Inspection A) (shown shown' : List ℕ) (opens : IsBegunTarget w sdp begun)
    (fresh : (u : Target) → IsInspected u old [])
    (notes : IfEnd end (NotesUpTo ways told files end begun after old new))
    (is : after ≡ Some t) where
  tells_whole : end ≡ None → PrintsText form t new shown shown'
      → TellsStreams w form sdp ways told files None shown shown'
  tells_whole none prints =
      tells w form sdp ways told files None begun after t old new prints.text shown shown' opens
      fresh
      (subst
      (λ (e : Option ReadingFault). IfEnd e (NotesUpTo ways told files e begun after old new))
      none notes)
      is prints.is prints.printed

  pub told_if : {V : Type 0} (r : Result V Fault) → OnOk r (end ≡ None)
      → OnOk r (PrintsText form t new shown shown')
      → OnOk r (TellsStreams w form sdp ways told files None shown shown')
  told_if (Ok v) none prints = tells_whole none prints
  told_if (Err f) none prints = tt

  pub streams_refused : (r : Refusal) → IsEndRefusal form t new end shown shown' r
      → IsStreamsRefusal w form sdp ways told files shown shown' r
  streams_refused r e =
      let n =
      content_of e.fault r (NotesUpTo ways told files (Some e.fault) begun after old new) e.is
      (subst
      (λ (x : Option ReadingFault). IfEnd x (NotesUpTo ways told files x begun after old new))
      e.ended notes) in
      inr (
        e.fault,
        n.0,
        e.is,
        tells w form sdp ways told (take n.0 files) (Some e.fault) begun after t old new
            e.printed.text shown shown' opens fresh n.1 is e.printed.is e.printed.printed,
      )
