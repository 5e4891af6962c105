-- Of a file that is received, taken as it is, one refusal is told; of an SDP text's fault it may be
-- one or the other.
use Rattle.std.proofs.Common.{◌≡◌, ◌∙◌, ℕ, ◌<◌, ◌≤◌, ◌⊎◌, inl, inr, Bool, true, false, List, []}
use Rattle.std.proofs.Common.{◌++◌, Option, Some, Result, Ok, Err, cond, length}
use Rattle.std.proofs.Common.{length-append, refl, sym, ap, subst, arith}
use Rattle.std.proofs.lemmas.Bool.{cases_lt}
use Rattle.std.specs.Prelude.{IsSome}
use Rattle.flow.specs.declared.flows.Flows.{Flows}
use Rattle.media_file.specs.Fronts.{front_at}
use Rattle.media_file.specs.Reading.{entries_in, fault_at}
use Rattle.media_file.specs.Records.{Entry}
use Rattle.media_file.specs.declared.fault.FileFault.{FileFault}
use Rattle.media_file.specs.declared.fault.FileFault.TheVariants.{BadName, TooManyRecords}
use Rattle.media_file.specs.declared.fault.FileFault.TheVariants.{Truncated}
use Rattle.media_file.proofs.Cuts.{entries_front}
use Rattle.pcap_file.specs.PcapReading.{Recorded}
use Rattle.pcap_file.specs.Runs.{fault_in, most_packet, opened_at}
use Rattle.pcap_file.specs.declared.fault.RecordingFault.{RecordingFault}
use Rattle.recording_engines.proofs.FileFaults.{fault_is}
use Rattle.recording_reader.specs.Files.{HasFrontBy, IsFileFault, capture_records, records_behind}
use Rattle.recording_reader.specs.Files.{records_by, records_of_file, text_of_file}
use Rattle.recording_reader.specs.Kinds.{is_recording}
use Rattle.recording_reader.specs.Records.{records_of}
use Rattle.recording_reader.specs.declared.fault.ReadingFault.TheVariants.{Capture}
use Rattle.recording_reader.proofs.Files.{front_first, front_packets, recording_entries}
use Rattle.recording_reader.proofs.Files.{recording_text}
use Rattle.run_outcome.specs.TextRefusals.{IsSdp}
use Rattle.run_outcome.specs.declared.refusal.Refusal.{Refusal}
use Rattle.run_outcome.specs.declared.refusal.Refusal.TheVariants as why
use Rattle.capture_engines.specs.Files.{HasFileText, IsReadWhole, flows_in}
use Rattle.capture_engines.specs.Received.{FileOpens, HasCaptureFault, IsBehindFew, IsCaptureBy}
use Rattle.capture_engines.specs.Received.{IsCaptureRefusal, IsFileOpenedRefusal, IsFrontRefusal}
use Rattle.capture_engines.specs.Received.{IsOpeningRefusal, IsTurnRefusal, IsUntakenRefusal}
use Rattle.capture_engines.specs.Received.{Opens, StopsFile, StopsFront}
use Rattle.capture_engines.specs.declared.way.Way.{Way}
use Rattle.capture_engines.specs.declared.way.Way.TheVariants as way
use Rattle.capture_engines.proofs.Untaken.{front_stop, long_front, short_front}
use Rattle.run_laws.proofs.OneTextRefusal.{One, front_none, front_of, none_said, one_front}
use Rattle.run_laws.proofs.WholeFiles.{no_flows, not_both, stops_not, text_is}

-- ---- a capture's fault

front_twice : (octets : List ℕ) (f : FileFault) (x : List ℕ × List ℕ) → front_at octets ≡ Err f
    → front_at octets ≡ Ok x → ⊥
front_twice octets f x wrong there =
    let both : Err f ≡ Ok x = sym wrong ∙ there in
    absurd cc

-- what has a front is no recording
front_kind : (octets : List ℕ) (x : List ℕ × List ℕ) → front_at octets ≡ Ok x
    → is_recording octets ≡ false
front_kind octets x there = by (is_recording octets) refl (cases_lt (length octets) 8)
  where
    by : (b : Bool) → is_recording octets ≡ b → (length octets < 8) ⊎ (8 ≤ length octets)
        → is_recording octets ≡ false
    by true is (inl short) =
        absurd (front_twice octets Truncated x (short_front octets short) there)
    by true is (inr long) =
        absurd (front_twice octets BadName x (long_front octets is long) there)
    by false is size = is

-- it is at the front; or behind that the first; or there are as many records as are taken
abbrev OfFront : List ℕ → FileFault → Type 0
OfFront octets f = front_at octets ≡ Err f

abbrev OfRecord : Option Flows → List ℕ → FileFault → Type 0
OfRecord flows octets f = HasFrontBy false octets × IsFileFault (Capture f) octets
    × ((f ≡ TooManyRecords) ⊎ (length (records_of_file flows octets) < 16777216))

abbrev OfMany : Option Flows → List ℕ → FileFault → Type 0
OfMany flows octets f = HasFrontBy false octets × (f ≡ TooManyRecords)
    × (16777216 ≤ length (records_of_file flows octets))

abbrev OfCapture : Option Flows → List ℕ → FileFault → Type 0
OfCapture flows octets f = OfFront octets f ⊎ OfRecord flows octets f ⊎ OfMany flows octets f

capture_of : (flows : Option Flows) (octets : List ℕ) (f : FileFault) → HasCaptureFault octets f
    → (f ≡ TooManyRecords) ⊎ (length (records_of_file flows octets) < 16777216)
    → OfCapture flows octets f
capture_of flows octets f (inl front) few = inl front
capture_of flows octets f (inr (x, front, wrong)) few = by wrong.fault
  where
    kind : is_recording octets ≡ false
    kind = front_kind octets x front

    by : (fault_at wrong.behind ≡ Some f)
        ⊎ ((f ≡ TooManyRecords) × (length wrong.records ≡ 16777216)) → OfCapture flows octets f
    by (inl at) =
        inr (inl (
          (x, front),
          (
            kind,
            inr (
              x,
              front,
              record {
                records = wrong.records;
                behind = wrong.behind;
                fit = wrong.fit;
                parts = wrong.parts;
                fault = at;
              },
            ),
          ),
          few,
        ))
    by (inr (same, many)) =
        let all : records_of_file flows octets ≡ wrong.records ++ entries_in wrong.behind =
        ap (λ (b : Bool). cond b (records_by flows octets) (capture_records octets)) kind
        ∙ ap records_behind front ∙ ap entries_in wrong.parts
        ∙ entries_front wrong.records wrong.behind wrong.fit in
        inr (inr (
          (x, front),
          same,
          omega (
            arith,
            many,
            ap (λ (es : List Entry). length es) all,
            length-append wrong.records (entries_in wrong.behind),
          ),
        ))

same_fault : (f e : FileFault) → Some (Capture f) ≡ Some (Capture e) → f ≡ e
same_fault f e is = cc

same_front : (octets : List ℕ) (f e : FileFault) → OfFront octets f → OfFront octets e → f ≡ e
same_front octets f e is other =
    let both : Err f ≡ Err e = sym is ∙ other in
    by both
  where
    by : (let front : FileFault → Result (List ℕ × List ℕ) FileFault = λ g. Err g in
        front f ≡ front e) → f ≡ e
    by both = cc

one_fault : (flows : Option Flows) (octets : List ℕ) (f e : FileFault) → OfCapture flows octets f
    → OfCapture flows octets e → f ≡ e
one_fault flows octets f e (inl a) (inl b) = same_front octets f e a b
one_fault flows octets f e (inl a) (inr (inl b)) = absurd (front_twice octets f b.0.0 a b.0.1)
one_fault flows octets f e (inl a) (inr (inr b)) = absurd (front_twice octets f b.0.0 a b.0.1)
one_fault flows octets f e (inr (inl a)) (inl b) = absurd (front_twice octets e a.0.0 b a.0.1)
one_fault flows octets f e (inr (inr a)) (inl b) = absurd (front_twice octets e a.0.0 b a.0.1)
one_fault flows octets f e (inr (inl a)) (inr (inl b)) =
    same_fault f e
    (sym (fault_is (Capture f) octets a.1) ∙ fault_is (Capture e) octets b.1)
one_fault flows octets f e (inr (inl (front, is, inl many))) (inr (inr b)) = many ∙ sym b.1
one_fault flows octets f e (inr (inl (front, is, inr few))) (inr (inr b)) =
    absurd (omega (arith, few, b.2))
one_fault flows octets f e (inr (inr a)) (inr (inl (front, is, inl many))) = a.1 ∙ sym many
one_fault flows octets f e (inr (inr a)) (inr (inl (front, is, inr few))) =
    absurd (omega (arith, few, a.2))
one_fault flows octets f e (inr (inr a)) (inr (inr b)) = a.1 ∙ sym b.1

-- ---- its text

-- the text by which it is refused, or by which a receiver is opened
text_has : (window : List ℕ) (w : Way) (told : List ℕ → Type 0) (octets : List ℕ) (r : Refusal)
    → told octets → IsFileOpenedRefusal window w told r
    → (text : List ℕ) × HasFileText w octets text × IsFrontRefusal window text r
text_has window w told octets (why.Capture f) there is = absurd is
text_has window w told octets r there is = is octets there

text_refused : (window : List ℕ) (w : Way) (told : List ℕ → Type 0) (octets : List ℕ)
    (r : Refusal) → told octets → IsFileOpenedRefusal window w told r
    → IsFrontRefusal window (text_of_file octets) r
text_refused window w told octets r there is =
    let at = text_has window w told octets r there is in
    subst (λ (t : List ℕ). IsFrontRefusal window t r) (sym (text_is w octets at.0 at.1)) at.2

text_opens : (window : List ℕ) (w : Way) (told : List ℕ → Type 0) (octets : List ℕ)
    → told octets → FileOpens window w told → Opens window (text_of_file octets)
text_opens window w told octets there is =
    let at = is octets there in
    subst (λ (t : List ℕ). Opens window t) (sym (text_is w octets at.0 at.1)) at.2

-- ---- a file that is taken as a capture

-- it is no recording that is taken by flows
no_recording : (w : Way) (octets : List ℕ) → IsCaptureBy w octets → is_recording octets ≡ true
    → IsSome (flows_in w) → ⊥
no_recording way.Capture octets capture kind some = no_flows some
no_recording (way.Flows flows) octets capture kind some =
    not_both (is_recording octets) kind capture
no_recording (way.Refused e) octets capture kind some = no_flows some

-- nor one that isn't taken
no_untaken : (w : Way) (told : List ℕ → Type 0) (octets : List ℕ) (r : Refusal) → told octets
    → IsCaptureBy w octets → IsUntakenRefusal w told r → ⊥
no_untaken way.Capture told octets r there capture is = is
no_untaken (way.Flows flows) told octets r there capture is = is
no_untaken (way.Refused e) told octets r there capture is =
    not_both (is_recording octets) (is.1 octets there) capture

-- what stops it
abbrev Stopped : Option Flows → List ℕ → Refusal → Type 0
Stopped flows octets r = (f : FileFault) × (r ≡ why.Capture f) × OfCapture flows octets f

one_stopped : (flows : Option Flows) (octets : List ℕ) (r q : Refusal) → Stopped flows octets r
    → Stopped flows octets q → r ≡ q
one_stopped flows octets r q a b =
    a.1 ∙ ap (λ (f : FileFault). why.Capture f) (one_fault flows octets a.0 b.0 a.2 b.2) ∙ sym b.1

-- which its refusal is: of its front; of opening by its text; of what stops it
abbrev OfTurn : List ℕ → Type 0 → Option Flows → List ℕ → Refusal → Type 0
OfTurn window U flows octets r =
    ((f : FileFault) × (r ≡ why.Capture f) × OfFront octets f)
    ⊎ (U × HasFrontBy false octets × IsFrontRefusal window (text_of_file octets) r)
    ⊎ ((U → Opens window (text_of_file octets)) × Stopped flows octets r)

one_turn : (window : List ℕ) (U : Type 0) (flows : Option Flows) (octets : List ℕ)
    (r q : Refusal) → OfTurn window U flows octets r → OfTurn window U flows octets q → One r q
one_turn window U flows octets r q (inl a) (inl b) =
    inl (one_stopped flows octets r q (a.0, a.1, inl a.2) (b.0, b.1, inl b.2))
one_turn window U flows octets r q (inl a) (inr (inl b)) =
    absurd (front_twice octets a.0 b.1.0 a.2 b.1.1)
one_turn window U flows octets r q (inl a) (inr (inr b)) =
    inl (one_stopped flows octets r q (a.0, a.1, inl a.2) b.1)
one_turn window U flows octets r q (inr (inl a)) (inl b) =
    absurd (front_twice octets b.0 a.1.0 b.2 a.1.1)
one_turn window U flows octets r q (inr (inl a)) (inr (inl b)) =
    one_front window (text_of_file octets) r q a.2 b.2
one_turn window U flows octets r q (inr (inl a)) (inr (inr b)) =
    absurd (front_none window (text_of_file octets) r (b.0 a.0) a.2)
one_turn window U flows octets r q (inr (inr a)) (inl b) =
    inl (one_stopped flows octets r q a.1 (b.0, b.1, inl b.2))
one_turn window U flows octets r q (inr (inr a)) (inr (inl b)) =
    absurd (front_none window (text_of_file octets) q (a.0 b.0) b.2)
one_turn window U flows octets r q (inr (inr a)) (inr (inr b)) =
    inl (one_stopped flows octets r q a.1 b.1)

module _ (w : Way) (told : List ℕ → Type 0) (octets : List ℕ) (there : told octets)
    (capture : IsCaptureBy w octets) where
  fault_of : (r : Refusal) → IsCaptureRefusal told r → IsBehindFew w told r
      → Stopped (flows_in w) octets r
  fault_of (why.Capture f) is few =
      (f, refl, capture_of (flows_in w) octets f (is octets there) (by few))
    where
      same : why.Capture f ≡ why.Capture TooManyRecords → f ≡ TooManyRecords
      same e = cc

      by : IsBehindFew w told (why.Capture f)
          → (f ≡ TooManyRecords) ⊎ (length (records_of_file (flows_in w) octets) < 16777216)
      by (inl e) = inl (same e)
      by (inr less) = inr (less octets there)
  fault_of r is few = absurd is

  stopped_by : (r : Refusal) → StopsFile w told r → IsBehindFew w told r
      → Stopped (flows_in w) octets r
  stopped_by r (inl is) few = fault_of r is.0 few
  stopped_by (why.Recording f) (inr (inl is)) few =
      absurd (no_recording w octets capture (is.1 octets there).0 is.0)
  stopped_by r (inr (inl is)) few = absurd is
  stopped_by r (inr (inr (inl is))) few =
      absurd (no_recording w octets capture (is.2 octets there).kind is.1)
  stopped_by r (inr (inr (inr is))) few = absurd (no_untaken w told octets r there capture is)

  front_stopped : (r : Refusal) → StopsFront w told r
      → (f : FileFault) × (r ≡ why.Capture f) × OfFront octets f
  front_stopped (why.Capture f) (inl is) = (f, refl, is.0 octets there)
  front_stopped r (inl is) = absurd is.0
  front_stopped (why.Recording f) (inr (inl is)) =
      absurd (no_recording w octets capture (is.1 octets there).0 is.0)
  front_stopped r (inr (inl is)) = absurd is
  front_stopped r (inr (inr is)) = absurd (no_untaken w told octets r there capture is)

  text_front : (text : List ℕ) → HasFileText w octets text → HasFrontBy false octets
  text_front text (inl is) = absurd (no_recording w octets capture is.0 is.1)
  text_front text (inr (rest, kind, is)) = ((text, rest), is)

  turn_of : (window : List ℕ) (U : Type 0) (r : Refusal) → IsTurnRefusal window w U told r
      → OfTurn window U (flows_in w) octets r
  turn_of window U r (inl front) = inl (front_stopped r front)
  turn_of window U r (inr (inl (none, is))) =
      let at = text_has window w told octets r there is in
      inr (inl (
        none,
        text_front at.0 at.1,
        text_refused window w told octets r there is,
      ))
  turn_of window U r (inr (inr (opens, stops, few))) =
      inr (inr (
        λ none. text_opens window w told octets there (opens none),
        stopped_by r stops few,
      ))

  one_capture : (window : List ℕ) (U : Type 0) (r q : Refusal) → IsTurnRefusal window w U told r
      → IsTurnRefusal window w U told q → One r q
  one_capture window U r q is other =
      one_turn window U (flows_in w) octets r q (turn_of window U r is) (turn_of window U q other)

-- ---- a recording that is taken by flows

same_recording : (f e : RecordingFault) → Some f ≡ Some e → f ≡ e
same_recording f e is = cc

module _ (flows : Flows) (octets : List ℕ) (kind : is_recording octets ≡ true) where
  abbrev count : ℕ
  count = length (records_of_file (Some flows) octets)

  -- what stops it: its first fault, behind few records; or there are many
  abbrev Ends : Refusal → Type 0
  Ends r =
      ((f : RecordingFault) × (r ≡ why.Recording f) × (fault_in most_packet octets ≡ Some f)
      × (count < 16777216))
      ⊎ ((r ≡ why.Capture TooManyRecords) × (16777216 ≤ count))

  one_end : (r q : Refusal) → Ends r → Ends q → r ≡ q
  one_end r q (inl a) (inl b) =
      a.1
      ∙ ap (λ (f : RecordingFault). why.Recording f) (same_recording a.0 b.0 (sym a.2 ∙ b.2))
      ∙ sym b.1
  one_end r q (inl a) (inr b) = absurd (omega (arith, a.3, b.1))
  one_end r q (inr a) (inl b) = absurd (omega (arith, a.1, b.3))
  one_end r q (inr a) (inr b) = a.0 ∙ sym b.0

  -- its front is at fault
  abbrev FrontEnds : Refusal → Type 0
  FrontEnds r = (f : RecordingFault) × (r ≡ why.Recording f) × (opened_at octets ≡ Err f)

  -- then that is its first, and it has no records
  front_ends : (r : Refusal) → FrontEnds r → Ends r
  front_ends r (f, is, wrong) =
      let none : records_of_file (Some flows) octets ≡ [] =
      recording_entries flows octets kind
      ∙ ap (λ (ps : List Recorded). records_of flows ps) (front_packets octets f wrong) in
      inl (
        f,
        is,
        front_first octets f wrong,
        omega (arith, ap (λ (es : List Entry). length es) none),
      )

  -- which its refusal is: of its front; that it has no text; of what stops it, where that isn't
  -- looked for
  abbrev OfRecording : Type 0 → Refusal → Type 0
  OfRecording U r = FrontEnds r
      ⊎ (U × HasFrontBy true octets × (r ≡ why.ReceiveNoSdp))
      ⊎ ((U → ⊥) × Ends r)

  opens_not : (r : Refusal) → FrontEnds r → HasFrontBy true octets → ⊥
  opens_not r (f, is, wrong) (x, there) =
      let both : Err f ≡ Ok x = sym wrong ∙ there in
      absurd cc

  one_recording : (U : Type 0) (r q : Refusal) → OfRecording U r → OfRecording U q → r ≡ q
  one_recording U r q (inl a) (inl b) = one_end r q (front_ends r a) (front_ends q b)
  one_recording U r q (inl a) (inr (inl b)) = absurd (opens_not r a b.1)
  one_recording U r q (inl a) (inr (inr b)) = one_end r q (front_ends r a) b.1
  one_recording U r q (inr (inl a)) (inl b) = absurd (opens_not q b a.1)
  one_recording U r q (inr (inl a)) (inr (inl b)) = a.2 ∙ sym b.2
  one_recording U r q (inr (inl a)) (inr (inr b)) = absurd (b.0 a.0)
  one_recording U r q (inr (inr a)) (inl b) = one_end r q a.1 (front_ends q b)
  one_recording U r q (inr (inr a)) (inr (inl b)) = absurd (a.0 b.0)
  one_recording U r q (inr (inr a)) (inr (inr b)) = one_end r q a.1 b.1

  module _ (told : List ℕ → Type 0) (there : told octets) where
    ends_by : (r : Refusal) → StopsFile (way.Flows flows) told r
        → IsBehindFew (way.Flows flows) told r → Ends r
    ends_by r (inl is) few = absurd (not_both (is_recording octets) kind (is.1 octets there))
    ends_by (why.Recording f) (inr (inl is)) few =
        inl (f, refl, (is.1 octets there).1, by few)
      where
        by : IsBehindFew (way.Flows flows) told (why.Recording f) → count < 16777216
        by (inl e) = absurd cc
        by (inr less) = less octets there
    ends_by r (inr (inl is)) few = absurd is
    ends_by r (inr (inr (inl is))) few =
        let has = is.2 octets there in
        inr (
          is.0,
          omega (
            arith,
            has.count,
            ap (λ (es : List Entry). length es) has.first.1,
            length-append has.records has.first.0,
          ),
        )
    ends_by r (inr (inr (inr is))) few = absurd is

    front_there : (text : List ℕ) → HasFileText (way.Flows flows) octets text
        → HasFrontBy true octets
    front_there text (inl (is, some, none, front)) = front
    front_there text (inr (rest, is, front)) = absurd (not_both (is_recording octets) kind is)

    -- it has no text
    no_sdp : (window : List ℕ) (r : Refusal) → IsFrontRefusal window (text_of_file octets) r
        → r ≡ why.ReceiveNoSdp
    no_sdp window r is = by (front_of window (text_of_file octets) r is)
      where
        by : ((r ≡ why.ReceiveNoSdp) × (text_of_file octets ≡ []))
            ⊎ ((text_of_file octets ≡ [] → ⊥) × IsOpeningRefusal window (text_of_file octets) r)
            → r ≡ why.ReceiveNoSdp
        by (inl a) = a.0
        by (inr b) = absurd (b.0 (recording_text flows octets kind))

    recording_of : (window : List ℕ) (U : Type 0) (r : Refusal)
        → IsTurnRefusal window (way.Flows flows) U told r → OfRecording U r
    recording_of window U r (inl (inl is)) =
        absurd (not_both (is_recording octets) kind (is.1 octets there))
    recording_of window U (why.Recording f) (inl (inr (inl is))) =
        inl (f, refl, (is.1 octets there).1)
    recording_of window U r (inl (inr (inl is))) = absurd is
    recording_of window U r (inl (inr (inr is))) = absurd is
    recording_of window U r (inr (inl (none, is))) =
        let at = text_has window (way.Flows flows) told octets r there is in
        inr (inl (
          none,
          front_there at.0 at.1,
          no_sdp window r (text_refused window (way.Flows flows) told octets r there is),
        ))
    recording_of window U r (inr (inr (opens, stops, few))) =
        inr (inr (
          λ none. none_said (subst (λ (t : List ℕ). IsSdp t) (recording_text flows octets kind)
              (text_opens window (way.Flows flows) told octets there (opens none)).sdp),
          ends_by r stops few,
        ))

-- ---- a recording that isn't taken

module _ (e : Refusal) (told : List ℕ → Type 0) (octets : List ℕ) (there : told octets)
    (kind : is_recording octets ≡ true) where
  untext : (text : List ℕ) → HasFileText (way.Refused e) octets text → ⊥
  untext text (inl is) = no_flows is.1
  untext text (inr (rest, is, front)) = not_both (is_recording octets) kind is

  untaken_of : (window : List ℕ) (U : Type 0) (r : Refusal)
      → IsTurnRefusal window (way.Refused e) U told r → r ≡ e
  untaken_of window U r (inl (inl is)) =
      absurd (not_both (is_recording octets) kind (is.1 octets there))
  untaken_of window U (why.Recording f) (inl (inr (inl is))) = absurd (no_flows is.0)
  untaken_of window U r (inl (inr (inl is))) = absurd is
  untaken_of window U r (inl (inr (inr is))) = is.0
  untaken_of window U r (inr (inl (none, is))) =
      let at = text_has window (way.Refused e) told octets r there is in
      absurd (untext at.0 at.1)
  untaken_of window U r (inr (inr (opens, inl is, few))) =
      absurd (not_both (is_recording octets) kind (is.1 octets there))
  untaken_of window U (why.Recording f) (inr (inr (opens, inr (inl is), few))) =
      absurd (no_flows is.0)
  untaken_of window U r (inr (inr (opens, inr (inl is), few))) = absurd is
  untaken_of window U r (inr (inr (opens, inr (inr (inl is)), few))) = absurd (no_flows is.1)
  untaken_of window U r (inr (inr (opens, inr (inr (inr is)), few))) = is.0

-- ---- a file

pub one_file : (window : List ℕ) (w : Way) (U : Type 0) (told : List ℕ → Type 0)
    (octets : List ℕ) (r q : Refusal) → told octets → IsTurnRefusal window w U told r
    → IsTurnRefusal window w U told q → One r q
one_file window way.Capture U told octets r q there is other =
    one_capture way.Capture told octets there tt window U r q is other
one_file window (way.Flows flows) U told octets r q there is other = by (is_recording octets) refl
  where
    by : (b : Bool) → is_recording octets ≡ b → One r q
    by true kind =
        inl (one_recording flows octets kind U r q
        (recording_of flows octets kind told there window U r is)
        (recording_of flows octets kind told there window U q other))
    by false kind = one_capture (way.Flows flows) told octets there kind window U r q is other
one_file window (way.Refused e) U told octets r q there is other = by (is_recording octets) refl
  where
    by : (b : Bool) → is_recording octets ≡ b → One r q
    by true kind =
        inl (untaken_of e told octets there kind window U r is
        ∙ sym (untaken_of e told octets there kind window U q other))
    by false kind = one_capture (way.Refused e) told octets there kind window U r q is other

-- what was taken to its end isn't refused
pub file_not : (window : List ℕ) (w : Way) (U : Type 0) (told : List ℕ → Type 0)
    (octets : List ℕ) (r : Refusal) → told octets → IsReadWhole w told
    → (U → FileOpens window w told) → IsTurnRefusal window w U told r → ⊥
file_not window w U told octets r there whole opens (inl front) =
    stops_not w told octets r there (whole octets there) (front_stop w told r front)
file_not window w U told octets r there whole opens (inr (inl (none, is))) =
    front_none window (text_of_file octets) r
    (text_opens window w told octets there (opens none))
    (text_refused window w told octets r there is)
file_not window w U told octets r there whole opens (inr (inr (unopened, stops, few))) =
    stops_not w told octets r there (whole octets there) stops

-- ---- a file whose front has no fault

module _ (w : Way) (octets text : List ℕ) (has : HasFileText w octets text) where
  no_capture_front : (f : FileFault) → IsCaptureBy w octets → OfFront octets f → ⊥
  no_capture_front f capture wrong =
      let there = text_there has in
      front_twice octets f there.0 wrong there.1
    where
      text_there : HasFileText w octets text → HasFrontBy false octets
      text_there (inl is) = absurd (no_recording w octets capture is.0 is.1)
      text_there (inr (rest, kind, is)) = ((text, rest), is)

  no_recording_front : (f : RecordingFault) → is_recording octets ≡ true
      → opened_at octets ≡ Err f → ⊥
  no_recording_front f kind wrong = by has
    where
      by : HasFileText w octets text → ⊥
      by (inl (is, some, none, (x, there))) =
          let both : Err f ≡ Ok x = sym wrong ∙ there in
          absurd cc
      by (inr (rest, is, there)) = not_both (is_recording octets) kind is

-- nor is it untaken
no_untaken_front : (w : Way) (told : List ℕ → Type 0) (octets text : List ℕ) (r : Refusal)
    → told octets → HasFileText w octets text → IsUntakenRefusal w told r → ⊥
no_untaken_front way.Capture told octets text r there has is = is
no_untaken_front (way.Flows flows) told octets text r there has is = is
no_untaken_front (way.Refused e) told octets text r there has is =
    untext e told octets there (is.1 octets there) text has

pub no_front : (w : Way) (told : List ℕ → Type 0) (octets text : List ℕ) (r : Refusal)
    → told octets → HasFileText w octets text → StopsFront w told r → ⊥
no_front w told octets text (why.Capture f) there has (inl is) =
    no_capture_front w octets text has f (is.1 octets there) (is.0 octets there)
no_front w told octets text r there has (inl is) = absurd is.0
no_front w told octets text (why.Recording f) there has (inr (inl is)) =
    let at = is.1 octets there in
    no_recording_front w octets text has f at.0 at.1
no_front w told octets text r there has (inr (inl is)) = absurd is
no_front w told octets text r there has (inr (inr is)) =
    no_untaken_front w told octets text r there has is
