-- Against what a run of `inspect` read that ended well, and tells streams, no refusal speaks.
use Rattle.std.proofs.Common.{◌≡◌, ℕ, zero, suc, ◌<◌, inl, inr, true, List, [], ◌∷◌}
use Rattle.std.proofs.Common.{length, length-append, take, Option, None, Some, Result}
use Rattle.std.proofs.Common.{sym, ap, subst, arith, ◌∙◌, ◌++◌}
use Rattle.std.specs.Prelude.{IsSome}
use Rattle.flow.specs.declared.flows.Flows.{Flows}
use Rattle.media_file.specs.Records.{Entry}
use Rattle.path_receiver.specs.Opening.{IsWindow}
use Rattle.recording_reader.specs.Files.{records_of_file, text_of_file}
use Rattle.recording_reader.specs.Kinds.{is_recording}
use Rattle.recording_reader.specs.declared.fault.ReadingFault.{ReadingFault}
use Rattle.run_outcome.specs.Moments.{WasRead}
use Rattle.run_outcome.specs.declared.refusal.Refusal.{Refusal}
use Rattle.run_outcome.specs.declared.refusal.Refusal.TheVariants as why
use Rattle.capture_engines.specs.Files.{HasFileText, IsTakenWhole, first_way, flows_in, other_ways}
use Rattle.capture_engines.specs.Files.{way_at}
use Rattle.capture_engines.specs.Received.{IsFileOpenedRefusal, IsFrontRefusal, IsOpeningRefusal}
use Rattle.capture_engines.specs.Received.{StopsFile}
use Rattle.capture_engines.specs.declared.way.Way.{Way}
use Rattle.stream_inspection.specs.Aim.{AnnouncesTarget, IsBeginRefusal, IsTarget}
use Rattle.capture_engines.proofs.Untaken.{front_stop}
use Rattle.stream_inspection.specs.Read.{EndsAfter, HasRecords, HaveRecords, IsStartRefusal}
use Rattle.stream_inspection.specs.Told.{IsStreamsRefusal, TellsStreams, begins}
use Rattle.stream_inspection.specs.declared.target.Target.{Target}
use Rattle.stream_inspection.specs.declared.target.Wanted.{Wanted}
use Rattle.stream_inspection.specs.declared.target.Wanted.TheVariants.{Said, Given}
use Rattle.stream_inspection.specs.declared.text.Form.{Form}
use Rattle.run_laws.specs.Received.{all_read, read_of}
use Rattle.run_laws.specs.Streams.{HaveFew}
use Rattle.run_laws.proofs.NoTextFault.{no_text_fault}
use Rattle.run_laws.proofs.Receiving.{all_were_read, was_read}
use Rattle.run_laws.proofs.WholeFiles.{fault_twice, not_both, stops_not, text_is, window_not}

-- ---- opening

one_window : IsWindow (0 ∷ [])
one_window = record {
  size = record { some = omega arith; most = omega arith };
  different = (λ is. is, tt);
}

opening_not : (text : List ℕ) (t : Target) (r : Refusal) → AnnouncesTarget text t
    → IsOpeningRefusal (0 ∷ []) text r → ⊥
opening_not text t (why.Sdp at) says wrong =
    no_text_fault text says.description at.fault says.described wrong
opening_not text t (why.Open e) says wrong = window_not e (0 ∷ []) one_window wrong.1
opening_not text t r says wrong = absurd wrong

front_not : (text : List ℕ) (t : Target) (r : Refusal) → AnnouncesTarget text t
    → IsFrontRefusal (0 ∷ []) text r → ⊥
front_not text t why.ReceiveNoSdp says wrong =
    let none : AnnouncesTarget [] t = subst (λ (l : List ℕ). AnnouncesTarget l t) wrong says in
    absurd none.described
front_not text t r says wrong = opening_not text t r says wrong.1

begin_not : (w : Wanted) (sdp : Option (List ℕ)) (files : List (List ℕ)) (t : Target)
    (r : Refusal) → IsTarget w sdp files t → IsBeginRefusal w sdp r → ⊥
begin_not (Given u) sdp files t r is wrong = wrong
begin_not Said None files t r is wrong = wrong
begin_not Said (Some text) files t r is wrong = opening_not text t r is wrong

-- ---- one file

by_text : (w : Way) (octets text : List ℕ) → HasFileText w octets text
    → is_recording octets ≡ true → IsSome (flows_in w)
by_text w octets text (inl (kind, flows, none, front)) recording = flows
by_text w octets text (inr (rest, kind, front)) recording =
    absurd (not_both (is_recording octets) recording kind)

taken : (w : Way) (octets : List ℕ) (records : List Entry) → HasRecords w octets records None
    → length (records_of_file (flows_in w) octets) < 16777216 → IsTakenWhole w octets
taken w octets records has few = record {
  whole = has.ends.1;
  few = few;
  by_flows = by_text w octets has.text has.has_text;
}

one_not : (w : Way) (octets : List ℕ) (records : List Entry) (f : ReadingFault)
    → IsTakenWhole w octets → HasRecords w octets records (Some f) → ⊥
one_not w octets records f is has = by has.ends
  where
    by : EndsAfter (flows_in w) octets records (Some f) → ⊥
    by (inl wrong) = fault_twice octets f is.whole wrong.1
    by (inr many) =
        omega (
          arith,
          is.few,
          many.1,
          ap (λ (es : List Entry). length es) many.2.1,
          length-append records many.2.0,
        )

-- ---- files

no_end : (f : ReadingFault) → (let some : Option ReadingFault = Some f in some ≡ None) → ⊥
no_end f e = cc

module _ {S : Type 0} (gave : S → List ℕ) (ended : S → Type 0) where
  abbrev Whole : List (Result Flows Refusal) → List (S × S) → Type 0
  Whole ways [] = Unit {0}
  Whole ways (s ∷ ss) = IsTakenWhole (first_way ways) (read_of gave s) × Whole (other_ways ways) ss

  are_whole : (ways : List (Result Flows Refusal)) (files : List (S × S)) (records : List Entry)
      → HaveRecords ways (all_read gave files) records None → HaveFew ways (all_read gave files)
      → Whole ways files
  are_whole ways [] records has few = tt
  are_whole ways (s ∷ []) records has few =
      (taken (first_way ways) (read_of gave s) records has few.0, tt)
  are_whole ways (s ∷ (t ∷ ss)) records has few = (
    taken (first_way ways) (read_of gave s) has.0 has.3 few.0,
    are_whole (other_ways ways) (t ∷ ss) has.1 has.4 few.1,
  )

  -- none of them is stopped
  stop_not : (ways : List (Result Flows Refusal)) (front : List (S × S)) (at : S × S)
      (behind : List (S × S)) (r : Refusal) → Whole ways (front ++ at ∷ behind)
      → StopsFile (way_at ways (length front)) (WasRead gave ended at) r → ⊥
  stop_not ways [] at behind r whole wrong =
      stops_not (first_way ways) (WasRead gave ended at) (read_of gave at) r
      (was_read gave ended at) whole.0 wrong
  stop_not ways (s ∷ ss) at behind r whole wrong =
      stop_not (other_ways ways) ss at behind r whole.1 wrong

  -- none of them has a fault
  ends_not : (ways : List (Result Flows Refusal)) (files : List (S × S)) (count : ℕ)
      (records : List Entry) (f : ReadingFault) → Whole ways files
      → HaveRecords ways (all_read gave (take count files)) records (Some f) → ⊥
  ends_not ways files zero records f whole has = no_end f has.1
  ends_not ways [] (suc k) records f whole has = no_end f has.1
  ends_not ways (s ∷ ss) (suc zero) records f whole has =
      one_not (first_way ways) (read_of gave s) records f whole.0 has
  ends_not ways (s ∷ []) (suc (suc k)) records f whole has =
      one_not (first_way ways) (read_of gave s) records f whole.0 has
  ends_not ways (s ∷ (t ∷ ss)) (suc (suc k)) records f whole has =
      ends_not (other_ways ways) (t ∷ ss) (suc k) has.1 f whole.1 has.4

  file_not : (s : S × S) (w : Way) (t : Target) (r : Refusal)
      → AnnouncesTarget (text_of_file (read_of gave s)) t
      → IsFileOpenedRefusal (0 ∷ []) w (WasRead gave ended s) r → ⊥
  file_not s w t (why.Capture f) says wrong = wrong
  file_not s w t r says wrong =
      let octets : List ℕ = read_of gave s in
      let at = wrong octets (was_read gave ended s) in
      front_not (text_of_file octets) t r says
      (subst (λ (l : List ℕ). IsFrontRefusal (0 ∷ []) l r) (sym (text_is w octets at.0 at.1)) at.2)

  -- what is looked for isn't said by no files, and the first of them isn't refused by its text
  empty_not : (w : Wanted) (sdp : Option (List ℕ)) (t : Target) → IsTarget w sdp [] t
      → begins w sdp ≡ None → ⊥
  empty_not (Given u) sdp t is none = cc
  empty_not Said (Some text) t is none = cc
  empty_not Said None t is none = is

  text_not : (w : Wanted) (sdp : Option (List ℕ)) (s : S × S) (ss : List (S × S)) (v : Way)
      (t : Target) (r : Refusal) → IsTarget w sdp (all_read gave (s ∷ ss)) t
      → begins w sdp ≡ None → IsFileOpenedRefusal (0 ∷ []) v (WasRead gave ended s) r → ⊥
  text_not (Given u) sdp s ss v t r is none wrong = cc
  text_not Said (Some text) s ss v t r is none wrong = cc
  text_not Said None s ss v t r is none wrong = file_not s v t r is wrong

  first_not : (w : Wanted) (sdp : Option (List ℕ)) (ways : List (Result Flows Refusal))
      (files front : List (S × S)) (at : S × S) (behind : List (S × S)) (t : Target) (r : Refusal)
      → files ≡ front ++ at ∷ behind → IsTarget w sdp (all_read gave files) t → Whole ways files
      → IsStartRefusal (way_at ways (length front)) ((begins w sdp ≡ None) × (front ≡ []))
      (WasRead gave ended at) r → ⊥
  first_not w sdp ways files front at behind t r parts is whole (inl wrong) =
      stop_not ways front at behind r (subst (Whole ways) parts whole)
      (front_stop (way_at ways (length front)) (WasRead gave ended at) r wrong)
  first_not w sdp ways files front at behind t r parts is whole (inr ((none, empty), wrong)) =
      text_not w sdp at behind (way_at ways (length front)) t r
      (subst (λ (l : List (S × S)). IsTarget w sdp (all_read gave l) t)
      (parts ∙ ap (λ (l : List (S × S)). l ++ at ∷ behind) empty) is) none wrong

  pub streams_not : (w : Wanted) (form : Form) (sdp : Option (List ℕ))
      (ways : List (Result Flows Refusal)) (files : List (S × S))
      (shown shown' other other' : List ℕ) (r : Refusal)
      → TellsStreams w form sdp ways (WasRead gave ended) files None shown shown'
      → HaveFew ways (all_read gave files)
      → IsStreamsRefusal w form sdp ways (WasRead gave ended) files other other' r → ⊥
  streams_not w form sdp ways files shown shown' other other' r tells few (inl (same, inl begin)) =
      let run = tells.printed (all_read gave files) (all_were_read gave ended files) in
      begin_not w sdp (all_read gave files) run.0 r run.1 begin
  streams_not w form sdp ways files shown shown' other other' r tells few
      (inl (same, inr (inl (none, empty, is)))) =
      let run = tells.printed (all_read gave files) (all_were_read gave ended files) in
      empty_not w sdp run.0
      (subst (λ (l : List (S × S)). IsTarget w sdp (all_read gave l) run.0) empty run.1) none
  streams_not w form sdp ways files shown shown' other other' r tells few
      (inl (same, inr (inr first))) =
      let run = tells.printed (all_read gave files) (all_were_read gave ended files) in
      first_not w sdp ways files first.front first.at first.behind run.0 r first.parts run.1
      (are_whole ways files run.2 run.3 few) first.refused
  streams_not w form sdp ways files shown shown' other other' r tells few
      (inr (f, count, is, told)) =
      let run = tells.printed (all_read gave files) (all_were_read gave ended files) in
      let part =
      told.printed (all_read gave (take count files))
      (all_were_read gave ended (take count files)) in
      ends_not ways files count part.2 f (are_whole ways files run.2 run.3 few) part.3
