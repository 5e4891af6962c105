-- Against what a run of `receive` read that ended well no refusal speaks.
use Rattle.std.proofs.Common.{◌≡◌, ℕ, inl, inr, Bool, List, [], ◌∷◌}
use Rattle.std.proofs.Common.{Option, None, Some, Result, refl, sym, subst, arith}
use Rattle.std.specs.Prelude.{MatchOption}
use Rattle.st_format.specs.History.{since}
use Rattle.flow.specs.declared.flows.Flows.{Flows}
use Rattle.path_receiver.specs.Opening.{IsWindow}
use Rattle.recording_reader.specs.Files.{text_of_file}
use Rattle.run_outcome.specs.Moments.{WasRead}
use Rattle.run_outcome.specs.Timestamps.{AreTimestamps}
use Rattle.run_outcome.specs.declared.refusal.Refusal.{Refusal}
use Rattle.run_outcome.specs.declared.refusal.Refusal.TheVariants as why
use Rattle.capture_engines.specs.Files.{AreReadWhole, files_datagrams, first_way, other_ways}
use Rattle.capture_engines.specs.Received.{FirstFileRefuses, IsFileOpenedRefusal, IsFilesRefusal}
use Rattle.capture_engines.specs.Received.{IsFrontRefusal, IsGivenRefusal, IsOpeningRefusal}
use Rattle.capture_engines.specs.Received.{IsReceiveRefusal, IsReceivingRefusal, IsWordRefusal}
use Rattle.capture_engines.specs.Received.{OneFileIs, StopsFile}
use Rattle.capture_engines.specs.Receiving.{SavesShown}
use Rattle.capture_engines.specs.Taking.{AnnouncesStream, Receives, ReceivesFiles}
use Rattle.capture_engines.specs.Taking.{IsOpeningText, SavesHolding, said_behind}
use Rattle.capture_engines.specs.declared.way.Way.TheVariants as way
use Rattle.capture_engines.proofs.FirstRefused.{first_is_one}
use Rattle.run_laws.specs.Received.{IsReceivedFile, all_read, datagrams_read, read_of}
use Rattle.run_laws.proofs.NoTextFault.{no_text_fault}
use Rattle.run_laws.proofs.Opened.{one_window}
use Rattle.run_laws.proofs.Receiving.{all_were_read, files_received, run_received, was_read}
use Rattle.run_laws.proofs.WholeFiles.{stops_not, text_is, window_not}

-- ---- opening

module _ (window source text : List ℕ) (datagrams : List (List ℕ)) (file : List ℕ)
    (is : IsReceivedFile window source text datagrams file) (ts : List ℕ)
    (are : AreTimestamps window ts)
  where
    pub opening_not : (r : Refusal) → IsOpeningRefusal ts text r → ⊥
    opening_not (why.Sdp at) wrong =
        no_text_fault text is.announced.description at.fault is.announced.described wrong
    opening_not (why.Open e) wrong =
        window_not e ts
        (subst (λ (w : List ℕ). IsWindow w)
        (one_window window is.receiver.opening.window ts is.window_is are)
        is.file_is.writable.receiver.window)
        wrong.1
    opening_not r wrong = absurd wrong

    pub front_not : (r : Refusal) → IsFrontRefusal ts text r → ⊥
    front_not why.ReceiveNoSdp wrong =
        let announced : AnnouncesStream [] is.receiver.opening =
        subst (λ (t : List ℕ). AnnouncesStream t is.receiver.opening) wrong is.announced in
        absurd announced.described
    front_not r wrong = opening_not r wrong.1

-- the words said a window and a source
word_not : (window source : List ℕ) (IsText : List ℕ → Type 0) (datagrams : List (List ℕ))
    (wanted : Bool) (shown printed old new : List ℕ) (r : Refusal)
    → SavesHolding window source IsText datagrams wanted shown printed old new
    → IsWordRefusal window source r → ⊥
word_not window source IsText datagrams wanted shown printed old new why.ReceiveWindow saves wrong =
    wrong saves.receiver.opening.window saves.window_is
word_not window source IsText datagrams wanted shown printed old new why.ReceiveSource saves wrong =
    wrong saves.receiver.opening.ssrc saves.source_is
word_not window source IsText datagrams wanted shown printed old new r saves wrong = absurd wrong

-- ---- files

module _ {S : Type 0} (gave : S → List ℕ) (ended : S → Type 0) where
  files_not : (ways : List (Result Flows Refusal)) (files : List (S × S)) (r : Refusal)
      → AreReadWhole ways (WasRead gave ended) files
      → OneFileIs (λ w s. StopsFile w (WasRead gave ended s) r) ways files → ⊥
  files_not ways [] r whole wrong = wrong
  files_not ways (s ∷ ss) r whole (inl wrong) =
      stops_not (first_way ways) (WasRead gave ended s) (read_of gave s) r (was_read gave ended s)
      (whole.0 (read_of gave s) (was_read gave ended s)) wrong
  files_not ways (s ∷ ss) r whole (inr wrong) = files_not (other_ways ways) ss r whole.1 wrong

module _ {S : Type 0} (gave : S → List ℕ) (ended : S → Type 0) (window source : List ℕ)
    (wanted : Bool) (shown printed old new : List ℕ)
    (shows : SavesShown wanted shown printed old new)
  where
    -- a run over files, each taken so
    module _ (ways : List (Result Flows Refusal)) where
      abbrev FilesRun : Option (List ℕ) → List (S × S) → Type 0
      FilesRun sdp files =
          ReceivesFiles window source sdp ways (WasRead gave ended) files wanted shown printed old
          new

      file_opened : (s : S × S) (ss : List (S × S)) (ts : List ℕ) (r : Refusal)
          → FilesRun None (s ∷ ss) → AreTimestamps window ts
          → IsFileOpenedRefusal ts (first_way ways) (WasRead gave ended s) r → ⊥
      file_opened s ss ts (why.Capture f) run are wrong = wrong
      file_opened s ss ts r run are wrong =
          let octets : List ℕ = read_of gave s in
          let at = wrong octets (was_read gave ended s) in
          front_not window source (text_of_file octets)
          (files_datagrams ways (all_read gave (s ∷ ss))) (since old new)
          (files_received gave ended window source (text_of_file octets) None ways (s ∷ ss) wanted
          shown printed old new shows run refl) ts are r
          (subst (λ (t : List ℕ). IsFrontRefusal ts t r)
          (sym (text_is (first_way ways) octets at.0 at.1)) at.2)

      first_not : (sdp : Option (List ℕ)) (files : List (S × S)) (ts : List ℕ) (r : Refusal)
          → FilesRun sdp files → AreTimestamps window ts → sdp ≡ None
          → FirstFileRefuses ts ways (WasRead gave ended) files r → ⊥
      first_not (Some t) files ts r run are none wrong = cc
      first_not None [] ts r run are none wrong = run.opened refl refl
      first_not None (s ∷ ss) ts r run are none wrong = file_opened s ss ts r run are wrong

      given_not : (sdp : Option (List ℕ)) (files : List (S × S)) (ts : List ℕ) (r : Refusal)
          → FilesRun sdp files → AreTimestamps window ts
          → MatchOption sdp ⊥ (λ text. IsOpeningRefusal ts text r) → ⊥
      given_not None files ts r run are wrong = wrong
      given_not (Some t) files ts r run are wrong =
          opening_not window source t (files_datagrams ways (all_read gave files)) (since old new)
          (files_received gave ended window source t (Some t) ways files wanted shown printed old
          new shows run refl) ts are r wrong

      files_refuse_not : (sdp : Option (List ℕ)) (files : List (S × S)) (ts : List ℕ)
          (r : Refusal) → FilesRun sdp files → AreTimestamps window ts
          → IsFilesRefusal ts sdp ways (WasRead gave ended) files r → ⊥
      files_refuse_not sdp files ts r run are (inl stops) =
          files_not gave ended ways files r run.whole stops
      files_refuse_not sdp files ts r run are (inr (none, first)) =
          first_not sdp files ts r run are none first

      pub receiving_not : (sdp : Option (List ℕ)) (files : List (S × S)) (r : Refusal)
          → FilesRun sdp files
          → IsReceivingRefusal window source sdp ways (WasRead gave ended) files r → ⊥
      receiving_not sdp files r run (inl word) =
          word_not window source (λ text. said_behind sdp (all_read gave files) ≡ Some text)
          (files_datagrams ways (all_read gave files)) wanted shown printed old new r
          (run.saved (all_read gave files) (all_were_read gave ended files)) word.0
      receiving_not sdp files r run (inr (ts, ask, inl given)) =
          given_not sdp files ts r run ask.0 given
      receiving_not sdp files r run (inr (ts, ask, inr (opens, first))) =
          files_refuse_not sdp files ts r run ask.0
          (first_is_one ts sdp ways (WasRead gave ended) files r first)

    -- a run over captures
    abbrev Run : Option (S × S) → List (S × S) → Type 0
    Run sdp captures =
        Receives window source sdp (WasRead gave ended) captures wanted shown printed old new

    capture_opened : (s : S × S) (ss : List (S × S)) (ts : List ℕ) (r : Refusal)
        → Run None (s ∷ ss) → AreTimestamps window ts
        → IsFileOpenedRefusal ts way.Capture (WasRead gave ended s) r → ⊥
    capture_opened s ss ts (why.Capture f) run are wrong = wrong
    capture_opened s ss ts r run are wrong =
        let octets : List ℕ = read_of gave s in
        let at = wrong octets (was_read gave ended s) in
        front_not window source (text_of_file octets) (datagrams_read gave (s ∷ ss)) (since old new)
        (run_received gave ended window source (text_of_file octets) None (s ∷ ss) wanted shown
        printed old new shows run refl) ts are r
        (subst (λ (t : List ℕ). IsFrontRefusal ts t r)
        (sym (text_is way.Capture octets at.0 at.1)) at.2)

    first_capture_not : (sdp : Option (S × S)) (captures : List (S × S)) (ts : List ℕ)
        (r : Refusal) → Run sdp captures → AreTimestamps window ts → sdp ≡ None
        → FirstFileRefuses ts [] (WasRead gave ended) captures r → ⊥
    first_capture_not (Some t) captures ts r run are none wrong = cc
    first_capture_not None [] ts r run are none wrong = run.opened refl refl
    first_capture_not None (s ∷ ss) ts r run are none wrong =
        capture_opened s ss ts r run are wrong

    captures_refuse_not : (sdp : Option (S × S)) (captures : List (S × S)) (ts : List ℕ)
        (r : Refusal) → Run sdp captures → AreTimestamps window ts
        → IsFilesRefusal ts sdp [] (WasRead gave ended) captures r → ⊥
    captures_refuse_not sdp captures ts r run are (inl stops) =
        files_not gave ended [] captures r run.whole stops
    captures_refuse_not sdp captures ts r run are (inr (none, first)) =
        first_capture_not sdp captures ts r run are none first

    text_not : (s : S × S) (captures : List (S × S)) (ts : List ℕ) (r : Refusal)
        → Run (Some s) captures → AreTimestamps window ts
        → IsGivenRefusal ts (WasRead gave ended s) r → ⊥
    text_not s captures ts why.ReceiveSdp run are wrong =
        let octets : List ℕ = read_of gave s in
        let there = was_read gave ended s in
        omega (arith, wrong octets there, run.short octets there)
    text_not s captures ts r run are wrong =
        let octets : List ℕ = read_of gave s in
        opening_not window source octets (datagrams_read gave captures) (since old new)
        (run_received gave ended window source octets (Some s) captures wanted shown printed old new
        shows run refl) ts are r
        (wrong.1 octets (was_read gave ended s))

    given_text_not : (sdp : Option (S × S)) (captures : List (S × S)) (ts : List ℕ)
        (r : Refusal) → Run sdp captures → AreTimestamps window ts
        → MatchOption sdp ⊥ (λ s. IsGivenRefusal ts (WasRead gave ended s) r) → ⊥
    given_text_not None captures ts r run are wrong = wrong
    given_text_not (Some s) captures ts r run are wrong = text_not s captures ts r run are wrong

    pub receive_not : (sdp : Option (S × S)) (captures : List (S × S)) (r : Refusal)
        → Run sdp captures
        → IsReceiveRefusal window source sdp (WasRead gave ended) captures r → ⊥
    receive_not sdp captures r run (inl word) =
        word_not window source (IsOpeningText (WasRead gave ended) sdp (all_read gave captures))
        (datagrams_read gave captures) wanted shown printed old new r
        (run.saved (all_read gave captures) (all_were_read gave ended captures)) word.0
    receive_not sdp captures r run (inr (ts, ask, inl given)) =
        given_text_not sdp captures ts r run ask.0 given
    receive_not sdp captures r run (inr (ts, ask, inr (opens, first))) =
        captures_refuse_not sdp captures ts r run ask.0
        (first_is_one ts sdp [] (WasRead gave ended) captures r first)
