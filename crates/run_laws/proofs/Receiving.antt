-- What a run of `receive` wrote is a received file, and there is one.
use Rattle.std.proofs.Common.{◌≡◌, ℕ, List, [], ◌∷◌, Bool, Option, None, Some, Result, append-nil}
use Rattle.std.proofs.Common.{refl, sym, ap, ◌∙◌, subst}
use Rattle.std.specs.List.{AllZip}
use Rattle.st_format.specs.History.{since}
use Rattle.st_format.specs.Member.{SameDatagrams}
use Rattle.st_format.proofs.Histories.{since_is}
use Rattle.path_receiver.specs.Frames.{State, frames_of}
use Rattle.path_receiver.specs.Opening.{Opening}
use Rattle.path_receiver.proofs.Frames.{frames_of-same}
use Rattle.media_file.specs.StateFile.{state_text}
use Rattle.receiver_file.specs.Saved.{kept_of}
use Rattle.receiver_file.proofs.SameKept.{equal_kept}
use Rattle.run_outcome.specs.Moments.{WasRead}
use Rattle.run_outcome.specs.Timestamps.{AreTimestamps}
use Rattle.run_outcome.specs.Sources.{IsSourceText}
use Rattle.run_outcome.specs.declared.refusal.Refusal.{Refusal}
use Rattle.flow.specs.declared.flows.Flows.{Flows}
use Rattle.capture_engines.specs.Files.{files_datagrams}
use Rattle.capture_engines.specs.Receiving.{SavesShown}
use Rattle.capture_engines.specs.Taking.{AnnouncesStream, IsOpeningText, Receives}
use Rattle.capture_engines.specs.Taking.{ReceivesFiles, SavesHolding, said_behind}
use Rattle.run_laws.specs.Received.{IsReceivedFile, all_read, datagrams_read, read_of, text_read}
use Rattle.run_laws.proofs.Opened.{one_opening, source_fits, window_fits}
use Rattle.run_laws.proofs.Writable.{same_as_written}

-- ---- what was read

-- just what a source gave was read of it
pub was_read : {S : Type 0} (gave : S → List ℕ) (ended : S → Type 0) (s : S × S)
    → WasRead gave ended s (read_of gave s)
was_read gave ended s = record {
  behind = [];
  parts = sym (append-nil (read_of gave s));
  all = λ _. refl;
}

pub all_were_read : {S : Type 0} (gave : S → List ℕ) (ended : S → Type 0) (sources : List (S × S))
    → AllZip (WasRead gave ended) sources (all_read gave sources)
all_were_read gave ended [] = tt
all_were_read gave ended (s ∷ ss) = (was_read gave ended s, all_were_read gave ended ss)

abbrev some_of : List ℕ → Option (List ℕ)
some_of text = Some text

same_some : (a b : List ℕ) → some_of a ≡ some_of b → a ≡ b
same_some a b e = cc

opening_text : {S : Type 0} (gave : S → List ℕ) (ended : S → Type 0) (sdp : Option (S × S))
    (captures : List (S × S)) (text : List ℕ) → text_read gave sdp captures ≡ Some text
    → IsOpeningText (WasRead gave ended) sdp (all_read gave captures) text
opening_text gave ended None captures text e = e
opening_text gave ended (Some s) captures text e =
    subst (WasRead gave ended s) (same_some (read_of gave s) text e) (was_read gave ended s)

-- ---- a run of `receive`

saved_file : (window source text old new shown printed : List ℕ) (wanted : Bool)
    (IsText : List ℕ → Type 0) (datagrams : List (List ℕ))
    → SavesShown wanted shown printed old new
    → SavesHolding window source IsText datagrams wanted shown printed old new → IsText text
    → IsReceivedFile window source text datagrams (since old new)
saved_file window source text old new shown printed wanted IsText datagrams shows saves is =
    let s : State = saves.receiver in
    let w : State = shows.receiver in
    let told : since old new ≡ state_text (kept_of w) =
    since_is old new (state_text (kept_of w)) shows.taken in
    let same =
    same_as_written s w datagrams saves.holds (source_fits source s.opening.ssrc saves.source_is)
    (window_fits window s.opening.window saves.window_is) shows.writable
    (sym (since_is old new (state_text (kept_of s)) saves.taken) ∙ told) in
    record {
      receiver = w;
      window_is = subst (λ (o : Opening). AreTimestamps window o.window) same.0 saves.window_is;
      source_is = subst (λ (o : Opening). IsSourceText source o.ssrc) same.0 saves.source_is;
      announced = subst (AnnouncesStream text) same.0 (saves.announced text is);
      holds = sym same.1 ∙ saves.holds ∙ ap (λ (o : Opening). frames_of o datagrams) same.0;
      file_is = record { writable = shows.writable; whole = told };
    }

pub run_received : {S : Type 0} (gave : S → List ℕ) (ended : S → Type 0)
    (window source text : List ℕ) (sdp : Option (S × S)) (captures : List (S × S)) (wanted : Bool)
    (shown printed old new : List ℕ) → SavesShown wanted shown printed old new
    → Receives window source sdp (WasRead gave ended) captures wanted shown printed old new
    → text_read gave sdp captures ≡ Some text
    → IsReceivedFile window source text (datagrams_read gave captures) (since old new)
run_received gave ended window source text sdp captures wanted shown printed old new shows receives
    said =
    saved_file window source text old new shown printed wanted
    (IsOpeningText (WasRead gave ended) sdp (all_read gave captures))
    (datagrams_read gave captures) shows
    (receives.saved (all_read gave captures) (all_were_read gave ended captures))
    (opening_text gave ended sdp captures text said)

pub files_received : {S : Type 0} (gave : S → List ℕ) (ended : S → Type 0)
    (window source text : List ℕ) (sdp : Option (List ℕ)) (ways : List (Result Flows Refusal))
    (files : List (S × S)) (wanted : Bool) (shown printed old new : List ℕ)
    → SavesShown wanted shown printed old new
    → ReceivesFiles window source sdp ways (WasRead gave ended) files wanted shown printed old new
    → said_behind sdp (all_read gave files) ≡ Some text
    → IsReceivedFile window source text (files_datagrams ways (all_read gave files))
    (since old new)
files_received gave ended window source text sdp ways files wanted shown printed old new shows
    receives said =
    saved_file window source text old new shown printed wanted
    (λ t. said_behind sdp (all_read gave files) ≡ Some t)
    (files_datagrams ways (all_read gave files)) shows
    (receives.saved (all_read gave files) (all_were_read gave ended files)) said

-- ---- one file

pub same_file : (window source text : List ℕ) (xs ys : List (List ℕ)) (file other : List ℕ)
    → IsReceivedFile window source text xs file → IsReceivedFile window source text ys other
    → SameDatagrams xs ys → file ≡ other
same_file window source text xs ys file other a b same =
    let r : State = a.receiver in
    let s : State = b.receiver in
    let opening : r.opening ≡ s.opening =
    one_opening window source text r.opening s.opening a.window_is b.window_is a.source_is
    b.source_is a.announced b.announced in
    a.file_is.whole
    ∙ equal_kept r s opening
    (a.holds ∙ frames_of-same r.opening xs ys same
    ∙ ap (λ (o : Opening). frames_of o ys) opening ∙ sym b.holds)
    ∙ sym b.file_is.whole
