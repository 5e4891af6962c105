-- What is received of captures, by an SDP text that was read of a source.
use Rattle.std.proofs.Common.{◌≡◌, ◌∙◌, ℕ, inl, inr, List, [], ◌∷◌, ◌++◌, Bool}
use Rattle.std.proofs.Common.{Option, None, Some, false, refl, sym, ap, subst}
use Rattle.std.specs.Prelude.{Err, IfErr, IsTrue, MatchOption, Ok, OnErr, Result, ⊤}
use Rattle.std.specs.List.{flat_map}
use Rattle.media_file.specs.Records.{Entry}
use Rattle.path_receiver.specs.Frames.{State}
use Rattle.run_outcome.specs.Moments.{WasRead, pair}
use Rattle.run_outcome.specs.States.{SavesPart}
use Rattle.run_outcome.specs.Text.{GivesFew}
use Rattle.run_outcome.specs.TextRefusals.{GivesAbove}
use Rattle.run_outcome.specs.declared.refusal.Refusal.{Refusal}
use Rattle.run_outcome.specs.declared.refusal.Refusal.TheVariants as why
use Rattle.capture_engines.specs.Files.{capture_datagrams, files_datagrams, octets_of}
use Rattle.capture_engines.specs.Received.{AskFor, GivenOpens, IsGivenRefusal, IsOpeningRefusal}
use Rattle.capture_engines.specs.Received.{IsReceiveRefusal, IsReceivingRefusal, Opens}
use Rattle.capture_engines.specs.Rescued.{IsReceiverOfAny}
use Rattle.capture_engines.specs.Taking.{IsOpenedHolding, IsOpeningText, IsReceiverOfRun, IsSaidText}
use Rattle.capture_engines.specs.Taking.{IsShortText, Receives}
use Rattle.capture_engines.specs.Taking.{ReceivesFiles, SavesHolding, said_behind}
use Rattle.capture_engines.proofs.FirstRefused.{first_given}
use Rattle.capture_engines.specs.Receiving.{ShowsPart}
use Rattle.capture_engines.proofs.Rescues.{never, part_map, shows_so}
use Rattle.capture_engines.proofs.Untaken.{records_alone}

-- a receiver is opened by the text that was read of the source
opens : {S : Type 0} (told : S → List ℕ → Type 0) (sdp : Option S) (said : Option (List ℕ))
    (octets : List (List ℕ)) (text : List ℕ) → IsSaidText told sdp said
    → IsOpeningText told sdp octets text → said_behind said octets ≡ Some text
opens told None None octets text is opening = opening
opens told None (Some t) octets text is opening = absurd is
opens told (Some s) None octets text is opening = absurd is
opens told (Some s) (Some t) octets text is opening =
    ap (λ (l : List ℕ). Some l) (sym (is.0 text opening))

-- the datagrams of captures
captures_are : (octets : List (List ℕ)) → files_datagrams [] octets
    ≡ flat_map capture_datagrams octets
captures_are [] = refl
captures_are (o ∷ os) =
    ap (λ (es : List Entry). octets_of es ++ files_datagrams [] os) (records_alone o)
    ∙ ap (λ (l : List (List ℕ)). capture_datagrams o ++ l) (captures_are os)

-- where no source is given no text is
not_said : {S : Type 0} (told : S → List ℕ → Type 0) (sdp : Option S) (said : Option (List ℕ))
    → IsSaidText told sdp said → sdp ≡ None → said ≡ None
not_said told None None is none = refl
not_said told None (Some t) is none = absurd is
not_said told (Some s) None is none = absurd is
not_said told (Some s) (Some t) is none = cc

short_said : {S : Type 0} (told : S → List ℕ → Type 0) (sdp : Option S)
    (said : Option (List ℕ)) → IsSaidText told sdp said
    → MatchOption sdp ⊤ (λ s. IsShortText (told s))
short_said told None said is = tt
short_said told (Some s) None is = absurd is
short_said told (Some s) (Some t) is = is.1

pub said_receives : {S : Type 0} (window source : List ℕ) (sdp : Option S)
    (said : Option (List ℕ)) (told : S → List ℕ → Type 0) (captures : List S) (wanted : Bool)
    (shown shown' old new : List ℕ) → IsSaidText told sdp said
    → ReceivesFiles window source said [] told captures wanted shown shown' old new
    → Receives window source sdp told captures wanted shown shown' old new
said_receives window source sdp said told captures wanted shown shown' old new is by_text =
    record {
      saved = λ octets tell.
          subst (λ (ds : List (List ℕ)). SavesHolding window source (IsOpeningText told sdp octets)
          ds wanted shown shown' old new) (captures_are octets)
          (let held = by_text.saved octets tell in
          record {
            receiver = held.receiver;
            window_is = held.window_is;
            source_is = held.source_is;
            announced = λ text opening.
                held.announced text (opens told sdp said octets text is opening);
            holds = held.holds;
            printed = held.printed;
            taken = held.taken;
          });
      opened = λ none. by_text.opened (not_said told sdp said is none);
      short = short_said told sdp said is;
      whole = by_text.whole;
    }

-- a receiver of which a first part was written
said_holding : {S : Type 0} (window source : List ℕ) (sdp : Option (S × S))
    (said : Option (List ℕ)) (gave : S → List ℕ) (ended : S → Type 0) (captures : List (S × S))
    → IsSaidText (WasRead gave ended) sdp said → (s : State)
    → IsReceiverOfAny false window source said [] gave ended captures s
    → IsReceiverOfRun window source sdp (WasRead gave ended) captures s
said_holding window source sdp said gave ended captures is s (inl held) = λ octets tell.
    subst (λ (ds : List (List ℕ)). IsOpenedHolding window source
    (IsOpeningText (WasRead gave ended) sdp octets) ds s) (captures_are octets)
    (let h = held octets tell in
    record {
      window_is = h.window_is;
      source_is = h.source_is;
      announced = λ text opening.
          h.announced text (opens (WasRead gave ended) sdp said octets text is opening);
      holds = h.holds;
    })
said_holding window source sdp said gave ended captures is s (inr sound) =
    absurd (never sound.0)

pub said_part : {V E S X : Type 0} (r : Result V E) (o : Option X) (window source : List ℕ)
    (sdp : Option (S × S)) (said : Option (List ℕ)) (gave : S → List ℕ) (ended : S → Type 0)
    (captures : List (S × S)) (old new : List ℕ) (Is : E → X → Type 0)
    → IsSaidText (WasRead gave ended) sdp said
    → OnErr r (MatchOption o (SavesPart (IsReceiverOfAny false window source said [] gave ended
    captures) old new) (λ _. ⊤))
    → IfErr r (λ f. MatchOption o ⊤ (λ x. IsTrue false × Is f x))
    → OnErr r (SavesPart (IsReceiverOfRun window source sdp (WasRead gave ended) captures) old new)
said_part (Ok v) o window source sdp said gave ended captures old new Is is part rescued = tt
said_part (Err e) None window source sdp said gave ended captures old new Is is part rescued =
    part_map (IsReceiverOfAny false window source said [] gave ended captures)
    (IsReceiverOfRun window source sdp (WasRead gave ended) captures) old new
    (said_holding window source sdp said gave ended captures is) part
said_part (Err e) (Some x) window source sdp said gave ended captures old new Is is part rescued =
    absurd (never rescued.0)

-- so it is of what was printed
pub said_shown : {V E S X O : Type 0} (r : Result V E) (o : Option X) (window source : List ℕ)
    (sdp : Option (S × S)) (said : Option (List ℕ)) (gave : S → List ℕ) (ended : S → Type 0)
    (captures : List (S × S)) (took : O → List ℕ) (failures : O → ℕ) (wanted : Bool) (old new : O)
    (Is : E → X → Type 0) → IsSaidText (WasRead gave ended) sdp said
    → OnErr r (MatchOption o (ShowsPart took failures wanted
    (IsReceiverOfAny false window source said [] gave ended captures) old new) (λ _. ⊤))
    → IfErr r (λ f. MatchOption o ⊤ (λ x. IsTrue false × Is f x))
    → OnErr r (ShowsPart took failures wanted
    (IsReceiverOfRun window source sdp (WasRead gave ended) captures) old new)
said_shown (Ok v) o window source sdp said gave ended captures took failures wanted old new Is is
    shown rescued = tt
said_shown (Err e) None window source sdp said gave ended captures took failures wanted old new Is
    is shown rescued =
    shows_so took failures wanted
    (IsReceiverOfAny false window source said [] gave ended captures)
    (IsReceiverOfRun window source sdp (WasRead gave ended) captures) old new
    (said_holding window source sdp said gave ended captures is) shown
said_shown (Err e) (Some x) window source sdp said gave ended captures took failures wanted old new
    Is is shown rescued = absurd (never rescued.0)

-- memory was wanted for a text that was read of a source
pub wants_given : {S : Type 0} (gave : S → List ℕ) (sdp : Option S) (source now : S)
    → sdp ≡ Some source → GivesFew 16777216 (gave source) (gave now)
    → MatchOption (pair sdp (Some now)) ⊥ (λ s. GivesFew 16777216 (gave s.0) (gave s.1))
wants_given {S} gave sdp source now some few =
    subst (λ (x : Option S). MatchOption (pair x (Some now)) ⊥
    (λ s. GivesFew 16777216 (gave s.0) (gave s.1))) (sym some) few

-- ---- refusals

none_said : {S : Type 0} (told : S → List ℕ → Type 0) (sdp : Option S) (said : Option (List ℕ))
    → IsSaidText told sdp said → said ≡ None → sdp ≡ None
none_said told None None is none = refl
none_said told None (Some t) is none = absurd is
none_said told (Some s) None is none = absurd is
none_said told (Some s) (Some t) is none = cc

-- a text by which no receiver is opened
given_refused : {S : Type 0} (window : List ℕ) (told : S → List ℕ → Type 0) (sdp : Option S)
    (said : Option (List ℕ)) → IsSaidText told sdp said → (r : Refusal)
    → MatchOption said ⊥ (λ text. IsOpeningRefusal window text r)
    → MatchOption sdp ⊥ (λ s. IsGivenRefusal window (told s) r)
given_refused window told None None is r q = absurd q
given_refused window told None (Some t) is r q = absurd is
given_refused window told (Some s) None is r q = absurd is
given_refused window told (Some s) (Some t) is why.ReceiveSdp q = absurd q
given_refused window told (Some s) (Some t) is r q = (
  is.1,
  λ octets known. subst (λ (l : List ℕ). IsOpeningRefusal window l r) (sym (is.0 octets known)) q,
)

-- one by which one is
given_opens : {S : Type 0} (window : List ℕ) (told : S → List ℕ → Type 0) (sdp : Option S)
    (said : Option (List ℕ)) → IsSaidText told sdp said
    → MatchOption said ⊤ (λ text. Opens window text)
    → MatchOption sdp ⊤ (λ s. GivenOpens window (told s))
given_opens window told None None is opens = tt
given_opens window told None (Some t) is opens = absurd is
given_opens window told (Some s) None is opens = absurd is
given_opens window told (Some s) (Some t) is opens = (
  is.1,
  λ octets known. subst (λ (l : List ℕ). Opens window l) (sym (is.0 octets known)) opens,
)

pub said_refused : {S : Type 0} (window ssrc : List ℕ) (sdp : Option S)
    (said : Option (List ℕ)) (told : S → List ℕ → Type 0) (captures : List S)
    → IsSaidText told sdp said → (r : Refusal)
    → IsReceivingRefusal window ssrc said [] told captures r
    → IsReceiveRefusal window ssrc sdp told captures r
said_refused window ssrc sdp said told captures is r (inl word) = inl word
said_refused window ssrc sdp said told captures is r (inr (ts, ask, inl text)) =
    inr (ts, ask, inl (given_refused ts told sdp said is r text))
said_refused window ssrc sdp said told captures is r (inr (ts, ask, inr (opens, files))) =
    inr (
      ts,
      ask,
      inr (
        given_opens ts told sdp said is opens,
        first_given ts said sdp [] told captures (none_said told sdp said is)
            (not_said told sdp said is) r files,
      ),
    )

-- a text that is too long
pub long_refused : {S : Type 0} (window ssrc ts : List ℕ) (sdp : Option S)
    (told : S → List ℕ → Type 0) (captures : List S) → AskFor window ssrc ts → (r : Refusal)
    → (r ≡ why.ReceiveSdp) × MatchOption sdp ⊥ (λ s. GivesAbove 16777216 (told s))
    → IsReceiveRefusal window ssrc sdp told captures r
long_refused window ssrc ts sdp told captures ask r (same, long) =
    subst (λ (x : Refusal). IsReceiveRefusal window ssrc sdp told captures x) (sym same)
    (inr (ts, ask, inl long))
