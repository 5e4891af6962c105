-- The text of a capture, where one is given.
use Rattle.std.proofs.Common.{◌≡◌, List, ℕ, [], Option, Some, None, sym, refl, ◌∙◌, subst}
use Rattle.std.proofs.Common.{append-nil, ap, ◌++◌}
use Rattle.run_outcome.specs.Text.{GivesFew, GivesText}
use Rattle.run_outcome.specs.Moments.{WasRead}
use Rattle.run_outcome.specs.TextRefusals.{IsCaptureText, SaysCaptureText, SaysText, SaysTextOfRun}
use Rattle.run_outcome.specs.TextRefusals.{WantsText}
use Rattle.st_format.specs.History.{IsRead, since}
use Rattle.st_format.proofs.Histories.{since_is}

-- no SDP is given
pub said_none : {S : Type 0} (gave : S → List ℕ) (ended : S → Type 0) (sdp later : Option S)
    (text : List ℕ) → sdp ≡ None → text ≡ [] → SaysText gave ended sdp later text
said_none {S} gave ended sdp later text none empty =
    subst (λ (x : Option S). SaysText gave ended x later text) (sym none) empty

-- it was read whole
pub said_some : {S : Type 0} (gave : S → List ℕ) (ended : S → Type 0) (sdp : Option S)
    (source now : S) (text : List ℕ) → sdp ≡ Some source
    → GivesText 65535 (gave source) (gave now) (ended now) text
    → SaysCaptureText (IsRead (gave source) (gave now) (ended now))
    → SaysText gave ended sdp (Some now) text
said_some {S} gave ended sdp source now text some gives says =
    subst (λ (x : Option S). SaysText gave ended x (Some now) text) (sym some) (
      gives.given,
      gives.ended,
      says text (record {
        behind = [];
        parts = sym (append-nil (since (gave source) (gave now))
            ∙ since_is (gave source) (gave now) text gives.given);
        all = λ over. refl;
      }),
    )

-- a text that was read whole is one that a capture may have
pub text_says : {S : Type 0} (gave : S → List ℕ) (ended : S → Type 0) (old new : Option S)
    (text : List ℕ) → SaysText gave ended old new text
    → SaysTextOfRun (WasRead gave ended) old new
text_says {S} gave ended old new text says was now given later octets read =
    let is : SaysText gave ended (Some was) (Some now) text =
    subst (λ (o : Option S). SaysText gave ended (Some was) o text) later
    (subst (λ (o : Option S). SaysText gave ended o new text) given says) in
    let whole : octets ≡ text =
    read.parts ∙ ap (λ (l : List ℕ). since (gave was) (gave now) ++ l) (read.all is.1)
    ∙ append-nil (since (gave was) (gave now)) ∙ since_is (gave was) (gave now) text is.0 in
    subst IsCaptureText (sym whole) is.2

-- memory was wanted for one
pub wants_some : {S : Type 0} (gave : S → List ℕ) (sdp : Option S) (source now : S)
    → sdp ≡ Some source → GivesFew 65535 (gave source) (gave now)
    → WantsText gave sdp (Some now)
wants_some {S} gave sdp source now some few =
    subst (λ (x : Option S). WantsText gave x (Some now)) (sym some) few

-- a text that was read whole is as few octets
pub few_of : (most : ℕ) (before now : List ℕ) (end : Type 0) (text : List ℕ)
    → GivesText most before now end text → GivesFew most before now
few_of most before now end text gives =
    record { octets = text; few = gives.few; given = gives.given }
