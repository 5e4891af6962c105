-- What `send` writes with the payload type of its SDP text (own).
use Rattle.std.specs.Prelude.{◌≡◌, ℕ, Bool, true, false, List, [], ◌∷◌, ◌++◌, Option}
use Rattle.run_outcome.specs.Line.{line_text}
use Rattle.run_outcome.specs.Moments.{WasRead}
use Rattle.run_outcome.specs.declared.line.Line.TheVariants as line
use Rattle.run_outcome.specs.TextRefusals.{SaysText}
use Rattle.sdp_format.specs.Bytes.{lines}
use Rattle.sdp_format.specs.Grammar.{IsDescribed}
use Rattle.sdp_format.specs.Sections.{Description, video_sections}
use Rattle.capture_engines.specs.Sending.{SendsAll, SendsPictures}
use Rattle.capture_engines.specs.declared.sender.Sending.{Sending}

-- what is asked for, with another payload type
abbrev pub with_type : Sending → ℕ → Sending
with_type w payload_type =
    record {
      payload_type = payload_type;
      first = w.first;
      base = w.base;
      ssrc = w.ssrc;
      max_octets = w.max_octets;
      paths = w.paths;
    }

-- it is what is asked for, with the payload type that an SDP text says
pub record IsTypedBy (wanted : Sending) (text : List ℕ) (typed : Sending) : Type 0 where
  pub sdp : Description
  pub described : IsDescribed (video_sections (lines text)) sdp
  pub typed_is : typed ≡ with_type wanted sdp.leg.payload_type

-- it is what is asked for, or the same with the payload type that the text says
abbrev pub IsSentBy : Bool → Sending → List ℕ → Sending → Type 0
IsSentBy true wanted text sending = IsTypedBy wanted text sending
IsSentBy false wanted text sending = sending ≡ wanted

-- A sink took the SDP's text and pictures, sent with the payload type that the text says, and to
-- the output it was printed how many datagrams they are.
pub record SendsTyped {S : Type 0} (gave : S → List ℕ) (ended : S → Type 0) (wanted : Sending)
    (sdp sdp_later : Option S) (sources later : List S) (old new printed printed_new : List ℕ)
    : Type 0 where
  pub text : List ℕ
  pub says : SaysText gave ended sdp sdp_later text
  pub typed : Sending
  pub typed_is : IsTypedBy wanted text typed
  pub count : ℕ
  pub pictures : SendsPictures (WasRead gave ended) typed text sources later old new count
  pub line : printed_new ≡ printed ++ (line_text (line.Sent count) ++ 10 ∷ [])

-- so, or with the payload type that is asked for
abbrev pub SendsBy : {S : Type 0} → Bool → (S → List ℕ) → (S → Type 0) → Sending → Option S
    → Option S → List S → List S → List ℕ → List ℕ → List ℕ → List ℕ → Type 0
SendsBy true gave ended wanted sdp sdp_later sources later old new printed printed_new =
    SendsTyped gave ended wanted sdp sdp_later sources later old new printed printed_new
SendsBy false gave ended wanted sdp sdp_later sources later old new printed printed_new =
    SendsAll gave ended wanted sdp sdp_later sources later old new printed printed_new
