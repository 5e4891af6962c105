-- What `send` of a stream leaves in its capture where it fails (own). What its source gave was
-- `before`, and is `now`.
use Rattle.std.specs.Prelude.{◌≡◌, ◌≤◌, ℕ, ◌⊎◌, Bool, List, [], ◌∷◌, ◌++◌, Option, length}
use Rattle.st_format.specs.Given.{GavePart}
use Rattle.st_format.specs.Picture.{Values}
use Rattle.st_format.specs.declared.format.Format.{Format}
use Rattle.picture_forms.specs.Frames.{frame_walk}
use Rattle.picture_forms.specs.Heads.{head_walk}
use Rattle.run_outcome.specs.AtFault.{WrittenAtFault}
use Rattle.run_outcome.specs.TextRefusals.{SaysText}
use Rattle.capture_engines.specs.Typed.{IsSentBy}
use Rattle.capture_engines.specs.declared.sender.Sending.{Sending}
use Rattle.stream_sending.specs.Sent.{TakesStream}
use Rattle.stream_sending.specs.Streams.{GaveStream}

-- Of the pictures that were read all were to be sent, at most 4,294,967,295; or as many, and the
-- one behind them was not.
abbrev pub IsUnsent : List Values → List Values → Type 0
IsUnsent sent unsent =
    ((unsent ≡ []) × (length sent ≤ 4294967295))
    ⊎ ((length unsent ≡ 1) × (length sent ≡ 4294967295))

-- A sink took the capture of a text and of the datagrams of these pictures, all of it; or it
-- failed, as this says, and took a first part.
pub record TakesStreamSome (Fails : Type 0) (wanted : Sending) (text : List ℕ) (f : Format)
    (pictures : List Values) (old new : List ℕ) : Type 0 where
  pub whole : List ℕ
  pub count : ℕ
  pub capture : TakesStream wanted text f pictures [] whole count
  pub taken : WrittenAtFault Fails old new whole

-- so it is of the pictures of a stream; where there is none, nothing was written
abbrev pub TakesFirst : Type 0 → Sending → List ℕ → Format → List Values → List ℕ → List ℕ → Type 0
TakesFirst Fails wanted text f [] old new = new ≡ old
TakesFirst Fails wanted text f (p ∷ ps) old new =
    TakesStreamSome Fails wanted text f (p ∷ ps) old new

-- A source gave a stream's head and the frames of pictures, and behind them octets that are no
-- frame; and a sink took the capture of the pictures that were to be sent, all or a first part.
pub record SendsFirstFrames (Fails : Type 0) (wanted : Sending) (text before now old new : List ℕ)
    : Type 0 where
  pub format : Format
  pub pictures : List Values
  pub unsent : List Values
  pub unsent_is : IsUnsent pictures unsent
  pub between : List ℕ
  pub gave : GaveStream format (pictures ++ unsent) before between
  pub left : GavePart (frame_walk format) between now
  pub taken : TakesFirst Fails wanted text format pictures old new

-- nothing was written, and of a stream no head was read
abbrev pub SendsNone : List ℕ → List ℕ → List ℕ → List ℕ → Type 0
SendsNone before now old new = (new ≡ old) × GavePart head_walk before now

-- of a stream these octets were read, and sent so
abbrev pub SendsStreamUpTo : Type 0 → Sending → List ℕ → List ℕ → List ℕ → List ℕ → List ℕ → Type 0
SendsStreamUpTo Fails wanted text before now old new =
    SendsNone before now old new ⊎ SendsFirstFrames Fails wanted text before now old new

-- So it is with the SDP's text and by what is asked for, where the text was read and describes a
-- video; else nothing was written.
abbrev pub SendsSomeFrames : {S : Type 0} → (S → List ℕ) → (S → Type 0) → Type 0 → Bool → Sending
    → Option S → Option S → List ℕ → List ℕ → List ℕ → List ℕ → Type 0
SendsSomeFrames gave ended Fails by_sdp wanted sdp sdp_later before now old new =
    SendsNone before now old new
    ⊎ ((text : List ℕ) × SaysText gave ended sdp sdp_later text
    × ((asked : Sending) × IsSentBy by_sdp wanted text asked
    × SendsFirstFrames Fails asked text before now old new))
