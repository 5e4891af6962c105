-- What `send` of a stream writes, and which refusal ends it: the first in the order in which it
-- looks (own). The octets that were read of the
-- stream are told by a predicate, as those of a picture's file are.
use Rattle.std.specs.Prelude.{◌≡◌, ◌<◌, ℕ, ◌⊎◌, Bool, List, [], ◌∷◌, ◌++◌, length}
use Rattle.std.specs.Prelude.{Err, Option}
use Rattle.st_format.specs.Device.{capped}
use Rattle.st_format.specs.Fields.{fields_of}
use Rattle.st_format.specs.Picture.{Values}
use Rattle.st_format.specs.declared.format.Format.{Format}
use Rattle.media_file.specs.Writer.{written_text}
use Rattle.packet_plan.specs.Plan.{IsSize}
use Rattle.packet_plan.specs.Sender.{SendsFrom}
use Rattle.picture_forms.specs.declared.fault.FormFault.{FormFault}
use Rattle.picture_forms.specs.Heads.{HasY4mHead, head_walk}
use Rattle.run_outcome.specs.Line.{line_text}
use Rattle.run_outcome.specs.Pictures.{IsPlanFault}
use Rattle.run_outcome.specs.TextRefusals.{IsTextOfRun, SaysText, SaysTextOfRun}
use Rattle.run_outcome.specs.declared.line.Line.TheVariants as line
use Rattle.run_outcome.specs.declared.refusal.Refusal.{Refusal}
use Rattle.run_outcome.specs.declared.refusal.Refusal.TheVariants as refusal
use Rattle.capture_engines.specs.Sending.{ArePlanned, run_sender}
use Rattle.capture_engines.specs.Typed.{IsSentBy}
use Rattle.capture_engines.specs.declared.sender.Sending.{Sending}
use Rattle.stream_sending.specs.Streams.{HasFrames, HasStreamFrameFault, IsStreamOf}

-- ---- what is written

-- A sink took the capture of a text and of the datagrams of pictures of this format, which are so
-- many: of the k-th as frame k, all by one raster plan, the packets' numbers running on. The size
-- of packets that is asked for is one that plans are made for.
pub record TakesStream (wanted : Sending) (text : List ℕ) (f : Format) (pictures : List Values)
    (old new : List ℕ) (count : ℕ) : Type 0 where
  pub limits : IsSize wanted.max_octets f
  pub datagrams : List (List ℕ)
  pub sent : SendsFrom (run_sender f wanted) 0 pictures wanted.first datagrams
  pub planned : ArePlanned wanted f pictures datagrams
  pub taken : new ≡ old ++ written_text wanted.paths text datagrams
  pub count_is : count ≡ capped (length datagrams)

-- so it is of the pictures of a stream; where there is none, nothing is written
abbrev pub TakesFrames : Sending → List ℕ → Format → List Values → List ℕ → List ℕ → ℕ → Type 0
TakesFrames wanted text f [] old new count = (new ≡ old) × (count ≡ 0)
TakesFrames wanted text f (p ∷ ps) old new count =
    TakesStream wanted text f (p ∷ ps) old new count

-- A sink took the pictures of the stream that was read, which are fewer than 2^32. The size of
-- packets that is asked for is one that plans of its format are made for, also where there is none.
pub record SendsFrames (read : List ℕ → Type 0) (wanted : Sending) (text old new : List ℕ)
    (count : ℕ) : Type 0 where
  pub format : Format
  pub limits : IsSize wanted.max_octets format
  pub pictures : List Values
  pub few : length pictures < 4294967296
  pub says : (octets : List ℕ) → read octets → IsStreamOf octets format pictures
  pub taken : TakesFrames wanted text format pictures old new count

-- A sink took the SDP's text and the pictures of the stream that was read, and to the output it was
-- printed how many datagrams they are.
pub record SendsStream {S : Type 0} (gave : S → List ℕ) (ended : S → Type 0) (by_sdp : Bool)
    (wanted : Sending) (sdp sdp_later : Option S) (read : List ℕ → Type 0)
    (old new printed printed_new : List ℕ) : Type 0 where
  pub text : List ℕ
  pub says : SaysText gave ended sdp sdp_later text
  pub sending : Sending
  pub sending_is : IsSentBy by_sdp wanted text sending
  pub count : ℕ
  pub frames : SendsFrames read sending text old new count
  pub line : printed_new ≡ printed ++ (line_text (line.Sent count) ++ 10 ∷ [])

-- ---- refusals

-- what was read begins with the head of a stream of this format
abbrev pub SaysHead : (List ℕ → Type 0) → Format → Type 0
SaysHead read f = (octets : List ℕ) → read octets
    → (frames : List ℕ) × HasY4mHead octets frames (fields_of f)

-- The fault of a stream: of its head; or of the first frame that isn't whole and right, where its
-- format has plans of packets of so many octets, and no more frames are before it than are sent.
abbrev pub IsSentStreamFault : ℕ → List ℕ → FormFault → Type 0
IsSentStreamFault most octets e =
    (head_walk octets ≡ Err e)
    ⊎ ((fault : HasStreamFrameFault octets e) × IsSize most fault.format
    × (length fault.before < 4294967296))

-- The refusal of a stream: its fault; that its format has no plan; that it has one, and more than
-- 4,294,967,295 frames.
abbrev pub IsFramesRefusal : ℕ → (List ℕ → Type 0) → Refusal → Type 0
IsFramesRefusal most read (refusal.Form e) =
    (octets : List ℕ) → read octets → IsSentStreamFault most octets e
IsFramesRefusal most read (refusal.Plan e) = (f : Format) × SaysHead read f × IsPlanFault most f e
IsFramesRefusal most read refusal.SendPictures =
    (octets : List ℕ) → read octets
    → (frames : HasFrames 4294967296 octets) × IsSize most frames.format
IsFramesRefusal most read r = ⊥

-- the refusal of `send` of a stream: of the SDP text, where one is given; or nothing is wrong with
-- that, and it is that of the stream
abbrev pub IsSentStreamRefusal : {S : Type 0} → ℕ → Option S → Option S → (S × S → List ℕ → Type 0)
    → (List ℕ → Type 0) → Refusal → Type 0
IsSentStreamRefusal most sdp sdp_later told read r =
    IsTextOfRun told sdp sdp_later r
    ⊎ (SaysTextOfRun told sdp sdp_later × IsFramesRefusal most read r)
