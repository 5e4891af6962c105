-- What a source gave of a stream: it was `before`, and is `now`; and what was sent of that (own).
use Rattle.std.specs.Prelude.{◌≡◌, ◌<◌, ℕ, List, [], ◌∷◌, ◌++◌, length, Option, None, Some}
use Rattle.std.specs.Prelude.{Err}
use Rattle.st_format.specs.Given.{GavePart, GaveValue}
use Rattle.st_format.specs.Picture.{IsPicture, Values}
use Rattle.st_format.specs.declared.device.ByteSink.{Ghosts}
use Rattle.st_format.specs.declared.format.Format.{Format}
use Rattle.packet_plan.specs.Plan.{IsSize}
use Rattle.picture_forms.specs.declared.fault.FormFault.{FormFault}
use Rattle.picture_forms.specs.Frames.{frame_walk}
use Rattle.picture_forms.specs.Layouts.{planes_text}
use Rattle.run_outcome.specs.Pictures.{IsPlanFault}
use Rattle.run_outcome.specs.declared.refusal.Refusal.{Refusal}
use Rattle.run_outcome.specs.declared.refusal.Refusal.TheVariants as refusal
use Rattle.capture_engines.specs.Sending.{SendsMore}
use Rattle.capture_engines.specs.SentPart.{StopsMore}
use Rattle.capture_engines.specs.declared.sender.Sender.{Sender as Sends}
use Rattle.capture_engines.specs.declared.sender.Sending.{Sending}
use Rattle.stream_sending.specs.Sent.{TakesFrames, TakesStream}
use Rattle.stream_sending.specs.SentPart.{IsUnsent, TakesFirst, TakesStreamSome}
use Rattle.stream_sending.specs.Streams.{BeginsFrames}

-- it gave the frames of these pictures, whatever is behind them
pub record GaveFrames (f : Format) (pictures : List Values) (before now : List ℕ) : Type 0 where
  pub part : List ℕ
  pub grown : now ≡ before ++ part
  pub says : (behind : List ℕ) → BeginsFrames f pictures behind (part ++ behind)

-- it gave the next frame, of this picture, or it has ended
abbrev pub GaveNextFrame : Format → List ℕ → List ℕ → Type 0 → Option Values → Type 0
GaveNextFrame f before now ended None = (now ≡ before) × ended
GaveNextFrame f before now ended (Some v) =
    (v.format ≡ f) × (IsPicture v × GaveValue (frame_walk f) before now (planes_text v))

-- It gave octets, one at least, in which the next frame has this fault first: whatever is behind
-- them, and nothing is where it has ended.
pub record GaveWrong (f : Format) (before now : List ℕ) (ended : Type 0) (e : FormFault)
    : Type 0 where
  pub part : List ℕ
  pub grown : now ≡ before ++ part
  pub some : 0 < length part
  pub says : (behind : List ℕ) → (ended → behind ≡ [])
      → frame_walk f (part ++ behind) ≡ Err e

-- the refusals of the next frame
abbrev pub IsNextRefusal : Format → List ℕ → List ℕ → Type 0 → Refusal → Type 0
IsNextRefusal f before now ended (refusal.Form e) = GaveWrong f before now ended e
IsNextRefusal f before now ended r = ⊥

-- it gave whole frames, and behind them octets with this fault
pub record GaveFrameFault (f : Format) (before now : List ℕ) (ended : Type 0) (e : FormFault)
    : Type 0 where
  pub pictures : List Values
  pub between : List ℕ
  pub gave : GaveFrames f pictures before between
  pub fault : GaveWrong f between now ended e

-- it gave so many frames
pub record GaveMany (count : ℕ) (f : Format) (before now : List ℕ) : Type 0 where
  pub pictures : List Values
  pub gave : GaveFrames f pictures before now
  pub many : length pictures ≡ count

-- the refusal of frames: of one before which there are fewer than so many; that there are so many
abbrev pub IsFramesReadRefusal : ℕ → Format → List ℕ → List ℕ → Type 0 → Refusal → Type 0
IsFramesReadRefusal count f before now ended (refusal.Form e) =
    (fault : GaveFrameFault f before now ended e) × (length fault.pictures < count)
IsFramesReadRefusal count f before now ended refusal.SendPictures = GaveMany count f before now
IsFramesReadRefusal count f before now ended r = ⊥

-- The refusal behind a stream's head, of this format: that it has no plan, before a frame is read;
-- or it has, and the refusal is that of the frames.
abbrev pub IsOpenedRefusal : ℕ → Format → List ℕ → List ℕ → Type 0 → Refusal → Type 0
IsOpenedRefusal most f before now ended (refusal.Plan e) =
    (now ≡ before) × IsPlanFault most f e
IsOpenedRefusal most f before now ended r =
    IsSize most f × IsFramesReadRefusal 4294967296 f before now ended r

-- A sender that had sent none sent this picture, and behind it those of all frames that a source
-- gave up to its end, fewer than 2^32 in all.
pub record SendsBehind {A K : Type 0} {G : Ghosts K} (took : K → List ℕ) (f : Format)
    (first : Values) (before now : List ℕ) (ended : Type 0) (old new : Sends A K G)
    : Type 0 where
  pub rest : List Values
  pub few : length rest < 4294967295
  pub gave : GaveFrames f rest before now
  pub over : ended
  pub sent : SendsMore took 0 (first ∷ rest) old new

-- A sink took the capture of this picture and, behind it, of those of all frames up to the end,
-- fewer than 2^32 in all.
pub record SendsFirst (wanted : Sending) (text : List ℕ) (f : Format) (first : Values)
    (before now : List ℕ) (ended : Type 0) (old new : List ℕ) (count : ℕ) : Type 0 where
  pub rest : List Values
  pub few : length rest < 4294967295
  pub gave : GaveFrames f rest before now
  pub over : ended
  pub taken : TakesStream wanted text f (first ∷ rest) old new count

-- A sink took the capture of the pictures of all frames up to the end, fewer than 2^32; and the
-- size of packets is one that plans of the format are made for.
pub record SendsOpened (wanted : Sending) (text : List ℕ) (f : Format) (before now : List ℕ)
    (ended : Type 0) (old new : List ℕ) (count : ℕ) : Type 0 where
  pub limits : IsSize wanted.max_octets f
  pub pictures : List Values
  pub few : length pictures < 4294967296
  pub gave : GaveFrames f pictures before now
  pub over : ended
  pub taken : TakesFrames wanted text f pictures old new count

-- ---- what stands in a capture where it fails

-- it gave the frames of these pictures, and behind them octets that are no frame
pub record GaveAll (f : Format) (pictures : List Values) (before now : List ℕ) : Type 0 where
  pub between : List ℕ
  pub gave : GaveFrames f pictures before between
  pub left : GavePart (frame_walk f) between now

-- A sender that had sent none was to send this picture and, behind it, those of all frames that a
-- source gave.
pub record StopsFrames {A K : Type 0} {G : Ghosts K} (took : K → List ℕ) (Fails : Type 0)
    (f : Format) (first : Values) (before now : List ℕ) (old new : Sends A K G) : Type 0 where
  pub rest : List Values
  pub unsent : List Values
  pub unsent_is : IsUnsent (first ∷ rest) unsent
  pub gave : GaveAll f (rest ++ unsent) before now
  pub stops : StopsMore took Fails 0 (first ∷ rest) old new

-- A sink took the capture of this picture and, behind it, of those of all frames, all or a first
-- part.
pub record SendsFirstSome (Fails : Type 0) (wanted : Sending) (text : List ℕ) (f : Format)
    (first : Values) (before now old new : List ℕ) : Type 0 where
  pub rest : List Values
  pub unsent : List Values
  pub unsent_is : IsUnsent (first ∷ rest) unsent
  pub gave : GaveAll f (rest ++ unsent) before now
  pub taken : TakesStreamSome Fails wanted text f (first ∷ rest) old new

-- it took that of the pictures of all frames, all or a first part
pub record SendsOpenedSome (Fails : Type 0) (wanted : Sending) (text : List ℕ) (f : Format)
    (before now old new : List ℕ) : Type 0 where
  pub pictures : List Values
  pub unsent : List Values
  pub unsent_is : IsUnsent pictures unsent
  pub gave : GaveAll f (pictures ++ unsent) before now
  pub taken : TakesFirst Fails wanted text f pictures old new
