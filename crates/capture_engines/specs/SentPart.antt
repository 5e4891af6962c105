-- What `send` leaves in its capture where it fails (own).
use Rattle.std.specs.Prelude.{◌≡◌, ℕ, ◌+◌, ◌≤◌, ◌⊎◌, Bool, List, [], ◌∷◌, ◌++◌, Option, length}
use Rattle.std.specs.Prelude.{drop, take}
use Rattle.std.specs.List.{zip}
use Rattle.media_file.specs.Records.{records_text}
use Rattle.media_file.specs.Writer.{entries_from, written_text}
use Rattle.packet_plan.specs.Sender.{stamp_of}
use Rattle.packet_plan.specs.Sent.{IsSentPicture}
use Rattle.run_outcome.specs.AtFault.{WrittenAtFault}
use Rattle.run_outcome.specs.Moments.{WasRead}
use Rattle.run_outcome.specs.Pictures.{SaysPicture}
use Rattle.run_outcome.specs.TextRefusals.{SaysText}
use Rattle.run_outcome.specs.declared.fault.Fault.{Fault}
use Rattle.run_outcome.specs.declared.fault.Fault.TheVariants.{Refused, Device, Memory}
use Rattle.st_format.specs.Device.{Failed, GrowsPart}
use Rattle.st_format.specs.Picture.{Values}
use Rattle.st_format.specs.declared.device.ByteSink.{Ghosts}
use Rattle.capture_engines.specs.Sending.{HasSent, IsPlanOf, SayPictures, SendsTo, TakesCapture}
use Rattle.capture_engines.specs.Sending.{run_sender}
use Rattle.capture_engines.specs.Sent.{FirstIs}
use Rattle.capture_engines.specs.Typed.{IsSentBy}
use Rattle.capture_engines.specs.declared.sender.Sender.{Sender as Sends}
use Rattle.capture_engines.specs.declared.sender.Sending.{Sending}

-- ---- a sender

-- A sender failed at a picture that was to be frame k: its sink failed, and took a first part of
-- the records of the picture's datagrams.
pub record CutsNext {A K : Type 0} {G : Ghosts K} (took : K → List ℕ) (failures : K → ℕ)
    (p : Values) (k : ℕ) (old new : Sends A K G) : Type 0 where
  pub datagrams : List (List ℕ)
  pub format : p.format ≡ old.plan.format
  pub sent : IsSentPicture datagrams p
      (stamp_of (run_sender old.plan.format old.wanted) k old.next)
      old.plan.max_octets old.plan.packets
  pub part : GrowsPart (took old.writer.sink) (took new.writer.sink)
      (records_text (entries_from old.writer.place.paths old.writer.place.moment datagrams))
  pub failed : Failed (failures old.writer.sink) (failures new.writer.sink)
  pub plan : new.plan ≡ old.plan

-- where it refused the picture, it is as it was
abbrev pub StopsNext : {A K : Type 0} {G : Ghosts K} → (K → List ℕ) → (K → ℕ) → Values → ℕ
    → Sends A K G → Sends A K G → Fault → Type 0
StopsNext took failures p k old new (Refused r) = new ≡ old
StopsNext took failures p k old new Device = CutsNext took failures p k old new
StopsNext took failures p k old new Memory = ⊥

-- A sender was to put these pictures into a capture with this text, which it began in a sink that
-- had taken `start`, and its sink took that, all of it or a first part.
pub record HasStopped {A K : Type 0} {G : Ghosts K} (took : K → List ℕ) (Fails : Type 0)
    (wanted : Sending) (text start : List ℕ) (pictures : List Values) (s : Sends A K G)
    : Type 0 where
  pub datagrams : List (List ℕ)
  pub plan : IsPlanOf wanted.max_octets s.plan
  pub next : ℕ
  pub sent : SendsTo s.plan (run_sender s.plan.format wanted) 0 pictures wanted.first datagrams
      next
  pub taken : WrittenAtFault Fails start (took s.writer.sink) (written_text wanted.paths text datagrams)

-- a sender that had sent k pictures was to send these behind them
pub record StopsMore {A K : Type 0} {G : Ghosts K} (took : K → List ℕ) (Fails : Type 0) (k : ℕ)
    (more : List Values) (old new : Sends A K G) : Type 0 where
  pub stops : (wanted : Sending) (text start : List ℕ) (pictures : List Values)
      → length pictures ≡ k → HasSent took wanted text start pictures old
      → HasStopped took Fails wanted text start (pictures ++ more) new

-- It was to send these, and behind them those that were read of the first of some sources; no
-- source behind the next one was read.
pub record StopsBehind {S A K : Type 0} {G : Ghosts K} (told : S × S → List ℕ → Type 0)
    (took : K → List ℕ) (Fails : Type 0) (k : ℕ) (front : List Values) (sources later : List S)
    (old new : Sends A K G) : Type 0 where
  pub pictures : List Values
  pub say : SayPictures told (take (length pictures) sources) (take (length pictures) later)
      pictures
  pub unread : drop (length pictures + 1) later ≡ drop (length pictures + 1) sources
  pub stops : StopsMore took Fails k (front ++ pictures) old new

-- ---- the run

-- A sink took the capture of this picture and, behind it, of those that were read of the first of
-- some sources, all of it or a first part; no source behind the next one was read.
pub record SendsFirstAndPart {S : Type 0} (told : S × S → List ℕ → Type 0) (Fails : Type 0)
    (wanted : Sending) (text : List ℕ) (first : Values) (sources later : List S)
    (old new : List ℕ) : Type 0 where
  pub rest : List Values
  pub say : SayPictures told (take (length rest) sources) (take (length rest) later) rest
  pub unread : drop (length rest + 1) later ≡ drop (length rest + 1) sources
  pub whole : List ℕ
  pub count : ℕ
  pub capture : TakesCapture wanted text first.format (first ∷ rest) [] whole count
  pub taken : WrittenAtFault Fails old new whole

-- it took that of the pictures that were read of the first sources, of one at least
pub record SendsPart {S : Type 0} (told : S × S → List ℕ → Type 0) (Fails : Type 0)
    (wanted : Sending) (text : List ℕ) (sources later : List S) (old new : List ℕ)
    : Type 0 where
  pub few : length sources ≤ 10000
  pub first : Values
  pub first_is : FirstIs (λ s. SaysPicture (told s) first) (zip sources later)
  pub taken : SendsFirstAndPart told Fails wanted text first (drop 1 sources) (drop 1 later) old
      new

-- it took so much, or nothing, and of the sources no other than the first was read
abbrev pub SendsUpTo : {S : Type 0} → (S × S → List ℕ → Type 0) → Type 0 → Sending → List ℕ → List S
    → List S → List ℕ → List ℕ → Type 0
SendsUpTo told Fails wanted text sources later old new =
    ((new ≡ old) × (drop 1 later ≡ drop 1 sources))
    ⊎ SendsPart told Fails wanted text sources later old new

-- So it is of the SDP's text and by what is asked for, where the text was read and describes a
-- video; else nothing was written.
abbrev pub SendsSome : {S : Type 0} → (S → List ℕ) → (S → Type 0) → Type 0 → Bool → Sending
    → Option S → Option S → List S → List S → List ℕ → List ℕ → Type 0
SendsSome gave ended Fails by_sdp wanted sdp sdp_later sources later old new =
    ((new ≡ old) × (drop 1 later ≡ drop 1 sources))
    ⊎ ((text : List ℕ) × SaysText gave ended sdp sdp_later text
    × ((asked : Sending) × IsSentBy by_sdp wanted text asked
    × SendsPart (WasRead gave ended) Fails asked text sources later old new))
