-- What `send` writes.
use Rattle.std.specs.Prelude.{◌≡◌, ℕ, ◌+◌, ◌%◌, ◌^◌, List, [], ◌∷◌, ◌++◌, length}
use Rattle.std.specs.Prelude.{⊤, Option}
use Rattle.run_outcome.specs.Moments.{WasRead}
use Rattle.st_format.specs.Picture.{Values}
use Rattle.st_format.specs.declared.device.ByteSink.{Ghosts}
use Rattle.st_format.specs.declared.format.Format.{Format}
use Rattle.st_format.specs.Device.{capped}
use Rattle.media_file.specs.Writer.{moment_after, written_text}
use Rattle.packet_plan.specs.Plan.{IsFullPlan, IsSize, RasterPlan}
use Rattle.packet_plan.specs.Sender.{IsSenderList, Sender, stamp_of}
use Rattle.packet_plan.specs.Sent.{IsSentPicture}
use Rattle.run_outcome.specs.Line.{line_text}
use Rattle.run_outcome.specs.Pictures.{SaysPicture}
use Rattle.run_outcome.specs.TextRefusals.{SaysText}
use Rattle.run_outcome.specs.declared.line.Line.TheVariants as line
use Rattle.capture_engines.specs.Writing.{WritesPicture}
use Rattle.capture_engines.specs.declared.sender.Sender.{Sender as Sends}
use Rattle.capture_engines.specs.declared.sender.Sending.{Sending}

-- what is the same for all pictures of a run
abbrev pub run_sender : Format → Sending → Sender
run_sender format wanted =
    record {
      format = format;
      base = wanted.base;
      payload_type = wanted.payload_type;
      ssrc = wanted.ssrc;
    }

-- a plan of packets of at most so many octets, as full as can be
pub record IsPlanOf (most : ℕ) (plan : RasterPlan) : Type 0 where
  pub size : plan.max_octets ≡ most
  pub full : IsFullPlan plan.packets plan.format plan.max_octets

-- ---- one picture

-- the number of the packet behind those of a picture
abbrev pub number_behind : ℕ → RasterPlan → ℕ
number_behind first plan = (first + length plan.packets) % 2 ^ 32

-- A sender sent a picture as frame k: its packets' numbers go on from the next one.
pub record SendsNext {A K : Type 0} {G : Ghosts K} (took : K → List ℕ) (p : Values) (k : ℕ)
    (old new : Sends A K G) : Type 0 where
  pub format : p.format ≡ old.plan.format
  pub written : WritesPicture took p (stamp_of (run_sender old.plan.format old.wanted) k old.next)
      old.plan old.writer new.writer
  pub next : new.next ≡ number_behind old.next old.plan
  pub count : new.sent ≡ capped (old.sent + length old.plan.packets)
  pub plan : new.plan ≡ old.plan
  pub wanted : new.wanted ≡ old.wanted

-- ---- pictures, one after the other

-- the datagrams of picture k by this plan, and then others, whose numbers run on
pub record IsPlannedNext (plan : RasterPlan) (s : Sender) (k first : ℕ) (p : Values)
    (later : ℕ → List (List ℕ) → Type 0) (datagrams : List (List ℕ)) : Type 0 where
  pub mine : List (List ℕ)
  pub others : List (List ℕ)
  pub format : p.format ≡ s.format
  pub picture : IsSentPicture mine p (stamp_of s k first) plan.max_octets plan.packets
  pub rest : later (number_behind first plan) others
  pub whole : datagrams ≡ mine ++ others

-- the datagrams of pictures from the k-th on, all by this plan, and the number of the packet behind
-- them
abbrev pub SendsTo : RasterPlan → Sender → ℕ → List Values → ℕ → List (List ℕ) → ℕ → Type 0
SendsTo plan s k [] first datagrams next = (datagrams ≡ []) × (next ≡ first)
SendsTo plan s k (p ∷ ps) first datagrams next =
    IsPlannedNext plan s k first p (λ number others. SendsTo plan s (k + 1) ps number others next)
    datagrams

-- A sender put these pictures into a capture with this text, which it began in a sink that had
-- taken this.
pub record HasSent {A K : Type 0} {G : Ghosts K} (took : K → List ℕ) (wanted : Sending)
    (text start : List ℕ) (pictures : List Values) (s : Sends A K G)
    : Type 0 where
  pub datagrams : List (List ℕ)
  pub wanted_is : s.wanted ≡ wanted
  pub paths : s.writer.place.paths ≡ wanted.paths
  pub moment : s.writer.place.moment ≡ moment_after wanted.paths 0 datagrams
  pub plan : IsPlanOf wanted.max_octets s.plan
  pub sent : SendsTo s.plan (run_sender s.plan.format wanted) 0 pictures wanted.first datagrams
      s.next
  pub count : s.sent ≡ capped (length datagrams)
  pub taken : took s.writer.sink ≡ start ++ written_text wanted.paths text datagrams

-- a sender that had sent k pictures sent these behind them
pub record SendsMore {A K : Type 0} {G : Ghosts K} (took : K → List ℕ) (k : ℕ)
    (more : List Values) (old new : Sends A K G) : Type 0 where
  pub sent : (wanted : Sending) (text start : List ℕ) (pictures : List Values)
      → length pictures ≡ k → HasSent took wanted text start pictures old
      → HasSent took wanted text start (pictures ++ more) new

-- ---- the run

-- what was read of sources are the files of these pictures, one each: the sources as they were, and
-- as they are
abbrev pub SayPictures : {S : Type 0} → (S × S → List ℕ → Type 0) → List S → List S → List Values
    → Type 0
SayPictures told [] [] [] = ⊤
SayPictures told (s ∷ ss) (t ∷ ts) (p ∷ ps) =
    SaysPicture (told (s, t)) p × SayPictures told ss ts ps
SayPictures told olds news pictures = ⊥

-- a sender that had sent one picture sent those that were read of sources
pub record SendsRest {S A K : Type 0} {G : Ghosts K} (told : S × S → List ℕ → Type 0)
    (took : K → List ℕ) (sources later : List S) (old new : Sends A K G) : Type 0 where
  pub pictures : List Values
  pub say : SayPictures told sources later pictures
  pub sent : SendsMore took 1 pictures old new

-- a sender sent a picture as frame 0, and behind it those that were read of sources
pub record SendsEach {S A K : Type 0} {G : Ghosts K} (told : S × S → List ℕ → Type 0)
    (took : K → List ℕ) (first : Values) (sources later : List S) (old new : Sends A K G)
    : Type 0 where
  pub between : Sends A K G
  pub sent : SendsNext took first 0 old between
  pub rest : SendsRest told took sources later between new

-- The datagrams are those of pictures of a format, of the k-th as frame k, all by one plan, of
-- packets of the size that is asked for, the packets' numbers running on.
pub record ArePlanned (wanted : Sending) (format : Format) (pictures : List Values)
    (datagrams : List (List ℕ)) : Type 0 where
  pub plan : RasterPlan
  pub plan_is : IsPlanOf wanted.max_octets plan
  pub format_is : plan.format ≡ format
  pub next : ℕ
  pub sent : SendsTo plan (run_sender format wanted) 0 pictures wanted.first datagrams next

-- A sink took the capture of a text and of the datagrams of pictures, which are so many: of the
-- k-th as frame k, all by one raster plan, the packets' numbers running on. The size of packets
-- that is asked for is one that plans are made for.
pub record TakesCapture (wanted : Sending) (text : List ℕ) (format : Format)
    (pictures : List Values) (old new : List ℕ) (count : ℕ) : Type 0 where
  pub limits : IsSize wanted.max_octets format
  pub datagrams : List (List ℕ)
  pub sent : IsSenderList datagrams (run_sender format wanted) wanted.first pictures
  pub planned : ArePlanned wanted format pictures datagrams
  pub taken : new ≡ old ++ written_text wanted.paths text datagrams
  pub count_is : count ≡ capped (length datagrams)

-- so it is of pictures of the first one's format; where there is none, nothing is written
abbrev pub TakesPictures : Sending → List ℕ → List Values → List ℕ → List ℕ → ℕ → Type 0
TakesPictures wanted text [] old new count = (new ≡ old) × (count ≡ 0)
TakesPictures wanted text (p ∷ ps) old new count =
    TakesCapture wanted text p.format (p ∷ ps) old new count

-- a sink took the capture of this picture and, behind it, of those that were read of sources
pub record SendsFirstAndRest {S : Type 0} (told : S × S → List ℕ → Type 0) (wanted : Sending)
    (text : List ℕ) (first : Values) (sources later : List S) (old new : List ℕ) (count : ℕ)
    : Type 0 where
  pub rest : List Values
  pub say : SayPictures told sources later rest
  pub taken : TakesCapture wanted text first.format (first ∷ rest) old new count

-- a sink took the pictures whose files were read of sources
pub record SendsPictures {S : Type 0} (told : S × S → List ℕ → Type 0) (wanted : Sending)
    (text : List ℕ) (sources later : List S) (old new : List ℕ) (count : ℕ) : Type 0 where
  pub pictures : List Values
  pub say : SayPictures told sources later pictures
  pub taken : TakesPictures wanted text pictures old new count

-- A sink took that text and those pictures, and to the output it was printed how many datagrams
-- they are.
pub record SendsAll {S : Type 0} (gave : S → List ℕ) (ended : S → Type 0) (wanted : Sending)
    (sdp sdp_later : Option S) (sources later : List S) (old new printed printed_new : List ℕ)
    : Type 0 where
  pub text : List ℕ
  pub says : SaysText gave ended sdp sdp_later text
  pub count : ℕ
  pub pictures : SendsPictures (WasRead gave ended) wanted text sources later old new count
  pub line : printed_new ≡ printed ++ (line_text (line.Sent count) ++ 10 ∷ [])
