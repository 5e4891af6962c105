-- Files as `follow` reads them, as they were before a run, and as they are behind it; and a stream
-- that was begun.
use Rattle.std.specs.Prelude.{◌≡◌, ◌<◌, ℕ, ⊤, List, ◌++◌, Option, None, Some, length}
use Rattle.std.specs.List.{AllZip}
use Rattle.media_file.specs.Records.{Entry}
use Rattle.recording_engines.specs.Files.{ended_by, gave_by}
use Rattle.path_receiver.specs.Took.{datagrams_since}
use Rattle.side_by_side.specs.Sides.{AllOver, SideGave, Sides, strands_of}
use Rattle.side_by_side.specs.Strands.{GoesWhole}
use Rattle.side_by_side.specs.declared.side.Side.{Side}
use Rattle.st_format.specs.History.{IsRead}
use Rattle.following.specs.Following.{Handed}
use Rattle.follow_engine.specs.Events.{Event, behind_all, ended, events_end, events_in}
use Rattle.follow_engine.specs.Events.{frames_of_events}
use Rattle.follow_engine.specs.Order.{GoesFirst, datagrams_in, most_datagrams}
use Rattle.follow_engine.specs.Opened.{OpensRun}
use Rattle.follow_engine.specs.Running.{IsSoundRun, TellsEvents, running_of}
use Rattle.follow_engine.specs.Shown.{GrowsSome, TakesEachFrame, TakesSome}
use Rattle.follow_engine.specs.Telling.{events_text, totals_of, totals_text}
use Rattle.follow_engine.specs.declared.opening.FollowAsked.{FollowAsked}
use Rattle.follow_engine.specs.declared.running.Run.{Run}
use Rattle.follow_engine.specs.declared.telling.FollowTotals.{FollowTotals}

-- octets are what was read of a file
abbrev pub SideRead : {A S : Type 0} → (S → List ℕ) → (S → Type 0) → Side A S × Side A S
    → List ℕ → Type 0
SideRead gave ended z octets =
    IsRead (gave_by gave z.0.file) (gave_by gave z.1.file) (ended_by ended z.1.file) octets

-- A stream was begun by an SDP text, as the words ask for it.
pub record HasBegunRun {A : Type 0} (w : FollowAsked) (ssrc : Option ℕ) (text : List ℕ) (r : Run A)
    : Type 0 where
  pub run : IsSoundRun r
  pub eager : r.is_eager ≡ w.is_eager
  pub opens : OpensRun w.frames ssrc text (running_of r)

-- so where a text is given; else none was begun
abbrev pub HasBegunIn : {A : Type 0} → FollowAsked → Option ℕ → Option (List ℕ) → Option (Run A)
    → Type 0
HasBegunIn w ssrc None None = ⊤
HasBegunIn w ssrc None (Some r) = ⊥
HasBegunIn w ssrc (Some text) None = ⊥
HasBegunIn w ssrc (Some text) (Some r) = HasBegunRun w ssrc text r

-- the text by which a stream is begun: that which is given, or else the first file's
abbrev pub text_by : Option (List ℕ) → List ℕ → List ℕ
text_by None first = first
text_by (Some given) first = given

-- All datagrams of files went into a stream: what happened to it was told, and shown.
pub record FollowsSides {A S K : Type 0} (takes : K → Handed → K → Type 0)
    (source source' : Sides A S) (r r' : Run A) (old new : K) (took took' : List ℕ) : Type 0 where
  pub over : AllOver source'.sides
  pub few : length (datagrams_since source.came source'.came) < most_datagrams
  pub running : running_of r' ≡ behind_all r.is_eager (running_of r)
      (datagrams_since source.came source'.came)
  pub told : TellsEvents takes old new took took' (events_in r.is_eager (running_of r)
      (datagrams_since source.came source'.came))

-- The datagrams of all records of files went into a stream, in the order in which these go side by
-- side: what happened to it was told, and shown.
pub record FollowsEntries {A S K : Type 0} (gave : S → List ℕ) (ended : S → Type 0)
    (takes : K → Handed → K → Type 0) (r r' : Run A) (old new : K) (took took' : List ℕ)
    (sides : List (Side A S)) : Type 0 where
  pub entries : List Entry
  pub few : length entries < most_datagrams
  pub goes : (octets : List (List ℕ)) → AllZip (SideGave gave ended) sides octets
      → GoesWhole r.steering (strands_of sides octets) entries
  pub running : running_of r' ≡ behind_all r.is_eager (running_of r) (datagrams_in entries)
  pub told : TellsEvents takes old new took took' (events_in r.is_eager (running_of r)
      (datagrams_in entries))

-- Of the datagrams of the records that go first of files this holds, of what happens to a stream of
-- them.
pub record FollowsUpTo {A S : Type 0} (gave : S → List ℕ) (ended : S → Type 0) (r : Run A)
    (sides : List (Side A S)) (Tells : List Event → Type 0) : Type 0 where
  pub entries : List Entry
  pub goes : (octets : List (List ℕ)) → AllZip (SideGave gave ended) sides octets
      → GoesFirst r.steering (strands_of sides octets) entries
  pub told : Tells (events_in r.is_eager (running_of r) (datagrams_in entries))

-- Some first of the frames left that were in, and of what became of the stream a first part was
-- told.
pub record EndsSome {A K : Type 0} (takes fails : K → Handed → K → Type 0) (r : Run A)
    (old new : K) (took took' : List ℕ) : Type 0 where
  pub printed : GrowsSome took took' (events_text (events_end (running_of r))
      ++ totals_text (ended (running_of r)))
  pub shown : TakesSome takes fails old (frames_of_events (events_end (running_of r))) new

-- All frames left that were in, and what became of the stream was told.
pub record EndsStream {A K : Type 0} (takes : K → Handed → K → Type 0) (r : Run A) (old new : K)
    (took took' : List ℕ) (totals : FollowTotals) : Type 0 where
  pub printed : took' ≡ took ++ (events_text (events_end (running_of r))
      ++ totals_text (ended (running_of r)))
  pub shown : TakesEachFrame takes old (frames_of_events (events_end (running_of r))) new
  pub totals_are : totals ≡ totals_of (ended (running_of r))
