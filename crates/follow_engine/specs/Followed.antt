-- What `follow` makes of what was read (own). What was read is told by a predicate: it holds of any
-- octets that begin with it, and of no others where the source has ended.
use Rattle.std.specs.Prelude.{◌≡◌, ◌⊎◌, ◌<◌, ℕ, List, [], ◌++◌, Option, None, Some, Result, length}
use Rattle.std.specs.List.{AllZip}
use Rattle.flow.specs.declared.flows.Flows.{Flows}
use Rattle.media_file.specs.Records.{Entry}
use Rattle.following.specs.Follower.{opened}
use Rattle.path_receiver.specs.Opening.{IsWindowSize, Opening}
use Rattle.run_outcome.specs.Sources.{IsSourceText}
use Rattle.run_outcome.specs.declared.refusal.Refusal.{Refusal}
use Rattle.capture_engines.specs.Taking.{AnnouncesStream, said_behind}
use Rattle.side_by_side.specs.Strands.{GoesWhole}
use Rattle.following.specs.Following.{Handed}
use Rattle.follow_engine.specs.Events.{Event, Running, events_in, events_of, frames_of_events}
use Rattle.follow_engine.specs.Events.{run_end, running_from}
use Rattle.follow_engine.specs.Order.{AreTakenBy, GoesFirst, datagrams_in, most_datagrams}
use Rattle.follow_engine.specs.Order.{strands_by}
use Rattle.follow_engine.specs.Running.{TellsEvents, steering_of}
use Rattle.follow_engine.specs.Shown.{GrowsSome, TakesEachFrame, TakesSome}
use Rattle.follow_engine.specs.Telling.{events_text, totals_of, totals_text}
use Rattle.follow_engine.specs.declared.opening.FollowAsked.{FollowAsked}
use Rattle.follow_engine.specs.declared.telling.FollowTotals.{FollowTotals}

-- what happens to a stream of records meanwhile, of a follower that is opened so
abbrev pub first_events : FollowAsked → Opening → List Entry → List Event
first_events w o entries =
    events_in w.is_eager (running_from (opened o w.frames 900000)) (datagrams_in entries)

-- what happens to the stream of records, of a follower that is opened so; and what is noted then
abbrev pub followed_events : FollowAsked → Opening → List Entry → List Event
followed_events w o entries =
    events_of w.is_eager (running_from (opened o w.frames 900000)) (datagrams_in entries)

-- what is noted of the stream of records, by the same follower
abbrev pub followed_run : FollowAsked → Opening → List Entry → Running
followed_run w o entries =
    run_end w.is_eager (running_from (opened o w.frames 900000)) (datagrams_in entries)

-- So the stream that files have was followed: what was printed, and what was shown. It is that of
-- the frames that leave a follower which is opened with what the SDP text says, of all records of
-- the files as they go side by side, up to their ends.
pub record FollowsWhole {S K : Type 0} (w : FollowAsked) (sdp : Option (List ℕ))
    (ways : List (Result Flows Refusal)) (told : S → List ℕ → Type 0) (files : List S)
    (takes : K → Handed → K → Type 0) (old new : K) (took took' : List ℕ)
    (totals : FollowTotals) : Type 0 where
  pub opening : Opening
  pub entries : List Entry
  pub size : IsWindowSize w.frames
  pub no_window : opening.window ≡ []
  pub source_is : IsSourceText w.ssrc.now opening.ssrc
  pub announced : (octets : List (List ℕ)) (text : List ℕ) → AllZip told files octets
      → said_behind sdp octets ≡ Some text → AnnouncesStream text opening
  pub goes : (octets : List (List ℕ)) → AllZip told files octets
      → GoesWhole (steering_of opening) (strands_by ways octets) entries
  -- a text is given, or there is a file; a recording is taken by flows; and no more records than
  -- are counted
  pub has_text : sdp ≡ None → files ≡ [] → ⊥
  pub by_flows : (octets : List (List ℕ)) → AllZip told files octets → AreTakenBy ways octets
  pub few : length entries < most_datagrams
  pub printed : took' ≡ took ++ (events_text (followed_events w opening entries)
      ++ totals_text (followed_run w opening entries))
  pub shown : TakesEachFrame takes old (frames_of_events (followed_events w opening entries)) new
  pub told_totals : totals ≡ totals_of (followed_run w opening entries)

-- ---- a run that ends by a fault

-- A stream was followed up to some record that files have: of a follower that is opened with what
-- the SDP text says, and of the records that go first of the files, this holds.
pub record FollowsFirst {S : Type 0} (w : FollowAsked) (sdp : Option (List ℕ))
    (ways : List (Result Flows Refusal)) (told : S → List ℕ → Type 0) (files : List S)
    (Tells : Opening → List Entry → Type 0) : Type 0 where
  pub opening : Opening
  pub entries : List Entry
  pub no_window : opening.window ≡ []
  pub source_is : IsSourceText w.ssrc.now opening.ssrc
  pub announced : (octets : List (List ℕ)) (text : List ℕ) → AllZip told files octets
      → said_behind sdp octets ≡ Some text → AnnouncesStream text opening
  pub goes : (octets : List (List ℕ)) → AllZip told files octets
      → GoesFirst (steering_of opening) (strands_by ways octets) entries
  pub tells : Tells opening entries

-- The run was refused: nothing was printed and shown; or just what happened to the stream up to
-- some record, all of it.
abbrev pub StopsShort : {S K : Type 0} → FollowAsked → Option (List ℕ)
    → List (Result Flows Refusal) → (S → List ℕ → Type 0) → List S
    → (K → Handed → K → Type 0) → K → K → List ℕ → List ℕ → Type 0
StopsShort w sdp ways told files takes old new took took' =
    ((new ≡ old) × (took' ≡ took)) ⊎ FollowsFirst w sdp ways told files
    (λ o entries. TellsEvents takes old new took took' (first_events w o entries))

-- A device failed, or memory was wanted: of what a run prints and shows that ends behind some
-- record there is a first part.
pub record TellsPart {K : Type 0} (takes fails : K → Handed → K → Type 0) (w : FollowAsked)
    (old new : K) (took took' : List ℕ) (o : Opening) (entries : List Entry) : Type 0 where
  pub printed : GrowsSome took took' (events_text (followed_events w o entries)
      ++ totals_text (followed_run w o entries))
  pub shown : TakesSome takes fails old (frames_of_events (followed_events w o entries)) new

-- so of files: nothing was printed or shown, or such a first part
abbrev pub FollowsPart : {S K : Type 0} → FollowAsked → Option (List ℕ)
    → List (Result Flows Refusal) → (S → List ℕ → Type 0) → List S
    → (K → Handed → K → Type 0) → (K → Handed → K → Type 0) → K → K → List ℕ → List ℕ → Type 0
FollowsPart w sdp ways told files takes fails old new took took' =
    ((new ≡ old) × (took' ≡ took))
    ⊎ FollowsFirst w sdp ways told files (TellsPart takes fails w old new took took')
