-- Files that bring a sender's pictures into a stream that is followed (own).
use Rattle.std.specs.Prelude.{◌≡◌, ◌⊎◌, ℕ, ◌+◌, ◌≤◌, false, List, ◌∷◌, ◌++◌, length, map, Result}
use Rattle.std.specs.List.{AllZip}
use Rattle.capture_engines.specs.Files.{files_datagrams}
use Rattle.flow.specs.declared.flows.Flows.{Flows}
use Rattle.follow_engine.specs.Events.{running_from}
use Rattle.follow_engine.specs.Followed.{followed_run}
use Rattle.follow_engine.specs.Order.{datagrams_in}
use Rattle.follow_engine.specs.Plain.{NoneAnew}
use Rattle.follow_engine.specs.Telling.{totals_of}
use Rattle.follow_engine.specs.declared.opening.FollowAsked.{FollowAsked}
use Rattle.following.specs.Follower.{opened}
use Rattle.following.specs.Pictures.{timed_from, times_from}
use Rattle.following.specs.Prompt.{IsPrompt}
use Rattle.following.specs.Times.{IsOrderly}
use Rattle.media_file.specs.Records.{Entry}
use Rattle.packet_plan.specs.Sender.{Sender}
use Rattle.path_receiver.specs.Opening.{IsWindowSize, Opening}
use Rattle.path_receiver.specs.Sender.{IsOpenFor}
use Rattle.run_outcome.specs.declared.refusal.Refusal.{Refusal}
use Rattle.st_format.specs.Member.{IsMember, SameDatagrams}
use Rattle.st_format.specs.Picture.{Values}
use Rattle.st_format.specs.Position.{sample_count}

-- each picture has a value for each position
abbrev pub AreWhole : List Values → Type 0
AreWhole pictures =
    (p : Values) → IsMember p pictures → length p.samples ≡ sample_count p.format

-- A receiver is open for what a sender sends, whose pictures are whole.
pub record AwaitsPictures (o : Opening) (s : Sender) (pictures : List Values) : Type 0 where
  pub opened : IsOpenFor o s.format s.payload_type s.ssrc
  pub whole : AreWhole pictures

-- What was read of files are these datagrams, all, each by one of the files or by more, and no
-- others (SMPTE ST 2022-7).
pub record BringDatagrams {S : Type 0} (told : S → List ℕ → Type 0)
    (ways : List (Result Flows Refusal)) (files : List S) (datagrams : List (List ℕ))
    : Type 0 where
  pub octets : List (List ℕ)
  pub read : AllZip told files octets
  pub same : SameDatagrams (files_datagrams ways octets) datagrams

-- Records go into a stream in time, where the first picture has this time: frames leave as they are
-- due, none before; no datagram comes after as many newer timestamps as there are frames, and none
-- is more than ten seconds ahead.
pub record GoesInTime (w : FollowAsked) (o : Opening) (base : ℕ) (entries : List Entry) : Type 0
  where
    pub frames : IsWindowSize w.frames
    pub due : w.is_eager ≡ false
    pub orderly : IsOrderly w.frames 900000 (times_from o base (datagrams_in entries))

-- The totals of a stream say `late 0` and `far 0`: each datagram was kept or refused.
pub record LosesNone (w : FollowAsked) (o : Opening) (entries : List Entry) : Type 0 where
  pub frames : IsWindowSize w.frames
  pub late : (totals_of (followed_run w o entries)).late ≡ 0
  pub far : (totals_of (followed_run w o entries)).far ≡ 0

-- none is more than these ticks older than one before it
abbrev pub AreRecent : ℕ → List ℕ → Type 0
AreRecent most us = (before after : List ℕ) (u v : ℕ) → us ≡ before ++ u ∷ after
    → IsMember v before → v ≤ u + most

-- Records go into a stream so that what comes late is a repeat, where the first picture has this
-- time: each datagram of a timestamp that comes after as many newer ones as there are frames came
-- before too (SMPTE ST 2022-7: by another path), none is more than ten seconds ahead, and where
-- frames leave early each timestamp first comes before a newer one's frame is complete; and the
-- stream isn't followed anew.
pub record GoesPrompt (w : FollowAsked) (o : Opening) (base : ℕ) (entries : List Entry) : Type 0
  where
    pub frames : IsWindowSize w.frames
    pub prompt : IsPrompt w.is_eager o w.frames 900000
        (map (timed_from o base) (datagrams_in entries))
    pub plain : NoneAnew w.is_eager (running_from (opened o w.frames 900000))
        (datagrams_in entries)

-- In time by their order, or else by what was told of them; or but for repeats.
abbrev pub IsInTime : FollowAsked → Opening → ℕ → List Entry → Type 0
IsInTime w o base entries =
    GoesInTime w o base entries ⊎ (LosesNone w o entries ⊎ GoesPrompt w o base entries)
