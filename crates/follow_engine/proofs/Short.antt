-- A stream that was followed up to some record.
use Rattle.std.proofs.Common.{◌≡◌, ◌∙◌, ℕ, Bool, List, [], ◌++◌, Option, Some, Result, ap}
use Rattle.std.proofs.Common.{append_assoc, subst, sym}
use Rattle.std.proofs.lemmas.Grind.{flat_map-append}
use Rattle.std.proofs.lemmas.List.Elements.{filter_map-append}
use Rattle.std.specs.List.{AllByRecursion, AllZip, zip}
use Rattle.capture_engines.specs.Taking.{AnnouncesStream, said_behind}
use Rattle.flow.specs.declared.flows.Flows.{Flows}
use Rattle.following.specs.Follower.{opened}
use Rattle.following.specs.Following.{Handed, frames_in}
use Rattle.media_file.specs.Records.{Entry}
use Rattle.path_receiver.specs.Opening.{Opening}
use Rattle.path_receiver.specs.Took.{datagrams_since}
use Rattle.recording_engines.specs.Files.{HasKnownOctets}
use Rattle.recording_engines.specs.Joining.{Strand}
use Rattle.run_outcome.specs.Sources.{IsSourceText}
use Rattle.run_outcome.specs.declared.refusal.Refusal.{Refusal}
use Rattle.side_by_side.specs.Sides.{IsSideBySide, SideGave, Sides, begun_each, strands_of}
use Rattle.side_by_side.specs.declared.side.Side.{Side}
use Rattle.side_by_side.specs.declared.steering.Steering.{Steering}
use Rattle.st_format.specs.declared.path.Path.{Path}
use Rattle.follow_engine.specs.Events.{Event, Running, behind_all, ended, events_end, events_in}
use Rattle.follow_engine.specs.Events.{events_of, frame_of_event, frames_of_events, leaving}
use Rattle.follow_engine.specs.Events.{run_end, running_from}
use Rattle.follow_engine.specs.Followed.{FollowsFirst, TellsPart, first_events, followed_events}
use Rattle.follow_engine.specs.Followed.{followed_run}
use Rattle.follow_engine.specs.Opened.{AreOpened, IsFirstText}
use Rattle.follow_engine.specs.Order.{GoesFirst, datagrams_in, strands_by}
use Rattle.follow_engine.specs.Refused.{GoesSoFar}
use Rattle.follow_engine.specs.Running.{Finishes, TellsEvents, TellsSome, running_of, steering_of}
use Rattle.follow_engine.specs.Shown.{GrowsSome, TakesSome}
use Rattle.follow_engine.specs.Sides.{EndsSome, FollowsEntries, FollowsUpTo, HasBegunRun, SideRead}
use Rattle.follow_engine.specs.Sides.{text_by}
use Rattle.follow_engine.specs.Telling.{event_text, events_text, totals_text}
use Rattle.follow_engine.specs.declared.opening.FollowAsked.{FollowAsked}
use Rattle.follow_engine.specs.declared.running.Run.{Run}
use Rattle.follow_engine.proofs.Beginnings.{totals_same}
use Rattle.follow_engine.proofs.Cut.{some_all, some_then, tells_first}
use Rattle.follow_engine.proofs.First.{goes_first}
use Rattle.follow_engine.proofs.Grows.{grows_first, grows_then}
use Rattle.follow_engine.proofs.Outcome.{said_text}
use Rattle.follow_engine.proofs.Whole.{all_taken, datagrams_from}

-- ---- what came

pub up_to : {A S : Type 0} (gave : S → List ℕ) (ended : S → Type 0) (source source' : Sides A S)
    (r : Run A) (sides : List (Side A S)) (Tells : List Event → Type 0) → IsSideBySide source'
    → AllByRecursion (λ s. HasKnownOctets gave ended s.file) source'.sides → source.came ≡ []
    → source'.steering ≡ r.steering → source'.sides ≡ sides
    → Tells (events_in r.is_eager (running_of r) (datagrams_since source.came source'.came))
    → FollowsUpTo gave ended r sides Tells
up_to gave ended source source' r sides Tells is known none steering at told =
    let ds : datagrams_since source.came source'.came ≡ datagrams_in is.entries =
    ap (λ (l : List (Path × List ℕ)). datagrams_since l source'.came) none
    ∙ datagrams_from source'.came is.entries is.came_is in
    subst (λ (l : List (Side _ _)). FollowsUpTo gave ended r l Tells) at
    (record {
      entries = is.entries;
      goes = λ octets read.
          subst (λ (st : Steering). GoesFirst st (strands_of source'.sides octets) is.entries)
          steering (goes_first gave ended source' octets is known read);
      told =
          subst (λ (l : List (List ℕ)). Tells (events_in r.is_eager (running_of r) l)) ds told;
    })

-- ---- the end

-- not all frames left that were in
pub ends_early : {A K : Type 0} (takes fails : K → Handed → K → Type 0) (r : Run A) (old new : K)
    (took took' : List ℕ)
    → TellsSome takes fails old new took took' (leaving r.late (frames_in r.follower))
    → EndsSome takes fails r old new took took'
ends_early takes fails r old new took took' is = record {
  printed =
      grows_first took took' (events_text (events_end (running_of r)))
      (totals_text (ended (running_of r))) is.printed;
  shown = is.shown;
}

-- they did, and of the totals a first part was printed
pub ends_late : {A K : Type 0} (takes fails : K → Handed → K → Type 0) (r r' : Run A)
    (old new : K) (took took' took'' : List ℕ) → Finishes takes r r' old new took took'
    → GrowsSome took' took'' (totals_text (running_of r'))
    → EndsSome takes fails r old new took took''
ends_late takes fails r r' old new took took' took'' done part = record {
  printed =
      grows_then took took' took'' (events_text (events_end (running_of r)))
      (totals_text (ended (running_of r))) done.told.printed
      (subst (λ (t : List ℕ). GrowsSome took' took'' t)
      (ap totals_text done.running ∙ totals_same (running_of r) r'.follower done.size) part);
  shown = some_all takes fails old new (frames_of_events (events_end (running_of r)))
      done.told.shown;
}

-- ---- behind all records

-- of what a run prints and shows of these datagrams there is a first part
pub record CutRun {K : Type 0} (takes fails : K → Handed → K → Type 0) (eager : Bool) (r : Running)
    (ds : List (List ℕ)) (old new : K) (took took' : List ℕ) : Type 0 where
  pub printed : GrowsSome took took' (events_text (events_of eager r ds)
      ++ totals_text (run_end eager r ds))
  pub shown : TakesSome takes fails old (frames_of_events (events_of eager r ds)) new

cut_at : {K : Type 0} (takes fails : K → Handed → K → Type 0) (eager : Bool) (r : Running)
    (ds : List (List ℕ)) (old mid new : K) (took took' took'' : List ℕ)
    → TellsEvents takes old mid took took' (events_in eager r ds)
    → GrowsSome took' took'' (events_text (events_end (behind_all eager r ds))
    ++ totals_text (ended (behind_all eager r ds)))
    → TakesSome takes fails mid (frames_of_events (events_end (behind_all eager r ds))) new
    → CutRun takes fails eager r ds old new took took''
cut_at takes fails eager r ds old mid new took took' took'' told printed shown =
    let es : List Event = events_in eager r ds in
    let fs : List Event = events_end (behind_all eager r ds) in
    let last : List ℕ = totals_text (ended (behind_all eager r ds)) in
    record {
      printed =
          subst (λ (t : List ℕ). GrowsSome took took'' t)
          (sym (append_assoc (events_text es) (events_text fs) last)
          ∙ ap (λ (t : List ℕ). t ++ last) (sym (flat_map-append event_text es fs)))
          (grows_then took took' took'' (events_text es) (events_text fs ++ last) told.printed
          printed);
      shown =
          subst (λ (hs : List Handed). TakesSome takes fails old hs new)
          (sym (filter_map-append frame_of_event es fs))
          (some_then takes fails old mid new (frames_of_events es) (frames_of_events fs)
          told.shown shown);
    }

cut_by : {A K : Type 0} (takes fails : K → Handed → K → Type 0) (eager : Bool) (r : Running)
    (ds : List (List ℕ)) (t : Run A) (old mid new : K) (took took' took'' : List ℕ)
    → running_of t ≡ behind_all eager r ds
    → TellsEvents takes old mid took took' (events_in eager r ds)
    → EndsSome takes fails t mid new took' took''
    → CutRun takes fails eager r ds old new took took''
cut_by takes fails eager r ds t old mid new took took' took'' is told ends =
    cut_at takes fails eager r ds old mid new took took' took'' told
    (subst (λ (x : Running). GrowsSome took' took'' (events_text (events_end x)
    ++ totals_text (ended x))) is ends.printed)
    (subst (λ (x : Running). TakesSome takes fails mid (frames_of_events (events_end x)) new) is
    ends.shown)

-- ---- the run

module _ {A S : Type 0} (gave : S → List ℕ) (ended_at : S → Type 0) (w : FollowAsked)
    (ssrc : Option ℕ) (sdp : Option (List ℕ)) (ways : List (Result Flows Refusal))
    (first : List ℕ) (olds mids news : List (Side A S)) (r : Run A)
    (source : IsSourceText w.ssrc.now ssrc) (begun : HasBegunRun w ssrc (text_by sdp first) r)
    (opened_so : AreOpened gave ended_at ways olds mids) (is : IsFirstText first mids)
    (same : begun_each news ≡ begun_each mids)
    (known : AllByRecursion (λ x. HasKnownOctets gave ended_at x.file) news)
  where
    -- the words and the text say its opening
    source_said : IsSourceText w.ssrc.now begun.opens.opening.ssrc
    source_said =
        subst (λ (x : Option ℕ). IsSourceText w.ssrc.now x) (sym begun.opens.source) source

    stream_said : (octets : List (List ℕ)) (text : List ℕ)
        → AllZip (SideRead gave ended_at) (zip olds news) octets
        → said_behind sdp octets ≡ Some text → AnnouncesStream text begun.opens.opening
    stream_said octets text read said =
        subst (λ (x : List ℕ). AnnouncesStream x begun.opens.opening)
        (said_text gave ended_at ways sdp first olds mids news octets text opened_so is same known
        read said) begun.opens.announced

    -- records that go by what files gave go by what was read of them
    goes_read : (Go : Steering → List Strand → Type 0)
        → ((octets : List (List ℕ)) → AllZip (SideGave gave ended_at) news octets
        → Go r.steering (strands_of news octets))
        → (octets : List (List ℕ)) → AllZip (SideRead gave ended_at) (zip olds news) octets
        → Go (steering_of begun.opens.opening) (strands_by ways octets)
    goes_read Go goes octets read =
        let taken = all_taken gave ended_at ways olds mids news octets opened_so same read in
        subst (λ (x : Steering). Go x (strands_by ways octets))
        (begun.run.steering
        ∙ ap (λ (x : Running). steering_of x.follower.opening) begun.opens.is)
        (subst (λ (l : List Strand). Go r.steering l) taken.strands (goes octets taken.given))

    follows_first : (Tells : Opening → List Entry → Type 0) (entries : List Entry)
        → ((octets : List (List ℕ)) → AllZip (SideGave gave ended_at) news octets
        → GoesFirst r.steering (strands_of news octets) entries)
        → Tells begun.opens.opening entries
        → FollowsFirst w sdp ways (SideRead gave ended_at) (zip olds news) Tells
    follows_first Tells entries goes tells = record {
      opening = begun.opens.opening;
      entries = entries;
      no_window = begun.opens.no_window;
      source_is = source_said;
      announced = stream_said;
      goes = goes_read (λ s l. GoesFirst s l entries) goes;
      tells = tells;
    }

    -- what went of the files
    pub goes_so_far : (Goes : Steering → List Strand → List Entry → Type 0) (entries : List Entry)
        → ((octets : List (List ℕ)) → AllZip (SideGave gave ended_at) news octets
        → Goes r.steering (strands_of news octets) entries)
        → GoesSoFar w.ssrc.now sdp ways (SideRead gave ended_at) (zip olds news) Goes
    goes_so_far Goes entries goes = record {
      opening = begun.opens.opening;
      entries = entries;
      source_is = source_said;
      announced = stream_said;
      goes = goes_read (λ s l. Goes s l entries) goes;
    }

    -- what happened is so of a follower that is opened as the text says
    first_told : (Tells : List Event → Type 0) (entries : List Entry)
        → Tells (events_in r.is_eager (running_of r) (datagrams_in entries))
        → Tells (first_events w begun.opens.opening entries)
    first_told Tells entries told =
        let ds : List (List ℕ) = datagrams_in entries in
        subst (λ (x : Running). Tells (events_in w.is_eager x ds)) begun.opens.is
        (subst (λ (x : Bool). Tells (events_in x (running_of r) ds)) begun.eager told)

    pub follows_short : {K : Type 0} (takes : K → Handed → K → Type 0) (old new : K)
        (took took' : List ℕ)
        → FollowsUpTo gave ended_at r news (TellsEvents takes old new took took')
        → FollowsFirst w sdp ways (SideRead gave ended_at) (zip olds news)
        (λ o entries. TellsEvents takes old new took took' (first_events w o entries))
    follows_short takes old new took took' up =
        follows_first (λ o entries. TellsEvents takes old new took took' (first_events w o entries))
        up.entries up.goes
        (first_told (TellsEvents takes old new took took') up.entries up.told)

    module _ {K : Type 0} (takes fails : K → Handed → K → Type 0) where
      part_first_told : (old new : K) (took took' : List ℕ) (o : Opening) (entries : List Entry)
          → TellsSome takes fails old new took took' (first_events w o entries)
          → TellsPart takes fails w old new took took' o entries
      part_first_told old new took took' o entries told =
          let ds : List (List ℕ) = datagrams_in entries in
          let from : Running = running_from (opened o w.frames 900000) in
          let more =
          tells_first takes fails old new took took' (first_events w o entries)
          (events_end (behind_all w.is_eager from ds)) told in
          record {
            printed =
                grows_first took took' (events_text (followed_events w o entries))
                (totals_text (followed_run w o entries)) more.printed;
            shown = more.shown;
          }

      pub follows_part : (old new : K) (took took' : List ℕ)
          → FollowsUpTo gave ended_at r news (TellsSome takes fails old new took took')
          → FollowsFirst w sdp ways (SideRead gave ended_at) (zip olds news)
          (TellsPart takes fails w old new took took')
      follows_part old new took took' up =
          follows_first (TellsPart takes fails w old new took took') up.entries up.goes
          (part_first_told old new took took' begun.opens.opening up.entries
          (first_told (TellsSome takes fails old new took took') up.entries up.told))

      pub ends_part : (t : Run A) (old mid new : K) (took took' took'' : List ℕ)
          → FollowsEntries gave ended_at takes r t old mid took took' news
          → EndsSome takes fails t mid new took' took''
          → FollowsFirst w sdp ways (SideRead gave ended_at) (zip olds news)
          (TellsPart takes fails w old new took took'')
      ends_part t old mid new took took' took'' follows ends =
          let ds : List (List ℕ) = datagrams_in follows.entries in
          let from : Running = running_from (opened begun.opens.opening w.frames 900000) in
          let at : CutRun takes fails r.is_eager (running_of r) ds old new took took'' =
          cut_by takes fails r.is_eager (running_of r) ds t old mid new took took' took''
          follows.running follows.told ends in
          let by : CutRun takes fails w.is_eager from ds old new took took'' =
          subst (λ (x : Running). CutRun takes fails w.is_eager x ds old new took took'')
          begun.opens.is
          (subst (λ (x : Bool). CutRun takes fails x (running_of r) ds old new took took'')
          begun.eager at) in
          follows_first (TellsPart takes fails w old new took took'') follows.entries
          (λ octets read. let goes = follows.goes octets read in
          record { left = goes.left; goes = goes.goes })
          (record { printed = by.printed; shown = by.shown })
