-- A stream that is begun, and files that were opened for it.
use Rattle.std.proofs.Common.{◌≡◌, ℕ, List, [], ◌∷◌, Option, None, Some, refl, sym, ap, subst, ◌∙◌}
use Rattle.std.proofs.Common.{Result, ◌++◌, arith, length}
use Rattle.std.proofs.lemmas.List.{length-map}
use Rattle.std.specs.List.{AllByRecursion}
use Rattle.flow.specs.declared.flows.Flows.{Flows}
use Rattle.media_file.specs.Records.{Entry}
use Rattle.capture_engines.specs.Files.{other_ways}
use Rattle.path_receiver.specs.Took.{datagrams_since}
use Rattle.recording_engines.specs.Files.{IsUnread}
use Rattle.recording_engines.specs.declared.file.ImportFile.{ImportFile}
use Rattle.recording_engines.specs.declared.file.ImportFile.TheVariants.{Closed, Open, Taken}
use Rattle.recording_reader.specs.FileReader.{fault_of}
use Rattle.recording_reader.specs.declared.way.Standing.{Standing as Stand}
use Rattle.run_outcome.specs.declared.refusal.Refusal.{Refusal}
use Rattle.side_by_side.specs.Side.{IsUnfailedFile, begun_at}
use Rattle.side_by_side.specs.Sides.{AllUnfailed, HasGivenAll, IsFreshFile, IsUnreadSide, Sides}
use Rattle.side_by_side.specs.Sides.{begun_each, strands_of}
use Rattle.side_by_side.specs.Strands.{GoesWhole}
use Rattle.side_by_side.specs.declared.side.Side.{Side}
use Rattle.side_by_side.specs.declared.steering.Steering.{Steering}
use Rattle.st_format.specs.declared.path.Path.{Path}
use Rattle.follow_engine.specs.Events.{behind_all, ended, events_end, events_in}
use Rattle.follow_engine.specs.Events.{Running, without}
use Rattle.follow_engine.specs.Opened.{AreOpened}
use Rattle.follow_engine.specs.Order.{datagrams_in}
use Rattle.follow_engine.specs.Running.{Finishes, TellsEvents, running_of}
use Rattle.follow_engine.specs.Sides.{EndsStream, FollowsEntries, FollowsSides, HasBegunRun}
use Rattle.follow_engine.specs.Sides.{HasBegunIn, text_by}
use Rattle.follow_engine.specs.Telling.{events_text, totals_of, totals_text}
use Rattle.follow_engine.specs.declared.opening.FollowAsked.{FollowAsked}
use Rattle.follow_engine.specs.declared.running.Run.{Run}
use Rattle.follow_engine.specs.declared.telling.FollowTotals.{FollowTotals}
use Rattle.following.specs.Follower.{Following}
use Rattle.following.specs.Following.{Handed, frames_in}
use Rattle.st_format.proofs.Gave.{grew_twice}
use Rattle.follow_engine.proofs.Whole.{datagrams_from}

-- ---- a stream that is begun

pub begun_given : {A : Type 0} (w : FollowAsked) (ssrc : Option ℕ) (sdp : Option (List ℕ))
    (first : List ℕ) (r : Run A) → HasBegunIn w ssrc sdp (Some r)
    → HasBegunRun w ssrc (text_by sdp first) r
begun_given w ssrc None first r is = absurd is
begun_given w ssrc (Some text) first r is = is

pub none_given : {A : Type 0} (w : FollowAsked) (ssrc : Option ℕ) (sdp : Option (List ℕ))
    (r : Option (Run A)) → r ≡ None → HasBegunIn w ssrc sdp r → sdp ≡ None
none_given w ssrc None r none is = refl
none_given w ssrc (Some text) None none is = absurd is
none_given w ssrc (Some text) (Some r) none is = absurd cc

-- ---- files that were opened

pub fresh_file : {A S : Type 0} (f : ImportFile A S) → IsUnread f → IsFreshFile f
fresh_file (Closed s) unread = tt
fresh_file (Open r) unread = (unread.reading, unread.none)
fresh_file Taken unread = tt

pub opened_begun : {A S : Type 0} (gave : S → List ℕ) (ended : S → Type 0)
    (ways : List (Result Flows Refusal)) (olds news : List (Side A S))
    → AreOpened gave ended ways olds news → AllByRecursion IsUnreadSide news
opened_begun gave ended ways [] [] opened = tt
opened_begun gave ended ways [] (n ∷ ns) opened = absurd opened
opened_begun gave ended ways (o ∷ os) [] opened = absurd opened
opened_begun gave ended ways (o ∷ os) (n ∷ ns) opened = (
  (opened.0.is.going, fresh_file n.file opened.0.is.unread),
  opened_begun gave ended (other_ways ways) os ns opened.1,
)

unfailed_file : {A S : Type 0} (f : ImportFile A S) → IsFreshFile f → IsUnfailedFile f
unfailed_file (Closed s) fresh = tt
unfailed_file (Open r) fresh = ap (λ (s : Stand). fault_of s) fresh.0
unfailed_file Taken fresh = tt

pub begun_unfailed : {A S : Type 0} (sides : List (Side A S)) → AllByRecursion IsUnreadSide sides
    → AllUnfailed sides
begun_unfailed [] begun = tt
begun_unfailed (s ∷ ss) begun = (unfailed_file s.file begun.0.1, begun_unfailed ss begun.1)

-- as many as were begun
pub len_same : {A S : Type 0} (olds news : List (Side A S)) → begun_each news ≡ begun_each olds
    → length news ≡ length olds
len_same olds news same =
    sym (length-map news (λ s. begun_at s.file)) ∙ ap length same
    ∙ length-map olds (λ s. begun_at s.file)

-- ---- all datagrams of files

pub follows_entries : {A S K : Type 0} (gave : S → List ℕ) (ended : S → Type 0)
    (takes : K → Handed → K → Type 0) (source source' : Sides A S) (r r' : Run A)
    (old new : K) (took took' : List ℕ) (sides : List (Side A S)) → source.came ≡ []
    → source'.steering ≡ r.steering → source'.sides ≡ sides
    → FollowsSides takes source source' r r' old new took took' → HasGivenAll gave ended source'
    → FollowsEntries gave ended takes r r' old new took took' sides
follows_entries gave ended takes source source' r r' old new took took' sides none steering is follows
    given =
    let ds : datagrams_since source.came source'.came ≡ datagrams_in given.entries =
    ap (λ (l : List (Path × List ℕ)). datagrams_since l source'.came) none
    ∙ datagrams_from source'.came given.entries given.came_is in
    subst (λ (l : List (Side _ _)). FollowsEntries gave ended takes r r' old new took took' l) is
    (record {
      entries = given.entries;
      few =
          omega (
            arith,
            follows.few,
            ap (λ (l : List (List ℕ)). length l) ds,
            length-map given.entries (λ (e : Entry). e.octets),
          );
      goes = λ octets read.
          subst (λ (st : Steering). GoesWhole st (strands_of source'.sides octets) given.entries)
          steering (given.goes octets read);
      running = follows.running ∙ ap (behind_all r.is_eager (running_of r)) ds;
      told =
          subst (λ (l : List (List ℕ)).
          TellsEvents takes old new took took' (events_in r.is_eager (running_of r) l)) ds
          follows.told;
    })

-- ---- the end

-- what was noted is so, whatever the follower has in
abbrev noted : Running → Following → Running
noted r s = without r (frames_in r.follower) s

pub totals_same : (r : Running) (s : Following) → s.size ≡ r.follower.size
    → totals_text (noted r s) ≡ totals_text (ended r)
totals_same r s same =
    ap (λ (n : ℕ). totals_text (noted r (record s { size = n }))) same

pub ends_stream : {A K : Type 0} (takes : K → Handed → K → Type 0) (r r' : Run A) (old new : K)
    (took took' took'' : List ℕ) (totals : FollowTotals)
    → Finishes takes r r' old new took took' → took'' ≡ took' ++ totals_text (running_of r')
    → totals ≡ totals_of (running_of r') → EndsStream takes r old new took took'' totals
ends_stream takes r r' old new took took' took'' totals done printed are = record {
  printed = grew_twice took took' took'' (events_text (events_end (running_of r)))
      (totals_text (ended (running_of r))) done.told.printed
      (printed
      ∙ ap (λ (l : List ℕ). took' ++ l)
      (ap totals_text done.running ∙ totals_same (running_of r) r'.follower done.size));
  shown = done.told.shown;
  totals_are = are ∙ ap totals_of done.running;
}
