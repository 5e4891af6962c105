-- What became of a stream that was followed to its end.
use Rattle.std.proofs.Common.{◌≡◌, ℕ, Bool, List, [], ◌∷◌, ◌++◌, Option, None, Some, Result, sym}
use Rattle.std.proofs.Common.{ap, subst, ◌∙◌, append_assoc}
use Rattle.std.proofs.lemmas.Grind.{flat_map-append}
use Rattle.std.proofs.lemmas.List.Elements.{filter_map-append}
use Rattle.std.specs.List.{AllByRecursion, AllZip, zip}
use Rattle.flow.specs.declared.flows.Flows.{Flows}
use Rattle.capture_engines.specs.Taking.{AnnouncesStream, said_behind}
use Rattle.following.specs.Follower.{opened}
use Rattle.following.specs.Following.{Handed}
use Rattle.media_file.specs.Records.{Entry}
use Rattle.path_receiver.specs.Opening.{IsWindowSize, Opening}
use Rattle.recording_engines.proofs.Same.{no_less, no_more, same_head}
use Rattle.recording_engines.specs.Files.{HasKnownOctets, IsReadByFlows}
use Rattle.recording_engines.specs.Joining.{Strand}
use Rattle.recording_reader.specs.Files.{text_of_file}
use Rattle.run_outcome.specs.Sources.{IsSourceText}
use Rattle.run_outcome.specs.declared.refusal.Refusal.{Refusal}
use Rattle.side_by_side.specs.Side.{begun_at}
use Rattle.side_by_side.specs.Sides.{begun_each, strands_of}
use Rattle.side_by_side.specs.Strands.{GoesWhole}
use Rattle.side_by_side.specs.declared.side.Side.{Side}
use Rattle.side_by_side.specs.declared.steering.Steering.{Steering}
use Rattle.follow_engine.specs.Events.{Event, Running, behind_all, ended, events_end, events_in}
use Rattle.follow_engine.specs.Events.{events_of, frame_of_event, frames_of_events, run_end}
use Rattle.follow_engine.specs.Events.{running_from}
use Rattle.follow_engine.specs.Followed.{FollowsWhole}
use Rattle.follow_engine.specs.Opened.{AreOpened, IsFirstText}
use Rattle.follow_engine.specs.Order.{datagrams_in, strands_by}
use Rattle.follow_engine.specs.Running.{TellsEvents, running_of, steering_of}
use Rattle.follow_engine.specs.Shown.{TakesEachFrame}
use Rattle.follow_engine.specs.Sides.{EndsStream, FollowsEntries, HasBegunRun, SideRead, text_by}
use Rattle.follow_engine.specs.Telling.{event_text, events_text, totals_of, totals_text}
use Rattle.follow_engine.specs.declared.opening.FollowAsked.{FollowAsked}
use Rattle.follow_engine.specs.declared.running.Run.{Run}
use Rattle.follow_engine.specs.declared.telling.FollowTotals.{FollowTotals}
use Rattle.follow_engine.proofs.Tells.{takes_both}
use Rattle.follow_engine.proofs.Whole.{all_taken, first_said, taken_by}

-- ---- the end

-- What was told of a stream that was followed to its end.
pub record Outcome {K : Type 0} (takes : K → Handed → K → Type 0) (eager : Bool) (r : Running)
    (ds : List (List ℕ)) (old new : K) (took took' : List ℕ) (totals : FollowTotals) : Type 0 where
  pub printed : took' ≡ took ++ (events_text (events_of eager r ds)
      ++ totals_text (run_end eager r ds))
  pub shown : TakesEachFrame takes old (frames_of_events (events_of eager r ds)) new
  pub totals_are : totals ≡ totals_of (run_end eager r ds)

-- the texts of what happened, of what left at the end, and of the totals
texts_joined : (took took' took'' a b c : List ℕ) → took' ≡ took ++ a → took'' ≡ took' ++ (b ++ c)
    → took'' ≡ took ++ ((a ++ b) ++ c)
texts_joined took took' took'' a b c first last =
    last ∙ ap (λ (l : List ℕ). l ++ (b ++ c)) first ∙ append_assoc took a (b ++ c)
    ∙ ap (λ (l : List ℕ). took ++ l) (sym (append_assoc a b c))

outcome_at : {K : Type 0} (takes : K → Handed → K → Type 0) (eager : Bool) (r : Running)
    (ds : List (List ℕ)) (old mid new : K) (took took' took'' : List ℕ) (totals : FollowTotals)
    → TellsEvents takes old mid took took' (events_in eager r ds)
    → took'' ≡ took' ++ (events_text (events_end (behind_all eager r ds))
    ++ totals_text (ended (behind_all eager r ds)))
    → TakesEachFrame takes mid (frames_of_events (events_end (behind_all eager r ds))) new
    → totals ≡ totals_of (ended (behind_all eager r ds))
    → Outcome takes eager r ds old new took took'' totals
outcome_at takes eager r ds old mid new took took' took'' totals told printed shown are =
    let es : List Event = events_in eager r ds in
    let fs : List Event = events_end (behind_all eager r ds) in
    let last : List ℕ = totals_text (ended (behind_all eager r ds)) in
    record {
      printed =
          texts_joined took took' took'' (events_text es) (events_text fs) last told.printed printed
          ∙ ap (λ (l : List ℕ). took ++ (l ++ last)) (sym (flat_map-append event_text es fs));
      shown =
          subst (λ (hs : List Handed). TakesEachFrame takes old hs new)
          (sym (filter_map-append frame_of_event es fs))
          (takes_both takes old mid new (frames_of_events es) (frames_of_events fs) told.shown shown);
      totals_are = are;
    }

-- what is at the end is behind all datagrams
outcome_by : {A K : Type 0} (takes : K → Handed → K → Type 0) (eager : Bool) (r : Running)
    (ds : List (List ℕ)) (t : Run A) (old mid new : K) (took took' took'' : List ℕ)
    (totals : FollowTotals) → running_of t ≡ behind_all eager r ds
    → TellsEvents takes old mid took took' (events_in eager r ds)
    → EndsStream takes t mid new took' took'' totals
    → Outcome takes eager r ds old new took took'' totals
outcome_by takes eager r ds t old mid new took took' took'' totals is told ends =
    outcome_at takes eager r ds old mid new took took' took'' totals told
    (subst (λ (x : Running). took'' ≡ took' ++ (events_text (events_end x) ++ totals_text (ended x))) is
    ends.printed)
    (subst (λ (x : Running). TakesEachFrame takes mid (frames_of_events (events_end x)) new) is
    ends.shown)
    (subst (λ (x : Running). totals ≡ totals_of (ended x)) is ends.totals_are)

-- ---- the text

-- the text by which the stream was begun is the one that is given, or that of the first file
pub said_text : {A S : Type 0} (gave : S → List ℕ) (ended : S → Type 0)
    (ways : List (Result Flows Refusal)) (sdp : Option (List ℕ)) (first : List ℕ)
    (olds mids news : List (Side A S)) (octets : List (List ℕ)) (text : List ℕ)
    → AreOpened gave ended ways olds mids → IsFirstText first mids
    → begun_each news ≡ begun_each mids
    → AllByRecursion (λ x. HasKnownOctets gave ended x.file) news
    → AllZip (SideRead gave ended) (zip olds news) octets → said_behind sdp octets ≡ Some text
    → text_by sdp first ≡ text
said_text gave ended ways (Some t) first olds mids news octets text opened is same known read said =
    let one : Some t ≡ Some text = said in cc
said_text gave ended ways None first olds mids news [] text opened is same known read said =
    absurd cc
said_text gave ended ways None first [] [] [] (o ∷ os) text opened is same known read said =
    absurd read
said_text gave ended ways None first [] [] (n ∷ ns) (o ∷ os) text opened is same known read said =
    absurd (no_more (begun_at n.file) (begun_each ns) same)
said_text gave ended ways None first [] (m ∷ ms) news (o ∷ os) text opened is same known read said =
    absurd opened
said_text gave ended ways None first (x ∷ xs) [] news (o ∷ os) text opened is same known read said =
    absurd opened
said_text gave ended ways None first (x ∷ xs) (m ∷ ms) [] (o ∷ os) text opened is same known read
    said =
    absurd (no_less (begun_at m.file) (begun_each ms) same)
said_text gave ended ways None first (x ∷ xs) (m ∷ ms) (n ∷ ns) (o ∷ os) text opened is same known
    read said =
    let head = same_head (begun_at n.file) (begun_at m.file) (begun_each ns) (begun_each ms) same in
    let one : Some (text_of_file o) ≡ Some text = said in
    let text_is : text_of_file o ≡ text = cc in
    sym (first_said gave ended ways first o x m n xs ms ns opened head is known.0 read.0) ∙ text_is

-- a text was given, or there is a file
no_text : {A S : Type 0} (gave : S → List ℕ) (ended : S → Type 0)
    (ways : List (Result Flows Refusal)) (first : List ℕ) (olds mids news : List (Side A S))
    → AreOpened gave ended ways olds mids → IsFirstText first mids
    → begun_each news ≡ begun_each mids → zip olds news ≡ [] → first ≡ []
no_text gave ended ways first [] [] news opened is same none = is
no_text gave ended ways first [] (m ∷ ms) news opened is same none = absurd opened
no_text gave ended ways first (x ∷ xs) [] news opened is same none = absurd opened
no_text gave ended ways first (x ∷ xs) (m ∷ ms) [] opened is same none =
    absurd (no_less (begun_at m.file) (begun_each ms) same)
no_text gave ended ways first (x ∷ xs) (m ∷ ms) (n ∷ ns) opened is same none = absurd cc

nothing_said : (o : Opening) (text : List ℕ) → text ≡ [] → AnnouncesStream text o → ⊥
nothing_said o text none says =
    let announced : AnnouncesStream [] o =
    subst (λ (t : List ℕ). AnnouncesStream t o) none says in
    absurd announced.described

text_there : (o : Opening) (sdp : Option (List ℕ)) (first : List ℕ) → sdp ≡ None → first ≡ []
    → AnnouncesStream (text_by sdp first) o → ⊥
text_there o sdp first none empty says =
    nothing_said o (text_by sdp first)
    (ap (λ (x : Option (List ℕ)). text_by x first) none ∙ empty) says

-- ---- the run

whole_goes : (st st' : Steering) (ss ss' : List Strand) (es : List Entry) → st ≡ st' → ss ≡ ss'
    → GoesWhole st ss es → GoesWhole st' ss' es
whole_goes st st' ss ss' es steering strands goes =
    subst (λ (s : Steering). GoesWhole s ss' es) steering
    (subst (λ (l : List Strand). GoesWhole st l es) strands goes)

pub follows_whole : {A S K : Type 0} (gave : S → List ℕ) (ended : S → Type 0)
    (takes : K → Handed → K → Type 0) (w : FollowAsked) (ssrc : Option ℕ)
    (sdp : Option (List ℕ)) (ways : List (Result Flows Refusal)) (first : List ℕ)
    (olds mids news : List (Side A S)) (r t : Run A) (old mid new : K)
    (took took' took'' : List ℕ) (totals : FollowTotals) → IsSourceText w.ssrc.now ssrc
    → HasBegunRun w ssrc (text_by sdp first) r → AreOpened gave ended ways olds mids
    → IsFirstText first mids → begun_each news ≡ begun_each mids
    → AllByRecursion (λ x. HasKnownOctets gave ended x.file) news → IsWindowSize w.frames
    → AllByRecursion (λ x. IsReadByFlows x.file) news
    → FollowsEntries gave ended takes r t old mid took took' news
    → EndsStream takes t mid new took' took'' totals
    → FollowsWhole w sdp ways (SideRead gave ended) (zip olds news) takes old new took took'' totals
follows_whole gave ended takes w ssrc sdp ways first olds mids news r t old mid new took took' took''
    totals source begun opened_so is same known size kind follows ends =
    let o = begun.opens.opening in
    let ds : List (List ℕ) = datagrams_in follows.entries in
    let from : Running = running_from (opened o w.frames 900000) in
    let at : Outcome takes r.is_eager (running_of r) ds old new took took'' totals =
    outcome_by takes r.is_eager (running_of r) ds t old mid new took took' took'' totals
    follows.running follows.told ends in
    let by : Outcome takes w.is_eager from ds old new took took'' totals =
    subst (λ (x : Running). Outcome takes w.is_eager x ds old new took took'' totals) begun.opens.is
    (subst (λ (x : Bool). Outcome takes x (running_of r) ds old new took took'' totals) begun.eager
    at) in
    record {
      opening = o;
      entries = follows.entries;
      size = size;
      no_window = begun.opens.no_window;
      source_is = subst (λ (x : Option ℕ). IsSourceText w.ssrc.now x) (sym begun.opens.source)
          source;
      announced = λ octets text read said.
          subst (λ (x : List ℕ). AnnouncesStream x o)
          (said_text gave ended ways sdp first olds mids news octets text opened_so is same known
          read said) begun.opens.announced;
      goes = λ octets read.
          let taken = all_taken gave ended ways olds mids news octets opened_so same read in
          whole_goes r.steering (steering_of o) (strands_of news octets) (strands_by ways octets)
          follows.entries
          (begun.run.steering
          ∙ ap (λ (x : Running). steering_of x.follower.opening) begun.opens.is) taken.strands
          (follows.goes octets taken.given);
      has_text = λ none empty.
          text_there o sdp first none
          (no_text gave ended ways first olds mids news opened_so is same empty)
          begun.opens.announced;
      by_flows = λ octets read.
          taken_by gave ended ways olds mids news octets opened_so same known kind read;
      few = follows.few;
      printed = by.printed;
      shown = by.shown;
      told_totals = by.totals_are;
    }
