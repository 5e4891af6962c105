-- The fronts of files that were opened, and the text by which a stream is begun.
use Rattle.std.proofs.Common.{◌≡◌, ◌∙◌, ℕ, Bool, true, false, inl, inr, List, [], ◌∷◌, Option, None}
use Rattle.std.proofs.Common.{Some, Result, refl, sym, ap, subst}
use Rattle.std.specs.List.{AllByRecursion, zip}
use Rattle.std.specs.Prelude.{IsSome, MatchOption, ⊤}
use Rattle.flow.specs.declared.flows.Flows.{Flows}
use Rattle.capture_engines.specs.Files.{HasFileText, first_way, flows_in, other_ways}
use Rattle.capture_engines.specs.Taking.{AnnouncesStream}
use Rattle.capture_engines.specs.declared.way.Way.{Way}
use Rattle.path_receiver.specs.Opening.{IsWindowSize}
use Rattle.recording_engines.proofs.Same.{no_less, no_more, same_head, same_tail}
use Rattle.recording_engines.specs.Files.{HasKnownOctets, IsReadByFlows, ended_by, gave_by}
use Rattle.recording_engines.specs.declared.file.ImportFile.{ImportFile}
use Rattle.recording_engines.specs.declared.file.ImportFile.TheVariants.{Closed, Open, Taken}
use Rattle.recording_reader.specs.Files.{HasFrontBy}
use Rattle.recording_reader.specs.Kinds.{is_recording}
use Rattle.run_outcome.specs.Sources.{IsSourceText}
use Rattle.run_outcome.specs.TextRefusals.{IsSdp}
use Rattle.run_outcome.specs.declared.refusal.Refusal.{Refusal}
use Rattle.st_format.specs.History.{IsRead}
use Rattle.side_by_side.specs.Side.{Begun, begun_at}
use Rattle.side_by_side.specs.Sides.{begun_each}
use Rattle.side_by_side.specs.declared.side.Side.{Side}
use Rattle.follow_engine.specs.Fronts.{HasSoundFront, HaveSoundFronts}
use Rattle.follow_engine.specs.Opened.{AreOpened, IsFirstText, IsOpenedBy}
use Rattle.follow_engine.specs.Refused.{AskForFrames, FirstDescribes}
use Rattle.follow_engine.specs.Sides.{HasBegunIn, HasBegunRun, SideRead, text_by}
use Rattle.follow_engine.specs.declared.opening.FollowAsked.{FollowAsked}
use Rattle.follow_engine.specs.declared.running.Run.{Run}
use Rattle.follow_engine.proofs.Whole.{begun_by, first_said}

-- ---- the words

pub ask_for : (frames : ℕ) (source : List ℕ) (ssrc : Option ℕ) → IsWindowSize frames
    → IsSourceText source ssrc → AskForFrames frames source
ask_for frames source ssrc size is = (size, (ssrc, is))

-- ---- one front

has_text : (w : Way) (octets : List ℕ) (kind : Bool) → is_recording octets ≡ kind
    → HasFrontBy kind octets → (kind ≡ true → IsSome (flows_in w))
    → (text : List ℕ) × HasFileText w octets text
has_text w octets true is front by = ([], inl (is, by refl, refl, front))
has_text w octets false is front by = (front.0.0, inr (front.0.1, is, front.1))

front_file : {A S : Type 0} (gave : S → List ℕ) (ended : S → Type 0) (w : Way) (b : Begun)
    (octets : List ℕ) (f : ImportFile A S) → begun_at f ≡ Some b → b.flows ≡ flows_in w
    → HasKnownOctets gave ended f → IsReadByFlows f
    → IsRead b.before (gave_by gave f) (ended_by ended f) octets
    → (text : List ℕ) × HasFileText w octets text
front_file gave ended w b octets (Closed s) begun by known kind read = absurd cc
front_file gave ended w b octets (Open r) begun by known kind read =
    let same : begun_by r.flows r.before.gave r.text ≡ b = cc in
    let from =
    subst (λ (before : List ℕ). IsRead before (gave r.source) (ended r.source) octets)
    (sym (ap (λ (x : Begun). x.before) same)) read in
    let is = known octets from in
    has_text w octets r.is_recording is.kind is.front
    (λ recording.
    subst (λ (x : Option Flows). IsSome x) (ap (λ (x : Begun). x.flows) same ∙ by)
    (kind recording))
front_file gave ended w b octets Taken begun by known kind read = absurd cc

pub front_opened : {A S : Type 0} (gave : S → List ℕ) (ended : S → Type 0) (w : Way)
    (before : List ℕ) (s : Side A S) → IsOpenedBy gave ended (flows_in w) before s
    → HasSoundFront w (IsRead before (gave_by gave s.file) (ended_by ended s.file))
front_opened gave ended w before s is = λ octets read.
    front_file gave ended w (begun_by (flows_in w) before is.text) octets s.file is.is.begun refl
    is.known is.by_flows read

-- ---- all fronts

-- of files that were opened
pub opened_fronts : {A S : Type 0} (gave : S → List ℕ) (ended : S → Type 0)
    (ways : List (Result Flows Refusal)) (olds news : List (Side A S))
    → AreOpened gave ended ways olds news
    → HaveSoundFronts ways (SideRead gave ended) (zip olds news)
opened_fronts gave ended ways [] [] opened = tt
opened_fronts gave ended ways [] (n ∷ ns) opened = absurd opened
opened_fronts gave ended ways (o ∷ os) [] opened = absurd opened
opened_fronts gave ended ways (o ∷ os) (n ∷ ns) opened = (
  front_opened gave ended (first_way ways) (gave_by gave o.file) n opened.0,
  opened_fronts gave ended (other_ways ways) os ns opened.1,
)

-- and read on
pub sound_fronts : {A S : Type 0} (gave : S → List ℕ) (ended : S → Type 0)
    (ways : List (Result Flows Refusal)) (olds mids news : List (Side A S))
    → AreOpened gave ended ways olds mids → begun_each news ≡ begun_each mids
    → AllByRecursion (λ x. HasKnownOctets gave ended x.file) news
    → AllByRecursion (λ x. IsReadByFlows x.file) news
    → HaveSoundFronts ways (SideRead gave ended) (zip olds news)
sound_fronts gave ended ways [] [] [] opened same known kind = tt
sound_fronts gave ended ways [] [] (n ∷ ns) opened same known kind =
    absurd (no_more (begun_at n.file) (begun_each ns) same)
sound_fronts gave ended ways [] (m ∷ ms) news opened same known kind = absurd opened
sound_fronts gave ended ways (x ∷ xs) [] news opened same known kind = absurd opened
sound_fronts gave ended ways (x ∷ xs) (m ∷ ms) [] opened same known kind =
    absurd (no_less (begun_at m.file) (begun_each ms) same)
sound_fronts gave ended ways (x ∷ xs) (m ∷ ms) (n ∷ ns) opened same known kind =
    let head = same_head (begun_at n.file) (begun_at m.file) (begun_each ns) (begun_each ms) same in
    let tail = same_tail (begun_at n.file) (begun_at m.file) (begun_each ns) (begun_each ms) same in
    let b : Begun = begun_by (flows_in (first_way ways)) (gave_by gave x.file) opened.0.text in (
      λ octets read.
          front_file gave ended (first_way ways) b octets n.file (head ∙ opened.0.is.begun) refl
          known.0 kind.0 read,
      sound_fronts gave ended (other_ways ways) xs ms ns opened.1 tail known.1 kind.1,
    )

-- ---- the text by which a stream is begun

pub given_describes : {A : Type 0} (w : FollowAsked) (ssrc : Option ℕ) (sdp : Option (List ℕ))
    (r : Option (Run A)) → HasBegunIn w ssrc sdp r → MatchOption sdp ⊤ (λ text. IsSdp text)
given_describes w ssrc None r begun = tt
given_describes w ssrc (Some text) None begun = absurd begun
given_describes w ssrc (Some text) (Some r) begun =
    (begun.opens.announced.description, begun.opens.announced.described)

-- an empty text begins none
begins_none : {A : Type 0} (w : FollowAsked) (ssrc : Option ℕ) (text : List ℕ) (r : Run A)
    → text ≡ [] → HasBegunRun w ssrc text r → ⊥
begins_none w ssrc text r none begun =
    let announced : AnnouncesStream [] begun.opens.opening =
    subst (λ (t : List ℕ). AnnouncesStream t begun.opens.opening) none begun.opens.announced in
    absurd announced.described

-- that of the first file, where none is given
pub first_describes : {A S : Type 0} (gave : S → List ℕ) (ended : S → Type 0)
    (ways : List (Result Flows Refusal)) (w : FollowAsked) (ssrc : Option ℕ)
    (sdp : Option (List ℕ)) (text : List ℕ) (olds mids news : List (Side A S)) (r : Run A)
    → AreOpened gave ended ways olds mids → IsFirstText text mids
    → begun_each news ≡ begun_each mids
    → AllByRecursion (λ x. HasKnownOctets gave ended x.file) news
    → HasBegunRun w ssrc (text_by sdp text) r
    → MatchOption sdp (FirstDescribes (SideRead gave ended) (zip olds news)) (λ _. ⊤)
first_describes gave ended ways w ssrc (Some t) text olds mids news r opened is same known begun =
    tt
first_describes gave ended ways w ssrc None text [] [] news r opened is same known begun =
    absurd (begins_none w ssrc text r is begun)
first_describes gave ended ways w ssrc None text [] (m ∷ ms) news r opened is same known begun =
    absurd opened
first_describes gave ended ways w ssrc None text (x ∷ xs) [] news r opened is same known begun =
    absurd opened
first_describes gave ended ways w ssrc None text (x ∷ xs) (m ∷ ms) [] r opened is same known begun =
    absurd (no_less (begun_at m.file) (begun_each ms) same)
first_describes gave ended ways w ssrc None text (x ∷ xs) (m ∷ ms) (n ∷ ns) r opened is same known
    begun =
    let head = same_head (begun_at n.file) (begun_at m.file) (begun_each ns) (begun_each ms) same in
    λ octets read.
    subst (λ (t : List ℕ). IsSdp t)
    (sym (first_said gave ended ways text octets x m n xs ms ns opened head is known.0 read))
    (begun.opens.announced.description, begun.opens.announced.described)
