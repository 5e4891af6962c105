-- What a stream is opened with (own).
use Rattle.std.specs.Prelude.{◌≡◌, ℕ, ⊤, List, [], ◌∷◌, Option, Result}
use Rattle.std.specs.List.{AllByRecursion}
use Rattle.flow.specs.declared.flows.Flows.{Flows}
use Rattle.capture_engines.specs.Files.{first_way, flows_in, other_ways}
use Rattle.capture_engines.specs.Taking.{AnnouncesStream}
use Rattle.following.specs.Follower.{opened}
use Rattle.path_receiver.specs.Opening.{Opening}
use Rattle.recording_engines.specs.Files.{HasKnownOctets, IsClosed, IsReadByFlows, gave_by}
use Rattle.run_outcome.specs.declared.refusal.Refusal.{Refusal}
use Rattle.side_by_side.specs.Side.{IsNewSide}
use Rattle.side_by_side.specs.declared.side.Side.{Side}
use Rattle.follow_engine.specs.Events.{Running, running_from}

-- A stream of which nothing came, by what an SDP text says, of so many frames, and of a source
-- where one is pinned. A new timestamp may be ten seconds ahead, in ticks of the 90 kHz clock.
pub record OpensRun (size : ℕ) (ssrc : Option ℕ) (text : List ℕ) (r : Running) : Type 0 where
  pub opening : Opening
  pub no_window : opening.window ≡ []
  pub source : opening.ssrc ≡ ssrc
  pub announced : AnnouncesStream text opening
  pub is : r ≡ running_from (opened opening size 900000)

-- ---- files

-- no file is opened yet
abbrev pub AllClosedSides : {A S : Type 0} → List (Side A S) → Type 0
AllClosedSides sides = AllByRecursion (λ s. IsClosed s.file) sides

-- One was opened by these flows, where its source had given these octets, and has this text; what
-- is known of its octets; and that there are flows where it is a recording.
pub record IsOpenedBy {A S : Type 0} (gave : S → List ℕ) (ended : S → Type 0)
    (flows : Option Flows) (before : List ℕ) (s : Side A S) : Type 0 where
  pub text : List ℕ
  pub is : IsNewSide flows before text s
  pub known : HasKnownOctets gave ended s.file
  pub by_flows : IsReadByFlows s.file

-- each was opened as it is taken, and nothing was read behind its text
abbrev pub AreOpened : {A S : Type 0} → (S → List ℕ) → (S → Type 0)
    → List (Result Flows Refusal) → List (Side A S) → List (Side A S) → Type 0
AreOpened gave ended ways [] [] = ⊤
AreOpened gave ended ways [] (n ∷ ns) = ⊥
AreOpened gave ended ways (o ∷ os) [] = ⊥
AreOpened gave ended ways (o ∷ os) (n ∷ ns) =
    IsOpenedBy gave ended (flows_in (first_way ways)) (gave_by gave o.file) n
    × AreOpened gave ended (other_ways ways) os ns

-- this is the text of the first file; where there is none, it is empty
abbrev pub IsFirstText : {A S : Type 0} → List ℕ → List (Side A S) → Type 0
IsFirstText text [] = text ≡ []
IsFirstText text (s ∷ ss) =
    (flows : Option Flows) × (before : List ℕ) × IsNewSide flows before text s
