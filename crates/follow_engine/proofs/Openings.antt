-- Opening files, one after the other.
use Rattle.std.proofs.Common.{◌≡◌, ℕ, zero, suc, ◌+◌, ◌<◌, ◌≤◌, inl, inr, List, [], ◌∷◌, Option, refl}
use Rattle.std.proofs.Common.{sym, ap, subst, add-one, arith, get_or, length, set, Result}
use Rattle.std.specs.List.{zip}
use Rattle.flow.specs.declared.flows.Flows.{Flows}
use Rattle.capture_engines.specs.Files.{first_way, flows_in, other_ways, way_at}
use Rattle.capture_engines.specs.Received.{StopsFront}
use Rattle.recording_engines.specs.Files.{IsClosed, ended_by, gave_by}
use Rattle.run_outcome.specs.declared.refusal.Refusal.{Refusal}
use Rattle.st_format.specs.History.{IsRead}
use Rattle.side_by_side.specs.Side.{IsNewSide}
use Rattle.side_by_side.specs.declared.side.Side.{Side}
use Rattle.follow_engine.specs.Fronts.{StopsFirstFront}
use Rattle.follow_engine.specs.Opened.{AllClosedSides, AreOpened, IsFirstText, IsOpenedBy}
use Rattle.follow_engine.specs.Sides.{SideRead}
use Rattle.follow_engine.proofs.Fronts.{front_opened}

-- so many of the first files were opened, and the others are as they were
abbrev pub OpenedUpTo : {A S : Type 0} → (S → List ℕ) → (S → Type 0) → ℕ
    → List (Result Flows Refusal) → List (Side A S) → List (Side A S) → Type 0
OpenedUpTo gave ended zero ways olds news = news ≡ olds
OpenedUpTo gave ended (suc k) ways (o ∷ os) (n ∷ ns) =
    IsOpenedBy gave ended (flows_in (first_way ways)) (gave_by gave o.file) n
    × OpenedUpTo gave ended k (other_ways ways) os ns
OpenedUpTo gave ended (suc k) ways olds news = ⊥

-- the next one is as it was
pub next_same : {A S : Type 0} (gave : S → List ℕ) (ended : S → Type 0) (k : ℕ)
    (ways : List (Result Flows Refusal)) (olds news : List (Side A S)) (d : Side A S)
    → OpenedUpTo gave ended k ways olds news → get_or news k d ≡ get_or olds k d
next_same gave ended zero ways olds news d had = ap (λ (l : List (Side _ _)). get_or l 0 d) had
next_same gave ended (suc k) ways [] news d had = absurd had
next_same gave ended (suc k) ways (o ∷ os) [] d had = absurd had
next_same gave ended (suc k) ways (o ∷ os) (n ∷ ns) d had =
    next_same gave ended k (other_ways ways) os ns d had.1

closed_there : {A S : Type 0} (olds : List (Side A S)) (k : ℕ) (d : Side A S)
    → AllClosedSides olds → k < length olds → IsClosed (get_or olds k d).file
closed_there [] k d closed lt = absurd (omega (arith, lt))
closed_there (o ∷ os) zero d closed lt = closed.0
closed_there (o ∷ os) (suc k) d closed lt = closed_there os k d closed.1 (omega (arith, lt))

pub next_closed : {A S : Type 0} (gave : S → List ℕ) (ended : S → Type 0) (k : ℕ)
    (ways : List (Result Flows Refusal)) (olds news : List (Side A S)) (d : Side A S)
    → OpenedUpTo gave ended k ways olds news → AllClosedSides olds → k < length olds
    → IsClosed (get_or news k d).file
next_closed gave ended k ways olds news d had closed lt =
    subst (λ (s : Side _ _). IsClosed s.file) (sym (next_same gave ended k ways olds news d had))
    (closed_there olds k d closed lt)

-- one more
opened_suc : {A S : Type 0} (gave : S → List ℕ) (ended : S → Type 0) (k : ℕ)
    (ways : List (Result Flows Refusal)) (olds news : List (Side A S)) (d y : Side A S)
    → OpenedUpTo gave ended k ways olds news → k < length olds
    → IsOpenedBy gave ended (flows_in (way_at ways k)) (gave_by gave (get_or news k d).file) y
    → OpenedUpTo gave ended (suc k) ways olds (set news k y)
opened_suc gave ended k ways [] news d y had lt is = absurd (omega (arith, lt))
opened_suc gave ended zero ways (o ∷ os) news d y had lt is =
    subst (λ (l : List (Side _ _)). OpenedUpTo gave ended 1 ways (o ∷ os) (set l 0 y)) (sym had) (
      subst (λ (l : List (Side _ _)).
          IsOpenedBy gave ended (flows_in (first_way ways)) (gave_by gave (get_or l 0 d).file) y) had is,
      refl,
    )
opened_suc gave ended (suc k) ways (o ∷ os) [] d y had lt is = absurd had
opened_suc gave ended (suc k) ways (o ∷ os) (n ∷ ns) d y had lt is =
    (had.0, opened_suc gave ended k (other_ways ways) os ns d y had.1 (omega (arith, lt)) is)

pub opened_more : {A S : Type 0} (gave : S → List ℕ) (ended : S → Type 0) (k : ℕ)
    (ways : List (Result Flows Refusal)) (olds news : List (Side A S)) (d y : Side A S)
    → OpenedUpTo gave ended k ways olds news → k < length olds
    → IsOpenedBy gave ended (flows_in (way_at ways k)) (gave_by gave (get_or news k d).file) y
    → OpenedUpTo gave ended (k + 1) ways olds (set news k y)
opened_more gave ended k ways olds news d y had lt is =
    subst (λ (n : ℕ). OpenedUpTo gave ended n ways olds (set news k y)) (sym (add-one k))
    (opened_suc gave ended k ways olds news d y had lt is)

pub opened_all : {A S : Type 0} (gave : S → List ℕ) (ended : S → Type 0) (n : ℕ)
    (ways : List (Result Flows Refusal)) (olds news : List (Side A S))
    → OpenedUpTo gave ended n ways olds news → length olds ≤ n
    → AreOpened gave ended ways olds news
opened_all gave ended zero ways [] news had le =
    subst (λ (l : List (Side _ _)). AreOpened gave ended ways [] l) (sym had) tt
opened_all gave ended zero ways (o ∷ os) news had le = absurd (omega (arith, le))
opened_all gave ended (suc n) ways [] news had le = absurd had
opened_all gave ended (suc n) ways (o ∷ os) [] had le = absurd had
opened_all gave ended (suc n) ways (o ∷ os) (x ∷ xs) had le =
    (had.0, opened_all gave ended n (other_ways ways) os xs had.1 (omega (arith, le)))

-- the first is opened, and the text of it stays where another is
pub first_set : {A S : Type 0} (text : List ℕ) (flows : Option Flows) (before : List ℕ)
    (sides : List (Side A S)) (y : Side A S) → 0 < length sides → IsNewSide flows before text y
    → IsFirstText text (set sides 0 y)
first_set text flows before [] y some is = absurd (omega (arith, some))
first_set text flows before (s ∷ ss) y some is = (flows, before, is)

pub first_stays : {A S : Type 0} (text : List ℕ) (k : ℕ) (sides : List (Side A S)) (y : Side A S)
    → 0 < k → IsFirstText text sides → IsFirstText text (set sides k y)
first_stays text zero sides y some is = absurd (omega (arith, some))
first_stays text (suc k) [] y some is = is
first_stays text (suc k) (s ∷ ss) y some is = is

-- one is stopped at its front, and those before it were opened
pub stops_next : {A S : Type 0} (gave : S → List ℕ) (ended : S → Type 0) (k : ℕ)
    (ways : List (Result Flows Refusal)) (olds news : List (Side A S)) (d y : Side A S)
    (r : Refusal) → OpenedUpTo gave ended k ways olds news → k < length olds
    → StopsFront (way_at ways k) (IsRead (gave_by gave (get_or news k d).file)
    (gave_by gave y.file) (ended_by ended y.file)) r
    → StopsFirstFront ways (SideRead gave ended) (zip olds (set news k y)) r
stops_next gave ended k ways [] news d y r had lt is = absurd (omega (arith, lt))
stops_next gave ended zero ways (o ∷ os) news d y r had lt is =
    subst (λ (l : List (Side _ _)).
    StopsFirstFront ways (SideRead gave ended) (zip (o ∷ os) (set l 0 y)) r) (sym had)
    (inl (subst (λ (l : List (Side _ _)). StopsFront (first_way ways)
    (IsRead (gave_by gave (get_or l 0 d).file) (gave_by gave y.file) (ended_by ended y.file)) r) had
    is))
stops_next gave ended (suc k) ways (o ∷ os) [] d y r had lt is = absurd had
stops_next gave ended (suc k) ways (o ∷ os) (n ∷ ns) d y r had lt is =
    inr (
      front_opened gave ended (first_way ways) (gave_by gave o.file) n had.0,
      stops_next gave ended k (other_ways ways) os ns d y r had.1 (omega (arith, lt)) is,
    )
