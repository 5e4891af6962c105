-- What a turn notes of a stream.
use Rattle.std.proofs.Common.{◌≡◌, ℕ, List, [], ◌++◌, Option, None, Some, Result, refl, ap, subst, ◌∙◌}
use Rattle.path_receiver.specs.declared.answer.Refusal.{Refusal}
use Rattle.following.specs.Follower.{Following}
use Rattle.following.specs.Need.{Noted, noted_after}
use Rattle.following.specs.Restarts.{since_behind}
use Rattle.following.specs.Tally.{tally_after}
use Rattle.following.specs.declared.answer.Followed.{Followed}
use Rattle.following.specs.declared.tally.FollowTally.{FollowTally}
use Rattle.st_format.specs.Device.{GrowsPart}
use Rattle.follow_engine.specs.Events.{IsAnewAt, Running, anew_with, late_with, no_answers, noted_by}
use Rattle.follow_engine.specs.Events.{running_from, timed}
use Rattle.follow_engine.specs.Line.{ended_in}
use Rattle.follow_engine.specs.Telling.{wanted}
use Rattle.follow_engine.specs.declared.line.FollowLine.{FollowLine}

abbrev with_answer : Running → FollowTally → ℕ → Running
with_answer r tally late = record r { tally = tally; late = late }

-- where a datagram has no timestamp
pub noted_none : (r : Running) (bound : ℕ) (time : Option ℕ) (answer : Result Followed Refusal)
    (tally : FollowTally) (late : ℕ) → tally ≡ tally_after r.tally answer
    → late ≡ late_with r.late answer → None ≡ time
    → with_answer r tally late ≡ noted_by bound r time answer
noted_none r bound time answer tally late tallied lates none =
    ap (λ (t : FollowTally). with_answer r t late) tallied
    ∙ ap (λ (n : ℕ). with_answer r (tally_after r.tally answer) n) lates
    ∙ ap (λ (o : Option ℕ). noted_by bound r o answer) none

-- and where it has one
pub noted_some : (r r' : Running) (bound ts : ℕ) (time : Option ℕ)
    (answer : Result Followed Refusal) (tally : FollowTally) (late : ℕ)
    → tally ≡ tally_after r.tally answer → late ≡ late_with r.late answer → Some ts ≡ time
    → r' ≡ timed bound (with_answer r tally late) ts answer → r' ≡ noted_by bound r time answer
noted_some r r' bound ts time answer tally late tallied lates some is =
    is ∙ ap (λ (t : FollowTally). timed bound (with_answer r t late) ts answer) tallied
    ∙ ap (λ (n : ℕ). timed bound (with_answer r (tally_after r.tally answer) n) ts answer) lates
    ∙ ap (λ (o : Option ℕ). noted_by bound r o answer) some

abbrev with_time : Running → Noted → Option ℕ → Running
with_time r need since = record r { need = need; since = since }

pub noted_time : (r : Running) (bound ts : ℕ) (answer : Result Followed Refusal) (need : Noted)
    (since : Option ℕ) → need ≡ noted_after r.need ts answer
    → since ≡ since_behind bound r.since ts answer
    → with_time r need since ≡ timed bound r ts answer
noted_time r bound ts answer need since needs lost =
    ap (λ (n : Noted). with_time r n since) needs
    ∙ ap (λ (o : Option ℕ). with_time r (noted_after r.need ts answer) o) lost

-- that a stream isn't followed anew is told of one without a timestamp
pub none_told : (bound : ℕ) (since time : Option ℕ) (answer : Result Followed Refusal)
    → None ≡ time → IsAnewAt (anew_with bound since time answer) time None
none_told bound since time answer none =
    subst (λ (o : Option ℕ). IsAnewAt (anew_with bound since o answer) o None) none refl

-- ---- a stream of which nothing came

abbrev begun : Following → Noted → Option ℕ → Running
begun f need since = record {
  follower = f;
  tally = no_answers;
  need = need;
  since = since;
  frames = 0;
  late = 0;
}

pub running_begun : (f g : Following) (need : Noted) (since : Option ℕ) → f ≡ g
    → need ≡ record { newest = []; need = 0 } → since ≡ None
    → begun f need since ≡ running_from g
running_begun f g need since is needs lost =
    ap (λ (x : Following). begun x need since) is
    ∙ ap (λ (n : Noted). begun g n since) needs
    ∙ ap (λ (o : Option ℕ). begun g (record { newest = []; need = 0 }) o) lost

-- ---- the last line

pub wanted_by : (took took' : List ℕ) (said : Option FollowLine) (n size late m need : ℕ)
    → took' ≡ took ++ ended_in said → said ≡ wanted n late m → n ≡ size → m ≡ need
    → took' ≡ took ++ ended_in (wanted size late need)
wanted_by took took' said n size late m need printed is first second =
    printed ∙ ap (λ (l : Option FollowLine). took ++ ended_in l) is
    ∙ ap (λ (k : ℕ). took ++ ended_in (wanted k late m)) first
    ∙ ap (λ (k : ℕ). took ++ ended_in (wanted size late k)) second

-- so of a first part of it
pub part_wanted : (took took' : List ℕ) (said : Option FollowLine) (n size late m need : ℕ)
    → GrowsPart took took' (ended_in said) → said ≡ wanted n late m → n ≡ size → m ≡ need
    → GrowsPart took took' (ended_in (wanted size late need))
part_wanted took took' said n size late m need part is first second =
    subst (λ (l : List ℕ). GrowsPart took took' l)
    (ap ended_in is ∙ ap (λ (k : ℕ). ended_in (wanted k late m)) first
    ∙ ap (λ (k : ℕ). ended_in (wanted size late k)) second) part
