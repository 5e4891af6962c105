-- A turn of a stream that is followed, and what came so far.
use Rattle.std.proofs.Common.{◌≡◌, ℕ, zero, suc, Bool, true, false, cond, List, [], ◌∷◌, ◌++◌, map}
use Rattle.std.proofs.Common.{Option, None, Some, Result, Ok, Err, refl, sym, ap, subst, ◌∙◌}
use Rattle.std.proofs.Common.{append_assoc, append-nil}
use Rattle.std.proofs.Math.Seq.{drop-append_seam}
use Rattle.st_format.specs.declared.path.Path.{Path}
use Rattle.path_receiver.specs.Grammar.{Datagram}
use Rattle.path_receiver.specs.Sliding.{with_window}
use Rattle.path_receiver.specs.Took.{datagrams_since}
use Rattle.path_receiver.specs.declared.answer.Refusal.{Refusal}
use Rattle.recording_reader.specs.FileReader.{octets_at_hand}
use Rattle.side_by_side.specs.Sides.{ComesAt, Sides, hand_at}
use Rattle.following.specs.Follower.{Following, IsFollower, joined, read_in, reading_of}
use Rattle.following.specs.Follower.{standing_of, state_after}
use Rattle.following.specs.Follower.{taken_in, without_oldest}
use Rattle.following.specs.Following.{Handed, frames_in, handed_before, is_due}
use Rattle.following.specs.Restarts.{is_restart}
use Rattle.following.specs.Turned.{answer_in, early_count, handed_early, handed_in, state_early}
use Rattle.following.specs.Turned.{state_taken, turned, without_first}
use Rattle.following.specs.declared.answer.Followed.{Followed}
use Rattle.following.specs.declared.standing.Standing.{Standing}
use Rattle.following.specs.declared.standing.Standing.TheVariants.{Beyond, Inside, New, Waits}
use Rattle.following.specs.declared.standing.Standing.TheVariants.{Nowhere}
use Rattle.follow_engine.specs.Events.{Anew, Event, IsAnewAt, Running, anew, anew_with, answered}
use Rattle.follow_engine.specs.Events.{behind, behind_all, events_at, events_in, is_anew}
use Rattle.follow_engine.specs.Events.{datagram_time, late_with, leaving, noted_by, time_or_zero}
use Rattle.follow_engine.specs.Events.{turn_left, turn_taken, without}
use Rattle.follow_engine.specs.Running.{FollowsDatagram, IsSoundRun, LeavesTurn, TellsEvents}
use Rattle.follow_engine.specs.Running.{TellsDatagram, steering_of}
use Rattle.follow_engine.specs.declared.running.Run.{Run}
use Rattle.follow_engine.proofs.Parts.{behind_more, events_more}
use Rattle.follow_engine.proofs.Tells.{told_both, told_none}

-- ---- what a turn leaves of a follower as it is

pub record StaysAs (s t : Following) : Type 0 where
  pub opening : with_window t.opening [] ≡ with_window s.opening []
  pub size : t.size ≡ s.size
  pub ahead : t.most_ahead ≡ s.most_ahead

stays_same : (s : Following) → StaysAs s s
stays_same s = record {
  opening = refl;
  size = refl;
  ahead = refl;
}

stays_joined : (s : Following) (octets : List ℕ) → StaysAs s (joined s octets)
stays_joined s octets = record {
  opening = refl;
  size = refl;
  ahead = refl;
}

stays_taken : (s : Following) (octets : List ℕ) (ts : ℕ) (x : Standing)
    → StaysAs s (taken_in s octets ts x)
stays_taken s octets ts (Inside p) = stays_joined s octets
stays_taken s octets ts (New p) = record {
  opening = refl;
  size = refl;
  ahead = refl;
}
stays_taken s octets ts Waits = stays_same s
stays_taken s octets ts Nowhere = stays_same s
stays_taken s octets ts Beyond = stays_same s

stays_read : (s : Following) (octets : List ℕ) (r : Result Datagram Refusal)
    → StaysAs s (read_in s octets r)
stays_read s octets (Ok d) = stays_taken s octets d.timestamp (standing_of s d.timestamp)
stays_read s octets (Err e) = stays_same s

stays_after : (s : Following) (octets : List ℕ) → StaysAs s (state_after s octets)
stays_after s octets = stays_read s octets (reading_of s.opening octets)

pub stays_oldest : (s : Following) → StaysAs s (without_oldest s)
stays_oldest s = record {
  opening = refl;
  size = refl;
  ahead = refl;
}

pub stays_on : (s t u : Following) → StaysAs s t → StaysAs t u → StaysAs s u
stays_on s t u first next = record {
  opening = next.opening ∙ first.opening;
  size = next.size ∙ first.size;
  ahead = next.ahead ∙ first.ahead;
}

stays_first : (n : ℕ) (s : Following) → StaysAs s (without_first n s)
stays_first zero s = stays_same s
stays_first (suc n) s =
    stays_on s (without_oldest s) (without_first n (without_oldest s)) (stays_oldest s)
    (stays_first n (without_oldest s))

stays_ready : (b : Bool) (s : Following) (octets : List ℕ)
    → StaysAs s (state_after (cond b (without_oldest s) s) octets)
stays_ready true s octets =
    stays_on s (without_oldest s) (state_after (without_oldest s) octets) (stays_oldest s)
    (stays_after (without_oldest s) octets)
stays_ready false s octets = stays_after s octets

pub stays_turned : (eager : Bool) (s : Following) (octets : List ℕ)
    → StaysAs s (turned eager s octets)
unfolding turned
stays_turned eager s octets =
    let t : Following = state_taken s octets in
    stays_on s t (state_early eager t) (stays_ready (is_due s octets) s octets)
    (stays_first (early_count eager t) t)

pub stays_steering : (s t : Following) → StaysAs s t
    → steering_of t.opening ≡ steering_of s.opening
stays_steering s t stays = ap steering_of stays.opening

-- ---- whether it is followed anew

-- that it isn't is told
none_anew : (bound : ℕ) (since time : Option ℕ) (answer : Result Followed Refusal)
    → IsAnewAt (anew_with bound since time answer) time None
    → anew_with bound since time answer ≡ false
none_anew bound since None answer is = refl
none_anew bound since (Some ts) answer is = at (is_restart bound since ts answer) ts is
  where
    at : (b : Bool) (ts : ℕ) → IsAnewAt b (Some ts) None → b ≡ false
    at true ts is = absurd cc
    at false ts is = refl

pub not_anew : (r : Running) (octets : List ℕ)
    → IsAnewAt (is_anew r octets) (datagram_time octets) None
    → is_anew r octets ≡ false
not_anew r octets is =
    none_anew r.follower.most_ahead r.since (datagram_time octets) (answer_in r.follower octets) is

-- that it is, and from when on
pub some_anew : (b : Bool) (time : Option ℕ) (ts : ℕ) → IsAnewAt b time (Some ts)
    → (b ≡ true) × (time ≡ Some ts)
some_anew true time ts is = (refl, sym is)
some_anew false time ts is = absurd cc

-- ---- a turn

-- an answer is noted when the datagram was taken
pub turn_is : (r : Running) (bound : ℕ) (time : Option ℕ) (answer : Result Followed Refusal)
    (hs : List Handed) (t u : Following) → bound ≡ r.follower.most_ahead
    → without (noted_by bound (record r { follower = t }) time answer) hs u
    ≡ without (answered r time answer) hs u
turn_is r bound time answer hs t u is =
    ap (λ (b : ℕ). without (noted_by b r time answer) hs u) is

-- What the calls of a turn made of a stream: an answer was noted, and the frames that go left.
pub turn_told : {K : Type 0} (takes : K → Handed → K → Type 0) (eager : Bool)
    (r n r' : Running) (octets : List ℕ) (bound : ℕ) (answer : Result Followed Refusal)
    (t : Following) (hs : List Handed) (old new : K) (took took' : List ℕ)
    → bound ≡ r.follower.most_ahead → t ≡ state_taken r.follower octets
    → answer ≡ answer_in r.follower octets → hs ≡ handed_before r.follower octets
    → n ≡ noted_by bound (record r { follower = t }) (datagram_time octets) answer
    → LeavesTurn takes eager n r' hs old new took took'
    → TellsDatagram takes eager r r' octets old new took took'
unfolding turned handed_in
turn_told takes eager r n r' octets bound answer t hs old new took took' at is answered_so handed noted
    left =
    let time : Option ℕ = datagram_time octets in
    let a : Result Followed Refusal = answer_in r.follower octets in
    let before : List Handed = handed_before r.follower octets in
    let early : List Handed = handed_early eager t in
    record {
      running =
          left.running
          ∙ ap (λ (x : Running).
          without x (hs ++ handed_early eager x.follower) (state_early eager x.follower)) noted
          ∙ turn_is r bound time answer (hs ++ early) t (state_early eager t) at
          ∙ ap (λ (x : Result Followed Refusal).
          without (answered r time x) (hs ++ early) (state_early eager t)) answered_so
          ∙ ap (λ (l : List Handed). without (answered r time a) (l ++ early) (state_early eager t))
          handed
          ∙ ap (λ (x : Following).
          without (answered r time a) (before ++ handed_early eager x) (state_early eager x)) is;
      told =
          subst (λ (es : List Event). TellsEvents takes old new took took' es)
          (ap (λ (x : Running). leaving x.late (hs ++ handed_early eager x.follower)) noted
          ∙ ap (λ (x : Result Followed Refusal). leaving (late_with r.late x) (hs ++ early))
          answered_so
          ∙ ap (λ (l : List Handed). leaving (late_with r.late a) (l ++ early)) handed
          ∙ ap (λ (x : Following). leaving (late_with r.late a) (before ++ handed_early eager x))
          is) left.told;
    }

-- so it is told whether it is followed anew
pub anew_told : (r : Running) (octets : List ℕ) (bound : ℕ) (answer : Result Followed Refusal)
    (told : Option ℕ) → bound ≡ r.follower.most_ahead → answer ≡ answer_in r.follower octets
    → IsAnewAt (anew_with bound r.since (datagram_time octets) answer) (datagram_time octets) told
    → IsAnewAt (is_anew r octets) (datagram_time octets) told
anew_told r octets bound answer told at answered_so is =
    subst (λ (x : Result Followed Refusal). IsAnewAt
    (anew_with r.follower.most_ahead r.since (datagram_time octets) x) (datagram_time octets) told)
    answered_so
    (subst (λ (n : ℕ). IsAnewAt (anew_with n r.since (datagram_time octets) answer)
    (datagram_time octets) told)
    at is)

-- what is always so of a stream is so of one whose follower stays as it is
run_stays : {A : Type 0} (was run : Run A) → IsSoundRun was → StaysAs was.follower run.follower
    → IsFollower run.follower → run.frame.format ≡ run.follower.opening.format
    → run.restarts.bound ≡ was.restarts.bound → run.steering ≡ was.steering → IsSoundRun run
run_stays was run is stays follower format bound steering = record {
  follower = follower;
  format = format;
  bound = bound ∙ is.bound ∙ sym stays.ahead;
  steering = steering ∙ is.steering ∙ sym (stays_steering was.follower run.follower stays);
}

-- so it is behind a turn
pub run_turned : {A : Type 0} (was run : Run A) (eager : Bool) (octets : List ℕ) → IsSoundRun was
    → run.follower ≡ turned eager was.follower octets → IsFollower run.follower
    → run.frame.format ≡ run.follower.opening.format → run.restarts.bound ≡ was.restarts.bound
    → run.steering ≡ was.steering → IsSoundRun run
run_turned was run eager octets is turn follower format bound steering =
    run_stays was run is
    (subst (λ (t : Following). StaysAs was.follower t) (sym turn)
    (stays_turned eager was.follower octets)) follower format bound steering

-- and where the oldest frame left
pub run_oldest : {A : Type 0} (was run : Run A) → IsSoundRun was
    → run.follower ≡ without_oldest was.follower → IsFollower run.follower
    → run.frame.format ≡ run.follower.opening.format → run.restarts.bound ≡ was.restarts.bound
    → run.steering ≡ was.steering → IsSoundRun run
run_oldest was run is gone follower format bound steering =
    run_stays was run is
    (subst (λ (t : Following). StaysAs was.follower t) (sym gone) (stays_oldest was.follower))
    follower format bound steering

-- behind which the stream isn't followed anew
pub turn_plain : {K : Type 0} (takes : K → Handed → K → Type 0) (eager : Bool)
    (r r' : Running) (octets : List ℕ) (old new : K) (took took' : List ℕ)
    → is_anew r octets ≡ false → TellsDatagram takes eager r r' octets old new took took'
    → FollowsDatagram takes eager r r' octets old new took took'
unfolding behind events_at
turn_plain takes eager r r' octets old new took took' is turn =
    let t : Running = turn_taken eager r octets in
    let es : List Event = turn_left eager r octets in
    let fs : List Event =
    leaving t.late (frames_in t.follower) ++ Anew (time_or_zero (datagram_time octets)) ∷ [] in
    record {
      running = turn.running ∙ ap (λ (x : Bool). cond x (anew t) t) (sym is);
      told =
          subst (λ (l : List Event). TellsEvents takes old new took took' l)
          (sym (append-nil es) ∙ ap (λ (x : Bool). es ++ cond x fs []) (sym is)) turn.told;
    }

-- and behind which it is
pub turn_anew : {K : Type 0} (takes : K → Handed → K → Type 0) (eager : Bool)
    (r r' r'' : Running) (octets : List ℕ) (ts : ℕ) (old mid new : K)
    (took took' took'' : List ℕ) → is_anew r octets ≡ true → datagram_time octets ≡ Some ts
    → TellsDatagram takes eager r r' octets old mid took took' → r'' ≡ anew r'
    → TellsEvents takes mid new took' took''
    (leaving r'.late (frames_in r'.follower) ++ Anew ts ∷ [])
    → FollowsDatagram takes eager r r'' octets old new took took''
unfolding behind events_at
turn_anew takes eager r r' r'' octets ts old mid new took took' took'' is at turn begun more =
    let t : Running = turn_taken eager r octets in
    let es : List Event = turn_left eager r octets in
    let fs : List Event =
    leaving t.late (frames_in t.follower) ++ Anew (time_or_zero (datagram_time octets)) ∷ [] in
    let gs : List Event = leaving r'.late (frames_in r'.follower) ++ Anew ts ∷ [] in
    let ends : gs ≡ fs =
    ap (λ (x : Running). leaving x.late (frames_in x.follower) ++ Anew ts ∷ []) turn.running
    ∙ ap (λ (o : Option ℕ). leaving t.late (frames_in t.follower) ++ Anew (time_or_zero o) ∷ [])
    (sym at) in
    record {
      running = begun ∙ ap anew turn.running ∙ ap (λ (x : Bool). cond x (anew t) t) (sym is);
      told =
          subst (λ (l : List Event). TellsEvents takes old new took took'' l)
          (ap (λ (l : List Event). es ++ l) ends
          ∙ ap (λ (x : Bool). es ++ cond x fs []) (sym is))
          (told_both takes old mid new took took' took'' es gs turn.told more);
    }

-- ---- what came

pub since_by : (rest before now : List (Path × List ℕ)) → now ≡ before ++ rest
    → datagrams_since before now ≡ map (λ (d : Path × List ℕ). d.1) rest
since_by rest before now e =
    ap (λ (ds : List (Path × List ℕ)). datagrams_since before ds) e
    ∙ ap (λ (ds : List (Path × List ℕ)). map (λ (d : Path × List ℕ). d.1) ds)
    (drop-append_seam before rest)

octets_more : (rest : List (Path × List ℕ)) (path : Path) (octets : List ℕ)
    → map (λ (d : Path × List ℕ). d.1) (rest ++ (path, octets) ∷ [])
    ≡ map (λ (d : Path × List ℕ). d.1) rest ++ octets ∷ []
octets_more [] path octets = refl
octets_more (d ∷ rest) path octets =
    ap (λ (l : List (List ℕ)). d.1 ∷ l) (octets_more rest path octets)

-- What came so far went into the stream, and what happened was told.
pub record FollowedSo {K : Type 0} (takes : K → Handed → K → Type 0) (eager : Bool)
    (before now : List (Path × List ℕ)) (r r' : Running) (old new : K) (took took' : List ℕ)
    : Type 0 where
  pub rest : List (Path × List ℕ)
  pub came : now ≡ before ++ rest
  pub running : r' ≡ behind_all eager r (datagrams_since before now)
  pub told : TellsEvents takes old new took took' (events_in eager r (datagrams_since before now))

pub so_begun : {K : Type 0} (takes : K → Handed → K → Type 0) (eager : Bool)
    (before : List (Path × List ℕ)) (r : Running) (k : K) (took : List ℕ)
    → FollowedSo takes eager before before r r k k took took
so_begun takes eager before r k took =
    let none : [] ≡ datagrams_since before before =
    sym (since_by [] before before (sym (append-nil before))) in
    record {
      rest = [];
      came = sym (append-nil before);
      running = ap (behind_all eager r) none;
      told =
          subst (λ (ds : List (List ℕ)). TellsEvents takes k k took took (events_in eager r ds))
          none
          (told_none takes k took);
    }

-- a turn without a datagram
pub so_quiet : {K : Type 0} (takes : K → Handed → K → Type 0) (eager : Bool)
    (before now then : List (Path × List ℕ)) (r r' : Running) (old new : K)
    (took took' : List ℕ) → FollowedSo takes eager before now r r' old new took took'
    → then ≡ now ++ [] → FollowedSo takes eager before then r r' old new took took'
so_quiet takes eager before now then r r' old new took took' so comes =
    subst (λ (l : List (Path × List ℕ)). FollowedSo takes eager before l r r' old new took took')
    (sym (comes ∙ append-nil now)) so

-- the datagram that is lent came
pub lent_came : {A S : Type 0} (old new : Sides A S) (place : ℕ) (octets : List ℕ)
    → (came : ComesAt place new.sides old.came new.came)
    → octets ≡ octets_at_hand (hand_at new.sides place)
    → new.came ≡ old.came ++ (came.entry.path, octets) ∷ []
lent_came old new place octets came lent =
    came.came
    ∙ ap (λ (o : List ℕ). old.came ++ (came.entry.path, o) ∷ [])
    (sym (lent ∙ ap octets_at_hand came.hand))

-- a datagram more came
came_more : (before now then rest : List (Path × List ℕ)) (path : Path) (octets : List ℕ)
    → now ≡ before ++ rest → then ≡ now ++ (path, octets) ∷ []
    → then ≡ before ++ (rest ++ (path, octets) ∷ [])
came_more before now then rest path octets came comes =
    comes ∙ ap (λ (l : List (Path × List ℕ)). l ++ (path, octets) ∷ []) came
    ∙ append_assoc before rest ((path, octets) ∷ [])

pub since_more : (before now then rest : List (Path × List ℕ)) (path : Path) (octets : List ℕ)
    → now ≡ before ++ rest → then ≡ now ++ (path, octets) ∷ []
    → datagrams_since before then ≡ datagrams_since before now ++ octets ∷ []
since_more before now then rest path octets came comes =
    since_by (rest ++ (path, octets) ∷ []) before then
    (came_more before now then rest path octets came comes) ∙ octets_more rest path octets
    ∙ ap (λ (l : List (List ℕ)). l ++ octets ∷ []) (sym (since_by rest before now came))

-- a datagram
pub so_datagram : {K : Type 0} (takes : K → Handed → K → Type 0) (eager : Bool)
    (before now then : List (Path × List ℕ)) (r r' r'' : Running) (old mid new : K)
    (took took' took'' : List ℕ) (path : Path) (octets : List ℕ)
    → FollowedSo takes eager before now r r' old mid took took'
    → then ≡ now ++ (path, octets) ∷ []
    → FollowsDatagram takes eager r' r'' octets mid new took' took''
    → FollowedSo takes eager before then r r'' old new took took''
so_datagram takes eager before now then r r' r'' old mid new took took' took'' path octets so comes
    turn =
    let ds : List (List ℕ) = datagrams_since before now in
    let more : datagrams_since before then ≡ ds ++ octets ∷ [] =
    since_more before now then so.rest path octets so.came comes in
    record {
      rest = so.rest ++ (path, octets) ∷ [];
      came = came_more before now then so.rest path octets so.came comes;
      running =
          turn.running ∙ ap (λ (x : Running). behind eager x octets) so.running
          ∙ sym (behind_more eager r ds octets) ∙ ap (behind_all eager r) (sym more);
      told =
          subst (λ (es : List Event). TellsEvents takes old new took took'' es)
          (ap (λ (x : Running). events_in eager r ds ++ events_at eager x octets) so.running
          ∙ sym (events_more eager r ds octets) ∙ ap (events_in eager r) (sym more))
          (told_both takes old mid new took took' took'' (events_in eager r ds)
          (events_at eager r' octets) so.told turn.told);
    }
