-- A stream that is followed anew: what leaves it behind that depends on what came behind it alone.
use Rattle.std.proofs.Common.{◌≡◌, ℕ, Bool, true, false, cond, List, [], ◌∷◌, ◌++◌, Option, None}
use Rattle.std.proofs.Common.{Some, Result, refl, sym, ap, ◌∙◌, append_assoc, append-nil}
use Rattle.std.proofs.lemmas.List.Elements.{filter_map-append}
use Rattle.path_receiver.specs.Opening.{Opening}
use Rattle.path_receiver.specs.declared.answer.Refusal.{Refusal}
use Rattle.following.specs.Follower.{Following, opened}
use Rattle.following.specs.Following.{Handed, frames_in}
use Rattle.following.specs.Restarts.{lost_since}
use Rattle.following.specs.Turned.{answer_in, handed_all, handed_in, handed_while, state_behind}
use Rattle.following.specs.Turned.{turned}
use Rattle.following.specs.declared.answer.Followed.{Followed}
use Rattle.follow_engine.specs.Events.{Anew, Event, Running, anew, anew_with, behind, behind_all}
use Rattle.follow_engine.specs.Events.{datagram_time, events_at, events_end, events_in, events_of}
use Rattle.follow_engine.specs.Events.{frame_of_event, frames_of_events, is_anew, late_with}
use Rattle.follow_engine.specs.Events.{leaving, running_from, since_with, time_or_zero, turn_left}
use Rattle.follow_engine.specs.Events.{turn_taken}
use Rattle.follow_engine.specs.Plain.{NoneAnew}
use Rattle.follow_engine.proofs.Turns.{stays_turned}
use Rattle.follow_engine.proofs.Without.{follower_behind, frames_at, leaving_frames}
use Rattle.follow_engine.proofs.Leaving.{begun_by}

-- ---- what leaves a follower, where only lost datagrams came since

abbrev anew_at : Following → Option ℕ → List ℕ → Bool
anew_at f since octets = anew_with f.most_ahead since (datagram_time octets) (answer_in f octets)

abbrev since_at : Following → Option ℕ → List ℕ → Option ℕ
since_at f since octets = since_with f.most_ahead since (datagram_time octets) (answer_in f octets)

abbrev begun_again : Following → Following
begun_again f = opened f.opening f.size f.most_ahead

abbrev follower_at : Bool → Following → Option ℕ → List ℕ → Following
follower_at eager f since octets =
    let t : Following = turned eager f octets in cond (anew_at f since octets) (begun_again t) t

abbrev left_at : Bool → Following → Option ℕ → List ℕ → List Handed
left_at eager f since octets =
    handed_in eager f octets ++ cond (anew_at f since octets) (frames_in (turned eager f octets)) []

abbrev left_in : Bool → Following → Option ℕ → List (List ℕ) → List Handed
left_in eager f since [] = frames_in f
left_in eager f since (octets ∷ ds) =
    left_at eager f since octets
    ++ left_in eager (follower_at eager f since octets) (since_at f since octets) ds

-- ---- a turn

turn_frames : (b : Bool) (es : List Event) (gs hs : List Handed) (late ts : ℕ)
    → frames_of_events es ≡ gs
    → frames_of_events (es ++ cond b (leaving late hs ++ Anew ts ∷ []) []) ≡ gs ++ cond b hs []
turn_frames true es gs hs late ts e =
    filter_map-append frame_of_event es (leaving late hs ++ Anew ts ∷ [])
    ∙ ap (λ (l : List Handed). l ++ frames_of_events (leaving late hs ++ Anew ts ∷ [])) e
    ∙ ap (λ (l : List Handed). gs ++ l)
    (filter_map-append frame_of_event (leaving late hs) (Anew ts ∷ [])
    ∙ append-nil (frames_of_events (leaving late hs)) ∙ leaving_frames late hs)
turn_frames false es gs hs late ts e =
    ap frames_of_events (append-nil es) ∙ e ∙ sym (append-nil gs)

frames_turn : (eager : Bool) (r : Running) (octets : List ℕ)
    → frames_of_events (events_at eager r octets) ≡ left_at eager r.follower r.since octets
unfolding events_at
frames_turn eager r octets =
    let t : Running = turn_taken eager r octets in
    turn_frames (is_anew r octets) (turn_left eager r octets) (handed_in eager r.follower octets)
    (frames_in t.follower) t.late (time_or_zero (datagram_time octets))
    (leaving_frames (late_with r.late (answer_in r.follower octets))
    (handed_in eager r.follower octets))

follower_by : (b : Bool) (t : Running)
    → (cond b (anew t) t).follower ≡ cond b (begun_again t.follower) t.follower
follower_by true t = refl
follower_by false t = refl

since_by : (b : Bool) (t : Running) → (cond b (anew t) t).since ≡ t.since
since_by true t = refl
since_by false t = refl

follower_turn : (eager : Bool) (r : Running) (octets : List ℕ)
    → (behind eager r octets).follower ≡ follower_at eager r.follower r.since octets
unfolding behind
follower_turn eager r octets = follower_by (is_anew r octets) (turn_taken eager r octets)

since_turn : (eager : Bool) (r : Running) (octets : List ℕ)
    → (behind eager r octets).since ≡ since_at r.follower r.since octets
unfolding behind
since_turn eager r octets = since_by (is_anew r octets) (turn_taken eager r octets)

-- ---- a stream

-- a datagram, and those behind it
first_frames : (eager : Bool) (r : Running) (octets : List ℕ) (ds : List (List ℕ))
    → frames_of_events (events_of eager r (octets ∷ ds))
    ≡ frames_of_events (events_at eager r octets)
    ++ frames_of_events (events_of eager (behind eager r octets) ds)
first_frames eager r octets ds =
    let s : Running = behind eager r octets in
    ap frames_of_events
    (append_assoc (events_at eager r octets) (events_in eager s ds)
    (events_end (behind_all eager s ds)))
    ∙ filter_map-append frame_of_event (events_at eager r octets) (events_of eager s ds)

all_frames : (eager : Bool) (r : Running) (ds : List (List ℕ))
    → frames_of_events (events_of eager r ds) ≡ left_in eager r.follower r.since ds
all_frames eager r [] = leaving_frames r.late (frames_in r.follower)
all_frames eager r (octets ∷ ds) =
    let s : Running = behind eager r octets in
    let f : Following = follower_at eager r.follower r.since octets in
    first_frames eager r octets ds
    ∙ ap (λ (l : List Handed). l ++ frames_of_events (events_of eager s ds))
    (frames_turn eager r octets)
    ∙ ap (λ (l : List Handed). left_at eager r.follower r.since octets ++ l)
    (all_frames eager s ds
    ∙ ap (λ (x : Following). left_in eager x s.since ds) (follower_turn eager r octets)
    ∙ ap (λ (n : Option ℕ). left_in eager f n ds) (since_turn eager r octets))

-- ---- followed anew

-- a follower that begins again is the same behind a turn
begun_turned : (eager : Bool) (f : Following) (octets : List ℕ)
    → begun_again (turned eager f octets) ≡ begun_again f
begun_turned eager f octets =
    let t : Following = turned eager f octets in
    let stays = stays_turned eager f octets in
    ap (λ (o : Opening). begun_by o t.size t.most_ahead) stays.opening
    ∙ ap (λ (n : ℕ). begun_by (begun_again f).opening n t.most_ahead) stays.size
    ∙ ap (λ (n : ℕ). begun_by (begun_again f).opening f.size n) stays.ahead

-- nothing is noted then
since_none : (bound : ℕ) (since time : Option ℕ) (answer : Result Followed Refusal)
    → anew_with bound since time answer ≡ true → since_with bound since time answer ≡ None
since_none bound since None answer is = absurd cc
since_none bound since (Some ts) answer is =
    ap (λ (b : Bool). cond b None (lost_since since ts answer)) is

-- it is as one that begins there
restarted : (eager : Bool) (r : Running) (octets : List ℕ) (rest : List (List ℕ))
    → is_anew r octets ≡ true
    → frames_of_events (events_of eager (behind eager r octets) rest)
    ≡ frames_of_events (events_of eager (running_from (begun_again r.follower)) rest)
restarted eager r octets rest is =
    let s : Running = behind eager r octets in
    let t : Following = turned eager r.follower octets in
    let fresh : Following = begun_again r.follower in
    all_frames eager s rest
    ∙ ap (λ (x : Following). left_in eager x s.since rest)
    (follower_turn eager r octets ∙ ap (λ (b : Bool). cond b (begun_again t) t) is
    ∙ begun_turned eager r.follower octets)
    ∙ ap (λ (n : Option ℕ). left_in eager fresh n rest)
    (since_turn eager r octets
    ∙ since_none r.follower.most_ahead r.since (datagram_time octets) (answer_in r.follower octets)
    is)
    ∙ sym (all_frames eager (running_from fresh) rest)

-- the datagram behind which it is
anew_frames : (eager : Bool) (r : Running) (octets : List ℕ) → is_anew r octets ≡ true
    → frames_of_events (events_at eager r octets) ≡ handed_all eager r.follower (octets ∷ [])
anew_frames eager r octets is =
    let hs : List Handed = handed_in eager r.follower octets in
    let all : List Handed = frames_in (turned eager r.follower octets) in
    frames_turn eager r octets ∙ ap (λ (b : Bool). hs ++ cond b all []) is
    ∙ ap (λ (l : List Handed). l ++ all) (sym (append-nil hs))

more_handed : (eager : Bool) (f : Following) (octets : List ℕ) (ds : List (List ℕ))
    → handed_in eager f octets ++ handed_all eager (turned eager f octets) ds
    ≡ handed_all eager f (octets ∷ ds)
more_handed eager f octets ds =
    let t : Following = turned eager f octets in
    sym (append_assoc (handed_in eager f octets) (handed_while eager t ds)
    (frames_in (state_behind eager t ds)))

-- what leaves a stream up to there, and then
pub restarted_frames : (eager : Bool) (r : Running) (before rest : List (List ℕ))
    (octets : List ℕ) → NoneAnew eager r before
    → is_anew (behind_all eager r before) octets ≡ true
    → frames_of_events (events_of eager r (before ++ octets ∷ rest))
    ≡ handed_all eager r.follower (before ++ octets ∷ [])
    ++ frames_of_events (events_of eager (running_from (begun_again r.follower)) rest)
restarted_frames eager r [] rest octets none is =
    first_frames eager r octets rest
    ∙ ap (λ (l : List Handed). l ++ frames_of_events (events_of eager (behind eager r octets) rest))
    (anew_frames eager r octets is)
    ∙ ap (λ (l : List Handed). handed_all eager r.follower (octets ∷ []) ++ l)
    (restarted eager r octets rest is)
restarted_frames eager r (d ∷ before) rest octets none is =
    let s : Running = behind eager r d in
    let t : Following = turned eager r.follower d in
    let ds : List (List ℕ) = before ++ octets ∷ [] in
    let hs : List Handed = handed_in eager r.follower d in
    let again : List Handed =
    frames_of_events (events_of eager (running_from (begun_again r.follower)) rest) in
    first_frames eager r d (before ++ octets ∷ rest)
    ∙ ap (λ (l : List Handed). l ++ frames_of_events (events_of eager s (before ++ octets ∷ rest)))
    (frames_at eager r d none.0)
    ∙ ap (λ (l : List Handed). hs ++ l)
    (restarted_frames eager s before rest octets none.1 is
    ∙ ap (λ (x : Following).
    handed_all eager x ds
    ++ frames_of_events (events_of eager (running_from (begun_again x)) rest))
    (follower_behind eager r d none.0)
    ∙ ap (λ (x : Following).
    handed_all eager t ds ++ frames_of_events (events_of eager (running_from x) rest))
    (begun_turned eager r.follower d))
    ∙ sym (append_assoc hs (handed_all eager t ds) again)
    ∙ ap (λ (l : List Handed). l ++ again) (more_handed eager r.follower d ds)
