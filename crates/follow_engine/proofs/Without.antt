-- A stream that isn't followed anew: what leaves it.
use Rattle.std.proofs.Common.{◌≡◌, ℕ, Bool, true, false, cond, List, [], ◌∷◌, ◌++◌, refl, ap}
use Rattle.std.proofs.Common.{◌∙◌, append-nil}
use Rattle.std.proofs.lemmas.List.Elements.{filter_map-append}
use Rattle.following.specs.Follower.{Following}
use Rattle.following.specs.Following.{Handed, frames_in}
use Rattle.following.specs.Turned.{answer_in, handed_all, handed_in, handed_while, state_behind}
use Rattle.following.specs.Turned.{turned}
use Rattle.follow_engine.specs.Events.{Anew, Event, Running, anew, behind, behind_all}
use Rattle.follow_engine.specs.Events.{datagram_time, events_at, events_end, events_in, events_of}
use Rattle.follow_engine.specs.Events.{frame_of_event, frames_of_events, is_anew, late_with}
use Rattle.follow_engine.specs.Events.{leaving, time_or_zero, turn_left, turn_taken}
use Rattle.follow_engine.specs.Plain.{NoneAnew}

pub leaving_frames : (late : ℕ) (hs : List Handed) → frames_of_events (leaving late hs) ≡ hs
leaving_frames late [] = refl
leaving_frames late (h ∷ hs) = ap (λ (l : List Handed). h ∷ l) (leaving_frames 0 hs)

-- a turn behind which it isn't
plain_behind : (b : Bool) (r s : Running) → b ≡ false → cond b r s ≡ s
plain_behind true r s is = absurd cc
plain_behind false r s is = refl

plain_events : (b : Bool) (es fs : List Event) → b ≡ false → es ++ cond b fs [] ≡ es
plain_events true es fs is = absurd cc
plain_events false es fs is = append-nil es

behind_plain : (eager : Bool) (r : Running) (octets : List ℕ) → is_anew r octets ≡ false
    → behind eager r octets ≡ turn_taken eager r octets
unfolding behind
behind_plain eager r octets is =
    plain_behind (is_anew r octets) (anew (turn_taken eager r octets)) (turn_taken eager r octets) is

pub follower_behind : (eager : Bool) (r : Running) (octets : List ℕ) → is_anew r octets ≡ false
    → (behind eager r octets).follower ≡ turned eager r.follower octets
follower_behind eager r octets is =
    ap (λ (s : Running). s.follower) (behind_plain eager r octets is)

pub frames_at : (eager : Bool) (r : Running) (octets : List ℕ) → is_anew r octets ≡ false
    → frames_of_events (events_at eager r octets) ≡ handed_in eager r.follower octets
unfolding events_at
frames_at eager r octets is =
    ap frames_of_events (plain_events (is_anew r octets) (turn_left eager r octets)
    (leaving (turn_taken eager r octets).late (frames_in (turn_taken eager r octets).follower)
    ++ Anew (time_or_zero (datagram_time octets)) ∷ []) is)
    ∙ leaving_frames (late_with r.late (answer_in r.follower octets))
    (handed_in eager r.follower octets)

frames_while : (eager : Bool) (r : Running) (ds : List (List ℕ)) → NoneAnew eager r ds
    → frames_of_events (events_in eager r ds) ≡ handed_while eager r.follower ds
frames_while eager r [] none = refl
frames_while eager r (octets ∷ ds) none =
    filter_map-append frame_of_event (events_at eager r octets)
    (events_in eager (behind eager r octets) ds)
    ∙ ap (λ (l : List Handed). l ++ frames_of_events (events_in eager (behind eager r octets) ds))
    (frames_at eager r octets none.0)
    ∙ ap (λ (l : List Handed). handed_in eager r.follower octets ++ l)
    (frames_while eager (behind eager r octets) ds none.1)
    ∙ ap (λ (s : Following). handed_in eager r.follower octets ++ handed_while eager s ds)
    (follower_behind eager r octets none.0)

follower_while : (eager : Bool) (r : Running) (ds : List (List ℕ)) → NoneAnew eager r ds
    → (behind_all eager r ds).follower ≡ state_behind eager r.follower ds
follower_while eager r [] none = refl
follower_while eager r (octets ∷ ds) none =
    follower_while eager (behind eager r octets) ds none.1
    ∙ ap (λ (s : Following). state_behind eager s ds) (follower_behind eager r octets none.0)

pub plain_frames : (eager : Bool) (r : Running) (ds : List (List ℕ)) → NoneAnew eager r ds
    → frames_of_events (events_of eager r ds) ≡ handed_all eager r.follower ds
plain_frames eager r ds none =
    filter_map-append frame_of_event (events_in eager r ds) (events_end (behind_all eager r ds))
    ∙ ap (λ (l : List Handed). l ++ frames_of_events (events_end (behind_all eager r ds)))
    (frames_while eager r ds none)
    ∙ ap (λ (l : List Handed). handed_while eager r.follower ds ++ l)
    (leaving_frames (behind_all eager r ds).late (frames_in (behind_all eager r ds).follower))
    ∙ ap (λ (s : Following). handed_while eager r.follower ds ++ frames_in s)
    (follower_while eager r ds none)
