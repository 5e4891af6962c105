-- A stream of which no event says that it is followed anew isn't.
use Rattle.std.proofs.Common.{◌≡◌, ℕ, Bool, true, false, cond, List, [], ◌∷◌, ◌++◌, inl, refl}
use Rattle.std.proofs.lemmas.Bool.{false≢true}
use Rattle.follow_engine.specs.Events.{Anew, Event, Running, behind, behind_all, datagram_time}
use Rattle.follow_engine.specs.Events.{events_at, events_end, events_in, is_anew, leaving}
use Rattle.follow_engine.specs.Events.{running_from, time_or_zero, turn_left, turn_taken}
use Rattle.follow_engine.specs.Followed.{followed_events}
use Rattle.follow_engine.specs.Order.{datagrams_in}
use Rattle.follow_engine.specs.Plain.{NoneAnew}
use Rattle.follow_engine.specs.declared.opening.FollowAsked.{FollowAsked}
use Rattle.following.specs.Follower.{opened}
use Rattle.following.specs.Following.{frames_in}
use Rattle.media_file.specs.Records.{Entry}
use Rattle.path_receiver.specs.Opening.{Opening}
use Rattle.st_format.specs.Member.{IsMember}
use Rattle.st_format.proofs.Members.{member_left, member_right}

abbrev NoneTold : List Event → Type 0
NoneTold events = (timestamp : ℕ) → IsMember (Anew timestamp) events → ⊥

last_told : (es fs : List Event) (timestamp : ℕ) (b : Bool) → b ≡ true
    → IsMember (Anew timestamp) (es ++ cond b (fs ++ Anew timestamp ∷ []) [])
last_told es fs timestamp true is =
    member_right (Anew timestamp) es (fs ++ Anew timestamp ∷ [])
    (member_right (Anew timestamp) fs (Anew timestamp ∷ []) (inl refl))
last_told es fs timestamp false is = absurd (false≢true is)

told_at : (eager : Bool) (r : Running) (octets : List ℕ) → is_anew r octets ≡ true
    → IsMember (Anew (time_or_zero (datagram_time octets))) (events_at eager r octets)
unfolding events_at
told_at eager r octets is =
    last_told (turn_left eager r octets)
    (leaving (turn_taken eager r octets).late (frames_in (turn_taken eager r octets).follower))
    (time_or_zero (datagram_time octets)) (is_anew r octets) is

first_plain : (eager : Bool) (r : Running) (octets : List ℕ) (b : Bool)
    → NoneTold (events_at eager r octets) → is_anew r octets ≡ b → is_anew r octets ≡ false
first_plain eager r octets true none is =
    absurd (none (time_or_zero (datagram_time octets)) (told_at eager r octets is))
first_plain eager r octets false none is = is

none_anew : (eager : Bool) (r : Running) (ds : List (List ℕ)) → NoneTold (events_in eager r ds)
    → NoneAnew eager r ds
none_anew eager r [] none = tt
none_anew eager r (octets ∷ ds) none =
    let first = events_at eager r octets in
    let rest = events_in eager (behind eager r octets) ds in (
      first_plain eager r octets (is_anew r octets)
          (λ t m. none t (member_left (Anew t) first rest m)) refl,
      none_anew eager (behind eager r octets) ds
          (λ t m. none t (member_right (Anew t) first rest m)),
    )

pub plain_by_events : (w : FollowAsked) (o : Opening) (entries : List Entry)
    → ((timestamp : ℕ) → IsMember (Anew timestamp) (followed_events w o entries) → ⊥)
    → NoneAnew w.is_eager (running_from (opened o w.frames 900000)) (datagrams_in entries)
plain_by_events w o entries none =
    let r : Running = running_from (opened o w.frames 900000) in
    let ds : List (List ℕ) = datagrams_in entries in
    none_anew w.is_eager r ds
    (λ t m. none t
    (member_left (Anew t) (events_in w.is_eager r ds) (events_end (behind_all w.is_eager r ds)) m))
