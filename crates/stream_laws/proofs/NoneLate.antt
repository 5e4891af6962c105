-- A stream of which no datagram was late or too far ahead isn't followed anew, and all are kept.
use Rattle.std.proofs.Common.{◌≡◌, ◌∙◌, ◌&&◌, ℕ, Bool, true, false, cond, List, [], ◌∷◌, Option}
use Rattle.std.proofs.Common.{None, Some, Result, Ok, Err, ap, arith, refl, subst, sym}
use Rattle.std.proofs.lemmas.Bool.{false≢true}
use Rattle.follow_engine.specs.Events.{Running, anew, anew_with, behind, behind_all, is_anew}
use Rattle.follow_engine.specs.Events.{datagram_time, running_from, turn_taken}
use Rattle.follow_engine.specs.Followed.{followed_run}
use Rattle.follow_engine.specs.Order.{datagrams_in}
use Rattle.follow_engine.specs.Plain.{NoneAnew}
use Rattle.follow_engine.specs.Telling.{totals_of}
use Rattle.follow_engine.specs.declared.opening.FollowAsked.{FollowAsked}
use Rattle.follow_engine.proofs.Without.{follower_behind}
use Rattle.following.specs.Follower.{Following, opened}
use Rattle.following.specs.Restarts.{lost_since}
use Rattle.following.specs.Standing.{is_beyond}
use Rattle.following.specs.Tally.{one_more, tally_after}
use Rattle.following.specs.Times.{Timed, octets_of}
use Rattle.following.specs.Turned.{answer_in, is_lost, kept_of, turned, with_kept}
use Rattle.following.specs.declared.answer.Followed.{Followed}
use Rattle.following.specs.declared.answer.Followed.TheVariants.{Kept, Due, Late, Far}
use Rattle.following.specs.declared.tally.FollowTally.{FollowTally}
use Rattle.media_file.specs.Records.{Entry}
use Rattle.path_receiver.specs.Opening.{Opening}
use Rattle.path_receiver.specs.declared.answer.Refusal.{Refusal}
use Rattle.stream_laws.proofs.LosesNone.{NoneIsLost}

-- ---- one answer

-- none was late or too far ahead
pub record IsClear (t : FollowTally) : Type 0 where
  pub late : t.late ≡ 0
  pub far : t.far ≡ 0

never_none : (n : ℕ) → one_more n ≡ 0 → ⊥
never_none n e = absurd (omega (arith, e))

-- so it was before an answer
clear_before : (t : FollowTally) (a : Result Followed Refusal) → IsClear (tally_after t a)
    → IsClear t
clear_before t (Ok (Kept number)) is = record { late = is.late; far = is.far }
clear_before t (Ok Due) is = is
clear_before t (Ok Late) is = absurd (never_none t.late is.late)
clear_before t (Ok Far) is = absurd (never_none t.far is.far)
clear_before t (Err e) is = record { late = is.late; far = is.far }

not_lost : (t : FollowTally) (a : Result Followed Refusal) → IsClear (tally_after t a)
    → is_lost a ≡ false
not_lost t (Ok (Kept number)) is = refl
not_lost t (Ok Due) is = refl
not_lost t (Ok Late) is = absurd (never_none t.late is.late)
not_lost t (Ok Far) is = absurd (never_none t.far is.far)
not_lost t (Err e) is = refl

pub not_anew : (bound : ℕ) (since time : Option ℕ) (a : Result Followed Refusal)
    → is_lost a ≡ false → anew_with bound since time a ≡ false
not_anew bound since None a none = refl
not_anew bound since (Some t) a none =
    ap (λ (b : Bool). b && is_beyond (lost_since since t a) bound t) none

-- ---- one datagram

tally_either : (b : Bool) (r : Running) → (cond b (anew r) r).tally ≡ r.tally
tally_either true r = refl
tally_either false r = refl

tally_behind : (eager : Bool) (r : Running) (octets : List ℕ)
    → (behind eager r octets).tally ≡ tally_after r.tally (answer_in r.follower octets)
unfolding behind
tally_behind eager r octets = tally_either (is_anew r octets) (turn_taken eager r octets)

-- ---- a stream

clear_from : (eager : Bool) (r : Running) (ds : List (List ℕ))
    → IsClear (behind_all eager r ds).tally → IsClear r.tally
clear_from eager r [] is = is
clear_from eager r (octets ∷ ds) is =
    clear_before r.tally (answer_in r.follower octets)
    (subst IsClear (tally_behind eager r octets)
    (clear_from eager (behind eager r octets) ds is))

-- the first isn't lost, and the stream not followed anew there
first_kept : (eager : Bool) (r : Running) (octets : List ℕ) (ds : List (List ℕ))
    → IsClear (behind_all eager (behind eager r octets) ds).tally
    → is_lost (answer_in r.follower octets) ≡ false
first_kept eager r octets ds is =
    not_lost r.tally (answer_in r.follower octets)
    (subst IsClear (tally_behind eager r octets)
    (clear_from eager (behind eager r octets) ds is))

first_plain : (eager : Bool) (r : Running) (octets : List ℕ) (ds : List (List ℕ))
    → IsClear (behind_all eager (behind eager r octets) ds).tally → is_anew r octets ≡ false
first_plain eager r octets ds is =
    not_anew r.follower.most_ahead r.since (datagram_time octets) (answer_in r.follower octets)
    (first_kept eager r octets ds is)

none_anew : (eager : Bool) (r : Running) (ds : List (List ℕ))
    → IsClear (behind_all eager r ds).tally → NoneAnew eager r ds
none_anew eager r [] is = tt
none_anew eager r (octets ∷ ds) is =
    (first_plain eager r octets ds is, none_anew eager (behind eager r octets) ds is)

pub all_kept : (eager : Bool) (r : Running) (xs : List Timed)
    → IsClear (behind_all eager r (octets_of xs)).tally → kept_of eager r.follower xs ≡ xs
all_kept eager r [] is = refl
all_kept eager r (x ∷ xs) is =
    let ds : List (List ℕ) = octets_of xs in
    let behind_it : Running = behind eager r x.octets in
    ap (λ (b : Bool). with_kept b x (kept_of eager (turned eager r.follower x.octets) xs))
    (first_kept eager r x.octets ds is)
    ∙ ap (λ (s : Following). x ∷ kept_of eager s xs)
    (sym (follower_behind eager r x.octets (first_plain eager r x.octets ds is)))
    ∙ ap (λ (ys : List Timed). x ∷ ys) (all_kept eager behind_it xs is)

-- ---- a stream of which none is lost, where no frame leaves early

clear_after : (t : FollowTally) (a : Result Followed Refusal) → is_lost a ≡ false → IsClear t
    → IsClear (tally_after t a)
clear_after t (Ok (Kept number)) kept is = record { late = is.late; far = is.far }
clear_after t (Ok Due) kept is = is
clear_after t (Ok Late) kept is = absurd (false≢true (sym kept))
clear_after t (Ok Far) kept is = absurd (false≢true (sym kept))
clear_after t (Err e) kept is = record { late = is.late; far = is.far }

pub none_counted : (r : Running) (xs : List Timed) → IsClear r.tally
    → NoneIsLost r.follower xs → IsClear (behind_all false r (octets_of xs)).tally
none_counted r [] is none = is
none_counted r (x ∷ xs) is none =
    let plain : is_anew r x.octets ≡ false =
    not_anew r.follower.most_ahead r.since (datagram_time x.octets) (answer_in r.follower x.octets)
    none.0 in
    none_counted (behind false r x.octets) xs
    (subst IsClear (sym (tally_behind false r x.octets))
    (clear_after r.tally (answer_in r.follower x.octets) none.0 is))
    (subst (λ (s : Following). NoneIsLost s xs) (sym (follower_behind false r x.octets plain))
    none.1)

-- ---- by the totals

pub totals_clear : (w : FollowAsked) (o : Opening) (entries : List Entry)
    → (totals_of (followed_run w o entries)).late ≡ 0
    → (totals_of (followed_run w o entries)).far ≡ 0
    → IsClear (behind_all w.is_eager (running_from (opened o w.frames 900000))
    (datagrams_in entries)).tally
totals_clear w o entries late far = record { late = late; far = far }

pub totals_plain : (w : FollowAsked) (o : Opening) (entries : List Entry)
    → (totals_of (followed_run w o entries)).late ≡ 0
    → (totals_of (followed_run w o entries)).far ≡ 0
    → NoneAnew w.is_eager (running_from (opened o w.frames 900000)) (datagrams_in entries)
totals_plain w o entries late far =
    none_anew w.is_eager (running_from (opened o w.frames 900000)) (datagrams_in entries)
    (totals_clear w o entries late far)
