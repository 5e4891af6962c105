-- What is handed out of a prompt stream, where complete frames may go early.
use Rattle.std.proofs.Common.{◌≡◌, ℕ, suc, ◌+◌, ◌<◌, ◌≤◌, ◌⊎◌, inl, inr, Bool, true, false}
use Rattle.std.proofs.Common.{List, [], ◌∷◌, ◌++◌, length, map, take, Option, None, Some, Result}
use Rattle.std.proofs.Common.{Ok, Err, refl, sym, ap, ◌∙◌, subst, arith, append_assoc, append-nil}
use Rattle.std.specs.List.{filter}
use Rattle.std.proofs.lemmas.Bool.{and_parts, cases_lt, false≢true}
use Rattle.st_format.specs.Member.{IsMember}
use Rattle.st_format.specs.Raster.{Raster}
use Rattle.st_format.proofs.Members.{member_left, member_right}
use Rattle.path_receiver.specs.declared.answer.Refusal.{Refusal}
use Rattle.path_receiver.specs.Grammar.{Datagram}
use Rattle.path_receiver.specs.Opening.{Opening}
use Rattle.following.specs.Acts.{AreNearby}
use Rattle.following.specs.Serial.{wrapped}
use Rattle.following.specs.Follower.{Following, opened, read_in, reading_of, standing_of}
use Rattle.following.specs.Follower.{state_after, taken_in, without_oldest}
use Rattle.following.specs.Following.{Handed, frames_in, handed_before, is_due, is_waiting}
use Rattle.following.specs.Prompt.{AreAgreed, IsPrompt}
use Rattle.following.specs.Stream.{ShowsAll}
use Rattle.following.specs.Times.{AreTimed, IsGreatest, Timed, handed_at, in_order, newer_than}
use Rattle.following.specs.Times.{octets_of, times_of, with_time}
use Rattle.following.specs.Turned.{first_complete, goes_early, handed_all, handed_early, handed_in}
use Rattle.following.specs.Turned.{handed_while, is_complete, state_behind, state_early}
use Rattle.following.specs.Turned.{state_taken, turned}
use Rattle.following.proofs.Early.{IsNext, IsOver, IsStage, gone_older, kept_whole, near_end}
use Rattle.following.proofs.Early.{near_in, one_more, standing-over}
use Rattle.following.proofs.FrameLemmas.{frame_kept}
use Rattle.following.proofs.Insertions.{AllNear, IsInReach, IsPast}
use Rattle.following.proofs.Ordered.{Rises, few_newer, in_order-more, later, length-with_time}
use Rattle.following.proofs.Ordered.{many_newer, order_keeps, parts_rise, rises_behind, rises_last}
use Rattle.following.proofs.Ordered.{with_time-there}
use Rattle.following.proofs.Repeats.{completed, repeated, still_complete, still_newer}
use Rattle.following.proofs.Rising.{all_member}
use Rattle.following.proofs.Streams.{Ends, EndsIn, all_newer_than, below_end, came, cases_member}
use Rattle.following.proofs.Streams.{end_in, in_parts, in_reach, older_all, order_more, rises}
use Rattle.following.proofs.Streams.{times_at, times_refused}
use Rattle.following.proofs.Turning.{before-due, before-on, handed_more}
use Rattle.following.proofs.Turning.{handed_still, state_more, state_none, taken-due, taken-on}
use Rattle.following.proofs.Turning.{with_rest}
use Rattle.following.proofs.WholeList.{map_members, times_has}
use Rattle.following.proofs.Windows.{after-inside, after-new, after-refused, due-full, due-inside}
use Rattle.following.proofs.Windows.{due-new, due-refused, frame_at_time, frames_in-shaped, shaped}
use Rattle.following.proofs.Windows.{stands-shaped, waiting_at}

-- ---- what is asked of a whole list

-- what comes after a frame went adds nothing to it
record Settles (eager : Bool) (o : Opening) (size : ℕ) (zs : List Timed) : Type 0 where
  due : (xs ys : List Timed) (v : ℕ) → zs ≡ xs ++ ys
      → size ≤ length (newer_than v (times_of o xs)) → handed_at o xs v ≡ handed_at o zs v
  early : (xs ys : List Timed) (v : ℕ) → zs ≡ xs ++ ys → eager ≡ true
      → is_complete (frame_at_time o xs v) ≡ true → handed_at o xs v ≡ handed_at o zs v

settles : (eager : Bool) (o : Opening) (size ahead : ℕ) (zs : List Timed)
    → IsPrompt eager o size ahead zs → (eager ≡ true → AreAgreed o zs)
    → Settles eager o size zs
settles eager o size ahead zs prompt agreed = record {
  due = λ xs ys v e many.
      repeated o size v ys xs
      (λ before after x d k read more. prompt.repeats before after x d (e ∙ k) read more) many
      ∙ ap (λ (l : List Timed). handed_at o l v) (sym e);
  early = λ xs ys v e is full.
      completed o v xs ys (subst (AreAgreed o) e (agreed is)) full
      ∙ ap (λ (l : List Timed). handed_at o l v) (sym e);
}

-- why the one that went last did: so many newer ones have come, or it went early, complete
abbrev HasWent : Bool → Opening → ℕ → List Timed → Option ℕ → Type 0
HasWent eager o size xs None = Unit {0}
HasWent eager o size xs (Some g) =
    (size ≤ length (newer_than g (times_of o xs)))
    ⊎ ((eager ≡ true) × (is_complete (frame_at_time o xs g) ≡ true))

still_went : (eager : Bool) (o : Opening) (size : ℕ) (xs : List Timed) (y : Timed)
    (last : Option ℕ) → HasWent eager o size xs last → HasWent eager o size (xs ++ y ∷ []) last
still_went eager o size xs y None went = tt
still_went eager o size xs y (Some g) (inl many) = inl (still_newer o size g xs y many)
still_went eager o size xs y (Some g) (inr early) =
    inr (early.0, still_complete o g xs (y ∷ []) early.1)

-- A time may still come first: fewer newer ones than there are frames have come, and where frames
-- may go early no newer one's frame is complete.
record IsAwaited (eager : Bool) (o : Opening) (size : ℕ) (xs : List Timed) (u : ℕ) : Type 0 where
  few : length (newer_than u (times_of o xs)) < size
  lacking : eager ≡ true → (v : ℕ) → IsMember v (times_of o xs) → u < v
      → is_complete (frame_at_time o xs v) ≡ true → ⊥

-- one that hasn't come is awaited
first_awaited : (eager : Bool) (o : Opening) (size ahead : ℕ) (zs xs ys : List Timed) (y : Timed)
    (d : Datagram) → IsPrompt eager o size ahead zs → zs ≡ xs ++ y ∷ ys
    → reading_of o y.octets ≡ Ok d → (IsMember y.time (times_of o xs) → ⊥)
    → IsAwaited eager o size xs y.time
first_awaited eager o size ahead zs xs ys y d prompt e read fresh = record {
  few = few (cases_lt (length (newer_than y.time (times_of o xs))) size);
  lacking = λ is v m lt full. fresh (prompt.firsts is xs ys y d v e read m lt full);
}
  where
    few : (length (newer_than y.time (times_of o xs)) < size)
        ⊎ (size ≤ length (newer_than y.time (times_of o xs)))
        → length (newer_than y.time (times_of o xs)) < size
    few (inl lt) = lt
    few (inr many) =
        absurd (fresh (times_has o y d xs (prompt.repeats xs ys y d e read many) read))

-- a time that comes on, after those that came
record ComesOn (size ahead : ℕ) (us : List ℕ) (u : ℕ) : Type 0 where
  next : IsNext size us u
  within : (v : ℕ) → IsGreatest v us → u ≤ v + ahead

-- what is handed out from there on is the rest
record HandsOut (eager : Bool) (o : Opening) (size ahead : ℕ) (zs xs ys : List Timed)
    (gone : List ℕ) (last : Option ℕ) (win : List ℕ) : Type 0 where
  rest : List ℕ
  order : in_order (times_of o zs) ≡ gone ++ rest
  handed : handed_all eager (shaped o size ahead xs last win) (octets_of ys)
      ≡ map (handed_at o zs) rest

-- what is handed out from where a datagram was taken on: first the frames that go early
abbrev all_from : Bool → Following → List (List ℕ) → List Handed
all_from eager s ds = handed_early eager s ++ handed_all eager (state_early eager s) ds

-- so from there on it is the rest
record HandsOn (eager : Bool) (o : Opening) (size ahead : ℕ) (zs xs ys : List Timed)
    (gone : List ℕ) (last : Option ℕ) (win : List ℕ) : Type 0 where
  rest : List ℕ
  order : in_order (times_of o zs) ≡ gone ++ rest
  handed : all_from eager (shaped o size ahead xs last win) (octets_of ys)
      ≡ map (handed_at o zs) rest

-- ---- one turn, and the rest

all_turn : (eager : Bool) (s t : Following) (octets : List ℕ) (ds : List (List ℕ))
    (hs : List Handed) → state_taken s octets ≡ t → handed_before s octets ≡ hs
    → handed_all eager s (octets ∷ ds) ≡ hs ++ all_from eager t ds
unfolding turned handed_in
all_turn eager s t octets ds hs same is =
    let taken : Following = state_taken s octets in
    let u : Following = state_early eager taken in
    append_assoc (handed_before s octets ++ handed_early eager taken) (handed_while eager u ds)
    (frames_in (state_behind eager u ds))
    ∙ append_assoc (handed_before s octets) (handed_early eager taken) (handed_all eager u ds)
    ∙ ap (λ (l : List Handed). l ++ all_from eager taken ds) is
    ∙ ap (λ (x : Following). hs ++ all_from eager x ds) same

from_still : (eager : Bool) (s : Following) (ds : List (List ℕ)) → goes_early eager s ≡ false
    → all_from eager s ds ≡ handed_all eager s ds
from_still eager s ds stays =
    ap (λ (l : List Handed). l ++ handed_all eager (state_early eager s) ds)
    (handed_still eager s stays)
    ∙ ap (λ (x : Following). handed_all eager x ds) (state_none eager s stays)

from_more : (eager : Bool) (s : Following) (ds : List (List ℕ)) → goes_early eager s ≡ true
    → all_from eager s ds ≡ take 1 (frames_in s) ++ all_from eager (without_oldest s) ds
from_more eager s ds goes =
    let t : Following = without_oldest s in
    ap (λ (l : List Handed). l ++ handed_all eager (state_early eager s) ds)
    (handed_more eager s goes)
    ∙ append_assoc (take 1 (frames_in s)) (handed_early eager t)
    (handed_all eager (state_early eager s) ds)
    ∙ ap (λ (x : Following). take 1 (frames_in s) ++ (handed_early eager t ++ handed_all eager x ds))
    (state_more eager s goes)

none_first : first_complete [] ≡ true → ⊥
unfolding first_complete
none_first h = absurd (false≢true h)

one_first : (r : Raster) (rs : List Raster) → first_complete (r ∷ rs) ≡ true
    → is_complete r ≡ true
unfolding first_complete
one_first r rs h = h

module _ (eager : Bool) (o : Opening) (size ahead : ℕ) (zs : List Timed) where
  abbrev Out : List Timed → List Timed → List ℕ → Option ℕ → List ℕ → Type 0
  Out xs ys gone last win = HandsOut eager o size ahead zs xs ys gone last win

  abbrev Goes : List Timed → List Timed → Type 0
  Goes xs ys =
      (gone win : List ℕ) (last : Option ℕ) → IsStage o size ahead xs gone last win
      → HasWent eager o size xs last → Out xs ys gone last win

  abbrev On : List Timed → List Timed → List ℕ → Option ℕ → List ℕ → Type 0
  On xs ys gone last win = HandsOn eager o size ahead zs xs ys gone last win

  -- the oldest isn't complete, or frames don't go early
  stays : (xs ys : List Timed) (gone : List ℕ) (last : Option ℕ) (win : List ℕ)
      → goes_early eager (shaped o size ahead xs last win) ≡ false
      → Out xs ys gone last win → On xs ys gone last win
  stays xs ys gone last win still h = record {
    rest = h.rest;
    order = h.order;
    handed =
        from_still eager (shaped o size ahead xs last win) (octets_of ys) still ∙ h.handed;
  }

  -- the oldest is complete, and goes early
  leaves : (xs ys : List Timed) (gone : List ℕ) (last : Option ℕ) (v : ℕ) (win : List ℕ)
      → goes_early eager (shaped o size ahead xs last (v ∷ win)) ≡ true
      → handed_at o xs v ≡ handed_at o zs v
      → On xs ys (gone ++ v ∷ []) (Some v) win → On xs ys gone last (v ∷ win)
  leaves xs ys gone last v win goes whole h =
      let s : Following = shaped o size ahead xs last (v ∷ win) in
      let one : Handed = handed_at o xs v in
      record {
        rest = v ∷ h.rest;
        order = h.order ∙ append_assoc gone (v ∷ []) h.rest;
        handed =
            from_more eager s (octets_of ys) goes
            ∙ ap (λ (hs : List Handed). one ∷ hs) h.handed
            ∙ ap (λ (x : Handed). x ∷ map (handed_at o zs) h.rest) whole;
      }

  -- all that are complete go, up to one that isn't
  early_on : Settles eager o size zs → (xs ys : List Timed) → zs ≡ xs ++ ys → Goes xs ys
      → (win gone : List ℕ) (last : Option ℕ) (b : Bool)
      → goes_early eager (shaped o size ahead xs last win) ≡ b
      → IsStage o size ahead xs gone last win → HasWent eager o size xs last
      → On xs ys gone last win
  early_on settled xs ys e go win gone last false goes stage went =
      stays xs ys gone last win goes (go gone win last stage went)
  early_on settled xs ys e go [] gone last true goes stage went =
      absurd (none_first (and_parts eager (first_complete []) goes).1)
  early_on settled xs ys e go (v ∷ win) gone last true goes stage went =
      let k = and_parts eager (first_complete (map (frame_at_time o xs) (v ∷ win))) goes in
      let full : is_complete (frame_at_time o xs v) ≡ true =
      one_first (frame_at_time o xs v) (map (frame_at_time o xs) win) k.1 in
      leaves xs ys gone last v win goes (settled.early xs ys v e k.0 full)
      (early_on settled xs ys e go win (gone ++ v ∷ []) (Some v)
      (goes_early eager (shaped o size ahead xs (Some v) win)) refl
      (record {
        times = stage.times ∙ sym (append_assoc gone (v ∷ []) win);
        room = omega (arith, stage.room);
        ends = record { front = gone; is = refl };
      })
      (inr (k.0, full)))

  -- where the oldest was due it goes first
  hand_on : Settles eager o size zs → (xs ys : List Timed) (y : Timed)
      → zs ≡ (xs ++ y ∷ []) ++ ys → (gone : List ℕ) (last : Option ℕ) (v : ℕ) (win new : List ℕ)
      → is_due (shaped o size ahead xs last (v ∷ win)) y.octets ≡ true
      → state_after (shaped o size ahead xs (Some v) win) y.octets
      ≡ shaped o size ahead (xs ++ y ∷ []) (Some v) new
      → handed_at o xs v ≡ handed_at o zs v → Goes (xs ++ y ∷ []) ys
      → IsStage o size ahead (xs ++ y ∷ []) (gone ++ v ∷ []) (Some v) new
      → HasWent eager o size (xs ++ y ∷ []) (Some v) → Out xs (y ∷ ys) gone last (v ∷ win)
  hand_on settled xs ys y e gone last v win new due after whole go stage went =
      let s : Following = shaped o size ahead xs last (v ∷ win) in
      let t : Following = shaped o size ahead (xs ++ y ∷ []) (Some v) new in
      let one : Handed = handed_at o xs v in
      let h : On (xs ++ y ∷ []) ys (gone ++ v ∷ []) (Some v) new =
      early_on settled (xs ++ y ∷ []) ys e go new (gone ++ v ∷ []) (Some v) (goes_early eager t)
      refl stage went in
      record {
        rest = v ∷ h.rest;
        order = h.order ∙ append_assoc gone (v ∷ []) h.rest;
        handed =
            all_turn eager s t y.octets (octets_of ys) (one ∷ [])
            (taken-due s y.octets due ∙ after) (before-due s y.octets due)
            ∙ ap (λ (hs : List Handed). one ∷ hs) h.handed
            ∙ ap (λ (x : Handed). x ∷ map (handed_at o zs) h.rest) whole;
      }

  -- where nothing is due: the oldest go then, if they may
  go_on : Settles eager o size zs → (xs ys : List Timed) (y : Timed) → zs ≡ (xs ++ y ∷ []) ++ ys
      → (gone : List ℕ) (last : Option ℕ) (win new : List ℕ)
      → is_due (shaped o size ahead xs last win) y.octets ≡ false
      → state_after (shaped o size ahead xs last win) y.octets
      ≡ shaped o size ahead (xs ++ y ∷ []) last new
      → Goes (xs ++ y ∷ []) ys → IsStage o size ahead (xs ++ y ∷ []) gone last new
      → HasWent eager o size xs last → Out xs (y ∷ ys) gone last win
  go_on settled xs ys y e gone last win new due after go stage went =
      let s : Following = shaped o size ahead xs last win in
      let t : Following = shaped o size ahead (xs ++ y ∷ []) last new in
      let h : On (xs ++ y ∷ []) ys gone last new =
      early_on settled (xs ++ y ∷ []) ys e go new gone last (goes_early eager t) refl stage
      (still_went eager o size xs y last went) in
      record {
        rest = h.rest;
        order = h.order;
        handed =
            all_turn eager s t y.octets (octets_of ys) [] (taken-on s y.octets due ∙ after)
            (before-on s y.octets due)
            ∙ h.handed;
      }

-- ---- a time that has come before

-- the times in order are as before
again : (o : Opening) (xs : List Timed) (y : Timed) (d : Datagram) → reading_of o y.octets ≡ Ok d
    → IsMember y.time (times_of o xs)
    → in_order (times_of o (xs ++ y ∷ [])) ≡ in_order (times_of o xs)
again o xs y d read m =
    let us : List ℕ = times_of o xs in
    ap in_order (times_at o xs [] y d read) ∙ in_order-more [] us y.time
    ∙ with_time-there y.time (in_order us) (rises_behind [] us tt)
    (order_keeps y.time [] us (inr m))

-- one of a time that has gone leaves the follower
after_over : (o : Opening) (size ahead : ℕ) (xs : List Timed) (y : Timed) (d : Datagram)
    (last : Option ℕ) (win : List ℕ) → reading_of o y.octets ≡ Ok d
    → d.timestamp ≡ wrapped y.time → IsInReach ahead last win y.time → AllNear y.time win
    → (IsMember y.time win → ⊥) → IsOver last y.time
    → state_after (shaped o size ahead xs last win) y.octets
    ≡ shaped o size ahead (xs ++ y ∷ []) last win
after_over o size ahead xs y d last win read stamp within near out over =
    let s : Following = shaped o size ahead xs last win in
    ap (read_in s y.octets) read
    ∙ ap (λ (ts : ℕ). taken_in s y.octets ts (standing_of s ts)) stamp
    ∙ ap (taken_in s y.octets (wrapped y.time))
    (stands-shaped o size ahead xs y.time last win within
    ∙ standing-over y.time win last size near out over)
    ∙ ap (λ (rs : List Raster). record s { frames = rs })
    (map_members (frame_at_time o xs) (frame_at_time o (xs ++ y ∷ [])) win
    (λ v m. frame_kept o v (wrapped v) xs (y ∷ [])
    (λ k. one_more v y.time (reading_of o y.octets) []
    (λ same. out (subst (λ (x : ℕ). IsMember x win) same m)) (λ n. n) k)))

due_over : (o : Opening) (size ahead : ℕ) (xs : List Timed) (y : Timed) (d : Datagram)
    (last : Option ℕ) (win : List ℕ) → reading_of o y.octets ≡ Ok d
    → d.timestamp ≡ wrapped y.time → IsInReach ahead last win y.time → AllNear y.time win
    → (IsMember y.time win → ⊥) → IsOver last y.time
    → is_due (shaped o size ahead xs last win) y.octets ≡ false
due_over o size ahead xs y d last win read stamp within near out over =
    waiting_at o size ahead xs y d last win read stamp
    ∙ ap is_waiting
    (stands-shaped o size ahead xs y.time last win within
    ∙ standing-over y.time win last size near out over)

-- it isn't newer than what went last
is_over : (size u : ℕ) (us gone win : List ℕ) (last : Option ℕ) → IsNext size us u
    → in_order us ≡ gone ++ win → Rises (gone ++ win) → length win ≤ size → Ends gone last
    → IsMember u gone → IsOver last u
is_over size u us gone win None next e h room ends m =
    absurd (subst (λ (xs : List ℕ). IsMember u xs) ends m)
is_over size u us gone win (Some g) next e h room ends m =
    (below_end gone win g h ends u m, near_end size u us gone win g next e h room ends)

-- ---- a time that comes first

less_of : (u v : ℕ) → (u ≡ v → ⊥) → u ≤ v → u < v
less_of u v ne le = omega arith

-- so many that are newer than what went would be newer than one before it
not_before : (size u g : ℕ) (us gone win : List ℕ) → in_order us ≡ gone ++ win
    → Rises (gone ++ win) → EndsIn gone g → u < g → size ≤ length (newer_than g us)
    → length (newer_than u us) < size → ⊥
not_before size u g us gone win e h ends lt many few =
    let here : size ≤ length (filter (later g) (gone ++ win)) =
    subst (λ (vs : List ℕ). size ≤ length (filter (later g) vs)) e many in
    let less : length (filter (later u) (gone ++ win)) < size =
    subst (λ (vs : List ℕ). length (filter (later u) vs) < size) e few in
    let most : length (filter (later g) (gone ++ win)) ≤ length win =
    few_newer g gone win (below_end gone win g h ends) in
    let all : length win ≤ length (filter (later u) (gone ++ win)) =
    many_newer u gone win (λ x m. above x (parts_rise g x gone win h (end_in gone g ends) m)) in
    absurd (omega (arith, here, less, most, all))
  where
    above : (x : ℕ) → g < x → u < x
    above x gt = omega (arith, lt, gt)

-- one that is awaited is newer than what went last
is_past : (eager : Bool) (o : Opening) (size : ℕ) (xs : List Timed) (u : ℕ) (gone win : List ℕ)
    (last : Option ℕ) → IsNext size (times_of o xs) u → in_order (times_of o xs) ≡ gone ++ win
    → Rises (gone ++ win) → length win ≤ size → Ends gone last → HasWent eager o size xs last
    → (IsMember u (times_of o xs) → ⊥) → IsAwaited eager o size xs u → IsPast last u
is_past eager o size xs u gone win None next e h room ends went fresh awaited = tt
is_past eager o size xs u gone win (Some g) next e h room ends went fresh awaited =
    (newer (cases_lt g u), near_end size u us gone win g next e h room ends)
  where
    us : List ℕ
    us = times_of o xs

    inside : IsMember g (times_of o xs)
    inside =
        came g (times_of o xs) (gone ++ win) e (member_left g gone win (end_in gone g ends))

    apart : u ≡ g → ⊥
    apart same = fresh (subst (λ (x : ℕ). IsMember x (times_of o xs)) (sym same) inside)

    passed : u < g → HasWent eager o size xs (Some g) → ⊥
    passed lt (inl many) =
        not_before size u g (times_of o xs) gone win e h ends lt many awaited.few
    passed lt (inr early) = awaited.lacking early.0 g inside lt early.1

    newer : (g < u) ⊎ (u ≤ g) → g < u
    newer (inl lt) = lt
    newer (inr le) = absurd (passed (less_of u g apart le) went)

-- where there is no room it is newer than the oldest
not_oldest : (size u v : ℕ) (us gone win : List ℕ) → in_order us ≡ gone ++ v ∷ win
    → Rises (v ∷ win) → (u ≡ v → ⊥) → size ≤ length (v ∷ win)
    → length (newer_than u us) < size → v < u
not_oldest size u v us gone win e up ne full few = at (cases_lt v u)
  where
    less : length (filter (later u) (gone ++ v ∷ win)) < size
    less = subst (λ (vs : List ℕ). length (filter (later u) vs) < size) e few

    above : u < v → (x : ℕ) → IsMember x (v ∷ win) → u < x
    above lt x (inl same) = omega (arith, lt, same)
    above lt x (inr m) =
        let gt : v < x = all_member (λ y. v < y) x win up.0 m in omega (arith, lt, gt)

    at : (v < u) ⊎ (u ≤ v) → v < u
    at (inl lt) = lt
    at (inr le) =
        let all : length (v ∷ win) ≤ length (filter (later u) (gone ++ v ∷ win)) =
        many_newer u gone (v ∷ win) (above (less_of u v ne le)) in
        absurd (omega (arith, all, less, full))

-- so many newer ones have come
many_come : (size v : ℕ) (us front new : List ℕ) → in_order us ≡ front ++ new
    → size ≤ length new → ((x : ℕ) → IsMember x new → v < x) → size ≤ length (newer_than v us)
many_come size v us front new e full all =
    let k : length new ≤ length (filter (later v) (front ++ new)) = many_newer v front new all in
    subst (λ (vs : List ℕ). size ≤ length (filter (later v) vs)) (sym e) (omega (arith, k, full))

-- ---- the cases

module _ (eager : Bool) (o : Opening) (size ahead : ℕ) (zs : List Timed)
    (settled : Settles eager o size zs) where
  -- one of a time that is in
  step_inside : (xs ys : List Timed) (y : Timed) → zs ≡ (xs ++ y ∷ []) ++ ys → (d : Datagram)
      → reading_of o y.octets ≡ Ok d → d.timestamp ≡ wrapped y.time
      → ComesOn size ahead (times_of o xs) y.time → Goes eager o size ahead zs (xs ++ y ∷ []) ys
      → (gone win : List ℕ) (last : Option ℕ) → IsStage o size ahead xs gone last win
      → HasWent eager o size xs last → IsInReach ahead last win y.time
      → IsMember y.time (times_of o xs) → IsMember y.time win
      → Out eager o size ahead zs xs (y ∷ ys) gone last win
  step_inside xs ys y e d read stamp on go gone win last stage went within came_in m =
      let us : List ℕ = times_of o xs in
      let h : Rises (gone ++ win) = rises o xs gone win stage.times in
      let near : AllNear y.time win =
      near_in size y.time us gone win on.next stage.times h stage.room in
      let up : Rises win = rises_last gone win h in
      go_on eager o size ahead zs settled xs ys y e gone last win win
      (due-inside o size ahead xs y d last win read stamp within near up m)
      (after-inside o size ahead xs y d last win read stamp within near up m) go
      (record {
        times = again o xs y d read came_in ∙ stage.times;
        room = stage.room;
        ends = stage.ends;
      })
      went

  -- one of a time that has gone
  step_over : (xs ys : List Timed) (y : Timed) → zs ≡ (xs ++ y ∷ []) ++ ys → (d : Datagram)
      → reading_of o y.octets ≡ Ok d → d.timestamp ≡ wrapped y.time
      → ComesOn size ahead (times_of o xs) y.time → Goes eager o size ahead zs (xs ++ y ∷ []) ys
      → (gone win : List ℕ) (last : Option ℕ) → IsStage o size ahead xs gone last win
      → HasWent eager o size xs last → IsInReach ahead last win y.time
      → IsMember y.time (times_of o xs) → IsMember y.time gone
      → Out eager o size ahead zs xs (y ∷ ys) gone last win
  step_over xs ys y e d read stamp on go gone win last stage went within came_in m =
      let us : List ℕ = times_of o xs in
      let h : Rises (gone ++ win) = rises o xs gone win stage.times in
      let near : AllNear y.time win =
      near_in size y.time us gone win on.next stage.times h stage.room in
      let out : IsMember y.time win → ⊥ =
      λ k. let lt : y.time < y.time = parts_rise y.time y.time gone win h m k in
      absurd (omega (arith, lt)) in
      let over : IsOver last y.time =
      is_over size y.time us gone win last on.next stage.times h stage.room stage.ends m in
      go_on eager o size ahead zs settled xs ys y e gone last win win
      (due_over o size ahead xs y d last win read stamp within near out over)
      (after_over o size ahead xs y d last win read stamp within near out over) go
      (record {
        times = again o xs y d read came_in ∙ stage.times;
        room = stage.room;
        ends = stage.ends;
      })
      went

  -- one of a new time, where there is room
  step_room : (xs ys : List Timed) (y : Timed) → zs ≡ (xs ++ y ∷ []) ++ ys → (d : Datagram)
      → reading_of o y.octets ≡ Ok d → d.timestamp ≡ wrapped y.time
      → ComesOn size ahead (times_of o xs) y.time → Goes eager o size ahead zs (xs ++ y ∷ []) ys
      → (gone win : List ℕ) (last : Option ℕ) → IsStage o size ahead xs gone last win
      → HasWent eager o size xs last → IsInReach ahead last win y.time
      → (IsMember y.time (times_of o xs) → ⊥) → IsPast last y.time → length win < size
      → Out eager o size ahead zs xs (y ∷ ys) gone last win
  step_room xs ys y e d read stamp on go gone win last stage went within fresh past room =
      let u : ℕ = y.time in
      let us : List ℕ = times_of o xs in
      let h : Rises (gone ++ win) = rises o xs gone win stage.times in
      let near : AllNear u win = near_in size u us gone win on.next stage.times h stage.room in
      let up : Rises win = rises_last gone win h in
      let out : IsMember u win → ⊥ =
      λ m. fresh (came u us (gone ++ win) stage.times (member_right u gone win m)) in
      let new : List ℕ = with_time u win in
      go_on eager o size ahead zs settled xs ys y e gone last win new
      (due-new o size ahead xs y d last win read stamp within near up out past room)
      (after-new o size ahead xs y d last win read stamp within near up out fresh past room)
      go
      (record {
        times =
            order_more o xs y d gone win read stage.times
            (gone_older u gone win last h stage.ends past);
        room = omega (arith, length-with_time u win out, room);
        ends = stage.ends;
      })
      went

  -- what came of the oldest is all, where so many newer ones come on
  all_came : (xs ys : List Timed) (y : Timed) → zs ≡ (xs ++ y ∷ []) ++ ys → (v : ℕ)
      → (v ≡ y.time → ⊥) → size ≤ length (newer_than v (times_of o (xs ++ y ∷ [])))
      → handed_at o xs v ≡ handed_at o zs v
  all_came xs ys y e v ne many =
      kept_whole o v xs (y ∷ [])
      (λ m. one_more v y.time (reading_of o y.octets) [] ne (λ n. n) m)
      ∙ settled.due (xs ++ y ∷ []) ys v e many

  not_same : (v u : ℕ) → v < u → v ≡ u → ⊥
  not_same v u lt same = absurd (omega (arith, lt, same))

  -- where there is none, and the oldest goes
  step_full : (xs ys : List Timed) (y : Timed) → zs ≡ (xs ++ y ∷ []) ++ ys → (d : Datagram)
      → reading_of o y.octets ≡ Ok d → d.timestamp ≡ wrapped y.time
      → ComesOn size ahead (times_of o xs) y.time → Goes eager o size ahead zs (xs ++ y ∷ []) ys
      → (gone : List ℕ) (v : ℕ) (win : List ℕ) (last : Option ℕ)
      → IsStage o size ahead xs gone last (v ∷ win)
      → IsInReach ahead last (v ∷ win) y.time → (IsMember y.time (times_of o xs) → ⊥)
      → IsPast last y.time → length (newer_than y.time (times_of o xs)) < size
      → size ≤ length (v ∷ win) → Out eager o size ahead zs xs (y ∷ ys) gone last (v ∷ win)
  step_full xs ys y e d read stamp on go gone v win last stage within fresh past few full =
      let u : ℕ = y.time in
      let us : List ℕ = times_of o xs in
      let h : Rises (gone ++ v ∷ win) = rises o xs gone (v ∷ win) stage.times in
      let near : AllNear u (v ∷ win) =
      near_in size u us gone (v ∷ win) on.next stage.times h stage.room in
      let up : Rises (v ∷ win) = rises_last gone (v ∷ win) h in
      let out : IsMember u (v ∷ win) → ⊥ =
      λ m. fresh (came u us (gone ++ v ∷ win) stage.times (member_right u gone (v ∷ win) m)) in
      let out_rest : IsMember u win → ⊥ = λ m. out (inr m) in
      let newer : v < u =
      not_oldest size u v us gone win stage.times up (λ same. out (inl same)) full few in
      let new : List ℕ = with_time u win in
      let count : length new ≡ suc (length win) = length-with_time u win out_rest in
      let times : in_order (times_of o (xs ++ y ∷ [])) ≡ (gone ++ v ∷ []) ++ new =
      order_more o xs y d (gone ++ v ∷ []) win read
      (stage.times ∙ sym (append_assoc gone (v ∷ []) win))
      (older_all u v gone (gone_older u gone (v ∷ win) last h stage.ends past) newer) in
      let many : size ≤ length (newer_than v (times_of o (xs ++ y ∷ []))) =
      many_come size v (times_of o (xs ++ y ∷ [])) (gone ++ v ∷ []) new times
      (omega (arith, count, full)) (all_newer_than u v win newer up.0) in
      hand_on eager o size ahead zs settled xs ys y e gone last v win new
      (due-full o size ahead xs y d last v win read stamp within near up out past full newer)
      (after-new o size ahead xs y d (Some v) win read stamp within (λ x m. near x (inr m)) up.1
      out_rest fresh (newer, near v (inl refl)) (omega (arith, stage.room)))
      (all_came xs ys y e v (not_same v u newer) many) go
      (record {
        times = times;
        room = omega (arith, count, stage.room);
        ends = record { front = gone; is = refl };
      })
      (inl many)

  step_new : 0 < size → (xs ys : List Timed) (y : Timed) → zs ≡ (xs ++ y ∷ []) ++ ys
      → (d : Datagram) → reading_of o y.octets ≡ Ok d → d.timestamp ≡ wrapped y.time
      → ComesOn size ahead (times_of o xs) y.time → Goes eager o size ahead zs (xs ++ y ∷ []) ys
      → (gone win : List ℕ) (last : Option ℕ) → IsStage o size ahead xs gone last win
      → HasWent eager o size xs last → IsInReach ahead last win y.time
      → (IsMember y.time (times_of o xs) → ⊥) → IsPast last y.time
      → length (newer_than y.time (times_of o xs)) < size
      → (length win < size) ⊎ (size ≤ length win)
      → Out eager o size ahead zs xs (y ∷ ys) gone last win
  step_new some xs ys y e d read stamp on go gone win last stage went within fresh past few
      (inl room) =
      step_room xs ys y e d read stamp on go gone win last stage went within fresh past room
  step_new some xs ys y e d read stamp on go gone [] last stage went within fresh past few
      (inr full) =
      absurd (omega (arith, some, full))
  step_new some xs ys y e d read stamp on go gone (v ∷ win) last stage went within fresh past few
      (inr full) =
      step_full xs ys y e d read stamp on go gone v win last stage within fresh past few full

  step_came : (xs ys : List Timed) (y : Timed) → zs ≡ (xs ++ y ∷ []) ++ ys
      → (d : Datagram) → reading_of o y.octets ≡ Ok d → d.timestamp ≡ wrapped y.time
      → ComesOn size ahead (times_of o xs) y.time → Goes eager o size ahead zs (xs ++ y ∷ []) ys
      → (gone win : List ℕ) (last : Option ℕ) → IsStage o size ahead xs gone last win
      → HasWent eager o size xs last → IsInReach ahead last win y.time
      → IsMember y.time (times_of o xs) → IsMember y.time gone ⊎ IsMember y.time win
      → Out eager o size ahead zs xs (y ∷ ys) gone last win
  step_came xs ys y e d read stamp on go gone win last stage went within came_in (inl m) =
      step_over xs ys y e d read stamp on go gone win last stage went within came_in m
  step_came xs ys y e d read stamp on go gone win last stage went within came_in (inr m) =
      step_inside xs ys y e d read stamp on go gone win last stage went within came_in m

  step_read : 0 < size → (xs ys : List Timed) (y : Timed) → zs ≡ (xs ++ y ∷ []) ++ ys
      → (d : Datagram) → reading_of o y.octets ≡ Ok d → d.timestamp ≡ wrapped y.time
      → ComesOn size ahead (times_of o xs) y.time → Goes eager o size ahead zs (xs ++ y ∷ []) ys
      → (gone win : List ℕ) (last : Option ℕ) → IsStage o size ahead xs gone last win
      → HasWent eager o size xs last → IsInReach ahead last win y.time
      → IsMember y.time (times_of o xs) ⊎ (IsMember y.time (times_of o xs) → ⊥)
      → ((IsMember y.time (times_of o xs) → ⊥) → IsAwaited eager o size xs y.time)
      → Out eager o size ahead zs xs (y ∷ ys) gone last win
  step_read some xs ys y e d read stamp on go gone win last stage went within (inl m) first =
      step_came xs ys y e d read stamp on go gone win last stage went within m
      (in_parts (times_of o xs) gone win y.time stage.times m)
  step_read some xs ys y e d read stamp on go gone win last stage went within (inr fresh) first =
      let awaited : IsAwaited eager o size xs y.time = first fresh in
      step_new some xs ys y e d read stamp on go gone win last stage went within fresh
      (is_past eager o size xs y.time gone win last on.next stage.times
      (rises o xs gone win stage.times) stage.room stage.ends went fresh awaited)
      awaited.few (cases_lt (length win) size)

  -- octets that are refused
  step_refused : (xs ys : List Timed) (y : Timed) → zs ≡ (xs ++ y ∷ []) ++ ys → (f : Refusal)
      → reading_of o y.octets ≡ Err f → Goes eager o size ahead zs (xs ++ y ∷ []) ys
      → (gone win : List ℕ) (last : Option ℕ) → IsStage o size ahead xs gone last win
      → HasWent eager o size xs last → Out eager o size ahead zs xs (y ∷ ys) gone last win
  step_refused xs ys y e f read go gone win last stage went =
      go_on eager o size ahead zs settled xs ys y e gone last win win
      (due-refused o size ahead xs y f last win read)
      (after-refused o size ahead xs y f last win read) go
      (record {
        times = ap in_order (times_refused o xs y f read) ∙ stage.times;
        room = stage.room;
        ends = stage.ends;
      })
      went

-- ---- whole lists

module _ (eager : Bool) (o : Opening) (size ahead : ℕ) (zs : List Timed) (some : 0 < size)
    (timed : AreTimed o zs) (nearby : AreNearby size (times_of o zs))
    (prompt : IsPrompt eager o size ahead zs) (settled : Settles eager o size zs) where
  step : (xs ys : List Timed) (y : Timed) → zs ≡ xs ++ y ∷ ys
      → (r : Result Datagram Refusal) → reading_of o y.octets ≡ r
      → Goes eager o size ahead zs (xs ++ y ∷ []) ys → Goes eager o size ahead zs xs (y ∷ ys)
  step xs ys y e (Err f) read go gone win last stage went =
      step_refused eager o size ahead zs settled xs ys y
      (e ∙ sym (append_assoc xs (y ∷ []) ys)) f read go gone win last stage went
  step xs ys y e (Ok d) read go gone win last stage went =
      let us : List ℕ = times_of o xs in
      let h : Rises (gone ++ win) = rises o xs gone win stage.times in
      let split : times_of o zs ≡ us ++ y.time ∷ times_of o ys =
      ap (times_of o) e ∙ times_at o xs ys y d read in
      let on : ComesOn size ahead us y.time = record {
        next = record { near = λ v m few. nearby us (times_of o ys) y.time v split m few };
        within = λ v g. prompt.within us (times_of o ys) y.time v split g;
      } in
      step_read eager o size ahead zs settled some xs ys y
      (e ∙ sym (append_assoc xs (y ∷ []) ys)) d read
      (timed y d
      (subst (λ (l : List Timed). IsMember y l) (sym e) (member_right y xs (y ∷ ys) (inl refl)))
      read)
      on go gone win last stage went
      (in_reach size ahead y.time us gone win last on.next.near on.within stage.times h stage.ends)
      (cases_member y.time us) (first_awaited eager o size ahead zs xs ys y d prompt e read)

  goes : (ys xs : List Timed) → zs ≡ xs ++ ys → Goes eager o size ahead zs xs ys
  goes [] xs e = λ gone win last stage went. record {
    rest = win;
    order = ap (λ (l : List Timed). in_order (times_of o l)) (e ∙ append-nil xs) ∙ stage.times;
    handed =
        frames_in-shaped o xs win
        ∙ ap (λ (l : List Timed). map (handed_at o l) win) (sym (e ∙ append-nil xs));
  }
  goes (y ∷ ys) xs e =
      step xs ys y e (reading_of o y.octets) refl
      (goes ys (xs ++ y ∷ []) (e ∙ sym (append_assoc xs (y ∷ []) ys)))

-- What is handed out of a prompt stream, early or as it is due, is the frame of each of its times,
-- in rising order, of all datagrams of that time.
pub prompt_stream : (eager : Bool) (o : Opening) (size ahead : ℕ) (zs : List Timed) → 0 < size
    → AreTimed o zs → AreNearby size (times_of o zs) → IsPrompt eager o size ahead zs
    → (eager ≡ true → AreAgreed o zs)
    → handed_all eager (opened o size ahead) (octets_of zs)
    ≡ map (handed_at o zs) (in_order (times_of o zs))
prompt_stream eager o size ahead zs some timed nearby prompt agreed =
    let h : HandsOut eager o size ahead zs [] zs [] None [] =
    goes eager o size ahead zs some timed nearby prompt
    (settles eager o size ahead zs prompt agreed)
    zs [] refl [] [] None
    (record { times = refl; room = omega arith; ends = refl }) tt in
    h.handed ∙ ap (λ (us : List ℕ). map (handed_at o zs) us) (sym h.order)

-- So a sink is shown that, and what is in.
pub prompt_turned : (eager : Bool) (s t : Following) (o : Opening) (xs : List Timed)
    (ds : List (List ℕ)) (old new missed : List Handed) → 0 < s.size
    → ShowsAll old new missed (handed_while eager s ds) → t ≡ state_behind eager s ds
    → s ≡ opened o s.size s.most_ahead → octets_of xs ≡ ds → AreTimed o xs
    → AreNearby s.size (times_of o xs) → IsPrompt eager o s.size s.most_ahead xs
    → (eager ≡ true → AreAgreed o xs)
    → ShowsAll old new (missed ++ frames_in t) (map (handed_at o xs) (in_order (times_of o xs)))
prompt_turned eager s t o xs ds old new missed some shown state same octets timed nearby prompt
    agreed =
    with_rest old new missed (handed_while eager s ds) (frames_in t)
    (map (handed_at o xs) (in_order (times_of o xs))) shown
    (ap (λ (u : Following). handed_while eager s ds ++ frames_in u) state
    ∙ ap (λ (u : Following). handed_all eager u ds) same
    ∙ ap (λ (es : List (List ℕ)). handed_all eager (opened o s.size s.most_ahead) es) (sym octets)
    ∙ prompt_stream eager o s.size s.most_ahead xs some timed nearby prompt agreed)
