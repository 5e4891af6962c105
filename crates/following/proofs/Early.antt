-- What is handed out where frames may go early, and no datagram is late.
use Rattle.std.proofs.Common.{◌≡◌, ℕ, suc, ◌<◌, ◌≤◌, ◌⊎◌, inl, inr, Bool, true, false, cond}
use Rattle.std.proofs.Common.{◌&&◌, eqb, List, [], ◌∷◌, ◌++◌, length, map, take, drop, Option, None}
use Rattle.std.proofs.Common.{Some, Result, Ok, Err, refl, sym, ap, ◌∙◌, subst, arith, append_assoc}
use Rattle.std.proofs.Common.{append-nil}
use Rattle.std.specs.List.{list_all}
use Rattle.std.proofs.lemmas.Bool.{cases_lt, le-ltb}
use Rattle.st_format.specs.Member.{IsMember}
use Rattle.st_format.specs.Raster.{Raster}
use Rattle.st_format.proofs.Members.{member_left, member_right}
use Rattle.path_receiver.specs.declared.answer.Refusal.{Refusal}
use Rattle.path_receiver.specs.Grammar.{Datagram}
use Rattle.path_receiver.specs.Opening.{Opening}
use Rattle.following.specs.declared.answer.Followed.TheVariants.{Far, Late}
use Rattle.following.specs.declared.standing.Standing.{Standing}
use Rattle.following.specs.declared.standing.Standing.TheVariants.{Beyond, Inside, New, Waits}
use Rattle.following.specs.declared.standing.Standing.TheVariants.{Nowhere}
use Rattle.following.specs.Acts.{Act, AreNearby, NoneLost, handed_by, taken_of}
use Rattle.following.specs.Acts.Act.{Takes, Hands}
use Rattle.following.specs.Serial.{is_newer, wrapped}
use Rattle.following.specs.declared.answer.Followed.{Followed}
use Rattle.following.specs.Standing.{entry_at, is_beyond, newest_in, standing_at, standing_in}
use Rattle.following.specs.Standing.{standing_near}
use Rattle.following.specs.Follower.{Following, answer_to, followed_at, opened, reading_of}
use Rattle.following.specs.Follower.{standing_of, state_after, without_oldest}
use Rattle.following.specs.Following.{Handed, frames_in, is_due, is_waiting}
use Rattle.following.specs.Times.{AreTimed, IsNear, Timed, handed_at, in_order, newer_than, time_if}
use Rattle.following.specs.Times.{times_of, with_time}
use Rattle.following.proofs.FrameLemmas.{frame_kept}
use Rattle.following.proofs.Insertions.{AllNear, IsInReach, IsPast, count_older, not_there}
use Rattle.following.proofs.Insertions.{place_near}
use Rattle.following.proofs.Insertions.{standing-new, wrapped_if}
use Rattle.following.proofs.Near.{newer-near}
use Rattle.following.proofs.Ordered.{Rises, length-with_time, parts_rise}
use Rattle.following.proofs.Ordered.{rises_last, with_time-there}
use Rattle.following.proofs.Streams.{Ends, EndsIn, below_end, came, cases_member, end_in, few_at}
use Rattle.following.proofs.Streams.{fresh_is, older_all, order_more, rises, times_at}
use Rattle.following.proofs.Streams.{times_refused}
use Rattle.following.proofs.Taken.{answer-for}
use Rattle.following.proofs.Windows.{after-inside, after-new, after-refused, due-full, due-inside}
use Rattle.following.proofs.Windows.{due-new, due-refused, frames_in-shaped, shaped, stands-shaped}
use Rattle.following.proofs.Windows.{waiting_at}

-- ---- what has gone, and what is in

pub record IsStage (o : Opening) (size ahead : ℕ) (xs : List Timed) (gone : List ℕ) (last : Option ℕ)
    (win : List ℕ) : Type 0 where
  pub times : in_order (times_of o xs) ≡ gone ++ win
  pub room : length win ≤ size
  pub ends : Ends gone last

-- what is handed out from there on is the rest, and none of what has gone comes again
record HandsOut (o : Opening) (size ahead : ℕ) (xs : List Timed) (acts : List Act) (gone : List ℕ)
    (last : Option ℕ) (win : List ℕ) : Type 0 where
  rest : List ℕ
  order : in_order (times_of o (xs ++ taken_of acts)) ≡ gone ++ rest
  handed : handed_by (shaped o size ahead xs last win) acts
      ≡ map (handed_at o (xs ++ taken_of acts)) rest
  over : (x : ℕ) → IsMember x gone → IsMember x (times_of o (taken_of acts)) → ⊥

-- what is near the time that comes next
pub record IsNext (size : ℕ) (us : List ℕ) (u : ℕ) : Type 0 where
  pub near : (v : ℕ) → IsMember v us → length (newer_than v us) ≤ size → IsNear u v

is_next : (o : Opening) (size ahead : ℕ) (xs ys : List Timed) (y : Timed) (d : Datagram)
    → reading_of o y.octets ≡ Ok d → AreNearby size (times_of o (xs ++ y ∷ ys))
    → IsNext size (times_of o xs) y.time
is_next o size ahead xs ys y d read nearby = record {
  near = λ v m few. nearby (times_of o xs) (times_of o ys) y.time v (times_at o xs ys y d read)
      m few;
}

le_of : (x v : ℕ) → x < v → x ≤ v
le_of x v lt = omega arith

pub near_in : (size u : ℕ) (us gone win : List ℕ) → IsNext size us u → in_order us ≡ gone ++ win
    → Rises (gone ++ win) → length win ≤ size → AllNear u win
near_in size u us gone win next e h room v m =
    next.near v (came v us (gone ++ win) e (member_right v gone win m))
    (few_at size v us gone win e room (λ x k. le_of x v (parts_rise x v gone win h k m)))

pub near_end : (size u : ℕ) (us gone win : List ℕ) (g : ℕ) → IsNext size us u
    → in_order us ≡ gone ++ win → Rises (gone ++ win) → length win ≤ size → EndsIn gone g
    → IsNear u g
near_end size u us gone win g next e h room ends =
    next.near g (came g us (gone ++ win) e (member_left g gone win (end_in gone g ends)))
    (few_at size g us gone win e room (below_end gone win g h ends))

-- a time is newer than what has gone, or not
abbrev pub IsOver : Option ℕ → ℕ → Type 0
IsOver None u = ⊥
IsOver (Some g) u = (u ≤ g) × IsNear u g

past_or_over : (size u : ℕ) (us gone win : List ℕ) (last : Option ℕ) → IsNext size us u
    → in_order us ≡ gone ++ win → Rises (gone ++ win) → length win ≤ size → Ends gone last
    → IsPast last u ⊎ IsOver last u
past_or_over size u us gone win None next e h room ends = inl tt
past_or_over size u us gone win (Some g) next e h room ends =
    at (cases_lt g u) (near_end size u us gone win g next e h room ends)
  where
    at : (g < u) ⊎ (u ≤ g) → IsNear u g → IsPast (Some g) u ⊎ IsOver (Some g) u
    at (inl lt) near = inl (lt, near)
    at (inr le) near = inr (le, near)

pub gone_older : (u : ℕ) (gone win : List ℕ) (last : Option ℕ) → Rises (gone ++ win)
    → Ends gone last → IsPast last u → (x : ℕ) → IsMember x gone → x < u
gone_older u gone win None h ends past x m =
    absurd (subst (λ (xs : List ℕ). IsMember x xs) ends m)
gone_older u gone win (Some g) h ends past x m =
    let le : x ≤ g = below_end gone win g h ends x m in
    let lt : g < u = past.0 in omega (arith, le, lt)

-- ---- one that has no place is late

pub standing-over : (u : ℕ) (vs : List ℕ) (last : Option ℕ) (size : ℕ) → AllNear u vs
    → (IsMember u vs → ⊥) → IsOver last u
    → standing_in (map wrapped vs) (wrapped_if last) size (wrapped u) ≡ Nowhere
standing-over u vs None size near out over = absurd over
standing-over u vs (Some g) size near out over =
    let w : List ℕ = map wrapped vs in
    let ts : ℕ = wrapped u in
    let c : ℕ = count_older u vs in
    let all : Bool = list_all (λ t. is_newer t ts) (drop c w) in
    ap (λ (p : ℕ). standing_at w (Some (wrapped g)) size ts p) (place_near u vs near)
    ∙ ap (λ (b : Bool). cond b (Inside c)
    (cond (is_newer ts (wrapped g) && all) (entry_at (length w) size c) Nowhere))
    (not_there u vs c near out)
    ∙ ap (λ (b : Bool). cond (b && all) (entry_at (length w) size c) Nowhere)
    (newer-near u g over.1 ∙ le-ltb g u over.0)

abbrev ready_by : Following → Bool → Following
ready_by s b = cond b (without_oldest s) s

-- where nothing waits, the answer says where it stands
answers : (o : Opening) (size ahead : ℕ) (xs : List Timed) (y : Timed) (d : Datagram)
    (last : Option ℕ) (win : List ℕ) (x : Standing) (f : Followed) → reading_of o y.octets ≡ Ok d
    → d.timestamp ≡ wrapped y.time
    → standing_of (shaped o size ahead xs last win) (wrapped y.time) ≡ x → is_waiting x ≡ false
    → followed_at d.number x ≡ f
    → answer_to (ready_by (shaped o size ahead xs last win)
    (is_due (shaped o size ahead xs last win) y.octets))
    y.octets
    ≡ Ok f
answers o size ahead xs y d last win x f read stamp stands still says =
    let s : Following = shaped o size ahead xs last win in
    ap (λ (b : Bool). answer_to (ready_by s b) y.octets)
    (waiting_at o size ahead xs y d last win read stamp ∙ ap is_waiting stands ∙ still)
    ∙ answer-for s y.octets d read
    ∙ ap (λ (ts : ℕ). Ok (followed_at d.number (standing_of s ts))) stamp
    ∙ ap (λ (z : Standing). Ok (followed_at d.number z)) stands
    ∙ ap (λ (g : Followed). Ok g) says

is_late : (o : Opening) (size ahead : ℕ) (xs : List Timed) (y : Timed) (d : Datagram)
    (last : Option ℕ) (win : List ℕ) → reading_of o y.octets ≡ Ok d
    → d.timestamp ≡ wrapped y.time → IsInReach ahead last win y.time
    → standing_in (map wrapped win) (wrapped_if last) size (wrapped y.time) ≡ Nowhere
    → answer_to (ready_by (shaped o size ahead xs last win)
    (is_due (shaped o size ahead xs last win) y.octets))
    y.octets
    ≡ Ok Late
is_late o size ahead xs y d last win read stamp within nowhere =
    answers o size ahead xs y d last win Nowhere Late read stamp
    (stands-shaped o size ahead xs y.time last win within ∙ nowhere) refl refl

is_far : (o : Opening) (size ahead : ℕ) (xs : List Timed) (y : Timed) (d : Datagram)
    (last : Option ℕ) (win : List ℕ) → reading_of o y.octets ≡ Ok d
    → d.timestamp ≡ wrapped y.time
    → is_beyond (newest_in (wrapped_if last) (map wrapped win)) ahead (wrapped y.time) ≡ true
    → answer_to (ready_by (shaped o size ahead xs last win)
    (is_due (shaped o size ahead xs last win) y.octets))
    y.octets
    ≡ Ok Far
is_far o size ahead xs y d last win read stamp beyond =
    answers o size ahead xs y d last win Beyond Far read stamp
    (ap (λ (b : Bool). standing_near b
    (standing_in (map wrapped win) (wrapped_if last) size (wrapped y.time))) beyond)
    refl refl

-- ---- one act, and the rest

abbrev go_from : Following → List ℕ → List Act → Bool → List Handed
go_from s octets acts b =
    cond b (take 1 (frames_in s)) [] ++ handed_by (state_after (ready_by s b) octets) acts

abbrev NoneLostFrom : Following → List ℕ → List Act → Bool → Type 0
NoneLostFrom s octets acts b = NoneLost (state_after (ready_by s b) octets) acts

abbrev Goes : Opening → ℕ → ℕ → List Timed → List Act → Type 0
Goes o size ahead xs acts =
    (gone win : List ℕ) (last : Option ℕ) → IsStage o size ahead xs gone last win
    → NoneLost (shaped o size ahead xs last win) acts → HandsOut o size ahead xs acts gone last win

pub one_more : (x u : ℕ) (r : Result Datagram Refusal) (vs : List ℕ) → (x ≡ u → ⊥)
    → (IsMember x vs → ⊥) → IsMember x (time_if u r ++ vs) → ⊥
one_more x u (Ok d) vs ne out (inl e) = ne e
one_more x u (Ok d) vs ne out (inr m) = out m
one_more x u (Err e) vs ne out m = out m

pub after_refused : (x u : ℕ) (r : Result Datagram Refusal) (e : Refusal) (vs : List ℕ) → r ≡ Err e
    → (IsMember x vs → ⊥) → IsMember x (time_if u r ++ vs) → ⊥
after_refused x u (Ok d) e vs h out m = absurd cc
after_refused x u (Err f) e vs h out m = out m

-- where nothing is due
go_on : (o : Opening) (size ahead : ℕ) (xs : List Timed) (acts : List Act) (y : Timed) (gone : List ℕ)
    (last : Option ℕ) (win new : List ℕ)
    → is_due (shaped o size ahead xs last win) y.octets ≡ false
    → state_after (shaped o size ahead xs last win) y.octets ≡ shaped o size ahead (xs ++ y ∷ []) last new
    → NoneLost (shaped o size ahead xs last win) (Takes y ∷ acts)
    → ((x : ℕ) → IsMember x gone → (IsMember x (times_of o (taken_of acts)) → ⊥)
    → IsMember x (times_of o (y ∷ taken_of acts)) → ⊥)
    → (NoneLost (shaped o size ahead (xs ++ y ∷ []) last new) acts
    → HandsOut o size ahead (xs ++ y ∷ []) acts gone last new)
    → HandsOut o size ahead xs (Takes y ∷ acts) gone last win
go_on o size ahead xs acts y gone last win new due after none apart go =
    let s : Following = shaped o size ahead xs last win in
    let later : NoneLost (shaped o size ahead (xs ++ y ∷ []) last new) acts =
    subst (λ (t : Following). NoneLost t acts) after
    (subst (λ (b : Bool). NoneLostFrom s y.octets acts b) due none.2) in
    let h : HandsOut o size ahead (xs ++ y ∷ []) acts gone last new = go later in
    let whole : (xs ++ y ∷ []) ++ taken_of acts ≡ xs ++ y ∷ taken_of acts =
    append_assoc xs (y ∷ []) (taken_of acts) in
    record {
      rest = h.rest;
      order = ap (λ (zs : List Timed). in_order (times_of o zs)) (sym whole) ∙ h.order;
      handed =
          ap (go_from s y.octets acts) due ∙ ap (λ (t : Following). handed_by t acts) after
          ∙ h.handed ∙ ap (λ (zs : List Timed). map (handed_at o zs) h.rest) whole;
      over = λ x m. apart x m (h.over x m);
    }

abbrev handed : ℕ → Raster → Handed
handed v frame = record { timestamp = wrapped v; frame = frame }

-- the frame that goes is that of the whole
pub kept_whole : (o : Opening) (v : ℕ) (xs zs : List Timed) → (IsMember v (times_of o zs) → ⊥)
    → handed_at o xs v ≡ handed_at o (xs ++ zs) v
kept_whole o v xs zs over = ap (λ (r : Raster). handed v r) (frame_kept o v (wrapped v) xs zs over)

in_gone : (v : ℕ) (gone : List ℕ) → IsMember v (gone ++ v ∷ [])
in_gone v gone = member_right v gone (v ∷ []) (inl refl)

-- where the oldest is due
hand_on : (o : Opening) (size ahead : ℕ) (xs : List Timed) (acts : List Act) (y : Timed)
    (gone : List ℕ) (last : Option ℕ) (v : ℕ) (win new : List ℕ)
    → is_due (shaped o size ahead xs last (v ∷ win)) y.octets ≡ true
    → state_after (shaped o size ahead xs (Some v) win) y.octets
    ≡ shaped o size ahead (xs ++ y ∷ []) (Some v) new
    → NoneLost (shaped o size ahead xs last (v ∷ win)) (Takes y ∷ acts)
    → ((x : ℕ) → IsMember x (gone ++ v ∷ []) → (IsMember x (times_of o (taken_of acts)) → ⊥)
    → IsMember x (times_of o (y ∷ taken_of acts)) → ⊥)
    → (NoneLost (shaped o size ahead (xs ++ y ∷ []) (Some v) new) acts
    → HandsOut o size ahead (xs ++ y ∷ []) acts (gone ++ v ∷ []) (Some v) new)
    → HandsOut o size ahead xs (Takes y ∷ acts) gone last (v ∷ win)
hand_on o size ahead xs acts y gone last v win new due after none apart go =
    let s : Following = shaped o size ahead xs last (v ∷ win) in
    let later : NoneLost (shaped o size ahead (xs ++ y ∷ []) (Some v) new) acts =
    subst (λ (t : Following). NoneLost t acts) after
    (subst (λ (b : Bool). NoneLostFrom s y.octets acts b) due none.2) in
    let h : HandsOut o size ahead (xs ++ y ∷ []) acts (gone ++ v ∷ []) (Some v) new = go later in
    let whole : (xs ++ y ∷ []) ++ taken_of acts ≡ xs ++ y ∷ taken_of acts =
    append_assoc xs (y ∷ []) (taken_of acts) in
    let one : handed_at o xs v ≡ handed_at o (xs ++ y ∷ taken_of acts) v =
    kept_whole o v xs (y ∷ taken_of acts)
    (apart v (in_gone v gone) (h.over v (in_gone v gone))) in
    record {
      rest = v ∷ h.rest;
      order =
          ap (λ (zs : List Timed). in_order (times_of o zs)) (sym whole) ∙ h.order
          ∙ append_assoc gone (v ∷ []) h.rest;
      handed =
          ap (go_from s y.octets acts) due
          ∙ ap (λ (t : Following). handed_at o xs v ∷ handed_by t acts) after
          ∙ ap (λ (hs : List Handed). handed_at o xs v ∷ hs)
          (h.handed ∙ ap (λ (zs : List Timed). map (handed_at o zs) h.rest) whole)
          ∙ ap (λ (x : Handed). x ∷ map (handed_at o (xs ++ y ∷ taken_of acts)) h.rest) one;
      over =
          λ x m. apart x (member_left x gone (v ∷ []) m)
          (h.over x (member_left x gone (v ∷ []) m));
    }

-- ---- the cases

not_newer : (x u : ℕ) → x < u → x ≡ u → ⊥
not_newer x u lt e = absurd (omega (arith, lt, e))

step_inside : (o : Opening) (size ahead : ℕ) (xs : List Timed) (acts : List Act) (y : Timed)
    (d : Datagram) → reading_of o y.octets ≡ Ok d → d.timestamp ≡ wrapped y.time
    → IsNext size (times_of o xs) y.time → Goes o size ahead (xs ++ y ∷ []) acts
    → (gone win : List ℕ) (last : Option ℕ) → IsStage o size ahead xs gone last win
    → NoneLost (shaped o size ahead xs last win) (Takes y ∷ acts)
    → IsInReach ahead last win y.time → IsMember y.time win
    → HandsOut o size ahead xs (Takes y ∷ acts) gone last win
step_inside o size ahead xs acts y d read stamp next go gone win last stage none within m =
    let u : ℕ = y.time in
    let us : List ℕ = times_of o xs in
    let h : Rises (gone ++ win) = rises o xs gone win stage.times in
    let near : AllNear u win = near_in size u us gone win next stage.times h stage.room in
    let up : Rises win = rises_last gone win h in
    let more : IsStage o size ahead (xs ++ y ∷ []) gone last win = record {
      times =
          order_more o xs y d gone win read stage.times
          (λ x k. parts_rise x u gone win h k m)
          ∙ ap (λ (vs : List ℕ). gone ++ vs) (with_time-there u win up m);
      room = stage.room;
      ends = stage.ends;
    } in
    go_on o size ahead xs acts y gone last win win
    (due-inside o size ahead xs y d last win read stamp within near up m)
    (after-inside o size ahead xs y d last win read stamp within near up m) none
    (λ x k. one_more x u (reading_of o y.octets) (times_of o (taken_of acts))
    (not_newer x u (parts_rise x u gone win h k m)))
    (go gone win last more)

step_room : (o : Opening) (size ahead : ℕ) (xs : List Timed) (acts : List Act) (y : Timed)
    (d : Datagram) → reading_of o y.octets ≡ Ok d → d.timestamp ≡ wrapped y.time
    → IsNext size (times_of o xs) y.time → Goes o size ahead (xs ++ y ∷ []) acts
    → (gone win : List ℕ) (last : Option ℕ) → IsStage o size ahead xs gone last win
    → NoneLost (shaped o size ahead xs last win) (Takes y ∷ acts)
    → IsInReach ahead last win y.time → (IsMember y.time win → ⊥)
    → IsPast last y.time → length win < size → HandsOut o size ahead xs (Takes y ∷ acts) gone last win
step_room o size ahead xs acts y d read stamp next go gone win last stage none within out past room =
    let u : ℕ = y.time in
    let us : List ℕ = times_of o xs in
    let h : Rises (gone ++ win) = rises o xs gone win stage.times in
    let near : AllNear u win = near_in size u us gone win next stage.times h stage.room in
    let up : Rises win = rises_last gone win h in
    let less = gone_older u gone win last h stage.ends past in
    let fresh = fresh_is u us gone win stage.times less out in
    let new : List ℕ = with_time u win in
    let more : IsStage o size ahead (xs ++ y ∷ []) gone last new = record {
      times = order_more o xs y d gone win read stage.times less;
      room = omega (arith, length-with_time u win out, room);
      ends = stage.ends;
    } in
    go_on o size ahead xs acts y gone last win new
    (due-new o size ahead xs y d last win read stamp within near up out past room)
    (after-new o size ahead xs y d last win read stamp within near up out fresh past room) none
    (λ x k. one_more x u (reading_of o y.octets) (times_of o (taken_of acts))
    (not_newer x u (less x k)))
    (go gone new last more)

step_full : (o : Opening) (size ahead : ℕ) (xs : List Timed) (acts : List Act) (y : Timed)
    (d : Datagram) → reading_of o y.octets ≡ Ok d → d.timestamp ≡ wrapped y.time
    → IsNext size (times_of o xs) y.time → Goes o size ahead (xs ++ y ∷ []) acts
    → (gone : List ℕ) (v : ℕ) (win : List ℕ) (last : Option ℕ)
    → IsStage o size ahead xs gone last (v ∷ win)
    → NoneLost (shaped o size ahead xs last (v ∷ win)) (Takes y ∷ acts)
    → IsInReach ahead last (v ∷ win) y.time
    → (IsMember y.time (v ∷ win) → ⊥) → IsPast last y.time → size ≤ length (v ∷ win)
    → v < y.time → HandsOut o size ahead xs (Takes y ∷ acts) gone last (v ∷ win)
step_full o size ahead xs acts y d read stamp next go gone v win last stage none within out past full newer =
    let u : ℕ = y.time in
    let us : List ℕ = times_of o xs in
    let h : Rises (gone ++ v ∷ win) = rises o xs gone (v ∷ win) stage.times in
    let near : AllNear u (v ∷ win) =
    near_in size u us gone (v ∷ win) next stage.times h stage.room in
    let up : Rises (v ∷ win) = rises_last gone (v ∷ win) h in
    let less = gone_older u gone (v ∷ win) last h stage.ends past in
    let fresh = fresh_is u us gone (v ∷ win) stage.times less out in
    let out_rest : IsMember u win → ⊥ = λ m. out (inr m) in
    let new : List ℕ = with_time u win in
    let count : length new ≡ suc (length win) = length-with_time u win out_rest in
    let parts : in_order us ≡ (gone ++ v ∷ []) ++ win =
    stage.times ∙ sym (append_assoc gone (v ∷ []) win) in
    let all = older_all u v gone less newer in
    let more : IsStage o size ahead (xs ++ y ∷ []) (gone ++ v ∷ []) (Some v) new = record {
      times = order_more o xs y d (gone ++ v ∷ []) win read parts all;
      room = omega (arith, count, stage.room);
      ends = record { front = gone; is = refl };
    } in
    hand_on o size ahead xs acts y gone last v win new
    (due-full o size ahead xs y d last v win read stamp within near up out past full newer)
    (after-new o size ahead xs y d (Some v) win read stamp within (λ x m. near x (inr m)) up.1 out_rest fresh
    (newer, near v (inl refl)) (omega (arith, stage.room)))
    none
    (λ x k. one_more x u (reading_of o y.octets) (times_of o (taken_of acts))
    (not_newer x u (all x k)))
    (go (gone ++ v ∷ []) new (Some v) more)

-- older than all, and no room
oldest_late : (u v : ℕ) (win : List ℕ) (last : Option ℕ) (size : ℕ) → AllNear u (v ∷ win)
    → Rises (v ∷ win) → (IsMember u (v ∷ win) → ⊥) → IsPast last u → size ≤ length (v ∷ win)
    → u ≤ v
    → standing_in (map wrapped (v ∷ win)) (wrapped_if last) size (wrapped u) ≡ Nowhere
oldest_late u v win last size near up out past full le =
    standing-new u (v ∷ win) last size near up out past
    ∙ ap (λ (b : Bool). cond b (New (count_older u (v ∷ win)))
    (cond (eqb (count_older u (v ∷ win)) 0) Nowhere Waits))
    (le-ltb (length (v ∷ win)) size full)
    ∙ ap (λ (b : Bool). cond (eqb (cond b (suc (count_older u win)) 0) 0) Nowhere Waits)
    (le-ltb v u le)

step_new : (o : Opening) (size ahead : ℕ) → 0 < size → (xs : List Timed) (acts : List Act) (y : Timed)
    (d : Datagram) → reading_of o y.octets ≡ Ok d → d.timestamp ≡ wrapped y.time
    → IsNext size (times_of o xs) y.time → Goes o size ahead (xs ++ y ∷ []) acts
    → (gone win : List ℕ) (last : Option ℕ) → IsStage o size ahead xs gone last win
    → NoneLost (shaped o size ahead xs last win) (Takes y ∷ acts)
    → IsInReach ahead last win y.time → (IsMember y.time win → ⊥)
    → IsPast last y.time → (length win < size) ⊎ (size ≤ length win)
    → HandsOut o size ahead xs (Takes y ∷ acts) gone last win
step_new o size ahead some xs acts y d read stamp next go gone win last stage none within out past (inl room) =
    step_room o size ahead xs acts y d read stamp next go gone win last stage none within out past room
step_new o size ahead some xs acts y d read stamp next go gone [] last stage none within out past (inr full) =
    absurd (omega (arith, some, full))
step_new o size ahead some xs acts y d read stamp next go gone (v ∷ win) last stage none within out past (inr full) =
    at (cases_lt v y.time)
    (λ lt. step_full o size ahead xs acts y d read stamp next go gone v win last stage none within out past full lt)
  where
    at : (v < y.time) ⊎ (y.time ≤ v)
        → (v < y.time → HandsOut o size ahead xs (Takes y ∷ acts) gone last (v ∷ win))
        → HandsOut o size ahead xs (Takes y ∷ acts) gone last (v ∷ win)
    at (inl lt) then = then lt
    at (inr le) then =
        let h : Rises (gone ++ v ∷ win) = rises o xs gone (v ∷ win) stage.times in
        absurd (none.0 (is_late o size ahead xs y d last (v ∷ win) read stamp within
        (oldest_late y.time v win last size
        (near_in size y.time (times_of o xs) gone (v ∷ win) next stage.times h stage.room)
        (rises_last gone (v ∷ win) h) out past full le)))

step_out : (o : Opening) (size ahead : ℕ) → 0 < size → (xs : List Timed) (acts : List Act) (y : Timed)
    (d : Datagram) → reading_of o y.octets ≡ Ok d → d.timestamp ≡ wrapped y.time
    → IsNext size (times_of o xs) y.time → Goes o size ahead (xs ++ y ∷ []) acts
    → (gone win : List ℕ) (last : Option ℕ) → IsStage o size ahead xs gone last win
    → NoneLost (shaped o size ahead xs last win) (Takes y ∷ acts)
    → IsInReach ahead last win y.time → (IsMember y.time win → ⊥)
    → IsPast last y.time ⊎ IsOver last y.time → HandsOut o size ahead xs (Takes y ∷ acts) gone last win
step_out o size ahead some xs acts y d read stamp next go gone win last stage none within out (inl past) =
    step_new o size ahead some xs acts y d read stamp next go gone win last stage none within out past
    (cases_lt (length win) size)
step_out o size ahead some xs acts y d read stamp next go gone win last stage none within out (inr over) =
    let h : Rises (gone ++ win) = rises o xs gone win stage.times in
    absurd (none.0 (is_late o size ahead xs y d last win read stamp within
    (standing-over y.time win last size
    (near_in size y.time (times_of o xs) gone win next stage.times h stage.room) out over)))

step_read : (o : Opening) (size ahead : ℕ) → 0 < size → (xs : List Timed) (acts : List Act) (y : Timed)
    (d : Datagram) → reading_of o y.octets ≡ Ok d → d.timestamp ≡ wrapped y.time
    → IsNext size (times_of o xs) y.time → Goes o size ahead (xs ++ y ∷ []) acts
    → (gone win : List ℕ) (last : Option ℕ) → IsStage o size ahead xs gone last win
    → NoneLost (shaped o size ahead xs last win) (Takes y ∷ acts)
    → IsInReach ahead last win y.time
    → IsMember y.time win ⊎ (IsMember y.time win → ⊥)
    → HandsOut o size ahead xs (Takes y ∷ acts) gone last win
step_read o size ahead some xs acts y d read stamp next go gone win last stage none within (inl m) =
    step_inside o size ahead xs acts y d read stamp next go gone win last stage none within m
step_read o size ahead some xs acts y d read stamp next go gone win last stage none within (inr out) =
    step_out o size ahead some xs acts y d read stamp next go gone win last stage none within out
    (past_or_over size y.time (times_of o xs) gone win last next stage.times
    (rises o xs gone win stage.times) stage.room stage.ends)

step_near : (o : Opening) (size ahead : ℕ) → 0 < size → (xs : List Timed) (acts : List Act)
    (y : Timed) (d : Datagram) → reading_of o y.octets ≡ Ok d → d.timestamp ≡ wrapped y.time
    → IsNext size (times_of o xs) y.time → Goes o size ahead (xs ++ y ∷ []) acts
    → (gone win : List ℕ) (last : Option ℕ) → IsStage o size ahead xs gone last win
    → NoneLost (shaped o size ahead xs last win) (Takes y ∷ acts) → (b : Bool)
    → is_beyond (newest_in (wrapped_if last) (map wrapped win)) ahead (wrapped y.time) ≡ b
    → HandsOut o size ahead xs (Takes y ∷ acts) gone last win
step_near o size ahead some xs acts y d read stamp next go gone win last stage none true beyond =
    absurd (none.1 (is_far o size ahead xs y d last win read stamp beyond))
step_near o size ahead some xs acts y d read stamp next go gone win last stage none false within =
    step_read o size ahead some xs acts y d read stamp next go gone win last stage none within
    (cases_member y.time win)

step : (o : Opening) (size ahead : ℕ) → 0 < size → (xs : List Timed) (acts : List Act) (y : Timed)
    (r : Result Datagram Refusal) → reading_of o y.octets ≡ r
    → AreTimed o (xs ++ y ∷ taken_of acts)
    → AreNearby size (times_of o (xs ++ y ∷ taken_of acts)) → Goes o size ahead (xs ++ y ∷ []) acts
    → Goes o size ahead xs (Takes y ∷ acts)
step o size ahead some xs acts y (Err e) read timed nearby go gone win last stage none =
    go_on o size ahead xs acts y gone last win win (due-refused o size ahead xs y e last win read)
    (after-refused o size ahead xs y e last win read) none
    (λ x k. after_refused x y.time (reading_of o y.octets) e (times_of o (taken_of acts)) read)
    (go gone win last
    (record {
      times = ap in_order (times_refused o xs y e read) ∙ stage.times;
      room = stage.room;
      ends = stage.ends;
    }))
step o size ahead some xs acts y (Ok d) read timed nearby go gone win last stage none =
    step_near o size ahead some xs acts y d read
    (timed y d (member_right y xs (y ∷ taken_of acts) (inl refl)) read)
    (is_next o size ahead xs (taken_of acts) y d read nearby) go gone win last stage none
    (is_beyond (newest_in (wrapped_if last) (map wrapped win)) ahead (wrapped y.time)) refl

-- the oldest goes early
step_early : (o : Opening) (size ahead : ℕ) (xs : List Timed) (acts : List Act) → Goes o size ahead xs acts
    → Goes o size ahead xs (Hands ∷ acts)
step_early o size ahead xs acts go gone [] last stage none =
    let h : HandsOut o size ahead xs acts gone last [] = go gone [] last stage none in
    record { rest = h.rest; order = h.order; handed = h.handed; over = h.over }
step_early o size ahead xs acts go gone (v ∷ win) last stage none =
    let h : HandsOut o size ahead xs acts (gone ++ v ∷ []) (Some v) win =
    go (gone ++ v ∷ []) win (Some v)
    (record {
      times = stage.times ∙ sym (append_assoc gone (v ∷ []) win);
      room = omega (arith, stage.room);
      ends = record { front = gone; is = refl };
    })
    none in
    record {
      rest = v ∷ h.rest;
      order = h.order ∙ append_assoc gone (v ∷ []) h.rest;
      handed =
          ap (λ (hs : List Handed). handed_at o xs v ∷ hs) h.handed
          ∙ ap (λ (x : Handed). x ∷ map (handed_at o (xs ++ taken_of acts)) h.rest)
          (kept_whole o v xs (taken_of acts) (h.over v (in_gone v gone)));
      over = λ x m. h.over x (member_left x gone (v ∷ []) m);
    }

goes : (o : Opening) (size ahead : ℕ) → 0 < size → (acts : List Act) (xs : List Timed)
    → AreTimed o (xs ++ taken_of acts) → AreNearby size (times_of o (xs ++ taken_of acts))
    → Goes o size ahead xs acts
goes o size ahead some [] xs timed nearby = λ gone win last stage none. record {
  rest = win;
  order = ap (λ (zs : List Timed). in_order (times_of o zs)) (append-nil xs) ∙ stage.times;
  handed =
      frames_in-shaped o xs win
      ∙ ap (λ (zs : List Timed). map (handed_at o zs) win) (sym (append-nil xs));
  over = λ x m k. k;
}
goes o size ahead some (Takes y ∷ acts) xs timed nearby =
    let whole : xs ++ y ∷ taken_of acts ≡ (xs ++ y ∷ []) ++ taken_of acts =
    sym (append_assoc xs (y ∷ []) (taken_of acts)) in
    step o size ahead some xs acts y (reading_of o y.octets) refl timed nearby
    (goes o size ahead some acts (xs ++ y ∷ []) (subst (AreTimed o) whole timed)
    (subst (λ (zs : List Timed). AreNearby size (times_of o zs)) whole nearby))
goes o size ahead some (Hands ∷ acts) xs timed nearby =
    step_early o size ahead xs acts (goes o size ahead some acts xs timed nearby)

-- Where no datagram was late, what was handed out, early or as it was due, is the frame of each
-- time, in rising order, of all datagrams of that time.
pub none_lost : (o : Opening) (size ahead : ℕ) (acts : List Act) → 0 < size
    → AreTimed o (taken_of acts) → AreNearby size (times_of o (taken_of acts))
    → NoneLost (opened o size ahead) acts
    → handed_by (opened o size ahead) acts
    ≡ map (handed_at o (taken_of acts)) (in_order (times_of o (taken_of acts)))
none_lost o size ahead acts some timed nearby none =
    let h : HandsOut o size ahead [] acts [] None [] =
    goes o size ahead some acts [] timed nearby [] [] None
    (record { times = refl; room = omega arith; ends = refl }) none in
    h.handed ∙ ap (λ (us : List ℕ). map (handed_at o (taken_of acts)) us) (sym h.order)
