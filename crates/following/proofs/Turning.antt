-- A follower's turns, one after the other.
use Rattle.std.proofs.Common.{◌≡◌, ℕ, zero, suc, ◌<◌, inl, inr, Bool, true, false, cond, List, []}
use Rattle.std.proofs.Common.{◌∷◌, ◌++◌, length, map, drop, take, None, Some, Result, Ok, Err, refl, sym, ap}
use Rattle.std.proofs.Common.{◌∙◌, subst, arith, append_assoc, append-nil}
use Rattle.std.proofs.lemmas.Bool.{false≢true}
use Rattle.std.specs.Prelude.{slice_get}
use Rattle.st_format.specs.Raster.{Raster}
use Rattle.path_receiver.specs.declared.answer.Refusal.{Refusal}
use Rattle.path_receiver.specs.Opening.{Opening}
use Rattle.following.specs.declared.answer.Followed.{Followed}
use Rattle.following.specs.Acts.{Act, AreNearby, NoneLost, handed_by, taken_of}
use Rattle.following.specs.Acts.Act.{Takes, Hands}
use Rattle.following.specs.Follower.{Following, answer_to, opened, state_after}
use Rattle.following.specs.Follower.{without_oldest}
use Rattle.following.specs.Following.{Handed, frames_in, handed_before, handed_out, is_due}
use Rattle.following.specs.Following.{with_timestamps}
use Rattle.following.specs.Stream.{NoneDropped, ShowsAll, still_early, without_early}
use Rattle.following.specs.declared.fault.StreamFault.{StreamFault}
use Rattle.following.specs.declared.fault.StreamFault.TheVariants.{Source, Sink}
use Rattle.path_receiver.specs.declared.receiving.Received.{Received}
use Rattle.following.specs.Times.{AreTimed, IsOrderly, Timed, handed_at, in_order, octets_of, times_of}
use Rattle.following.specs.Turned.{answer_in, answers_in, complete_count, early_count}
use Rattle.following.specs.Turned.{first_complete, goes_early, handed_early, handed_in}
use Rattle.following.specs.Turned.{handed_while, is_complete, state_behind, state_early, state_taken}
use Rattle.following.specs.Turned.{turned, without_first}
use Rattle.following.proofs.Early.{none_lost}
use Rattle.following.proofs.Streams.{whole_stream}

-- ---- one turn

pub taken-due : (s : Following) (octets : List ℕ) → is_due s octets ≡ true
    → state_taken s octets ≡ state_after (without_oldest s) octets
taken-due s octets due =
    ap (λ (b : Bool). state_after (cond b (without_oldest s) s) octets) due

pub taken-on : (s : Following) (octets : List ℕ) → is_due s octets ≡ false
    → state_taken s octets ≡ state_after s octets
taken-on s octets due =
    ap (λ (b : Bool). state_after (cond b (without_oldest s) s) octets) due

pub before-due : (s : Following) (octets : List ℕ) → is_due s octets ≡ true
    → handed_before s octets ≡ take 1 (frames_in s)
before-due s octets due = ap (λ (b : Bool). cond b (take 1 (frames_in s)) []) due

pub before-on : (s : Following) (octets : List ℕ) → is_due s octets ≡ false
    → handed_before s octets ≡ []
before-on s octets due = ap (λ (b : Bool). cond b (take 1 (frames_in s)) []) due

pub answer-due : (s : Following) (octets : List ℕ) → is_due s octets ≡ true
    → answer_in s octets ≡ answer_to (without_oldest s) octets
answer-due s octets due = ap (λ (b : Bool). answer_to (cond b (without_oldest s) s) octets) due

pub answer-on : (s : Following) (octets : List ℕ) → is_due s octets ≡ false
    → answer_in s octets ≡ answer_to s octets
answer-on s octets due = ap (λ (b : Bool). answer_to (cond b (without_oldest s) s) octets) due

-- ---- the oldest, if one goes

pub complete_none : (rs : List Raster) → slice_get rs 0 ≡ None → first_complete rs ≡ false
unfolding first_complete
complete_none [] e = refl
complete_none (r ∷ rs) e = absurd cc

pub complete_some : (rs : List Raster) (r : Raster) → slice_get rs 0 ≡ Some r
    → first_complete rs ≡ is_complete r
unfolding first_complete
complete_some [] r e = absurd cc
complete_some (q ∷ rs) r e = let same : q ≡ r = cc in ap is_complete same

-- ---- the frames that go early

take-none : (hs : List Handed) (n : ℕ) → hs ≡ [] → take n hs ≡ []
take-none [] zero e = refl
take-none [] (suc n) e = refl
take-none (h ∷ hs) n e = absurd cc

first_more : (n : ℕ) (w : List ℕ) (rs : List Raster)
    → take (suc n) (with_timestamps w rs)
    ≡ take 1 (with_timestamps w rs) ++ take n (with_timestamps (drop 1 w) (drop 1 rs))
first_more n [] rs = sym (take-none [] n refl)
first_more n (t ∷ []) [] = sym (take-none [] n refl)
first_more n (t ∷ u ∷ w) [] = sym (take-none [] n refl)
first_more n (t ∷ w) (r ∷ rs) = refl

-- the oldest, and so many more
pub take_more : (n : ℕ) (s : Following)
    → take (suc n) (frames_in s) ≡ take 1 (frames_in s) ++ take n (frames_in (without_oldest s))
take_more n s = first_more n s.opening.window s.frames

in_parts : (w : List ℕ) (rs : List Raster)
    → take 1 (with_timestamps w rs) ++ with_timestamps (drop 1 w) (drop 1 rs) ≡ with_timestamps w rs
in_parts [] rs = refl
in_parts (t ∷ []) [] = refl
in_parts (t ∷ u ∷ w) [] = refl
in_parts (t ∷ w) (r ∷ rs) = refl

-- so many, and those that are in without them
first_rest : (n : ℕ) (s : Following)
    → take n (frames_in s) ++ frames_in (without_first n s) ≡ frames_in s
first_rest zero s = refl
first_rest (suc n) s =
    let t : Following = without_oldest s in
    ap (λ (hs : List Handed). hs ++ frames_in (without_first n t)) (take_more n s)
    ∙ append_assoc (take 1 (frames_in s)) (take n (frames_in t)) (frames_in (without_first n t))
    ∙ ap (λ (hs : List Handed). take 1 (frames_in s) ++ hs) (first_rest n t)
    ∙ in_parts s.opening.window s.frames

count_more : (rs : List Raster) → first_complete rs ≡ true
    → complete_count rs ≡ suc (complete_count (drop 1 rs))
unfolding first_complete complete_count
count_more [] full = absurd (false≢true full)
count_more (r ∷ rs) full = ap (λ (b : Bool). cond b (suc (complete_count rs)) 0) full

count_none : (rs : List Raster) → first_complete rs ≡ false → complete_count rs ≡ 0
unfolding first_complete complete_count
count_none [] lacks = refl
count_none (r ∷ rs) lacks = ap (λ (b : Bool). cond b (suc (complete_count rs)) 0) lacks

-- where the oldest goes early, so many go as without it, and it
early_more : (eager : Bool) (s : Following) → goes_early eager s ≡ true
    → early_count eager s ≡ suc (early_count eager (without_oldest s))
early_more true s goes = count_more s.frames goes
early_more false s goes = absurd (false≢true goes)

early_none : (eager : Bool) (s : Following) → goes_early eager s ≡ false → early_count eager s ≡ 0
early_none true s stays = count_none s.frames stays
early_none false s stays = refl

-- then there is one
some_first : (rs : List Raster) → first_complete rs ≡ true → 0 < length rs
unfolding first_complete
some_first [] full = absurd (false≢true full)
some_first (r ∷ rs) full = omega arith

pub some_early : (eager : Bool) (s : Following) → goes_early eager s ≡ true
    → length s.frames ≡ length s.opening.window → 0 < length s.opening.window
some_early true s goes each = let some = some_first s.frames goes in omega (arith, each, some)
some_early false s goes each = absurd (false≢true goes)

pub state_more : (eager : Bool) (s : Following) → goes_early eager s ≡ true
    → state_early eager s ≡ state_early eager (without_oldest s)
state_more eager s goes = ap (λ (n : ℕ). without_first n s) (early_more eager s goes)

pub state_none : (eager : Bool) (s : Following) → goes_early eager s ≡ false
    → state_early eager s ≡ s
state_none eager s stays = ap (λ (n : ℕ). without_first n s) (early_none eager s stays)

pub handed_more : (eager : Bool) (s : Following) → goes_early eager s ≡ true
    → handed_early eager s ≡ take 1 (frames_in s) ++ handed_early eager (without_oldest s)
handed_more eager s goes =
    ap (λ (n : ℕ). take n (frames_in s)) (early_more eager s goes)
    ∙ take_more (early_count eager (without_oldest s)) s

pub handed_still : (eager : Bool) (s : Following) → goes_early eager s ≡ false
    → handed_early eager s ≡ []
handed_still eager s stays =
    ap (λ (n : ℕ). take n (frames_in s)) (early_none eager s stays)

-- they, and those that are in then
pub early_rest : (eager : Bool) (s : Following)
    → handed_early eager s ++ frames_in (state_early eager s) ≡ frames_in s
early_rest eager s = first_rest (early_count eager s) s

count_first : (rs : List Raster) → complete_count rs ≡ 0 → first_complete rs ≡ false
unfolding first_complete complete_count
count_first [] is = refl
count_first (r ∷ rs) is = at (is_complete r) is
  where
    at : (b : Bool) → cond b (suc (complete_count rs)) 0 ≡ 0 → b ≡ false
    at true e = absurd (omega (arith, e))
    at false e = refl

count_less : (rs : List Raster) (n : ℕ) → complete_count rs ≡ suc n
    → complete_count (drop 1 rs) ≡ n
unfolding complete_count
count_less [] n is = absurd (omega (arith, is))
count_less (r ∷ rs) n is = at (is_complete r) is
  where
    at : (b : Bool) → cond b (suc (complete_count rs)) 0 ≡ suc n → complete_count rs ≡ n
    at true e = omega (arith, e)
    at false e = absurd (omega (arith, e))

none_first : (n : ℕ) (s : Following) → complete_count s.frames ≡ n
    → first_complete (without_first n s).frames ≡ false
none_first zero s is = count_first s.frames is
none_first (suc n) s is = none_first n (without_oldest s) (count_less s.frames n is)

-- behind a turn no complete frame is the oldest
pub none_waits : (s : Following) (octets : List ℕ)
    → first_complete (turned true s octets).frames ≡ false
unfolding turned
none_waits s octets =
    let t : Following = state_taken s octets in
    none_first (complete_count t.frames) t refl

-- ---- where none goes early

pub turned-plain : (s : Following) (octets : List ℕ) → turned false s octets ≡ state_taken s octets
unfolding turned
turned-plain s octets = refl

handed-plain : (s : Following) (octets : List ℕ) → handed_in false s octets ≡ handed_before s octets
unfolding handed_in
handed-plain s octets = append-nil (handed_before s octets)

-- What is handed out of a whole list is what is handed out meanwhile, and what is in at the end.
pub handed_parts : (s : Following) (ds : List (List ℕ))
    → handed_out s ds ≡ handed_while false s ds ++ frames_in (state_behind false s ds)
handed_parts s [] = refl
handed_parts s (octets ∷ ds) =
    let t : Following = turned false s octets in
    ap (λ (u : Following). handed_before s octets ++ handed_out u ds) (sym (turned-plain s octets))
    ∙ ap (λ (hs : List Handed). handed_before s octets ++ hs) (handed_parts t ds)
    ∙ sym (append_assoc (handed_before s octets) (handed_while false t ds)
    (frames_in (state_behind false t ds)))
    ∙ ap (λ (hs : List Handed). (hs ++ handed_while false t ds) ++ frames_in (state_behind false t ds))
    (sym (handed-plain s octets))

-- ---- in two parts

pub while-append : (eager : Bool) (s : Following) (xs ys : List (List ℕ))
    → handed_while eager s (xs ++ ys)
    ≡ handed_while eager s xs ++ handed_while eager (state_behind eager s xs) ys
while-append eager s [] ys = refl
while-append eager s (x ∷ xs) ys =
    let t : Following = turned eager s x in
    ap (λ (hs : List Handed). handed_in eager s x ++ hs) (while-append eager t xs ys)
    ∙ sym (append_assoc (handed_in eager s x) (handed_while eager t xs)
    (handed_while eager (state_behind eager t xs) ys))

pub behind-append : (eager : Bool) (s : Following) (xs ys : List (List ℕ))
    → state_behind eager s (xs ++ ys) ≡ state_behind eager (state_behind eager s xs) ys
behind-append eager s [] ys = refl
behind-append eager s (x ∷ xs) ys = behind-append eager (turned eager s x) xs ys

pub answers-append : (eager : Bool) (s : Following) (xs ys : List (List ℕ))
    → answers_in eager s (xs ++ ys)
    ≡ answers_in eager s xs ++ answers_in eager (state_behind eager s xs) ys
answers-append eager s [] ys = refl
answers-append eager s (x ∷ xs) ys =
    ap (λ (l : List (Result Followed Refusal)). answer_in s x ∷ l)
    (answers-append eager (turned eager s x) xs ys)

-- ---- where frames go early: as acts

-- so many go early
abbrev pub hands : ℕ → List Act → List Act
hands zero acts = acts
hands (suc n) acts = Hands ∷ hands n acts

pub taken_hands : (n : ℕ) (acts : List Act) → taken_of (hands n acts) ≡ taken_of acts
taken_hands zero acts = refl
taken_hands (suc n) acts = taken_hands n acts

pub handed_hands : (n : ℕ) (s : Following) (acts : List Act)
    → handed_by s (hands n acts) ≡ take n (frames_in s) ++ handed_by (without_first n s) acts
handed_hands zero s acts = refl
handed_hands (suc n) s acts =
    let t : Following = without_oldest s in
    let rest : List Handed = handed_by (without_first n t) acts in
    ap (λ (hs : List Handed). take 1 (frames_in s) ++ hs) (handed_hands n t acts)
    ∙ sym (append_assoc (take 1 (frames_in s)) (take n (frames_in t)) rest)
    ∙ ap (λ (hs : List Handed). hs ++ rest) (sym (take_more n s))

pub none_hands : (n : ℕ) (s : Following) (acts : List Act) → NoneLost (without_first n s) acts
    → NoneLost s (hands n acts)
none_hands zero s acts h = h
none_hands (suc n) s acts h = none_hands n (without_oldest s) acts h

-- how many go early in a turn
abbrev pub early_in : Bool → Following → List ℕ → ℕ
early_in eager s octets = early_count eager (state_taken s octets)

acts_of : Bool → Following → List Timed → List Act
acts_of eager s [] = []
acts_of eager s (x ∷ xs) =
    Takes x ∷ hands (early_in eager s x.octets) (acts_of eager (turned eager s x.octets) xs)

taken_acts : (eager : Bool) (s : Following) (xs : List Timed) → taken_of (acts_of eager s xs) ≡ xs
unfolding acts_of
taken_acts eager s [] = refl
taken_acts eager s (x ∷ xs) =
    ap (λ (ys : List Timed). x ∷ ys)
    (taken_hands (early_in eager s x.octets) (acts_of eager (turned eager s x.octets) xs)
    ∙ taken_acts eager (turned eager s x.octets) xs)

pub step_acts : (eager : Bool) (s : Following) (octets : List ℕ) (acts : List Act)
    → handed_before s octets
    ++ handed_by (state_taken s octets) (hands (early_in eager s octets) acts)
    ≡ handed_in eager s octets ++ handed_by (turned eager s octets) acts
unfolding turned handed_in
step_acts eager s octets acts =
    let t : Following = state_taken s octets in
    ap (λ (hs : List Handed). handed_before s octets ++ hs)
    (handed_hands (early_count eager t) t acts)
    ∙ sym (append_assoc (handed_before s octets) (handed_early eager t)
    (handed_by (state_early eager t) acts))

acts_handed : (eager : Bool) (s : Following) (xs : List Timed)
    → handed_by s (acts_of eager s xs)
    ≡ handed_while eager s (octets_of xs) ++ frames_in (state_behind eager s (octets_of xs))
unfolding acts_of
acts_handed eager s [] = refl
acts_handed eager s (x ∷ xs) =
    let t : Following = turned eager s x.octets in
    let ds : List (List ℕ) = octets_of xs in
    step_acts eager s x.octets (acts_of eager t xs)
    ∙ ap (λ (hs : List Handed). handed_in eager s x.octets ++ hs) (acts_handed eager t xs)
    ∙ sym (append_assoc (handed_in eager s x.octets) (handed_while eager t ds)
    (frames_in (state_behind eager t ds)))

pub lost_acts : (eager : Bool) (s : Following) (octets : List ℕ) (acts : List Act)
    → NoneLost (turned eager s octets) acts
    → NoneLost (state_taken s octets) (hands (early_in eager s octets) acts)
unfolding turned
lost_acts eager s octets acts h =
    none_hands (early_in eager s octets) (state_taken s octets) acts h

none_acts : (eager : Bool) (s : Following) (xs : List Timed)
    → NoneDropped (answers_in eager s (octets_of xs)) → NoneLost s (acts_of eager s xs)
unfolding acts_of
none_acts eager s [] h = tt
none_acts eager s (x ∷ xs) h =
    let t : Following = turned eager s x.octets in
    let k = h (answer_in s x.octets) (inl refl) in (
      k.0,
      k.1,
      lost_acts eager s x.octets (acts_of eager t xs)
          (none_acts eager t xs (λ a m. h a (inr m))),
    )

-- ---- whole streams, by turns

pub with_rest : (old new missed done rest all : List Handed) → ShowsAll old new missed done
    → done ++ rest ≡ all → ShowsAll old new (missed ++ rest) all
with_rest old new missed done rest all shown e =
    sym (append_assoc new missed rest) ∙ ap (λ (hs : List Handed). hs ++ rest) shown
    ∙ append_assoc old done rest ∙ ap (λ (hs : List Handed). old ++ hs) e

-- the frames that are in, where the sink failed in a turn
pub rest_in : (eager : Bool) (r : Result Received StreamFault) (s : Following)
    → still_early eager r s ++ frames_in (without_early eager r s) ≡ frames_in s
rest_in eager (Ok d) s = refl
rest_in eager (Err (Source e)) s = refl
rest_in eager (Err (Sink e)) s = early_rest eager s

-- what the sink did not take, and what is in
pub with_still : (eager : Bool) (r : Result Received StreamFault) (s : Following)
    (old new missed all : List Handed)
    → ShowsAll old new ((missed ++ still_early eager r s) ++ frames_in (without_early eager r s)) all
    → ShowsAll old new (missed ++ frames_in s) all
with_still eager r s old new missed all shown =
    ap (λ (hs : List Handed). new ++ (missed ++ hs)) (sym (rest_in eager r s))
    ∙ ap (λ (hs : List Handed). new ++ hs)
    (sym (append_assoc missed (still_early eager r s) (frames_in (without_early eager r s))))
    ∙ shown

-- where none goes early, all is shown that goes in a turn
pub plain_still : (r : Result Received StreamFault) (s : Following) → still_early false r s ≡ []
plain_still (Ok d) s = refl
plain_still (Err (Source e)) s = refl
plain_still (Err (Sink e)) s = refl

pub plain_state : (r : Result Received StreamFault) (s : Following) → without_early false r s ≡ s
plain_state (Ok d) s = refl
plain_state (Err (Source e)) s = refl
plain_state (Err (Sink e)) s = refl

pub plain_shown : (r : Result Received StreamFault) (s : Following) (old new missed all : List Handed)
    → ShowsAll old new (missed ++ still_early false r s) all → ShowsAll old new missed all
plain_shown r s old new missed all shown =
    ap (λ (hs : List Handed). new ++ hs) (sym (append-nil missed))
    ∙ ap (λ (hs : List Handed). new ++ (missed ++ hs)) (sym (plain_still r s)) ∙ shown

-- What was shown, and what is in, of an orderly list.
pub stream_turned : (s t : Following) (o : Opening) (xs : List Timed) (ds : List (List ℕ))
    (old new missed : List Handed) → 0 < s.size → ShowsAll old new missed (handed_while false s ds)
    → t ≡ state_behind false s ds → s ≡ opened o s.size s.most_ahead → octets_of xs ≡ ds
    → AreTimed o xs → IsOrderly s.size s.most_ahead (times_of o xs)
    → ShowsAll old new (missed ++ frames_in t) (map (handed_at o xs) (in_order (times_of o xs)))
stream_turned s t o xs ds old new missed some shown state same octets timed orderly =
    with_rest old new missed (handed_while false s ds) (frames_in t)
    (map (handed_at o xs) (in_order (times_of o xs))) shown
    (ap (λ (u : Following). handed_while false s ds ++ frames_in u) state
    ∙ sym (handed_parts s ds)
    ∙ ap (λ (u : Following). handed_out u ds) same
    ∙ ap (λ (es : List (List ℕ)). handed_out (opened o s.size s.most_ahead) es) (sym octets)
    ∙ whole_stream o s.size s.most_ahead xs some timed orderly)

-- The same where frames went early, and nothing was late or too far ahead.
pub early_turned : (s t : Following) (o : Opening) (xs : List Timed) (ds : List (List ℕ))
    (old new missed : List Handed) → 0 < s.size → ShowsAll old new missed (handed_while true s ds)
    → t ≡ state_behind true s ds → s ≡ opened o s.size s.most_ahead → octets_of xs ≡ ds
    → AreTimed o xs → AreNearby s.size (times_of o xs) → NoneDropped (answers_in true s ds)
    → ShowsAll old new (missed ++ frames_in t) (map (handed_at o xs) (in_order (times_of o xs)))
early_turned s t o xs ds old new missed some shown state same octets timed nearby none =
    let acts : List Act = acts_of true s xs in
    let taken : taken_of acts ≡ xs = taken_acts true s xs in
    let lost : NoneLost s acts =
    none_acts true s xs
    (subst (λ (es : List (List ℕ)). NoneDropped (answers_in true s es)) (sym octets) none) in
    with_rest old new missed (handed_while true s ds) (frames_in t)
    (map (handed_at o xs) (in_order (times_of o xs))) shown
    (ap (λ (u : Following). handed_while true s ds ++ frames_in u) state
    ∙ ap (λ (es : List (List ℕ)). handed_while true s es ++ frames_in (state_behind true s es))
    (sym octets)
    ∙ sym (acts_handed true s xs)
    ∙ ap (λ (u : Following). handed_by u acts) same
    ∙ none_lost o s.size s.most_ahead acts some
    (subst (λ (ys : List Timed). AreTimed o ys) (sym taken) timed)
    (subst (λ (ys : List Timed). AreNearby s.size (times_of o ys)) (sym taken) nearby)
    (subst (λ (u : Following). NoneLost u acts) same lost)
    ∙ ap (λ (ys : List Timed). map (handed_at o ys) (in_order (times_of o ys))) taken)
