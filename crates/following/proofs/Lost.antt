-- What is handed out is of those that were neither late nor too far ahead.
use Rattle.std.proofs.Common.{◌≡◌, ℕ, zero, suc, ◌-◌, ◌<◌, ◌≤◌, Bool, true, false, cond, List, []}
use Rattle.std.proofs.Common.{◌∷◌, ◌++◌, length, map, drop, Result, Ok, Err, refl, sym}
use Rattle.std.proofs.Common.{ap, ◌∙◌, subst, arith, append_assoc, length-drop}
use Rattle.std.proofs.lemmas.Bool.{false≢true}
use Rattle.st_format.specs.Reading.{◌>>=◌}
use Rattle.path_receiver.specs.declared.answer.Refusal.{Refusal}
use Rattle.path_receiver.specs.Grammar.{Datagram}
use Rattle.path_receiver.specs.Opening.{Opening}
use Rattle.following.specs.declared.answer.Followed.{Followed}
use Rattle.following.specs.declared.answer.Followed.TheVariants.{Kept, Due, Late, Far}
use Rattle.following.specs.declared.standing.Standing.{Standing}
use Rattle.following.specs.declared.standing.Standing.TheVariants.{Beyond, Inside, New, Waits}
use Rattle.following.specs.declared.standing.Standing.TheVariants.{Nowhere}
use Rattle.following.specs.Acts.{Act, AreNearby, NoneLost, handed_by, taken_of}
use Rattle.following.specs.Acts.Act.{Takes}
use Rattle.following.specs.Follower.{Following, answer_to, followed_at, opened, read_in, reading_of}
use Rattle.following.specs.Follower.{standing_of, state_after, taken_in, without_oldest}
use Rattle.following.specs.Following.{Handed, frames_in, is_due, is_waiting, waits_for}
use Rattle.following.specs.Times.{AreTimed, Timed, handed_at, in_order, octets_of, times_of}
use Rattle.following.specs.Turned.{answer_in, early_count, handed_all, handed_early}
use Rattle.following.specs.Turned.{handed_in, handed_while, is_lost, kept_of, state_behind}
use Rattle.following.specs.Turned.{state_early, state_taken, turned, with_kept, without_first}
use Rattle.following.proofs.Early.{none_lost}
use Rattle.following.proofs.Rises.{Stands, stands_oldest, stands_read}
use Rattle.following.proofs.Taken.{new_back, waits_new}
use Rattle.following.proofs.Turning.{before-on, early_in, handed_hands, hands, lost_acts}
use Rattle.following.proofs.Turning.{step_acts, taken-on, taken_hands}

-- ---- one that is lost changes nothing

lost_at : (s : Following) (octets : List ℕ) (ts number : ℕ) (x : Standing)
    → is_lost (Ok (followed_at number x)) ≡ true → taken_in s octets ts x ≡ s
lost_at s octets ts number (Inside p) h = absurd (false≢true h)
lost_at s octets ts number (New p) h = absurd (false≢true h)
lost_at s octets ts number Waits h = refl
lost_at s octets ts number Nowhere h = refl
lost_at s octets ts number Beyond h = refl

lost_read : (s : Following) (octets : List ℕ) (r : Result Datagram Refusal)
    → is_lost (r >>= λ d. Ok (followed_at d.number (standing_of s d.timestamp))) ≡ true
    → read_in s octets r ≡ s
lost_read s octets (Ok d) h = lost_at s octets d.timestamp d.number (standing_of s d.timestamp) h
lost_read s octets (Err e) h = refl

lost_state : (s : Following) (octets : List ℕ) → is_lost (answer_to s octets) ≡ true
    → state_after s octets ≡ s
lost_state s octets h = lost_read s octets (reading_of s.opening octets) h

-- ---- one for which the oldest is due is kept

pub waits_is : (x : Standing) → is_waiting x ≡ true → x ≡ Waits
waits_is (Inside p) h = absurd (false≢true h)
waits_is (New p) h = absurd (false≢true h)
waits_is Waits h = refl
waits_is Nowhere h = absurd (false≢true h)
waits_is Beyond h = absurd (false≢true h)

-- a follower of at least one frame
pub record HasRoom (s : Following) : Type 0 where
  pub stands : Stands s
  pub some : 0 < s.size

pub room_after : (n size m : ℕ) → 0 < size → n ≤ size → m ≡ n - 1 → m < size
room_after n size m some le e = omega (arith, some, le, e)

due_read : (s : Following) (octets : List ℕ) (r : Result Datagram Refusal) → HasRoom s
    → waits_for s r ≡ true
    → is_lost (r >>= λ d. Ok (followed_at d.number (standing_of (without_oldest s) d.timestamp)))
    ≡ false
due_read s octets (Err e) h due = absurd (false≢true due)
due_read s octets (Ok d) h due =
    let short : length (drop 1 s.opening.window) < s.size =
    room_after (length s.opening.window) s.size (length (drop 1 s.opening.window)) h.some h.stands.room
    (length-drop 1 s.opening.window) in
    let k =
    new_back (without_oldest s) d.timestamp
    (waits_new s d.timestamp h.stands.rising short
    (waits_is (standing_of s d.timestamp) due)) in
    ap (λ (x : Standing). is_lost (Ok (followed_at d.number x))) k.1

due_kept : (s : Following) (octets : List ℕ) → HasRoom s → is_due s octets ≡ true
    → is_lost (answer_to (without_oldest s) octets) ≡ false
due_kept s octets h due = due_read s octets (reading_of s.opening octets) h due

-- one that is lost is not due, and leaves the follower
pub record Leaves (s : Following) (octets : List ℕ) : Type 0 where
  pub due : is_due s octets ≡ false
  pub after : state_after s octets ≡ s

leaves_at : (s : Following) (octets : List ℕ) (b : Bool) → HasRoom s → is_due s octets ≡ b
    → is_lost (answer_to (cond b (without_oldest s) s) octets) ≡ true → Leaves s octets
leaves_at s octets true h due lost =
    absurd (false≢true (sym (due_kept s octets h due) ∙ lost))
leaves_at s octets false h due lost = record { due = due; after = lost_state s octets lost }

leaves : (s : Following) (octets : List ℕ) → HasRoom s → is_lost (answer_in s octets) ≡ true
    → Leaves s octets
leaves s octets h lost = leaves_at s octets (is_due s octets) h refl lost

-- ---- turns keep it

size-taken : (s : Following) (octets : List ℕ) (ts : ℕ) (x : Standing)
    → (taken_in s octets ts x).size ≡ s.size
size-taken s octets ts (Inside p) = refl
size-taken s octets ts (New p) = refl
size-taken s octets ts Waits = refl
size-taken s octets ts Nowhere = refl
size-taken s octets ts Beyond = refl

size-read : (s : Following) (octets : List ℕ) (r : Result Datagram Refusal)
    → (read_in s octets r).size ≡ s.size
size-read s octets (Ok d) = size-taken s octets d.timestamp (standing_of s d.timestamp)
size-read s octets (Err e) = refl

room_taken : (s : Following) (octets : List ℕ) → HasRoom s → HasRoom (state_after s octets)
room_taken s octets h = record {
  stands = stands_read s octets (reading_of s.opening octets) h.stands;
  some =
      subst (λ (n : ℕ). 0 < n) (sym (size-read s octets (reading_of s.opening octets))) h.some;
}

room_oldest : (s : Following) → HasRoom s → HasRoom (without_oldest s)
room_oldest s h = record { stands = stands_oldest s h.stands; some = h.some }

room_first : (n : ℕ) (s : Following) → HasRoom s → HasRoom (without_first n s)
room_first zero s h = h
room_first (suc n) s h = room_first n (without_oldest s) (room_oldest s h)

room_ready : (b : Bool) (s : Following) (octets : List ℕ) → HasRoom s
    → HasRoom (state_after (cond b (without_oldest s) s) octets)
room_ready true s octets h = room_taken (without_oldest s) octets (room_oldest s h)
room_ready false s octets h = room_taken s octets h

pub room_turned : (eager : Bool) (s : Following) (octets : List ℕ) → HasRoom s
    → HasRoom (turned eager s octets)
unfolding turned
room_turned eager s octets h =
    room_first (early_in eager s octets) (state_taken s octets)
    (room_ready (is_due s octets) s octets h)

-- ---- as acts, without those that are lost

abbrev take_act : Bool → Timed → List Act → List Act
take_act lost x acts = cond lost acts (Takes x ∷ acts)

kept_acts : Bool → Following → List Timed → List Act
kept_acts eager s [] = []
kept_acts eager s (x ∷ xs) =
    take_act (is_lost (answer_in s x.octets)) x
    (hands (early_in eager s x.octets) (kept_acts eager (turned eager s x.octets) xs))

taken_act : (b : Bool) (x : Timed) (acts : List Act) (xs : List Timed) → taken_of acts ≡ xs
    → taken_of (take_act b x acts) ≡ with_kept b x xs
taken_act true x acts xs e = e
taken_act false x acts xs e = ap (λ (ys : List Timed). x ∷ ys) e

taken_kept : (eager : Bool) (s : Following) (xs : List Timed)
    → taken_of (kept_acts eager s xs) ≡ kept_of eager s xs
unfolding kept_acts
taken_kept eager s [] = refl
taken_kept eager s (x ∷ xs) =
    let t : Following = turned eager s x.octets in
    taken_act (is_lost (answer_in s x.octets)) x
    (hands (early_in eager s x.octets) (kept_acts eager t xs)) (kept_of eager t xs)
    (taken_hands (early_in eager s x.octets) (kept_acts eager t xs) ∙ taken_kept eager t xs)

-- where one leaves the follower, only those may go that go early
lost_step : (eager : Bool) (s : Following) (octets : List ℕ) (acts : List Act) → Leaves s octets
    → handed_by s (hands (early_in eager s octets) acts)
    ≡ handed_in eager s octets ++ handed_by (turned eager s octets) acts
unfolding turned handed_in
lost_step eager s octets acts h =
    let t : Following = state_taken s octets in
    let same : t ≡ s = taken-on s octets h.due ∙ h.after in
    ap (λ (u : Following). handed_by u (hands (early_count eager t) acts)) (sym same)
    ∙ handed_hands (early_count eager t) t acts
    ∙ ap (λ (hs : List Handed). (hs ++ handed_early eager t) ++ handed_by (state_early eager t) acts)
    (sym (before-on s octets h.due))

handed_act : (eager : Bool) (s : Following) (x : Timed) (acts : List Act) (b : Bool) → HasRoom s
    → is_lost (answer_in s x.octets) ≡ b
    → handed_by s (take_act b x (hands (early_in eager s x.octets) acts))
    ≡ handed_in eager s x.octets ++ handed_by (turned eager s x.octets) acts
handed_act eager s x acts true h e = lost_step eager s x.octets acts (leaves s x.octets h e)
handed_act eager s x acts false h e = step_acts eager s x.octets acts

handed_kept : (eager : Bool) (s : Following) (xs : List Timed) → HasRoom s
    → handed_by s (kept_acts eager s xs) ≡ handed_all eager s (octets_of xs)
unfolding kept_acts
handed_kept eager s [] h = refl
handed_kept eager s (x ∷ xs) h =
    let t : Following = turned eager s x.octets in
    let ds : List (List ℕ) = octets_of xs in
    handed_act eager s x (kept_acts eager t xs) (is_lost (answer_in s x.octets)) h refl
    ∙ ap (λ (hs : List Handed). handed_in eager s x.octets ++ hs)
    (handed_kept eager t xs (room_turned eager s x.octets h))
    ∙ sym (append_assoc (handed_in eager s x.octets) (handed_while eager t ds)
    (frames_in (state_behind eager t ds)))

none_step : (eager : Bool) (s : Following) (octets : List ℕ) (acts : List Act) → Leaves s octets
    → NoneLost (turned eager s octets) acts
    → NoneLost s (hands (early_in eager s octets) acts)
none_step eager s octets acts h none =
    subst (λ (u : Following). NoneLost u (hands (early_in eager s octets) acts))
    (taken-on s octets h.due ∙ h.after) (lost_acts eager s octets acts none)

not_lost : (r : Result Followed Refusal) → is_lost r ≡ false
    → (r ≡ Ok Late → ⊥) × (r ≡ Ok Far → ⊥)
not_lost (Ok (Kept n)) h = (λ e. cc, λ e. cc)
not_lost (Ok Due) h = (λ e. cc, λ e. cc)
not_lost (Ok Late) h = absurd (false≢true (sym h))
not_lost (Ok Far) h = absurd (false≢true (sym h))
not_lost (Err e) h = (λ f. cc, λ f. cc)

none_act : (eager : Bool) (s : Following) (x : Timed) (acts : List Act) (b : Bool) → HasRoom s
    → is_lost (answer_in s x.octets) ≡ b → NoneLost (turned eager s x.octets) acts
    → NoneLost s (take_act b x (hands (early_in eager s x.octets) acts))
none_act eager s x acts true h e none =
    none_step eager s x.octets acts (leaves s x.octets h e) none
none_act eager s x acts false h e none =
    let k = not_lost (answer_in s x.octets) e in
    (k.0, k.1, lost_acts eager s x.octets acts none)

none_kept : (eager : Bool) (s : Following) (xs : List Timed) → HasRoom s
    → NoneLost s (kept_acts eager s xs)
unfolding kept_acts
none_kept eager s [] h = tt
none_kept eager s (x ∷ xs) h =
    let t : Following = turned eager s x.octets in
    none_act eager s x (kept_acts eager t xs) (is_lost (answer_in s x.octets)) h refl
    (none_kept eager t xs (room_turned eager s x.octets h))

-- Whatever comes, what is handed out is the frame of each time of those that were kept, in rising
-- order, of all of those of that time.
pub kept_stream : (eager : Bool) (o : Opening) (size ahead : ℕ) (xs : List Timed) → 0 < size
    → AreTimed o (kept_of eager (opened o size ahead) xs)
    → AreNearby size (times_of o (kept_of eager (opened o size ahead) xs))
    → handed_all eager (opened o size ahead) (octets_of xs)
    ≡ map (handed_at o (kept_of eager (opened o size ahead) xs))
    (in_order (times_of o (kept_of eager (opened o size ahead) xs)))
kept_stream eager o size ahead xs some timed nearby =
    let s : Following = opened o size ahead in
    let acts : List Act = kept_acts eager s xs in
    let taken : taken_of acts ≡ kept_of eager s xs = taken_kept eager s xs in
    let room : HasRoom s = record {
      stands = record { rising = tt; one_each = refl; room = omega arith };
      some = some;
    } in
    sym (handed_kept eager s xs room)
    ∙ none_lost o size ahead acts some
    (subst (λ (ys : List Timed). AreTimed o ys) (sym taken) timed)
    (subst (λ (ys : List Timed). AreNearby size (times_of o ys)) (sym taken) nearby)
    (none_kept eager s xs room)
    ∙ ap (λ (ys : List Timed). map (handed_at o ys) (in_order (times_of o ys))) taken
