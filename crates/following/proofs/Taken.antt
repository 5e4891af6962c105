-- Kept, due and late, by the grammar.
use Rattle.std.proofs.Common.{◌≡◌, ◌↔◌, ℕ, zero, suc, ◌<◌, ◌≤◌, ◌⊎◌, inl, inr, Bool}
use Rattle.std.proofs.Common.{true, false, cond, ◌&&◌, eqb, List, [], ◌∷◌, ◌++◌, length, take, drop}
use Rattle.std.proofs.Common.{Option, None, Some, Result, Ok, Err, refl, sym, ap, ◌∙◌, subst, arith}
use Rattle.std.proofs.Common.{take-append-drop}
use Rattle.std.specs.Prelude.{slice_get, nat_lt}
use Rattle.std.specs.List.{AllByRecursion, list_all}
use Rattle.std.proofs.lemmas.Bool.{and_from, cases_lt, false≢true, le-ltb}
use Rattle.std.proofs.lemmas.Bool.{lt-ltb, ltb-false, ltb-true, ne_eqb}
use Rattle.st_format.specs.Device.{AreOctets}
use Rattle.st_format.specs.Member.{IsMember}
use Rattle.st_format.specs.Reading.{◌>>=◌}
use Rattle.st_format.proofs.Members.{member_right}
use Rattle.path_receiver.specs.declared.answer.Refusal.{Refusal}
use Rattle.path_receiver.specs.Answers.{kept_or_outside, taken_at}
use Rattle.path_receiver.specs.Grammar.{Datagram, IsFor}
use Rattle.path_receiver.specs.Opening.{Opening}
use Rattle.path_receiver.specs.Refused.{IsRefusedDatagram}
use Rattle.path_receiver.proofs.Offered.{admitted_for, admitted_takes}
use Rattle.path_receiver.proofs.RefusedLemmas.{refusal_iff}
use Rattle.path_receiver.proofs.Windows.{member_get}
use Rattle.following.specs.declared.answer.Followed.{Followed}
use Rattle.following.specs.declared.answer.Followed.TheVariants.{Kept, Due, Late, Far}
use Rattle.following.specs.declared.standing.Standing.{Standing}
use Rattle.following.specs.declared.standing.Standing.TheVariants.{Beyond, Inside, New, Waits}
use Rattle.following.specs.declared.standing.Standing.TheVariants.{Nowhere}
use Rattle.following.specs.Serial.{IsNewer, is_newer}
use Rattle.following.specs.Standing.{entry_at, is_behind, is_beyond, is_that, is_there, newest_in}
use Rattle.following.specs.Standing.{place_in, standing_at, standing_in, standing_near}
use Rattle.following.specs.Follower.{AreRising, Following, IsFollower, answer_to, followed_at}
use Rattle.following.specs.Follower.{last_gone, newest_of, reading_of, since, standing_of}
use Rattle.following.specs.Follower.{without_oldest}
use Rattle.following.specs.Taking.{ComesNew, FitsIn, HasOlder, IsDueFor, IsFarFor, IsKeptBy}
use Rattle.following.specs.Taking.{IsLateFor, IsTooFar}
use Rattle.following.proofs.Newest.{far_back, near_back, not_far, one_way, too_far}
use Rattle.following.proofs.Rising.{all_member, is_inside, newer-self}
use Rattle.following.proofs.Rising.{rising_in, rising_since}
use Rattle.following.proofs.Since.{member_inside}

-- ---- one that fits in

place_front : (ts : ℕ) (front back : List ℕ) → AreRising (front ++ ts ∷ back)
    → place_in ts (front ++ back) ≡ length front
place_front ts [] [] h = refl
place_front ts [] (t ∷ back) h =
    ap (λ (b : Bool). cond b (suc (place_in ts back)) 0) (one_way t ts h.0.0)
place_front ts (t ∷ front) back h =
    ap (λ (b : Bool). cond b (suc (place_in ts (front ++ back))) 0)
    (all_member (λ u. IsNewer u t) ts (front ++ ts ∷ back) h.0
    (member_right ts front (ts ∷ back) (inl refl)))
    ∙ ap suc (place_front ts front back h.1)

get_back : (front back : List ℕ) → slice_get (front ++ back) (length front) ≡ slice_get back 0
get_back [] back = refl
get_back (t ∷ front) back = get_back front back

drop_back : (front back : List ℕ) → drop (length front) (front ++ back) ≡ back
drop_back [] back = refl
drop_back (t ∷ front) back = drop_back front back

back_rises : (ts : ℕ) (front back : List ℕ) → AreRising (front ++ ts ∷ back)
    → AllByRecursion (λ u. IsNewer u ts) back
back_rises ts [] back h = h.0
back_rises ts (t ∷ front) back h = back_rises ts front back h.1

first_other : (ts : ℕ) (back : List ℕ) → AllByRecursion (λ u. IsNewer u ts) back
    → is_that (slice_get back 0) ts ≡ false
first_other ts [] h = refl
first_other ts (t ∷ back) h =
    ne_eqb t ts
    (λ e. false≢true (sym (newer-self ts) ∙ subst (λ (u : ℕ). is_newer u ts ≡ true) e h.0))

all_list : (ts : ℕ) (back : List ℕ) → AllByRecursion (λ u. IsNewer u ts) back
    → list_all (λ t. is_newer t ts) back ≡ true
all_list ts [] h = refl
all_list ts (t ∷ back) h =
    and_from (is_newer t ts) (list_all (λ u. is_newer u ts) back) h.0 (all_list ts back h.1)

gone_behind : (gone : Option ℕ) (ts : ℕ) (front back : List ℕ)
    → AreRising (since gone (front ++ ts ∷ back)) → is_behind gone ts ≡ true
gone_behind None ts front back h = refl
gone_behind (Some g) ts front back h =
    all_member (λ u. IsNewer u g) ts (front ++ ts ∷ back) h.0
    (member_right ts front (ts ∷ back) (inl refl))

-- One that fits in comes in, or waits, or is late, as there is room and an older one.
standing-fits : (w front back : List ℕ) (gone : Option ℕ) (size ts : ℕ) → w ≡ front ++ back
    → AreRising (since gone (front ++ ts ∷ back))
    → standing_in w gone size ts ≡ entry_at (length w) size (length front)
standing-fits w front back gone size ts parts h =
    let up : AreRising (front ++ ts ∷ back) = rising_in gone (front ++ ts ∷ back) h in
    let newer = back_rises ts front back up in
    let p : ℕ = length front in
    let place : place_in ts w ≡ p =
    ap (λ (v : List ℕ). place_in ts v) parts ∙ place_front ts front back up in
    let at : is_there w p ts ≡ false =
    ap (λ (v : List ℕ). is_that (slice_get v p) ts) parts
    ∙ ap (λ (x : Option ℕ). is_that x ts) (get_back front back)
    ∙ first_other ts back newer in
    let all : list_all (λ t. is_newer t ts) (drop p w) ≡ true =
    ap (λ (v : List ℕ). list_all (λ t. is_newer t ts) (drop p v)) parts
    ∙ ap (λ (v : List ℕ). list_all (λ t. is_newer t ts) v) (drop_back front back)
    ∙ all_list ts back newer in
    ap (λ (i : ℕ). standing_at w gone size ts i) place
    ∙ ap (λ (b : Bool). cond b (Inside p)
    (cond (is_behind gone ts && list_all (λ t. is_newer t ts) (drop p w))
    (entry_at (length w) size p) Nowhere)) at
    ∙ ap (λ (b : Bool). cond (b && list_all (λ t. is_newer t ts) (drop p w))
    (entry_at (length w) size p) Nowhere) (gone_behind gone ts front back h)
    ∙ ap (λ (b : Bool). cond b (entry_at (length w) size p) Nowhere) all

-- ---- what a standing says

fits_place : (s : Following) (ts : ℕ) → AreRising (since s.gone s.opening.window) → is_behind s.gone ts ≡ true
    → list_all (λ t. is_newer t ts) (drop (place_in ts s.opening.window) s.opening.window) ≡ true
    → FitsIn s ts
fits_place s ts is behind all =
    let w : List ℕ = s.opening.window in
    let p : ℕ = place_in ts w in record {
      front = take p w;
      back = drop p w;
      parts = sym (take-append-drop p w);
      rising = rising_since s.gone ts w is behind all;
    }

older_first : (ts : ℕ) (w : List ℕ) (p : ℕ) → place_in ts w ≡ suc p
    → (t : ℕ) × IsMember t w × IsNewer ts t
older_first ts [] p e = absurd (omega (arith, e))
older_first ts (t ∷ w) p e = at (is_newer ts t) refl e
  where
    at : (b : Bool) → is_newer ts t ≡ b → cond b (suc (place_in ts w)) 0 ≡ suc p
        → (u : ℕ) × IsMember u (t ∷ w) × IsNewer ts u
    at true f e = (t, inl refl, f)
    at false f e = absurd (omega (arith, e))

-- what each standing means
pub Means : Following → ℕ → Standing → Type 0
Means s ts (Inside p) = IsMember ts s.opening.window
Means s ts (New p) = ComesNew s ts
Means s ts Waits =
    FitsIn s ts × (s.size ≤ length s.opening.window) × HasOlder s ts × (IsTooFar s ts → ⊥)
Means s ts Nowhere = IsTooFar s ts → ⊥
Means s ts Beyond = IsTooFar s ts

means_entry : (s : Following) (ts : ℕ) (p : ℕ) (b z : Bool) → (IsTooFar s ts → ⊥) → FitsIn s ts
    → place_in ts s.opening.window ≡ p → nat_lt (length s.opening.window) s.size ≡ b
    → eqb p 0 ≡ z → Means s ts (cond b (New p) (cond z Nowhere Waits))
unfolding Means
means_entry s ts p true z near fits at e f =
    record { fits = fits; near = near; room = ltb-true (length s.opening.window) s.size e }
means_entry s ts p false true near fits at e f = near
means_entry s ts zero false false near fits at e f = absurd (none f)
  where
    none : eqb zero 0 ≡ false → ⊥
    none h = cc
means_entry s ts (suc p) false false near fits at e f =
    let k = older_first ts s.opening.window p at in (
      fits,
      ltb-false (length s.opening.window) s.size e,
      record { older = k.0; inside = k.1; newer = k.2 },
      near,
    )

-- what a standing means that is not too far ahead
means_at : (s : Following) (ts : ℕ) (a b c : Bool) → AreRising (since s.gone s.opening.window)
    → (IsTooFar s ts → ⊥)
    → is_there s.opening.window (place_in ts s.opening.window) ts ≡ a → is_behind s.gone ts ≡ b
    → list_all (λ t. is_newer t ts) (drop (place_in ts s.opening.window) s.opening.window) ≡ c
    → standing_in s.opening.window s.gone s.size ts
    ≡ cond a (Inside (place_in ts s.opening.window))
    (cond (b && c) (entry_at (length s.opening.window) s.size (place_in ts s.opening.window))
    Nowhere)
    → Means s ts
    (cond a (Inside (place_in ts s.opening.window))
    (cond (b && c) (entry_at (length s.opening.window) s.size (place_in ts s.opening.window))
    Nowhere))
unfolding Means
means_at s ts true b c is near e f g h =
    member_get ts (place_in ts s.opening.window) s.opening.window
    (is_inside s.opening.window s.gone s.size ts (place_in ts s.opening.window) h)
means_at s ts false true true is near e f g h =
    means_entry s ts (place_in ts s.opening.window)
    (nat_lt (length s.opening.window) s.size) (eqb (place_in ts s.opening.window) 0) near
    (fits_place s ts is f g) refl refl refl
means_at s ts false true false is near e f g h = near
means_at s ts false false c is near e f g h = near

means_near : (s : Following) (ts : ℕ) (b : Bool) → AreRising (since s.gone s.opening.window)
    → is_beyond (newest_of s) s.most_ahead ts ≡ b
    → Means s ts (standing_near b (standing_in s.opening.window s.gone s.size ts))
unfolding Means
means_near s ts true is e = too_far s ts e
means_near s ts false is e =
    let w : List ℕ = s.opening.window in
    let p : ℕ = place_in ts w in
    means_at s ts (is_there w p ts) (is_behind s.gone ts)
    (list_all (λ t. is_newer t ts) (drop p w)) is (not_far s ts e) refl refl refl refl

pub means : (s : Following) (ts : ℕ) → AreRising (since s.gone s.opening.window)
    → Means s ts (standing_of s ts)
means s ts is = means_near s ts (is_beyond (newest_of s) s.most_ahead ts) is refl

-- one that waits comes in where the oldest went
comes_after : (s : Following) (ts : ℕ) (front back : List ℕ) → s.opening.window ≡ front ++ back
    → AreRising (since s.gone (front ++ ts ∷ back)) → (IsTooFar s ts → ⊥) → HasOlder s ts
    → length (drop 1 s.opening.window) < s.size → ComesNew (without_oldest s) ts
comes_after s ts [] back parts h near older room =
    absurd (false≢true (sym (one_way older.older ts
    (all_member (λ u. IsNewer u ts) older.older back (rising_in s.gone (ts ∷ back) h).0
    (subst (λ (w : List ℕ). IsMember older.older w) parts older.inside)))
    ∙ older.newer))
comes_after s ts (t ∷ front) back parts h near older room = record {
  fits = record {
    front = front;
    back = back;
    parts = ap (λ (w : List ℕ). drop 1 w) parts;
    rising =
        subst (λ (w : List ℕ). AreRising (since (last_gone s.gone w) (front ++ ts ∷ back)))
        (sym parts) (rising_in s.gone (t ∷ (front ++ ts ∷ back)) h);
  };
  near = λ far. near (record {
    newest = far.newest;
    is = same_newest s t (front ++ back) parts ∙ far.is;
    newer = far.newer;
    far = far.far;
  });
  room = room;
}
  where
    same_newest : (s : Following) (t : ℕ) (w : List ℕ) → s.opening.window ≡ t ∷ w
        → newest_of s ≡ newest_of (without_oldest s)
    same_newest s t w e =
        ap (λ (v : List ℕ). newest_in s.gone v) e
        ∙ sym (ap (λ (v : List ℕ). newest_in (last_gone s.gone v) (drop 1 v)) e)

pub waits_new : (s : Following) (ts : ℕ) → AreRising (since s.gone s.opening.window)
    → length (drop 1 s.opening.window) < s.size → standing_of s ts ≡ Waits
    → ComesNew (without_oldest s) ts
unfolding Means
waits_new s ts up room at =
    let m : Means s ts Waits = subst (Means s ts) at (means s ts up) in
    comes_after s ts m.0.front m.0.back m.0.parts m.0.rising m.3 m.2 room

-- ---- and back

stands_near : (s : Following) (ts : ℕ) → (IsTooFar s ts → ⊥)
    → standing_of s ts ≡ standing_in s.opening.window s.gone s.size ts
stands_near s ts near =
    ap (λ (b : Bool). standing_near b (standing_in s.opening.window s.gone s.size ts))
    (near_back s ts near)

pub new_back : (s : Following) (ts : ℕ) → ComesNew s ts → (p : ℕ) × (standing_of s ts ≡ New p)
new_back s ts k =
    let p : ℕ = length k.fits.front in (
      p,
      stands_near s ts k.near
          ∙ standing-fits s.opening.window k.fits.front k.fits.back s.gone s.size ts k.fits.parts
          k.fits.rising
          ∙ ap (λ (b : Bool). cond b (New p) (cond (eqb p 0) Nowhere Waits))
          (lt-ltb (length s.opening.window) s.size k.room),
    )

-- an older one stands in front
front_older : (ts t : ℕ) (front back : List ℕ) → AreRising (front ++ ts ∷ back)
    → IsMember t (front ++ back) → IsNewer ts t → eqb (length front) 0 ≡ false
front_older ts t [] back h m newer =
    absurd (false≢true (sym (one_way t ts (all_member (λ u. IsNewer u ts) t back h.0 m)) ∙ newer))
front_older ts t (u ∷ front) back h m newer = ne_eqb (suc (length front)) 0 (never (length front))
  where
    never : (n : ℕ) → suc n ≡ 0 → ⊥
    never n e = absurd (omega (arith, e))

waits_back : (s : Following) (ts : ℕ) → FitsIn s ts → (IsTooFar s ts → ⊥)
    → s.size ≤ length s.opening.window → HasOlder s ts → standing_of s ts ≡ Waits
waits_back s ts fits near full older =
    let p : ℕ = length fits.front in
    stands_near s ts near
    ∙ standing-fits s.opening.window fits.front fits.back s.gone s.size ts fits.parts fits.rising
    ∙ ap (λ (b : Bool). cond b (New p) (cond (eqb p 0) Nowhere Waits))
    (le-ltb (length s.opening.window) s.size full)
    ∙ ap (λ (b : Bool). cond b Nowhere Waits)
    (front_older ts older.older fits.front fits.back
    (rising_in s.gone (fits.front ++ ts ∷ fits.back) fits.rising)
    (subst (λ (w : List ℕ). IsMember older.older w) fits.parts older.inside) older.newer)

-- ---- the answers

same_kept : (n m : ℕ) → (let r : Result Followed Refusal = Ok (Kept n) in r ≡ Ok (Kept m)) → n ≡ m
same_kept n m h = cc

pub answer-for : (s : Following) (octets : List ℕ) (d : Datagram) → reading_of s.opening octets ≡ Ok d
    → answer_to s octets ≡ Ok (followed_at d.number (standing_of s d.timestamp))
answer-for s octets d read =
    ap (λ (x : Result Datagram Refusal). x >>= λ q. Ok (followed_at q.number
    (standing_of s q.timestamp))) read

kept_at : (s : Following) (octets : List ℕ) (d : Datagram) (n : ℕ) (x : Standing)
    → IsFor octets s.opening d → Means s d.timestamp x
    → (let r : Result Followed Refusal = Ok (followed_at d.number x) in r ≡ Ok (Kept n))
    → IsKeptBy octets s n
unfolding Means
kept_at s octets d n (Inside p) is m h =
    record { datagram = d; is_for = is; number_is = same_kept d.number n h; place = inl m }
kept_at s octets d n (New p) is m h =
    record { datagram = d; is_for = is; number_is = same_kept d.number n h; place = inr m }
kept_at s octets d n Waits is m h = absurd cc
kept_at s octets d n Nowhere is m h = absurd cc
kept_at s octets d n Beyond is m h = absurd cc

kept_read : (s : Following) (octets : List ℕ) (n : ℕ) (r : Result Datagram Refusal) → IsFollower s
    → AreOctets octets → reading_of s.opening octets ≡ r
    → (r >>= λ d. Ok (followed_at d.number (standing_of s d.timestamp))) ≡ Ok (Kept n)
    → IsKeptBy octets s n
kept_read s octets n (Err e) is fit read h = absurd cc
kept_read s octets n (Ok d) is fit read h =
    kept_at s octets d n (standing_of s d.timestamp)
    (admitted_takes s.opening octets d fit read) (means s d.timestamp is.rising) h

kept_place : (s : Following) (octets : List ℕ) (d : Datagram) (n : ℕ) (x : Standing)
    → IsFollower s → answer_to s octets ≡ Ok (followed_at d.number (standing_of s d.timestamp))
    → d.number ≡ n → IsMember d.timestamp s.opening.window ⊎ ComesNew s d.timestamp
    → answer_to s octets ≡ Ok (Kept n)
kept_place s octets d n x is a e (inl m) =
    a ∙ ap (λ (y : Standing). Ok (followed_at d.number y)) (member_inside s d.timestamp is m)
    ∙ ap (λ (k : ℕ). Ok (Kept k)) e
kept_place s octets d n x is a e (inr k) =
    a ∙ ap (λ (y : Standing). Ok (followed_at d.number y)) (new_back s d.timestamp k).1
    ∙ ap (λ (k : ℕ). Ok (Kept k)) e

pub kept_iff : (s : Following) (octets : List ℕ) (r : Result Followed Refusal) → IsFollower s
    → AreOctets octets → r ≡ answer_to s octets → (n : ℕ)
    → (r ≡ Ok (Kept n)) ↔ IsKeptBy octets s n
kept_iff s octets r is fit e n = (
  λ h. kept_read s octets n (reading_of s.opening octets) is fit refl (sym e ∙ h),
  λ k. e ∙ kept_place s octets k.datagram n Nowhere is
      (answer-for s octets k.datagram (admitted_for s.opening octets k.datagram k.is_for))
      k.number_is k.place,
)

due_at : (s : Following) (octets : List ℕ) (d : Datagram) (x : Standing)
    → IsFor octets s.opening d → Means s d.timestamp x
    → (let r : Result Followed Refusal = Ok (followed_at d.number x) in r ≡ Ok Due)
    → IsDueFor octets s
unfolding Means
due_at s octets d (Inside p) is m h = absurd cc
due_at s octets d (New p) is m h = absurd cc
due_at s octets d Waits is m h =
    record { datagram = d; is_for = is; fits = m.0; near = m.3; full = m.1; older = m.2 }
due_at s octets d Nowhere is m h = absurd cc
due_at s octets d Beyond is m h = absurd cc

due_read : (s : Following) (octets : List ℕ) (r : Result Datagram Refusal) → IsFollower s
    → AreOctets octets → reading_of s.opening octets ≡ r
    → (r >>= λ d. Ok (followed_at d.number (standing_of s d.timestamp))) ≡ Ok Due
    → IsDueFor octets s
due_read s octets (Err e) is fit read h = absurd cc
due_read s octets (Ok d) is fit read h =
    due_at s octets d (standing_of s d.timestamp) (admitted_takes s.opening octets d fit read)
    (means s d.timestamp is.rising) h

pub due_iff : (s : Following) (octets : List ℕ) (r : Result Followed Refusal) → IsFollower s
    → AreOctets octets → r ≡ answer_to s octets → (r ≡ Ok Due) ↔ IsDueFor octets s
due_iff s octets r is fit e = (
  λ h. due_read s octets (reading_of s.opening octets) is fit refl (sym e ∙ h),
  λ k. e ∙ answer-for s octets k.datagram (admitted_for s.opening octets k.datagram k.is_for)
      ∙ ap (λ (y : Standing). Ok (followed_at k.datagram.number y))
      (waits_back s k.datagram.timestamp k.fits k.near k.full k.older),
)

-- ---- late

late_full : (s : Following) (ts : ℕ) → standing_of s ts ≡ Nowhere → (IsTooFar s ts → ⊥) → FitsIn s ts
    → (length s.opening.window < s.size) ⊎ (s.size ≤ length s.opening.window)
    → s.size ≤ length s.opening.window
late_full s ts h near fits (inl room) =
    absurd (differ (new_back s ts (record { fits = fits; near = near; room = room })).0
    (sym (new_back s ts (record { fits = fits; near = near; room = room })).1 ∙ h))
  where
    differ : (p : ℕ) → New p ≡ Nowhere → ⊥
    differ p e = cc
late_full s ts h near fits (inr full) = full

apart : Waits ≡ Nowhere → ⊥
apart e = cc

out_of : (s : Following) (ts : ℕ) → IsFollower s → standing_of s ts ≡ Nowhere
    → IsMember ts s.opening.window → ⊥
out_of s ts is h m = differ (place_in ts s.opening.window) (sym (member_inside s ts is m) ∙ h)
  where
    differ : (p : ℕ) → Inside p ≡ Nowhere → ⊥
    differ p e = cc

nowhere_near : (s : Following) (ts : ℕ) → IsFollower s → standing_of s ts ≡ Nowhere → IsTooFar s ts → ⊥
unfolding Means
nowhere_near s ts is at = subst (Means s ts) at (means s ts is.rising)

late_at : (s : Following) (octets : List ℕ) (d : Datagram) (x : Standing) → IsFollower s
    → IsFor octets s.opening d → standing_of s d.timestamp ≡ x
    → (let r : Result Followed Refusal = Ok (followed_at d.number x) in r ≡ Ok Late)
    → IsLateFor octets s
late_at s octets d (Inside p) is for at h = absurd cc
late_at s octets d (New p) is for at h = absurd cc
late_at s octets d Waits is for at h = absurd cc
late_at s octets d Beyond is for at h = absurd cc
late_at s octets d Nowhere is for at h =
    let near : IsTooFar s d.timestamp → ⊥ = nowhere_near s d.timestamp is at in
    let full : FitsIn s d.timestamp → s.size ≤ length s.opening.window =
    λ fits. late_full s d.timestamp at near fits (cases_lt (length s.opening.window) s.size) in
    record {
      datagram = d;
      is_for = for;
      new = out_of s d.timestamp is at;
      near = near;
      full = full;
      oldest =
          λ fits older. apart (sym (waits_back s d.timestamp fits near (full fits) older) ∙ at);
    }

late_read : (s : Following) (octets : List ℕ) (r : Result Datagram Refusal) → IsFollower s
    → AreOctets octets → reading_of s.opening octets ≡ r
    → (r >>= λ d. Ok (followed_at d.number (standing_of s d.timestamp))) ≡ Ok Late
    → IsLateFor octets s
late_read s octets (Err e) is fit read h = absurd cc
late_read s octets (Ok d) is fit read h =
    late_at s octets d (standing_of s d.timestamp) is
    (admitted_takes s.opening octets d fit read) refl h

late_back : (s : Following) (octets : List ℕ) (k : IsLateFor octets s) (x : Standing)
    → Means s k.datagram.timestamp x → standing_of s k.datagram.timestamp ≡ x
    → followed_at k.datagram.number x ≡ Late
unfolding Means
late_back s octets k (Inside p) m at = absurd (k.new m)
late_back s octets k (New p) m at =
    let full = k.full m.fits in absurd (omega (arith, full, m.room))
late_back s octets k Waits m at = absurd (k.oldest m.0 m.2)
late_back s octets k Nowhere m at = refl
late_back s octets k Beyond m at = absurd (k.near m)

pub late_iff : (s : Following) (octets : List ℕ) (r : Result Followed Refusal) → IsFollower s
    → AreOctets octets → r ≡ answer_to s octets → (r ≡ Ok Late) ↔ IsLateFor octets s
late_iff s octets r is fit e = (
  λ h. late_read s octets (reading_of s.opening octets) is fit refl (sym e ∙ h),
  λ k. e ∙ answer-for s octets k.datagram (admitted_for s.opening octets k.datagram k.is_for)
      ∙ ap (λ (f : Followed). Ok f)
      (late_back s octets k (standing_of s k.datagram.timestamp)
      (means s k.datagram.timestamp is.rising) refl),
)

-- ---- far

far_at : (s : Following) (octets : List ℕ) (d : Datagram) (x : Standing)
    → IsFor octets s.opening d → Means s d.timestamp x
    → (let r : Result Followed Refusal = Ok (followed_at d.number x) in r ≡ Ok Far)
    → IsFarFor octets s
unfolding Means
far_at s octets d (Inside p) is m h = absurd cc
far_at s octets d (New p) is m h = absurd cc
far_at s octets d Waits is m h = absurd cc
far_at s octets d Nowhere is m h = absurd cc
far_at s octets d Beyond is m h = record { datagram = d; is_for = is; far = m }

far_read : (s : Following) (octets : List ℕ) (r : Result Datagram Refusal) → IsFollower s
    → AreOctets octets → reading_of s.opening octets ≡ r
    → (r >>= λ d. Ok (followed_at d.number (standing_of s d.timestamp))) ≡ Ok Far
    → IsFarFor octets s
far_read s octets (Err e) is fit read h = absurd cc
far_read s octets (Ok d) is fit read h =
    far_at s octets d (standing_of s d.timestamp) (admitted_takes s.opening octets d fit read)
    (means s d.timestamp is.rising) h

stands_far : (s : Following) (ts : ℕ) → IsTooFar s ts → standing_of s ts ≡ Beyond
stands_far s ts far =
    ap (λ (b : Bool). standing_near b (standing_in s.opening.window s.gone s.size ts))
    (far_back s ts far)

pub far_iff : (s : Following) (octets : List ℕ) (r : Result Followed Refusal) → IsFollower s
    → AreOctets octets → r ≡ answer_to s octets → (r ≡ Ok Far) ↔ IsFarFor octets s
far_iff s octets r is fit e = (
  λ h. far_read s octets (reading_of s.opening octets) is fit refl (sym e ∙ h),
  λ k. e ∙ answer-for s octets k.datagram (admitted_for s.opening octets k.datagram k.is_for)
      ∙ ap (λ (y : Standing). Ok (followed_at k.datagram.number y))
      (stands_far s k.datagram.timestamp k.far),
)

-- ---- refused

err_there : (s : Following) (o : Opening) (r : Result Datagram Refusal) (e : Refusal)
    → (r >>= λ d. Ok (followed_at d.number (standing_of s d.timestamp))) ≡ Err e
    → (r >>= λ d. Ok (kept_or_outside o.window d)) ≡ Err e
err_there s o (Ok d) e h = absurd cc
err_there s o (Err f) e h = let same : f ≡ e = cc in ap (λ (x : Refusal). Err x) same

err_back : (s : Following) (o : Opening) (r : Result Datagram Refusal) (e : Refusal)
    → (r >>= λ d. Ok (kept_or_outside o.window d)) ≡ Err e
    → (r >>= λ d. Ok (followed_at d.number (standing_of s d.timestamp))) ≡ Err e
err_back s o (Ok d) e h = absurd cc
err_back s o (Err f) e h = let same : f ≡ e = cc in ap (λ (x : Refusal). Err x) same

pub refused_iff : (s : Following) (octets : List ℕ) (r : Result Followed Refusal)
    → AreOctets octets → r ≡ answer_to s octets → (e : Refusal)
    → (r ≡ Err e) ↔ IsRefusedDatagram octets s.opening e
refused_iff s octets r fit is e =
    let k = refusal_iff s.opening octets (taken_at s.opening octets) fit refl e in (
      λ h. k.0 (err_there s s.opening (reading_of s.opening octets) e (sym is ∙ h)),
      λ h. is ∙ err_back s s.opening (reading_of s.opening octets) e (k.1 h),
    )
