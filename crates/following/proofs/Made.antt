-- Each frame is of some of the datagrams that came.
use Rattle.std.proofs.Common.{◌≡◌, ℕ, zero, suc, ◌≤◌, ◌⊎◌, inl, inr, Bool, true, false, cond, List, []}
use Rattle.std.proofs.Common.{◌∷◌, ◌++◌, length, map, take, drop, Result, Ok, Err, refl, sym, ap, ◌∙◌}
use Rattle.std.proofs.Common.{subst, arith}
use Rattle.std.specs.List.{insert}
use Rattle.st_format.specs.Member.{IsMember}
use Rattle.st_format.specs.Raster.{Raster, blank, joined_rasters}
use Rattle.st_format.proofs.Members.{member_cases, member_left, member_right}
use Rattle.path_receiver.specs.declared.answer.Refusal.{Refusal}
use Rattle.path_receiver.specs.Frames.{joined_frames}
use Rattle.path_receiver.specs.Grammar.{Datagram}
use Rattle.path_receiver.specs.Opening.{Opening}
use Rattle.path_receiver.specs.Sender.{AreAmong}
use Rattle.path_receiver.specs.Sliding.{with_window}
use Rattle.following.specs.declared.standing.Standing.{Standing}
use Rattle.following.specs.declared.standing.Standing.TheVariants.{Beyond, Inside, New, Waits}
use Rattle.following.specs.declared.standing.Standing.TheVariants.{Nowhere}
use Rattle.following.specs.Follower.{Following, brought_in, joined, opened, read_in, reading_of}
use Rattle.following.specs.Follower.{standing_of, state_after, taken_in, without_oldest}
use Rattle.following.specs.Following.{Handed, frames_in, handed_before, is_due, with_timestamps}
use Rattle.following.specs.Pictures.{IsOfSome}
use Rattle.following.specs.Times.{frame_of}
use Rattle.following.specs.Turned.{early_count, handed_all, handed_early, handed_in, handed_while}
use Rattle.following.specs.Turned.{state_behind, state_taken, turned, without_first}
use Rattle.following.proofs.FrameLemmas.{blank_is, frame_both}
use Rattle.following.proofs.Kept.{comes_to, within_window}
use Rattle.following.proofs.Rises.{Stands, stands_oldest, stands_read}

abbrev handed : ℕ → Raster → Handed
handed t r = record { timestamp = t; frame = r }

-- each frame of a window
abbrev AreMade : Opening → List (List ℕ) → List ℕ → List Raster → Type 0
AreMade o all [] rs = Unit {0}
AreMade o all (t ∷ w) [] = Unit {0}
AreMade o all (t ∷ w) (r ∷ rs) = IsOfSome o all (handed t r) × AreMade o all w rs

-- ---- a datagram that is joined

one_joined : (o : Opening) (all : List (List ℕ)) (octets : List ℕ) (t : ℕ) (r q : Raster)
    → IsMember octets all → q ≡ frame_of o (octets ∷ []) t → IsOfSome o all (handed t r)
    → IsOfSome o all (handed t (joined_rasters r q))
one_joined o all octets t r q m e h = record {
  some = h.some ++ octets ∷ [];
  among = λ d k. at d (member_cases d h.some (octets ∷ []) k);
  is =
      ap (λ (x : Raster). joined_rasters x q) h.is
      ∙ ap (λ (x : Raster). joined_rasters (frame_of o h.some t) x) e
      ∙ sym (frame_both o h.some (octets ∷ []) t);
}
  where
    at : (d : List ℕ) → IsMember d h.some ⊎ IsMember d (octets ∷ []) → IsMember d all
    at d (inl k) = h.among d k
    at d (inr (inl f)) = subst (λ (x : List ℕ). IsMember x all) (sym f) m
    at d (inr (inr k)) = absurd k

made_joined : (o : Opening) (all : List (List ℕ)) (octets : List ℕ) (F : ℕ → Raster)
    → IsMember octets all → ((t : ℕ) → F t ≡ frame_of o (octets ∷ []) t) → (w : List ℕ)
    (rs : List Raster) → AreMade o all w rs → AreMade o all w (joined_frames rs (map F w))
made_joined o all octets F m e [] rs h = tt
made_joined o all octets F m e (t ∷ w) [] h = tt
made_joined o all octets F m e (t ∷ w) (r ∷ rs) h =
    (one_joined o all octets t r (F t) m (e t) h.0, made_joined o all octets F m e w rs h.1)

-- ---- a frame that comes in, and one that goes

none_made : (o : Opening) (all : List (List ℕ)) (t : ℕ) → IsOfSome o all (handed t (blank o.format))
none_made o all t =
    record { some = []; among = λ d m. absurd m; is = sym (blank_is o.format t) }

made_insert : (o : Opening) (all : List (List ℕ)) (w : List ℕ) (rs : List Raster) (p t : ℕ)
    (q : Raster) → length rs ≡ length w → p ≤ length w → IsOfSome o all (handed t q)
    → AreMade o all w rs → AreMade o all (insert w p t) (insert rs p q)
made_insert o all w rs zero t q e le one h = (one, h)
made_insert o all [] rs (suc p) t q e le one h = absurd (omega (arith, le))
made_insert o all (x ∷ w) [] (suc p) t q e le one h = absurd (omega (arith, e))
made_insert o all (x ∷ w) (r ∷ rs) (suc p) t q e le one h =
    (h.0, made_insert o all w rs p t q (omega (arith, e)) (omega (arith, le)) one h.1)

made_drop : (o : Opening) (all : List (List ℕ)) (w : List ℕ) (rs : List Raster)
    → AreMade o all w rs → AreMade o all (drop 1 w) (drop 1 rs)
made_drop o all [] rs h = tt
made_drop o all (t ∷ []) [] h = tt
made_drop o all (t ∷ u ∷ w) [] h = tt
made_drop o all (t ∷ w) (r ∷ rs) h = h.1

-- ---- a follower whose frames are

record IsMade (o : Opening) (all : List (List ℕ)) (s : Following) : Type 0 where
  stands : Stands s
  opening : s.opening ≡ with_window o s.opening.window
  made : AreMade o all s.opening.window s.frames

made_of : (o : Opening) (all : List (List ℕ)) (s : Following) (octets : List ℕ)
    → s.opening ≡ with_window o s.opening.window → IsMember octets all
    → AreMade o all s.opening.window s.frames
    → AreMade o all s.opening.window (joined s octets).frames
made_of o all s octets opening m h =
    made_joined o all octets (frame_of s.opening (octets ∷ [])) m
    (λ t. ap (λ (p : Opening). frame_of p (octets ∷ []) t) opening)
    s.opening.window s.frames h

brought_made : (o : Opening) (all : List (List ℕ)) (s : Following) (place t : ℕ)
    → IsMade o all s → standing_of s t ≡ New place
    → AreMade o all (brought_in s place t).opening.window (brought_in s place t).frames
brought_made o all s place t h at =
    subst (λ (p : Opening). AreMade o all (insert s.opening.window place t)
    (insert s.frames place (blank p.format))) (sym h.opening)
    (made_insert o all s.opening.window s.frames place t (blank o.format) h.stands.one_each
    (within_window s.opening.window s.gone s.size t place (comes_to s place t at))
    (none_made o all t) h.made)

brought_opening : (o : Opening) (s : Following) (place t : ℕ)
    → s.opening ≡ with_window o s.opening.window
    → (brought_in s place t).opening ≡ with_window o (brought_in s place t).opening.window
brought_opening o s place t e =
    ap (λ (p : Opening). with_window p (insert s.opening.window place t)) e

-- what a datagram leaves of it
record Parts (o : Opening) (all : List (List ℕ)) (t : Following) : Type 0 where
  opening : t.opening ≡ with_window o t.opening.window
  made : AreMade o all t.opening.window t.frames

parts_taken : (o : Opening) (all : List (List ℕ)) (s : Following) (octets : List ℕ) (ts : ℕ)
    (x : Standing) → IsMade o all s → IsMember octets all → standing_of s ts ≡ x
    → Parts o all (taken_in s octets ts x)
parts_taken o all s octets ts (Inside p) h m at =
    record { opening = h.opening; made = made_of o all s octets h.opening m h.made }
parts_taken o all s octets ts (New p) h m at =
    let t : Following = brought_in s p ts in
    let opening = brought_opening o s p ts h.opening in record {
      opening = opening;
      made = made_of o all t octets opening m (brought_made o all s p ts h at);
    }
parts_taken o all s octets ts Waits h m at = record { opening = h.opening; made = h.made }
parts_taken o all s octets ts Nowhere h m at = record { opening = h.opening; made = h.made }
parts_taken o all s octets ts Beyond h m at = record { opening = h.opening; made = h.made }

parts_read : (o : Opening) (all : List (List ℕ)) (s : Following) (octets : List ℕ)
    (r : Result Datagram Refusal) → IsMade o all s → IsMember octets all
    → Parts o all (read_in s octets r)
parts_read o all s octets (Ok d) h m =
    parts_taken o all s octets d.timestamp (standing_of s d.timestamp) h m refl
parts_read o all s octets (Err e) h m = record { opening = h.opening; made = h.made }

made_after : (o : Opening) (all : List (List ℕ)) (s : Following) (octets : List ℕ)
    → IsMade o all s → IsMember octets all → IsMade o all (state_after s octets)
made_after o all s octets h m =
    let k = parts_read o all s octets (reading_of s.opening octets) h m in record {
      stands = stands_read s octets (reading_of s.opening octets) h.stands;
      opening = k.opening;
      made = k.made;
    }

made_oldest : (o : Opening) (all : List (List ℕ)) (s : Following) → IsMade o all s
    → IsMade o all (without_oldest s)
made_oldest o all s h = record {
  stands = stands_oldest s h.stands;
  opening = ap (λ (p : Opening). with_window p (drop 1 s.opening.window)) h.opening;
  made = made_drop o all s.opening.window s.frames h.made;
}

made_early : (o : Opening) (all : List (List ℕ)) (n : ℕ) (s : Following) → IsMade o all s
    → IsMade o all (without_first n s)
made_early o all zero s h = h
made_early o all (suc n) s h = made_early o all n (without_oldest s) (made_oldest o all s h)

made_ready : (o : Opening) (all : List (List ℕ)) (b : Bool) (s : Following) (octets : List ℕ)
    → IsMade o all s → IsMember octets all
    → IsMade o all (state_after (cond b (without_oldest s) s) octets)
made_ready o all true s octets h m =
    made_after o all (without_oldest s) octets (made_oldest o all s h) m
made_ready o all false s octets h m = made_after o all s octets h m

made_turned : (o : Opening) (all : List (List ℕ)) (eager : Bool) (s : Following) (octets : List ℕ)
    → IsMade o all s → IsMember octets all → IsMade o all (turned eager s octets)
unfolding turned
made_turned o all eager s octets h m =
    let t : Following = state_taken s octets in
    made_early o all (early_count eager t) t (made_ready o all (is_due s octets) s octets h m)

-- ---- what is handed out

made_in : (o : Opening) (all : List (List ℕ)) (w : List ℕ) (rs : List Raster) (h : Handed)
    → AreMade o all w rs → IsMember h (with_timestamps w rs) → IsOfSome o all h
made_in o all [] rs h made m = absurd m
made_in o all (t ∷ w) [] h made m = absurd m
made_in o all (t ∷ w) (r ∷ rs) h made (inl e) =
    subst (λ (x : Handed). IsOfSome o all x) (sym e) made.0
made_in o all (t ∷ w) (r ∷ rs) h made (inr m) = made_in o all w rs h made.1 m

pub in_first : (n : ℕ) (h : Handed) (hs : List Handed) → IsMember h (take n hs) → IsMember h hs
in_first zero h hs m = absurd m
in_first (suc n) h [] m = absurd m
in_first (suc n) h (x ∷ hs) (inl e) = inl e
in_first (suc n) h (x ∷ hs) (inr m) = inr (in_first n h hs m)

made_first : (o : Opening) (all : List (List ℕ)) (n : ℕ) (s : Following) (h : Handed)
    → IsMade o all s → IsMember h (take n (frames_in s)) → IsOfSome o all h
made_first o all n s h made m =
    made_in o all s.opening.window s.frames h made.made (in_first n h (frames_in s) m)

before_made : (o : Opening) (all : List (List ℕ)) (b : Bool) (s : Following) (h : Handed)
    → IsMade o all s → IsMember h (cond b (take 1 (frames_in s)) []) → IsOfSome o all h
before_made o all true s h made k = made_first o all 1 s h made k
before_made o all false s h made k = absurd k

handed_made : (o : Opening) (all : List (List ℕ)) (eager : Bool) (s : Following) (octets : List ℕ)
    (h : Handed) → IsMade o all s → IsMember octets all → IsMember h (handed_in eager s octets)
    → IsOfSome o all h
unfolding handed_in
handed_made o all eager s octets h made m k =
    at (member_cases h (handed_before s octets) (handed_early eager (state_taken s octets)) k)
  where
    at : IsMember h (handed_before s octets)
        ⊎ IsMember h (handed_early eager (state_taken s octets)) → IsOfSome o all h
    at (inl j) = before_made o all (is_due s octets) s h made j
    at (inr j) =
        made_first o all (early_count eager (state_taken s octets)) (state_taken s octets) h
        (made_ready o all (is_due s octets) s octets made m) j

-- of the first datagram, and of the rest
parts_made : (o : Opening) (all : List (List ℕ)) (eager : Bool) (s t : Following) (d : List ℕ)
    (ds : List (List ℕ)) (h : Handed) → IsMade o all s → IsMember d all
    → (IsMember h (handed_all eager t ds) → IsOfSome o all h)
    → IsMember h ((handed_in eager s d ++ handed_while eager t ds) ++ frames_in (state_behind eager t ds))
    → IsOfSome o all h
parts_made o all eager s t d ds h made here rest m =
    at (member_cases h (handed_in eager s d ++ handed_while eager t ds)
    (frames_in (state_behind eager t ds)) m)
  where
    first : IsMember h (handed_in eager s d) ⊎ IsMember h (handed_while eager t ds)
        → IsOfSome o all h
    first (inl k) = handed_made o all eager s d h made here k
    first (inr k) =
        rest (member_left h (handed_while eager t ds) (frames_in (state_behind eager t ds)) k)

    at : IsMember h (handed_in eager s d ++ handed_while eager t ds)
        ⊎ IsMember h (frames_in (state_behind eager t ds)) → IsOfSome o all h
    at (inl k) = first (member_cases h (handed_in eager s d) (handed_while eager t ds) k)
    at (inr k) =
        rest (member_right h (handed_while eager t ds) (frames_in (state_behind eager t ds)) k)

all_made : (o : Opening) (all : List (List ℕ)) (eager : Bool) (s : Following) (ds : List (List ℕ))
    (h : Handed) → IsMade o all s → AreAmong ds all → IsMember h (handed_all eager s ds)
    → IsOfSome o all h
all_made o all eager s [] h made among m =
    made_in o all s.opening.window s.frames h made.made m
all_made o all eager s (d ∷ ds) h made among m =
    let t : Following = turned eager s d in
    let here : IsMember d all = among d (inl refl) in
    parts_made o all eager s t d ds h made here
    (λ k. all_made o all eager t ds h (made_turned o all eager s d made here)
    (λ x j. among x (inr j)) k) m

-- Each frame that is handed out, or in at the end, is of some of the datagrams.
pub of_some : (eager : Bool) (o : Opening) (size ahead : ℕ) (ds : List (List ℕ)) (h : Handed)
    → IsMember h (handed_all eager (opened o size ahead) ds) → IsOfSome o ds h
of_some eager o size ahead ds h m =
    all_made o ds eager (opened o size ahead) ds h
    (record {
      stands = record { rising = tt; one_each = refl; room = omega arith };
      opening = refl;
      made = tt;
    })
    (λ d k. k) m
