-- A follower that has the frames of some times, and what a datagram does to it.
use Rattle.std.proofs.Common.{◌≡◌, ℕ, suc, ◌<◌, ◌≤◌, ◌⊎◌, inl, inr, Bool, true, false, cond}
use Rattle.std.proofs.Common.{eqb, List, [], ◌∷◌, ◌++◌, length, map, Option, Result, Ok}
use Rattle.std.proofs.Common.{Err, refl, sym, ap, ◌∙◌, arith}
use Rattle.std.specs.List.{insert}
use Rattle.std.proofs.lemmas.Bool.{lt-ltb, le-ltb, cases_eq, ne_eqb}
use Rattle.st_format.specs.Member.{IsMember}
use Rattle.st_format.specs.Raster.{Raster, blank}
use Rattle.path_receiver.specs.declared.answer.Refusal.{Refusal}
use Rattle.path_receiver.specs.Frames.{joined_frames}
use Rattle.path_receiver.specs.Grammar.{Datagram}
use Rattle.path_receiver.specs.Opening.{Opening}
use Rattle.path_receiver.specs.Sliding.{with_window}
use Rattle.following.specs.declared.standing.Standing.TheVariants.{New, Waits, Nowhere}
use Rattle.following.specs.Serial.{wrapped}
use Rattle.following.specs.Standing.{standing_in, standing_near}
use Rattle.following.specs.Follower.{Following, joined, brought_in, reading_of, read_in, standing_of}
use Rattle.following.specs.Follower.{state_after, taken_in}
use Rattle.following.specs.Following.{Handed, with_timestamps, waits_for, is_waiting, is_due}
use Rattle.following.specs.Times.{Timed, datagrams_at, frame_of, handed_at, time_if, times_of}
use Rattle.following.specs.Times.{with_time}
use Rattle.following.proofs.FrameLemmas.{frame_blank, frame_kept, frame_more}
use Rattle.following.proofs.Insertions.{AllNear, IsInReach, IsPast, count_older, insert-map}
use Rattle.following.proofs.Insertions.{standing-inside, standing-new, wrapped_if}
use Rattle.following.proofs.Near.{same_time}
use Rattle.following.proofs.Ordered.{Rises, from_times}

-- the frame of a time, of what has come
abbrev pub frame_at_time : Opening → List Timed → ℕ → Raster
frame_at_time o xs v = frame_of o (datagrams_at v xs) (wrapped v)

-- the follower that has the frames of these times, of what has come
abbrev pub shaped : Opening → ℕ → ℕ → List Timed → Option ℕ → List ℕ → Following
shaped o size ahead xs last win = record {
  opening = with_window o (map wrapped win);
  frames = map (frame_at_time o xs) win;
  size = size;
  most_ahead = ahead;
  gone = wrapped_if last;
}

abbrev with_frames : Opening → ℕ → ℕ → Option ℕ → List ℕ → List Raster → Following
with_frames o size ahead last win frames = record {
  opening = with_window o (map wrapped win);
  frames = frames;
  size = size;
  most_ahead = ahead;
  gone = wrapped_if last;
}

abbrev with_both : Opening → ℕ → ℕ → Option ℕ → List ℕ → List Raster → Following
with_both o size ahead last window frames = record {
  opening = with_window o window;
  frames = frames;
  size = size;
  most_ahead = ahead;
  gone = wrapped_if last;
}

-- where a time stands that is not too far ahead
pub stands-shaped : (o : Opening) (size ahead : ℕ) (xs : List Timed) (u : ℕ) (last : Option ℕ)
    (win : List ℕ) → IsInReach ahead last win u
    → standing_of (shaped o size ahead xs last win) (wrapped u)
    ≡ standing_in (map wrapped win) (wrapped_if last) size (wrapped u)
stands-shaped o size ahead xs u last win within =
    ap (λ (b : Bool). standing_near b
    (standing_in (map wrapped win) (wrapped_if last) size (wrapped u))) within

-- ---- a datagram that is joined

-- it is of this time, or of another timestamp
abbrev pub IsApart : ℕ → ℕ → Type 0
IsApart u v = (v ≡ u) ⊎ (wrapped v ≡ wrapped u → ⊥)

frames_joined : (o : Opening) (xs : List Timed) (y : Timed) (d : Datagram) (win : List ℕ)
    → reading_of o y.octets ≡ Ok d → d.timestamp ≡ wrapped y.time
    → ((v : ℕ) → IsMember v win → IsApart y.time v)
    → joined_frames (map (frame_at_time o xs) win) (map (frame_of o (y.octets ∷ [])) (map wrapped win))
    ≡ map (frame_at_time o (xs ++ y ∷ [])) win
frames_joined o xs y d [] read stamp other = refl
frames_joined o xs y d (v ∷ win) read stamp other =
    ap
    (λ (r : Raster). r ∷ joined_frames (map (frame_at_time o xs) win)
    (map (frame_of o (y.octets ∷ [])) (map wrapped win)))
    (frame_more o v xs y d read stamp (other v (inl refl)))
    ∙ ap (λ (rs : List Raster). frame_at_time o (xs ++ y ∷ []) v ∷ rs)
    (frames_joined o xs y d win read stamp (λ x m. other x (inr m)))

joined-shaped : (o : Opening) (size ahead : ℕ) (xs : List Timed) (y : Timed) (d : Datagram)
    (last : Option ℕ) (win : List ℕ) → reading_of o y.octets ≡ Ok d
    → d.timestamp ≡ wrapped y.time → ((v : ℕ) → IsMember v win → IsApart y.time v)
    → joined (shaped o size ahead xs last win) y.octets ≡ shaped o size ahead (xs ++ y ∷ []) last win
joined-shaped o size ahead xs y d last win read stamp other =
    ap (with_frames o size ahead last win) (frames_joined o xs y d win read stamp other)

-- ---- a frame that comes in

brought-shaped : (o : Opening) (size ahead : ℕ) (xs : List Timed) (u : ℕ) (last : Option ℕ)
    (win : List ℕ) → (IsMember u win → ⊥) → (IsMember u (times_of o xs) → ⊥)
    → brought_in (shaped o size ahead xs last win) (count_older u win) (wrapped u)
    ≡ shaped o size ahead xs last (with_time u win)
brought-shaped o size ahead xs u last win out fresh =
    ap
    (λ (w : List ℕ). with_both o size ahead last w
    (insert (map (frame_at_time o xs) win) (count_older u win) (blank o.format)))
    (insert-map wrapped u win out)
    ∙ ap (λ (r : Raster). with_frames o size ahead last (with_time u win)
    (insert (map (frame_at_time o xs) win) (count_older u win) r))
    (sym (frame_blank o u (wrapped u) xs fresh))
    ∙ ap (with_frames o size ahead last (with_time u win)) (insert-map (frame_at_time o xs) u win out)

-- ---- one datagram

kept_frames : (o : Opening) (xs zs : List Timed) (win : List ℕ)
    → ((v : ℕ) → IsMember v (times_of o zs) → ⊥)
    → map (frame_at_time o xs) win ≡ map (frame_at_time o (xs ++ zs)) win
kept_frames o xs zs [] none = refl
kept_frames o xs zs (v ∷ win) none =
    ap (λ (r : Raster). r ∷ map (frame_at_time o xs) win)
    (frame_kept o v (wrapped v) xs zs (none v))
    ∙ ap (λ (rs : List Raster). frame_at_time o (xs ++ zs) v ∷ rs) (kept_frames o xs zs win none)

none_of : (t v : ℕ) (r : Result Datagram Refusal) (e : Refusal) → r ≡ Err e
    → IsMember v (time_if t r ++ []) → ⊥
none_of t v (Ok d) e h m = absurd cc
none_of t v (Err f) e h m = m

-- What is refused leaves it.
pub after-refused : (o : Opening) (size ahead : ℕ) (xs : List Timed) (y : Timed) (e : Refusal)
    (last : Option ℕ) (win : List ℕ) → reading_of o y.octets ≡ Err e
    → state_after (shaped o size ahead xs last win) y.octets ≡ shaped o size ahead (xs ++ y ∷ []) last win
after-refused o size ahead xs y e last win read =
    ap (read_in (shaped o size ahead xs last win) y.octets) read
    ∙ ap (with_frames o size ahead last win)
    (kept_frames o xs (y ∷ []) win (λ v m. none_of y.time v (reading_of o y.octets) e read m))

apart_by : (u v : ℕ) → (u ≡ v) ⊎ (u ≡ v → ⊥) → (wrapped v ≡ wrapped u → u ≡ v) → IsApart u v
apart_by u v (inl e) same = inl (sym e)
apart_by u v (inr ne) same = inr (λ e. ne (same e))

all_apart : (u : ℕ) (vs : List ℕ) → AllNear u vs → (v : ℕ) → IsMember v vs → IsApart u v
all_apart u vs near v m =
    apart_by u v (cases_eq u v) (λ e. same_time u v (near v m) (sym e))

-- One of a time of the window is joined to its frame.
pub after-inside : (o : Opening) (size ahead : ℕ) (xs : List Timed) (y : Timed) (d : Datagram)
    (last : Option ℕ) (win : List ℕ) → reading_of o y.octets ≡ Ok d
    → d.timestamp ≡ wrapped y.time → IsInReach ahead last win y.time → AllNear y.time win → Rises win
    → IsMember y.time win
    → state_after (shaped o size ahead xs last win) y.octets ≡ shaped o size ahead (xs ++ y ∷ []) last win
after-inside o size ahead xs y d last win read stamp within near h m =
    let s : Following = shaped o size ahead xs last win in
    ap (read_in s y.octets) read
    ∙ ap (λ (ts : ℕ). taken_in s y.octets ts (standing_of s ts)) stamp
    ∙ ap (taken_in s y.octets (wrapped y.time))
    (stands-shaped o size ahead xs y.time last win within
    ∙ standing-inside y.time win (wrapped_if last) size near h m)
    ∙ joined-shaped o size ahead xs y d last win read stamp (all_apart y.time win near)

with_apart : (u : ℕ) (vs : List ℕ) → AllNear u vs → (v : ℕ) → IsMember v (with_time u vs)
    → IsApart u v
with_apart u vs near v m =
    elim (from_times v u vs m) [ inl e ↦ inl e | inr k ↦ all_apart u vs near v k ]

-- One of a new time brings its frame in, where there is room.
pub after-new : (o : Opening) (size ahead : ℕ) (xs : List Timed) (y : Timed) (d : Datagram)
    (last : Option ℕ) (win : List ℕ) → reading_of o y.octets ≡ Ok d
    → d.timestamp ≡ wrapped y.time → IsInReach ahead last win y.time → AllNear y.time win → Rises win
    → (IsMember y.time win → ⊥)
    → (IsMember y.time (times_of o xs) → ⊥) → IsPast last y.time → length win < size
    → state_after (shaped o size ahead xs last win) y.octets
    ≡ shaped o size ahead (xs ++ y ∷ []) last (with_time y.time win)
after-new o size ahead xs y d last win read stamp within near h out fresh past room =
    let s : Following = shaped o size ahead xs last win in
    let u : ℕ = y.time in
    let c : ℕ = count_older u win in
    ap (read_in s y.octets) read
    ∙ ap (λ (ts : ℕ). taken_in s y.octets ts (standing_of s ts)) stamp
    ∙ ap (taken_in s y.octets (wrapped u))
    (stands-shaped o size ahead xs u last win within ∙ standing-new u win last size near h out past)
    ∙ ap (λ (b : Bool). taken_in s y.octets (wrapped u)
    (cond b (New c) (cond (eqb c 0) Nowhere Waits))) (lt-ltb (length win) size room)
    ∙ ap (λ (t : Following). joined t y.octets) (brought-shaped o size ahead xs u last win out fresh)
    ∙ joined-shaped o size ahead xs y d last (with_time u win) read stamp (with_apart u win near)

-- ---- whether the oldest is due

pub due-refused : (o : Opening) (size ahead : ℕ) (xs : List Timed) (y : Timed) (e : Refusal)
    (last : Option ℕ) (win : List ℕ) → reading_of o y.octets ≡ Err e
    → is_due (shaped o size ahead xs last win) y.octets ≡ false
due-refused o size ahead xs y e last win read = ap (waits_for (shaped o size ahead xs last win)) read

pub waiting_at : (o : Opening) (size ahead : ℕ) (xs : List Timed) (y : Timed) (d : Datagram)
    (last : Option ℕ) (win : List ℕ) → reading_of o y.octets ≡ Ok d
    → d.timestamp ≡ wrapped y.time
    → is_due (shaped o size ahead xs last win) y.octets
    ≡ is_waiting (standing_of (shaped o size ahead xs last win) (wrapped y.time))
waiting_at o size ahead xs y d last win read stamp =
    let s : Following = shaped o size ahead xs last win in
    ap (waits_for s) read ∙ ap (λ (ts : ℕ). is_waiting (standing_of s ts)) stamp

pub due-inside : (o : Opening) (size ahead : ℕ) (xs : List Timed) (y : Timed) (d : Datagram)
    (last : Option ℕ) (win : List ℕ) → reading_of o y.octets ≡ Ok d
    → d.timestamp ≡ wrapped y.time → IsInReach ahead last win y.time → AllNear y.time win → Rises win
    → IsMember y.time win
    → is_due (shaped o size ahead xs last win) y.octets ≡ false
due-inside o size ahead xs y d last win read stamp within near h m =
    waiting_at o size ahead xs y d last win read stamp
    ∙ ap is_waiting
    (stands-shaped o size ahead xs y.time last win within
    ∙ standing-inside y.time win (wrapped_if last) size near h m)

pub due-new : (o : Opening) (size ahead : ℕ) (xs : List Timed) (y : Timed) (d : Datagram)
    (last : Option ℕ) (win : List ℕ) → reading_of o y.octets ≡ Ok d
    → d.timestamp ≡ wrapped y.time → IsInReach ahead last win y.time → AllNear y.time win → Rises win
    → (IsMember y.time win → ⊥)
    → IsPast last y.time → length win < size
    → is_due (shaped o size ahead xs last win) y.octets ≡ false
due-new o size ahead xs y d last win read stamp within near h out past room =
    let c : ℕ = count_older y.time win in
    waiting_at o size ahead xs y d last win read stamp
    ∙ ap is_waiting
    (stands-shaped o size ahead xs y.time last win within
    ∙ standing-new y.time win last size near h out past)
    ∙ ap (λ (b : Bool). is_waiting (cond b (New c) (cond (eqb c 0) Nowhere Waits)))
    (lt-ltb (length win) size room)

not_none : (n : ℕ) → suc n ≡ 0 → ⊥
not_none n e = absurd (omega (arith, e))

-- One of a new time that is newer than the oldest waits, where there is no room.
pub due-full : (o : Opening) (size ahead : ℕ) (xs : List Timed) (y : Timed) (d : Datagram)
    (last : Option ℕ) (v : ℕ) (win : List ℕ) → reading_of o y.octets ≡ Ok d
    → d.timestamp ≡ wrapped y.time → IsInReach ahead last (v ∷ win) y.time
    → AllNear y.time (v ∷ win) → Rises (v ∷ win)
    → (IsMember y.time (v ∷ win) → ⊥) → IsPast last y.time → size ≤ length (v ∷ win)
    → v < y.time → is_due (shaped o size ahead xs last (v ∷ win)) y.octets ≡ true
due-full o size ahead xs y d last v win read stamp within near h out past full newer =
    let c : ℕ = count_older y.time (v ∷ win) in
    waiting_at o size ahead xs y d last (v ∷ win) read stamp
    ∙ ap is_waiting
    (stands-shaped o size ahead xs y.time last (v ∷ win) within
    ∙ standing-new y.time (v ∷ win) last size near h out past)
    ∙ ap (λ (b : Bool). is_waiting (cond b (New c) (cond (eqb c 0) Nowhere Waits)))
    (le-ltb (length (v ∷ win)) size full)
    ∙ ap (λ (b : Bool). is_waiting (cond (eqb (cond b (suc (count_older y.time win)) 0) 0) Nowhere
    Waits)) (lt-ltb v y.time newer)
    ∙ ap (λ (b : Bool). is_waiting (cond b Nowhere Waits))
    (ne_eqb (suc (count_older y.time win)) 0 (not_none (count_older y.time win)))

-- ---- what is in

pub frames_in-shaped : (o : Opening) (xs : List Timed) (win : List ℕ)
    → with_timestamps (map wrapped win) (map (frame_at_time o xs) win) ≡ map (handed_at o xs) win
frames_in-shaped o xs [] = refl
frames_in-shaped o xs (v ∷ win) =
    ap (λ (hs : List Handed). handed_at o xs v ∷ hs) (frames_in-shaped o xs win)
