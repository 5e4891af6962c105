-- The timestamps that are handed out rise, whatever comes.
use Rattle.std.proofs.Common.{◌≡◌, ℕ, suc, ◌<◌, ◌≤◌, Bool, true, false, cond, List, []}
use Rattle.std.proofs.Common.{◌∷◌, ◌++◌, length, map, take, Option, None, Some, Result, Ok, Err}
use Rattle.std.proofs.Common.{refl, sym, ap, ◌∙◌, subst, arith, inl, inr, ◌^◌}
use Rattle.std.proofs.Common.{lt_trans}
use Rattle.std.specs.Prelude.{IsTrue, nat_lt}
use Rattle.std.proofs.lemmas.Bool.{and_parts, ltb-true}
use Rattle.std.specs.List.{insert}
use Rattle.std.proofs.lemmas.List.Edits.{length-insert}
use Rattle.st_format.specs.Raster.{Raster, blank}
use Rattle.path_receiver.specs.declared.answer.Refusal.{Refusal}
use Rattle.path_receiver.specs.Frames.{joined_frames}
use Rattle.path_receiver.specs.Grammar.{Datagram}
use Rattle.path_receiver.specs.Opening.{AreDifferent, Opening}
use Rattle.path_receiver.specs.Sliding.{with_window}
use Rattle.st_format.specs.Member.{IsMember}
use Rattle.following.specs.declared.standing.Standing.{Standing}
use Rattle.following.specs.declared.standing.Standing.TheVariants.{Beyond, Inside, New, Waits}
use Rattle.following.specs.declared.standing.Standing.TheVariants.{Nowhere}
use Rattle.following.specs.Serial.{ahead_of, is_newer}
use Rattle.following.specs.Standing.{is_behind}
use Rattle.following.specs.Follower.{AreRising, Following, brought_in, joined, opened, read_in}
use Rattle.following.specs.Follower.{reading_of, since, standing_of, state_after, taken_in}
use Rattle.following.specs.Follower.{without_oldest}
use Rattle.following.specs.Following.{Handed, RiseFrom, frames_in, handed_out, is_due}
use Rattle.following.specs.Following.{stamps_of, with_timestamps}
use Rattle.following.specs.Times.{frame_of}
use Rattle.following.proofs.Kept.{comes_to, within_window}
use Rattle.following.proofs.Rising.{rising_since}

-- what is kept: the window rises behind what has gone, with one frame for each
pub record Stands (s : Following) : Type 0 where
  pub rising : AreRising (since s.gone s.opening.window)
  pub one_each : length s.frames ≡ length s.opening.window
  pub room : length s.opening.window ≤ s.size

length_joined : (F : ℕ → Raster) (rs : List Raster) (w : List ℕ) → length rs ≡ length w
    → length (joined_frames rs (map F w)) ≡ length rs
length_joined F [] w e = refl
length_joined F (r ∷ rs) [] e = absurd (omega (arith, e))
length_joined F (r ∷ rs) (t ∷ w) e = ap suc (length_joined F rs w (omega (arith, e)))

stands_joined : (s : Following) (octets : List ℕ) → Stands s → Stands (joined s octets)
stands_joined s octets h = record {
  rising = h.rising;
  one_each =
      length_joined (frame_of s.opening (octets ∷ [])) s.frames s.opening.window h.one_each
      ∙ h.one_each;
  room = h.room;
}

stands_brought : (s : Following) (place ts : ℕ) → Stands s → standing_of s ts ≡ New place
    → Stands (brought_in s place ts)
stands_brought s place ts h at =
    let w : List ℕ = s.opening.window in
    let k = comes_to s place ts at in
    let le : place ≤ length w = within_window w s.gone s.size ts place k in record {
      rising =
          subst (λ (i : ℕ). AreRising (since s.gone (insert w i ts))) k.at
          (rising_since s.gone ts w h.rising k.behind k.all);
      one_each =
          omega (
            arith,
            length-insert w place ts le,
            length-insert s.frames place (blank s.opening.format) (omega (arith, le, h.one_each)),
            h.one_each,
          );
      room = omega (arith, length-insert w place ts le, k.room);
    }

stands_taken : (s : Following) (octets : List ℕ) (ts : ℕ) (x : Standing) → Stands s
    → standing_of s ts ≡ x → Stands (taken_in s octets ts x)
stands_taken s octets ts (Inside p) h at = stands_joined s octets h
stands_taken s octets ts (New p) h at =
    stands_joined (brought_in s p ts) octets (stands_brought s p ts h at)
stands_taken s octets ts Waits h at = h
stands_taken s octets ts Nowhere h at = h
stands_taken s octets ts Beyond h at = h

pub stands_read : (s : Following) (octets : List ℕ) (r : Result Datagram Refusal) → Stands s
    → Stands (read_in s octets r)
stands_read s octets (Ok d) h = stands_taken s octets d.timestamp (standing_of s d.timestamp) h refl
stands_read s octets (Err e) h = h

gone-taken : (s : Following) (octets : List ℕ) (ts : ℕ) (x : Standing)
    → (taken_in s octets ts x).gone ≡ s.gone
gone-taken s octets ts (Inside p) = refl
gone-taken s octets ts (New p) = refl
gone-taken s octets ts Waits = refl
gone-taken s octets ts Nowhere = refl
gone-taken s octets ts Beyond = refl

pub gone-read : (s : Following) (octets : List ℕ) (r : Result Datagram Refusal)
    → (read_in s octets r).gone ≡ s.gone
gone-read s octets (Ok d) = gone-taken s octets d.timestamp (standing_of s d.timestamp)
gone-read s octets (Err e) = refl

-- ---- the oldest goes

pub first_behind : (gone : Option ℕ) (t : ℕ) (w : List ℕ) → AreRising (since gone (t ∷ w))
    → IsTrue (is_behind gone t)
first_behind None t w h = refl
first_behind (Some g) t w h = h.0.0

rest_rises : (gone : Option ℕ) (t : ℕ) (w : List ℕ) → AreRising (since gone (t ∷ w))
    → AreRising (t ∷ w)
rest_rises None t w h = h
rest_rises (Some g) t w h = h.1

-- what is in, handed out in turn
pub rise_in : (gone : Option ℕ) (w : List ℕ) (rs : List Raster) → AreRising (since gone w)
    → RiseFrom gone (stamps_of (with_timestamps w rs))
rise_in past [] rs h = tt
rise_in past (t ∷ w) [] h = tt
rise_in past (t ∷ w) (r ∷ rs) h =
    (first_behind past t w h, rise_in (Some t) w rs (rest_rises past t w h))

-- a follower by its parts
abbrev pub made : Opening → ℕ → ℕ → Option ℕ → List ℕ → List Raster → Following
made o size ahead gone window frames = record {
  opening = with_window o window;
  frames = frames;
  size = size;
  most_ahead = ahead;
  gone = gone;
}

stands_drop : (o : Opening) (size ahead : ℕ) (gone : Option ℕ) (w : List ℕ) (rs : List Raster)
    → Stands (made o size ahead gone w rs) → Stands (without_oldest (made o size ahead gone w rs))
stands_drop o size ahead past [] [] h =
    record { rising = h.rising; one_each = refl; room = omega arith }
stands_drop o size ahead past [] (r ∷ rs) h = absurd (omega (arith, h.one_each))
stands_drop o size ahead past (t ∷ w) [] h = absurd (omega (arith, h.one_each))
stands_drop o size ahead past (t ∷ w) (r ∷ rs) h = record {
  rising = rest_rises past t w h.rising;
  one_each = omega (arith, h.one_each);
  room = omega (arith, h.room);
}

pub stands_oldest : (s : Following) → Stands s → Stands (without_oldest s)
stands_oldest s h =
    stands_drop s.opening s.size s.most_ahead s.gone s.opening.window s.frames h

-- ---- whole lists

abbrev Goes : List (List ℕ) → Type 0
Goes datagrams =
    (t : Following) → Stands t → RiseFrom t.gone (stamps_of (handed_out t datagrams))

-- one datagram is taken, and the rest is handed out
after_one : (s : Following) (octets : List ℕ) (datagrams : List (List ℕ)) → Stands s
    → Goes datagrams → RiseFrom s.gone (stamps_of (handed_out (state_after s octets) datagrams))
after_one s octets datagrams h go =
    let t : Following = state_after s octets in
    subst (λ (g : Option ℕ). RiseFrom g (stamps_of (handed_out t datagrams)))
    (gone-read s octets (reading_of s.opening octets))
    (go t (stands_read s octets (reading_of s.opening octets) h))

abbrev Rest : Following → List ℕ → List (List ℕ) → Bool → List Handed
Rest s octets datagrams b =
    cond b (take 1 (frames_in s)) []
    ++ handed_out (state_after (cond b (without_oldest s) s) octets) datagrams

after_oldest : (o : Opening) (size ahead : ℕ) (gone : Option ℕ) (w : List ℕ) (rs : List Raster)
    (octets : List ℕ) (datagrams : List (List ℕ)) → Stands (made o size ahead gone w rs)
    → Goes datagrams → RiseFrom gone (stamps_of (Rest (made o size ahead gone w rs) octets datagrams true))
after_oldest o size ahead past [] [] octets datagrams h go =
    after_one (made o size ahead past [] []) octets datagrams h go
after_oldest o size ahead past [] (r ∷ rs) octets datagrams h go = absurd (omega (arith, h.one_each))
after_oldest o size ahead past (t ∷ w) [] octets datagrams h go = absurd (omega (arith, h.one_each))
after_oldest o size ahead past (t ∷ w) (r ∷ rs) octets datagrams h go = (
  first_behind past t w h.rising,
  after_one (made o size ahead (Some t) w rs) octets datagrams
      (record {
        rising = rest_rises past t w h.rising;
        one_each =
            omega (arith, h.one_each);
        room = omega (arith, h.room);
      })
      go,
)

rises_on : (s : Following) (octets : List ℕ) (datagrams : List (List ℕ)) (b : Bool) → Stands s
    → Goes datagrams → RiseFrom s.gone (stamps_of (Rest s octets datagrams b))
rises_on s octets datagrams true h go =
    after_oldest s.opening s.size s.most_ahead s.gone s.opening.window s.frames octets datagrams h go
rises_on s octets datagrams false h go = after_one s octets datagrams h go

goes : (datagrams : List (List ℕ)) → Goes datagrams
goes [] t h = rise_in t.gone t.opening.window t.frames h.rising
goes (octets ∷ datagrams) t h =
    rises_on t octets datagrams (is_due t octets) h (goes datagrams)

-- Each timestamp that is handed out is newer than the one before.
pub handed_rise : (o : Opening) (size ahead : ℕ) (datagrams : List (List ℕ))
    → RiseFrom None (stamps_of (handed_out (opened o size ahead) datagrams))
handed_rise o size ahead datagrams =
    goes datagrams (opened o size ahead) (record { rising = tt; one_each = refl; room = omega arith })

-- ---- in half a round, none twice

abbrev IsAhead : ℕ → ℕ → Type 0
IsAhead base t = ahead_of t base < 2 ^ 31

later_ahead : (base t s : ℕ) → IsAhead base t → IsAhead base s → is_newer t s ≡ true
    → ahead_of s base < ahead_of t base
unfolding is_newer
later_ahead base t s a b e =
    let k = and_parts (nat_lt 0 (ahead_of t s)) (nat_lt (ahead_of t s) (2 ^ 31)) e in
    more base t s a b (ltb-true 0 (ahead_of t s) k.0) (ltb-true (ahead_of t s) (2 ^ 31) k.1)
  where
    more : (base t s : ℕ) → IsAhead base t → IsAhead base s → 0 < ahead_of t s
        → ahead_of t s < 2 ^ 31 → ahead_of s base < ahead_of t base
    more base t s a b some less = omega arith

all_above : (base g : ℕ) (ts : List ℕ) → IsAhead base g
    → ((t : ℕ) → IsMember t ts → IsAhead base t) → RiseFrom (Some g) ts → (t : ℕ)
    → IsMember t ts → ahead_of g base < ahead_of t base
all_above base g [] a all h t m = absurd m
all_above base g (x ∷ ts) a all h t (inl e) =
    subst (λ (y : ℕ). ahead_of g base < ahead_of y base) (sym e)
    (later_ahead base x g (all x (inl refl)) a h.0)
all_above base g (x ∷ ts) a all h t (inr m) =
    let one : ahead_of g base < ahead_of x base =
    later_ahead base x g (all x (inl refl)) a h.0 in
    let rest : ahead_of x base < ahead_of t base =
    all_above base x ts (all x (inl refl)) (λ y k. all y (inr k)) h.1 t m in
    lt_trans one rest

-- Timestamps that rise within half a round are all different.
pub rise_different : (base : ℕ) (before : Option ℕ) (ts : List ℕ)
    → ((t : ℕ) → IsMember t ts → IsAhead base t) → RiseFrom before ts → AreDifferent ts
rise_different base before [] all h = tt
rise_different base before (t ∷ ts) all h = (
  λ m. let lt : ahead_of t base < ahead_of t base =
      all_above base t ts (all t (inl refl)) (λ y k. all y (inr k)) h.1 t m in
      absurd (omega (arith, lt)),
  rise_different base (Some t) ts (λ y k. all y (inr k)) h.1,
)
