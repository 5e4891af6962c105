-- The timestamps that are handed out rise, also where frames go early.
use Rattle.std.proofs.Common.{◌≡◌, ℕ, zero, suc, Bool, true, false, cond, List, [], ◌∷◌, ◌++◌, take}
use Rattle.std.proofs.Common.{Option, None, refl, sym, ap, ◌∙◌, subst, arith, append_assoc}
use Rattle.std.proofs.lemmas.List.{map-append}
use Rattle.st_format.specs.Raster.{Raster}
use Rattle.path_receiver.specs.Opening.{Opening}
use Rattle.following.specs.Follower.{Following, opened, reading_of, state_after, without_oldest}
use Rattle.following.specs.Following.{Handed, RiseFrom, frames_in, handed_before, is_due}
use Rattle.following.specs.Following.{stamps_of}
use Rattle.following.specs.Turned.{early_count, handed_all, handed_early, handed_in, handed_while}
use Rattle.following.specs.Turned.{state_behind, state_taken, turned, without_first}
use Rattle.following.proofs.Rises.{Stands, first_behind, gone-read, made, rise_in, stands_oldest}
use Rattle.following.proofs.Rises.{stands_read}
use Rattle.following.proofs.Turning.{take_more}

first_made : (o : Opening) (size ahead : ℕ) (gone : Option ℕ) (w : List ℕ) (rs : List Raster)
    (ts : List ℕ) → Stands (made o size ahead gone w rs)
    → RiseFrom (without_oldest (made o size ahead gone w rs)).gone ts
    → RiseFrom gone (stamps_of (take 1 (frames_in (made o size ahead gone w rs))) ++ ts)
first_made o size ahead past [] [] ts h rest = rest
first_made o size ahead past [] (r ∷ rs) ts h rest = absurd (omega (arith, h.one_each))
first_made o size ahead past (t ∷ w) [] ts h rest = absurd (omega (arith, h.one_each))
first_made o size ahead past (t ∷ w) (r ∷ rs) ts h rest = (first_behind past t w h.rising, rest)

-- the oldest, and what rises behind it
first_rises : (s : Following) (ts : List ℕ) → Stands s → RiseFrom (without_oldest s).gone ts
    → RiseFrom s.gone (stamps_of (take 1 (frames_in s)) ++ ts)
first_rises s ts h rest =
    first_made s.opening s.size s.most_ahead s.gone s.opening.window s.frames ts h rest

-- the oldest where it goes, or none
before_rises : (b : Bool) (s : Following) (octets : List ℕ) (ts : List ℕ) → Stands s
    → RiseFrom (state_after (cond b (without_oldest s) s) octets).gone ts
    → RiseFrom s.gone (stamps_of (cond b (take 1 (frames_in s)) []) ++ ts)
before_rises true s octets ts h rest =
    let t : Following = without_oldest s in
    first_rises s ts h
    (subst (λ (g : Option ℕ). RiseFrom g ts) (gone-read t octets (reading_of t.opening octets)) rest)
before_rises false s octets ts h rest =
    subst (λ (g : Option ℕ). RiseFrom g ts) (gone-read s octets (reading_of s.opening octets)) rest

stands_ready : (b : Bool) (s : Following) (octets : List ℕ) → Stands s
    → Stands (state_after (cond b (without_oldest s) s) octets)
stands_ready true s octets h =
    let t : Following = without_oldest s in
    stands_read t octets (reading_of t.opening octets) (stands_oldest s h)
stands_ready false s octets h = stands_read s octets (reading_of s.opening octets) h

-- so many that go
early_rises : (n : ℕ) (s : Following) (ts : List ℕ) → Stands s
    → RiseFrom (without_first n s).gone ts
    → RiseFrom s.gone (stamps_of (take n (frames_in s)) ++ ts)
early_rises zero s ts h rest = rest
early_rises (suc n) s ts h rest =
    let t : Following = without_oldest s in
    let first : List Handed = take 1 (frames_in s) in
    let more : List Handed = take n (frames_in t) in
    subst (λ (us : List ℕ). RiseFrom s.gone us)
    (sym (append_assoc (stamps_of first) (stamps_of more) ts)
    ∙ ap (λ (us : List ℕ). us ++ ts)
    (sym (map-append (λ (h : Handed). h.timestamp) first more)
    ∙ ap stamps_of (sym (take_more n s))))
    (first_rises s (stamps_of more ++ ts) h
    (early_rises n t ts (stands_oldest s h) rest))

stands_early : (n : ℕ) (s : Following) → Stands s → Stands (without_first n s)
stands_early zero s h = h
stands_early (suc n) s h = stands_early n (without_oldest s) (stands_oldest s h)

turned_rises : (eager : Bool) (s : Following) (octets : List ℕ) (ts : List ℕ) → Stands s
    → RiseFrom (turned eager s octets).gone ts
    → RiseFrom s.gone (stamps_of (handed_in eager s octets) ++ ts)
unfolding turned handed_in
turned_rises eager s octets ts h rest =
    let t : Following = state_taken s octets in
    let before : List Handed = handed_before s octets in
    let early : List Handed = handed_early eager t in
    subst (λ (us : List ℕ). RiseFrom s.gone us)
    (sym (append_assoc (stamps_of before) (stamps_of early) ts)
    ∙ ap (λ (us : List ℕ). us ++ ts)
    (sym (map-append (λ (h : Handed). h.timestamp) before early)))
    (before_rises (is_due s octets) s octets (stamps_of early ++ ts) h
    (early_rises (early_count eager t) t ts (stands_ready (is_due s octets) s octets h) rest))

stands_turned : (eager : Bool) (s : Following) (octets : List ℕ) → Stands s
    → Stands (turned eager s octets)
unfolding turned
stands_turned eager s octets h =
    let t : Following = state_taken s octets in
    stands_early (early_count eager t) t (stands_ready (is_due s octets) s octets h)

parts : (eager : Bool) (s t : Following) (octets : List ℕ) (ds : List (List ℕ))
    → stamps_of ((handed_in eager s octets ++ handed_while eager t ds)
    ++ frames_in (state_behind eager t ds))
    ≡ stamps_of (handed_in eager s octets) ++ stamps_of (handed_all eager t ds)
parts eager s t octets ds =
    ap stamps_of
    (append_assoc (handed_in eager s octets) (handed_while eager t ds)
    (frames_in (state_behind eager t ds)))
    ∙ map-append (λ (h : Handed). h.timestamp) (handed_in eager s octets) (handed_all eager t ds)

all_rise : (eager : Bool) (s : Following) (ds : List (List ℕ)) → Stands s
    → RiseFrom s.gone (stamps_of (handed_all eager s ds))
all_rise eager s [] h = rise_in s.gone s.opening.window s.frames h.rising
all_rise eager s (octets ∷ ds) h =
    let t : Following = turned eager s octets in
    subst (λ (ts : List ℕ). RiseFrom s.gone ts) (sym (parts eager s t octets ds))
    (turned_rises eager s octets (stamps_of (handed_all eager t ds)) h
    (all_rise eager t ds (stands_turned eager s octets h)))

-- Each timestamp that is handed out, or in at the end, is newer than the one before.
pub turns_rise : (eager : Bool) (o : Opening) (size ahead : ℕ) (ds : List (List ℕ))
    → RiseFrom None (stamps_of (handed_all eager (opened o size ahead) ds))
turns_rise eager o size ahead ds =
    all_rise eager (opened o size ahead) ds
    (record { rising = tt; one_each = refl; room = omega arith })
