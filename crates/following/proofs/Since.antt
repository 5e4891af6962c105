-- What came since a frame came in, one datagram more.
use Rattle.std.proofs.Common.{◌≡◌, ℕ, zero, suc, ◌≤◌, ◌⊎◌, inl, inr, Bool, true, false, cond}
use Rattle.std.proofs.Common.{eqb, List, [], ◌∷◌, ◌++◌, length, map, drop, Option, None, Some, Result}
use Rattle.std.proofs.Common.{Ok, Err, refl, sym, ap, ◌∙◌, subst, arith, append-nil}
use Rattle.std.specs.Prelude.{◌&&◌}
use Rattle.std.specs.List.{flat_map, insert, list_all}
use Rattle.std.proofs.lemmas.Bool.{cases_eq, eq-eqb, eqb-true, eqb-false, ne_eqb}
use Rattle.std.proofs.lemmas.List.Concat.{flat_map-append}
use Rattle.st_format.specs.Member.{IsMember}
use Rattle.st_format.specs.Offer.{Offer}
use Rattle.st_format.specs.Raster.{Raster, blank, joined_rasters, raster_of}
use Rattle.path_receiver.specs.declared.answer.Refusal.{Refusal}
use Rattle.path_receiver.specs.Frames.{frame_at, joined_frames}
use Rattle.path_receiver.specs.Grammar.{Datagram}
use Rattle.path_receiver.specs.Offers.{offers, offers_of}
use Rattle.path_receiver.specs.Opening.{AreDifferent, Opening}
use Rattle.path_receiver.specs.Sliding.{with_window}
use Rattle.path_receiver.proofs.Windows.{frame_none}
use Rattle.following.specs.declared.standing.Standing.{Standing}
use Rattle.following.specs.declared.standing.Standing.TheVariants.{Beyond, Inside, New, Waits}
use Rattle.following.specs.declared.standing.Standing.TheVariants.{Nowhere}
use Rattle.following.specs.Serial.{IsNewer, is_newer}
use Rattle.following.specs.Standing.{entry_at, is_behind, is_there, place_in, standing_in}
use Rattle.following.specs.Standing.{standing_near}
use Rattle.following.specs.Follower.{AreRising, Following, IsFollower, brought_in, joined, read_in}
use Rattle.following.specs.Follower.{reading_of, standing_of, state_after, taken_in}
use Rattle.following.specs.Follower.{without_oldest}
use Rattle.following.specs.Since.{CameSince, IsFrameAt}
use Rattle.following.specs.Times.{frame_of}
use Rattle.following.proofs.FrameLemmas.{blank_is, frame_both, joins_none}
use Rattle.following.proofs.Kept.{follower_brought, within_window, comes_to}
use Rattle.following.proofs.Newest.{inside_near}
use Rattle.following.proofs.Rising.{all_member, different, newer-self, rising_in}

-- ---- one that is in stands inside

there : (t : ℕ) (w : List ℕ) → AreRising w → IsMember t w → is_there w (place_in t w) t ≡ true
there t [] h m = absurd m
there t (x ∷ w) h (inl e) = at_first t x w e
  where
    at_first : (t x : ℕ) (w : List ℕ) → t ≡ x → is_there (x ∷ w) (place_in t (x ∷ w)) t ≡ true
    at_first t x w e =
        ap (λ (b : Bool). is_there (x ∷ w) (cond b (suc (place_in t w)) 0) t)
        (ap (λ (y : ℕ). is_newer t y) (sym e) ∙ newer-self t)
        ∙ eq-eqb x t (sym e)
there t (x ∷ w) h (inr m) =
    ap (λ (b : Bool). is_there (x ∷ w) (cond b (suc (place_in t w)) 0) t)
    (all_member (λ u. IsNewer u x) t w h.0 m)
    ∙ there t w h.1 m

pub member_inside : (s : Following) (t : ℕ) → IsFollower s → IsMember t s.opening.window
    → standing_of s t ≡ Inside (place_in t s.opening.window)
member_inside s t is m =
    let w : List ℕ = s.opening.window in
    let p : ℕ = place_in t w in
    ap (λ (b : Bool). standing_near b (standing_in w s.gone s.size t))
    (inside_near s.gone w s.most_ahead t (rising_in s.gone w is.rising) m)
    ∙ ap (λ (b : Bool). cond b (Inside p)
    (cond (is_behind s.gone t && list_all (λ u. is_newer u t) (drop p w))
    (entry_at (length w) s.size p) Nowhere))
    (there t w (rising_in s.gone w is.rising) m)

-- ---- the frame of a timestamp

abbrev chosen : Raster → List ℕ → List Raster → ℕ → Bool → Option Raster
chosen r w rs ts b = cond b (Some r) (frame_at w rs ts)

abbrev joined_if : Option Raster → Raster → Option Raster
joined_if None q = None
joined_if (Some r) q = Some (joined_rasters r q)

chosen_joined : (F : ℕ → Raster) (t : ℕ) (w : List ℕ) (r : Raster) (rs : List Raster) (ts : ℕ)
    (b : Bool) → eqb ts t ≡ b
    → frame_at w (joined_frames rs (map F w)) ts ≡ joined_if (frame_at w rs ts) (F ts)
    → chosen (joined_rasters r (F t)) w (joined_frames rs (map F w)) ts b
    ≡ joined_if (chosen r w rs ts b) (F ts)
chosen_joined F t w r rs ts true e rest =
    ap (λ (x : ℕ). Some (joined_rasters r (F x))) (sym (eqb-true ts t e))
chosen_joined F t w r rs ts false e rest = rest

-- where frames are joined, the frame of a timestamp is joined
frame_at-joined : (F : ℕ → Raster) (w : List ℕ) (rs : List Raster) (ts : ℕ) → length rs ≡ length w
    → frame_at w (joined_frames rs (map F w)) ts ≡ joined_if (frame_at w rs ts) (F ts)
frame_at-joined F [] [] ts e = refl
frame_at-joined F [] (r ∷ rs) ts e = refl
frame_at-joined F (t ∷ w) [] ts e = absurd (omega (arith, e))
frame_at-joined F (t ∷ w) (r ∷ rs) ts e =
    chosen_joined F t w r rs ts (eqb ts t) refl (frame_at-joined F w rs ts (omega (arith, e)))

-- another comes in
frame_at-other : (t ts : ℕ) (w : List ℕ) (rs : List Raster) (p : ℕ) (q : Raster) → (ts ≡ t → ⊥)
    → length rs ≡ length w → p ≤ length w
    → frame_at (insert w p t) (insert rs p q) ts ≡ frame_at w rs ts
frame_at-other t ts w rs zero q ne e le = ap (chosen q w rs ts) (ne_eqb ts t ne)
frame_at-other t ts [] rs (suc p) q ne e le = absurd (omega (arith, le))
frame_at-other t ts (x ∷ w) [] (suc p) q ne e le = absurd (omega (arith, e))
frame_at-other t ts (x ∷ w) (r ∷ rs) (suc p) q ne e le =
    ap (λ (o : Option Raster). cond (eqb ts x) (Some r) o)
    (frame_at-other t ts w rs p q ne (omega (arith, e)) (omega (arith, le)))

-- it comes in itself
frame_at-same : (t : ℕ) (w : List ℕ) (rs : List Raster) (p : ℕ) (q : Raster)
    → (IsMember t w → ⊥) → length rs ≡ length w → p ≤ length w
    → frame_at (insert w p t) (insert rs p q) t ≡ Some q
frame_at-same t w rs zero q out e le = ap (chosen q w rs t) (eq-eqb t t refl)
frame_at-same t [] rs (suc p) q out e le = absurd (omega (arith, le))
frame_at-same t (x ∷ w) [] (suc p) q out e le = absurd (omega (arith, e))
frame_at-same t (x ∷ w) (r ∷ rs) (suc p) q out e le =
    ap (λ (b : Bool). cond b (Some r) (frame_at (insert w p t) (insert rs p q) t))
    (ne_eqb t x (λ s. out (inl s)))
    ∙ frame_at-same t w rs p q (λ m. out (inr m)) (omega (arith, e)) (omega (arith, le))

-- ---- what came

more_if : (r : Option Raster) (o : Opening) (ds : List (List ℕ)) (octets : List ℕ) (ts : ℕ)
    → (q : Raster) → r ≡ Some q → IsFrameAt r o ds ts
    → IsFrameAt (joined_if r (frame_of o (octets ∷ []) ts)) o (ds ++ octets ∷ []) ts
more_if None o ds octets ts q some is = absurd cc
more_if (Some r) o ds octets ts q some is =
    ap (λ (x : Raster). joined_rasters x (frame_of o (octets ∷ []) ts)) is
    ∙ sym (frame_both o ds (octets ∷ []) ts)

some_chosen : (w : List ℕ) (rs : List Raster) (t : ℕ) (r : Raster) (ts : ℕ) (b : Bool)
    → eqb ts t ≡ b → IsMember ts (t ∷ w)
    → (IsMember ts w → (q : Raster) × (frame_at w rs ts ≡ Some q))
    → (q : Raster) × (chosen r w rs ts b ≡ Some q)
some_chosen w rs t r ts true f m rest = (r, refl)
some_chosen w rs t r ts false f (inl s) rest = absurd (eqb-false ts t f s)
some_chosen w rs t r ts false f (inr m) rest = rest m

some_frame : (w : List ℕ) (rs : List Raster) (ts : ℕ) → length rs ≡ length w → IsMember ts w
    → (q : Raster) × (frame_at w rs ts ≡ Some q)
some_frame [] rs ts e m = absurd m
some_frame (t ∷ w) [] ts e m = absurd (omega (arith, e))
some_frame (t ∷ w) (r ∷ rs) ts e m =
    some_chosen w rs t r ts (eqb ts t) refl m (λ k. some_frame w rs ts (omega (arith, e)) k)

-- the window tells nothing of a frame
other_window : (r : Option Raster) (o : Opening) (w : List ℕ) (ds : List (List ℕ)) (ts : ℕ)
    → IsFrameAt r o ds ts → IsFrameAt r (with_window o w) ds ts
other_window None o w ds ts is = is
other_window (Some r) o w ds ts is = is

-- joined, where it is in
since_joined : (s : Following) (octets : List ℕ) (ts : ℕ) (ds : List (List ℕ))
    → length s.frames ≡ length s.opening.window → IsMember ts s.opening.window
    → CameSince s ts ds → CameSince (joined s octets) ts (ds ++ octets ∷ [])
since_joined s octets ts ds one m came =
    let o : Opening = s.opening in
    let k = some_frame o.window s.frames ts one m in
    subst (λ (r : Option Raster). IsFrameAt r o (ds ++ octets ∷ []) ts)
    (sym (frame_at-joined (frame_of o (octets ∷ [])) o.window s.frames ts one))
    (more_if (frame_at o.window s.frames ts) o ds octets ts k.0 k.1 came)

-- a datagram of another timestamp, or none, adds nothing
same_if : (r : Option Raster) (o : Opening) (ds es : List (List ℕ)) (ts : ℕ) (q : Raster)
    → r ≡ Some q → frame_of o ds ts ≡ frame_of o es ts → IsFrameAt r o ds ts → IsFrameAt r o es ts
same_if None o ds es ts q some e is = absurd cc
same_if (Some r) o ds es ts q some e is = is ∙ e

since_same : (s : Following) (ts : ℕ) (ds es : List (List ℕ))
    → length s.frames ≡ length s.opening.window → IsMember ts s.opening.window
    → frame_of s.opening ds ts ≡ frame_of s.opening es ts → CameSince s ts ds → CameSince s ts es
since_same s ts ds es one m e came =
    let k = some_frame s.opening.window s.frames ts one m in
    same_if (frame_at s.opening.window s.frames ts) s.opening ds es ts k.0 k.1 e came

-- ---- brought in

different_insert : (t : ℕ) (w : List ℕ) (p : ℕ) → p ≤ length w → AreDifferent (insert w p t)
    → IsMember t w → ⊥
different_insert t w zero le h m = h.0 m
different_insert t [] (suc p) le h m = m
different_insert t (x ∷ w) (suc p) le h (inl e) =
    h.0 (subst (λ (y : ℕ). IsMember y (insert w p t)) e (is_in t w p (omega (arith, le))))
  where
    is_in : (t : ℕ) (w : List ℕ) (p : ℕ) → p ≤ length w → IsMember t (insert w p t)
    is_in t w zero le = inl refl
    is_in t [] (suc p) le = absurd (omega (arith, le))
    is_in t (x ∷ w) (suc p) le = inr (is_in t w p (omega (arith, le)))
different_insert t (x ∷ w) (suc p) le h (inr m) =
    different_insert t w p (omega (arith, le)) h.1 m

none_if : (r : Option Raster) (o : Opening) (ds : List (List ℕ)) (ts : ℕ) → r ≡ None
    → IsFrameAt r o ds ts → ds ≡ []
none_if None o ds ts e is = is
none_if (Some r) o ds ts e is = absurd cc

since_brought : (s : Following) (place t ts : ℕ) (ds : List (List ℕ)) → IsFollower s
    → standing_of s t ≡ New place → (ts ≡ t) ⊎ (ts ≡ t → ⊥) → CameSince s ts ds
    → CameSince (brought_in s place t) ts ds
since_brought s place t ts ds is h (inl e) came =
    let o : Opening = s.opening in
    let w : List ℕ = o.window in
    let le : place ≤ length w =
    within_window w s.gone s.size t place (comes_to s place t h) in
    let b : IsFollower (brought_in s place t) = follower_brought s place t is h in
    let out : IsMember t w → ⊥ =
    different_insert t w place le (different (insert w place t) (rising_in s.gone (insert w place t) b.rising)) in
    let nothing : ds ≡ [] =
    none_if (frame_at w s.frames ts) o ds ts
    (frame_none ts w s.frames (λ m. out (subst (λ (y : ℕ). IsMember y w) e m))) came in
    let q : Raster = blank o.format in
    subst (λ (y : ℕ). CameSince (brought_in s place t) y ds) (sym e)
    (subst (λ (r : Option Raster). IsFrameAt r (with_window o (insert w place t)) ds t)
    (sym (frame_at-same t w s.frames place q out is.one_each le))
    (subst (λ (es : List (List ℕ)). q ≡ frame_of o es t) (sym nothing) (sym (blank_is o.format t))))
since_brought s place t ts ds is h (inr ne) came =
    let w : List ℕ = s.opening.window in
    let le : place ≤ length w =
    within_window w s.gone s.size t place (comes_to s place t h) in
    subst (λ (r : Option Raster). IsFrameAt r (with_window s.opening (insert w place t)) ds ts)
    (sym (frame_at-other t ts w s.frames place (blank s.opening.format) ne is.one_each le))
    (other_window (frame_at w s.frames ts) s.opening (insert w place t) ds ts came)

-- ---- one datagram

none_more : (o : Opening) (ds : List (List ℕ)) (octets : List ℕ) (e : Refusal) (ts : ℕ)
    → reading_of o octets ≡ Err e → frame_of o ds ts ≡ frame_of o (ds ++ octets ∷ []) ts
none_more o ds octets e ts read =
    sym
    (ap (λ (os : List Offer). raster_of o.format os ts)
    (flat_map-append (offers o) ds (octets ∷ [])
    ∙ ap (λ (os : List Offer). flat_map (offers o) ds ++ (os ++ [])) (ap (offers_of o.format) read)
    ∙ append-nil (flat_map (offers o) ds)))

other_more : (o : Opening) (ds : List (List ℕ)) (octets : List ℕ) (d : Datagram) (ts : ℕ)
    → reading_of o octets ≡ Ok d → (d.timestamp ≡ ts → ⊥)
    → frame_of o ds ts ≡ frame_of o (ds ++ octets ∷ []) ts
other_more o ds octets d ts read other =
    sym (frame_both o ds (octets ∷ []) ts ∙ joins_none o ds octets d ts read other)

outside : (s : Following) (t ts : ℕ) (x : Standing) → IsFollower s → standing_of s t ≡ x
    → ((p : ℕ) → x ≡ Inside p → ⊥) → IsMember ts s.opening.window → t ≡ ts → ⊥
outside s t ts x is h never m e =
    never (place_in t s.opening.window)
    (sym h ∙ member_inside s t is (subst (λ (y : ℕ). IsMember y s.opening.window) (sym e) m))

abbrev WindowAfter : Following → List ℕ → Datagram → Standing → List ℕ
WindowAfter s octets d x = (taken_in s octets d.timestamp x).opening.window

since_at : (s : Following) (octets : List ℕ) (d : Datagram) (x : Standing) (ts : ℕ)
    (ds : List (List ℕ)) → IsFollower s → reading_of s.opening octets ≡ Ok d
    → standing_of s d.timestamp ≡ x → CameSince s ts ds
    → IsMember ts (WindowAfter s octets d x)
    → CameSince (taken_in s octets d.timestamp x) ts (ds ++ octets ∷ [])
since_at s octets d (Inside p) ts ds is read h came m = since_joined s octets ts ds is.one_each m came
since_at s octets d (New p) ts ds is read h came m =
    since_joined (brought_in s p d.timestamp) octets ts ds
    (follower_brought s p d.timestamp is h).one_each m
    (since_brought s p d.timestamp ts ds is h (cases_eq ts d.timestamp) came)
since_at s octets d Waits ts ds is read h came m =
    since_same s ts ds (ds ++ octets ∷ []) is.one_each m
    (other_more s.opening ds octets d ts read (outside s d.timestamp ts Waits is h (λ p e. cc) m))
    came
since_at s octets d Nowhere ts ds is read h came m =
    since_same s ts ds (ds ++ octets ∷ []) is.one_each m
    (other_more s.opening ds octets d ts read
    (outside s d.timestamp ts Nowhere is h (λ p e. cc) m))
    came
since_at s octets d Beyond ts ds is read h came m =
    since_same s ts ds (ds ++ octets ∷ []) is.one_each m
    (other_more s.opening ds octets d ts read
    (outside s d.timestamp ts Beyond is h (λ p e. cc) m))
    came

since_read : (s : Following) (octets : List ℕ) (r : Result Datagram Refusal) (ts : ℕ)
    (ds : List (List ℕ)) → IsFollower s → reading_of s.opening octets ≡ r → CameSince s ts ds
    → IsMember ts (read_in s octets r).opening.window
    → CameSince (read_in s octets r) ts (ds ++ octets ∷ [])
since_read s octets (Err e) ts ds is read came m =
    since_same s ts ds (ds ++ octets ∷ []) is.one_each m (none_more s.opening ds octets e ts read)
    came
since_read s octets (Ok d) ts ds is read came m =
    since_at s octets d (standing_of s d.timestamp) ts ds is read refl came m

-- After a datagram the frame of a timestamp that is in is that of what came since it came in, and
-- of this one.
pub since_more : (s t : Following) (octets : List ℕ) → IsFollower s → t ≡ state_after s octets
    → (ts : ℕ) (ds : List (List ℕ)) → CameSince s ts ds → IsMember ts t.opening.window
    → CameSince t ts (ds ++ octets ∷ [])
since_more s t octets is same ts ds came m =
    subst (λ (u : Following). CameSince u ts (ds ++ octets ∷ [])) (sym same)
    (since_read s octets (reading_of s.opening octets) ts ds is refl came
    (subst (λ (u : Following). IsMember ts u.opening.window) same m))

-- ---- the oldest goes

rest_at : (w : List ℕ) (rs : List Raster) (ts : ℕ) → AreDifferent w → length rs ≡ length w
    → IsMember ts (drop 1 w) → frame_at (drop 1 w) (drop 1 rs) ts ≡ frame_at w rs ts
rest_at [] rs ts h e m = absurd m
rest_at (t ∷ w) [] ts h e m = absurd (omega (arith, e))
rest_at (t ∷ w) (r ∷ rs) ts h e m =
    sym (ap (chosen r w rs ts)
    (ne_eqb ts t (λ s. h.0 (subst (λ (y : ℕ). IsMember y w) s m))))

-- The others stay as they are.
pub since_kept : (s t : Following) → IsFollower s → t ≡ without_oldest s → (ts : ℕ)
    (ds : List (List ℕ)) → CameSince s ts ds → IsMember ts t.opening.window → CameSince t ts ds
since_kept s t is same ts ds came m =
    let w : List ℕ = s.opening.window in
    subst (λ (u : Following). CameSince u ts ds) (sym same)
    (subst (λ (r : Option Raster). IsFrameAt r (with_window s.opening (drop 1 w)) ds ts)
    (sym (rest_at w s.frames ts (different w (rising_in s.gone w is.rising)) is.one_each
    (subst (λ (u : Following). IsMember ts u.opening.window) same m)))
    (other_window (frame_at w s.frames ts) s.opening (drop 1 w) ds ts came))
