-- How far a timestamp is ahead of the newest.
use Rattle.std.proofs.Common.{◌≡◌, ℕ, ◌+◌, ◌-◌, ◌^◌, ◌<◌, ◌≤◌, ◌⊎◌, inl, inr, Bool, true, false}
use Rattle.std.proofs.Common.{◌&&◌, List, [], ◌∷◌, map, Option, None, Some, refl, sym, ap}
use Rattle.std.proofs.Common.{◌∙◌, subst, arith}
use Rattle.std.specs.Prelude.{nat_lt}
use Rattle.std.proofs.lemmas.Bool.{and_from, and_parts, and_right, cases_lt, false≢true, le-ltb}
use Rattle.std.proofs.lemmas.Bool.{lt-ltb, ltb-true}
use Rattle.st_format.specs.Member.{IsMember}
use Rattle.following.specs.declared.standing.Standing.{Standing}
use Rattle.following.specs.declared.standing.Standing.TheVariants.{Beyond, New}
use Rattle.following.specs.Serial.{IsNewer, ahead_of, is_newer, wrapped}
use Rattle.following.specs.Standing.{is_beyond, newest_in, standing_in, standing_near}
use Rattle.following.specs.Follower.{AreRising, Following, newest_of}
use Rattle.following.specs.Taking.{IsTooFar}
use Rattle.following.specs.Times.{IsNear}
use Rattle.following.proofs.Near.{newer-near}
use Rattle.following.proofs.Rising.{ComesIn, all_member, comes_in, newer-self}

-- ---- newer one way alone

pub one_way : (a b : ℕ) → is_newer a b ≡ true → is_newer b a ≡ false
unfolding is_newer
one_way a b e =
    let k = and_parts (nat_lt 0 (ahead_of a b)) (nat_lt (ahead_of a b) (2 ^ 31)) e in
    and_right (nat_lt 0 (ahead_of b a)) (nat_lt (ahead_of b a) (2 ^ 31))
    (le-ltb (ahead_of b a) (2 ^ 31)
    (other a b (ltb-true 0 (ahead_of a b) k.0) (ltb-true (ahead_of a b) (2 ^ 31) k.1)))
  where
    other : (a b : ℕ) → 0 < ahead_of a b → ahead_of a b < 2 ^ 31 → 2 ^ 31 ≤ ahead_of b a
    other a b some less = omega arith

-- ---- the newest of a window

-- the last of a list that begins with this one
abbrev pub last_of : ℕ → List ℕ → ℕ
last_of x [] = x
last_of x (y ∷ w) = last_of y w

pub newest-last : (x : ℕ) (w : List ℕ) → newest_in (Some x) w ≡ Some (last_of x w)
newest-last x [] = refl
newest-last x (y ∷ w) = newest-last y w

pub newest-map : (x : ℕ) (w : List ℕ)
    → newest_in (Some (wrapped x)) (map wrapped w) ≡ Some (wrapped (last_of x w))
newest-map x [] = refl
newest-map x (y ∷ w) = newest-map y w

pub last_in : (x : ℕ) (w : List ℕ) → IsMember (last_of x w) (x ∷ w)
last_in x [] = inl refl
last_in x (y ∷ w) = inr (last_in y w)

-- none that is in is newer than the newest
none_newer : (x : ℕ) (w : List ℕ) (t : ℕ) → AreRising (x ∷ w) → IsMember t (x ∷ w)
    → is_newer t (last_of x w) ≡ false
none_newer x [] t h (inl e) =
    subst (λ (y : ℕ). is_newer y x ≡ false) (sym e) (newer-self x)
none_newer x [] t h (inr m) = absurd m
none_newer x (y ∷ w) t h (inl e) =
    subst (λ (z : ℕ). is_newer z (last_of y w) ≡ false) (sym e)
    (one_way (last_of y w) x
    (all_member (λ u. IsNewer u x) (last_of y w) (y ∷ w) h.0 (last_in y w)))
none_newer x (y ∷ w) t h (inr m) = none_newer y w t h.1 m

beyond_newer : (newest most t : ℕ) → is_newer t newest ≡ false
    → is_beyond (Some newest) most t ≡ false
beyond_newer newest most t e =
    ap (λ (b : Bool). b && nat_lt most (ahead_of t newest)) e

-- So none that is in is too far ahead.
pub inside_near : (gone : Option ℕ) (w : List ℕ) (most t : ℕ) → AreRising w → IsMember t w
    → is_beyond (newest_in gone w) most t ≡ false
inside_near past [] most t h m = absurd m
inside_near past (x ∷ w) most t h m =
    ap (λ (o : Option ℕ). is_beyond o most t) (newest-last x w)
    ∙ beyond_newer (last_of x w) most t (none_newer x w t h m)

-- ---- too far, by the words of the grammar

far_at : (s : Following) (o : Option ℕ) (t : ℕ) → newest_of s ≡ o
    → is_beyond o s.most_ahead t ≡ true → IsTooFar s t
far_at s None t e h = absurd (false≢true h)
far_at s (Some newest) t e h =
    let k = and_parts (is_newer t newest) (nat_lt s.most_ahead (ahead_of t newest)) h in record {
      newest = newest;
      is = e;
      newer = k.0;
      far = ltb-true s.most_ahead (ahead_of t newest) k.1;
    }

pub too_far : (s : Following) (t : ℕ) → is_beyond (newest_of s) s.most_ahead t ≡ true → IsTooFar s t
too_far s t h = far_at s (newest_of s) t refl h

pub far_back : (s : Following) (t : ℕ) → IsTooFar s t → is_beyond (newest_of s) s.most_ahead t ≡ true
far_back s t k =
    ap (λ (o : Option ℕ). is_beyond o s.most_ahead t) k.is
    ∙ and_from (is_newer t k.newest) (nat_lt s.most_ahead (ahead_of t k.newest)) k.newer
    (lt-ltb s.most_ahead (ahead_of t k.newest) k.far)

pub near_back : (s : Following) (t : ℕ) → (IsTooFar s t → ⊥)
    → is_beyond (newest_of s) s.most_ahead t ≡ false
near_back s t none = at (is_beyond (newest_of s) s.most_ahead t) refl
  where
    at : (b : Bool) → is_beyond (newest_of s) s.most_ahead t ≡ b
        → is_beyond (newest_of s) s.most_ahead t ≡ false
    at true e = absurd (none (too_far s t e))
    at false e = e

pub not_far : (s : Following) (t : ℕ) → is_beyond (newest_of s) s.most_ahead t ≡ false
    → IsTooFar s t → ⊥
not_far s t h k = false≢true (sym h ∙ far_back s t k)

-- what stands elsewhere is not too far ahead
pub near_is : (b : Bool) (x y : Standing) → standing_near b x ≡ y → (Beyond ≡ y → ⊥)
    → (b ≡ false) × (x ≡ y)
near_is true x y h other = absurd (other h)
near_is false x y h other = (refl, h)

-- a timestamp that comes in is not too far ahead
pub comes_near : (most : ℕ) (w : List ℕ) (gone : Option ℕ) (size ts place : ℕ)
    → standing_near (is_beyond (newest_in gone w) most ts) (standing_in w gone size ts) ≡ New place
    → ComesIn w gone size ts place
comes_near most w past size ts place h =
    comes_in w past size ts place
    (near_is (is_beyond (newest_in past w) most ts) (standing_in w past size ts) (New place) h
    (λ e. cc)).1

-- ---- times

ahead-near : (u v : ℕ) → v < u → u < v + 2 ^ 31 → ahead_of (wrapped u) (wrapped v) ≡ u - v
ahead-near u v lt near = omega arith

within_is : (u v most : ℕ) → v < u → u < v + 2 ^ 31 → u ≤ v + most
    → ahead_of (wrapped u) (wrapped v) ≤ most
within_is u v most lt near le = omega (arith, ahead-near u v lt near, lt, le)

-- A time that is near the newest, and not more ticks ahead than it may be, is not too far ahead.
pub time_within : (u v most : ℕ) → IsNear u v → u ≤ v + most
    → is_beyond (Some (wrapped v)) most (wrapped u) ≡ false
time_within u v most near le = at (cases_lt v u)
  where
    at : (v < u) ⊎ (u ≤ v) → is_beyond (Some (wrapped v)) most (wrapped u) ≡ false
    at (inl lt) =
        and_right (is_newer (wrapped u) (wrapped v)) (nat_lt most (ahead_of (wrapped u) (wrapped v)))
        (le-ltb most (ahead_of (wrapped u) (wrapped v)) (within_is u v most lt near.forth le))
    at (inr ge) =
        beyond_newer (wrapped v) most (wrapped u) (newer-near u v near ∙ le-ltb v u ge)
