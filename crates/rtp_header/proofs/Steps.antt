-- Readings step by step, and the octets that they read.
use Rattle.std.proofs.Common.{◌≡◌, ℕ, ◌+◌, ◌^◌, ◌<◌, Bool, true, false, cond, not, eqb, List, ◌++◌}
use Rattle.std.proofs.Common.{take, drop, Result, Ok, Err, refl, arith, inl, inr}
use Rattle.std.proofs.lemmas.Bool.{cases_lt, eqb-true}
use Rattle.std.proofs.lemmas.List.{get_or-drop, get_or-take, get_or_past, length-take}
use Rattle.std.specs.Int.{w16, from_be_bytes}
use Rattle.rtp_header.specs.Grammar.{AreOctets}
use Rattle.rtp_header.specs.Reading.{◌>>=◌}

abbrev failed : {E : Type 0} → (A : Type 0) → E → Result A E
failed A d = Err d

pub bind_ok : {E A B : Type 0} (r : Result A E) (f : A → Result B E) (y : B)
    → (r >>= f) ≡ Ok y → (x : A) × (r ≡ Ok x) × (f x ≡ Ok y)
bind_ok (Ok x) f y e = (x, refl, e)
bind_ok {E} {A} {B} (Err d) f y e = let bad : failed B d ≡ Ok y = e in absurd cc

pub guard_ok : {E A : Type 0} (b : Bool) (d : E) (x y : A) → cond b (Err d) (Ok x) ≡ Ok y
    → (b ≡ false) × (x ≡ y)
guard_ok true d x y e = absurd cc
guard_ok false d x y e = (refl, cc)

pub not_eqb_at : (a b : ℕ) (t : Bool) → eqb a b ≡ t → not t ≡ false → a ≡ b
not_eqb_at a b true e h = eqb-true a b e
not_eqb_at a b false e h = absurd cc

pub three : {a r o x y z : List ℕ} → x ≡ a → y ≡ r → z ≡ o → (x ++ y) ++ z ≡ (a ++ r) ++ o
three p q s = cc

pub AreOctets-drop : (n : ℕ) (octets : List ℕ) → AreOctets octets → AreOctets (drop n octets)
AreOctets-drop n octets h i = rw get_or-drop (h (n + i))

pub AreOctets-take : (n : ℕ) (octets : List ℕ) → AreOctets octets → AreOctets (take n octets)
AreOctets-take n octets h i =
    elim (cases_lt i n) [
      | inl lt ↦ rw (get_or-take n octets i 0 lt) (h i)
      | inr le ↦ rw (get_or_past (take n octets) i 0 (omega (arith, length-take n octets)))
          (omega arith)
    ]

-- two octets as a number
pub two_below : (two : List ℕ) → AreOctets two → from_be_bytes w16 two < 2 ^ 16
two_below two octets = omega (arith, octets 0, octets 1)
