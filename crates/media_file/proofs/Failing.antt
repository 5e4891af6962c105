-- Readings that fail, one after another.
use Rattle.std.proofs.Common.{◌≡◌, ℕ, ◌-◌, ◌+◌, ◌<◌, ◌≤◌, Bool, true, false, cond, ltb, List}
use Rattle.std.proofs.Common.{length, take, drop, Result, Ok, Err, refl, sym, ap, ◌∙◌, inl, inr}
use Rattle.std.proofs.Common.{arith}
use Rattle.std.specs.Prelude.{◌⊎◌}
use Rattle.std.specs.Str.{bytes_eq}
use Rattle.std.proofs.lemmas.Bool.{lt-ltb, le-ltb, ltb-true}
use Rattle.std.proofs.lemmas.Slice.Eq.{bytes_eq-Decides}
use Rattle.media_file.specs.declared.fault.FileFault.{FileFault}
use Rattle.media_file.specs.declared.fault.FileFault.TheVariants.{Truncated}
use Rattle.media_file.specs.Fields.{field_at}
use Rattle.st_format.specs.Given.{field_by}
use Rattle.st_format.specs.Reading.{◌>>=◌}
use Rattle.media_file.proofs.Entries.{chosen}
use Rattle.media_file.proofs.Found.{failed}

abbrev fault_in : {B : Type 0} → FileFault → Result B FileFault → FileFault
fault_in f (Ok x) = f
fault_in f (Err e) = e

pub same_fault : (B : Type 0) (e f : FileFault) → failed B e ≡ failed B f → e ≡ f
same_fault B e f h = ap (λ (r : Result B FileFault). fault_in e r) h

abbrev pub answered : (B : Type 0) → B → Result B FileFault
answered B x = Ok x

pub not_both : (B : Type 0) (x : B) (e : FileFault) → answered B x ≡ failed B e → ⊥
not_both B x e h = absurd cc

-- a reading that answers, and another behind it that fails
pub record ThenFails (A B : Type 0) (r : Result A FileFault) (f : A
    → Result B FileFault) (e : FileFault) : Type 0 where
  pub first : A
  pub is : r ≡ answered A first
  pub next : f first ≡ failed B e

pub split_fails : {A B : Type 0} (r : Result A FileFault) (f : A
    → Result B FileFault) (e : FileFault) → (r >>= f) ≡ Err e
    → (r ≡ failed A e) ⊎ ThenFails A B r f e
split_fails (Ok x) f e h = inr (record { first = x; is = refl; next = h })
split_fails {A} {B} (Err d) f e h = inl (ap (failed A) (same_fault B d e h))

abbrev Field : Type 0
Field = List ℕ × List ℕ

-- fewer octets than a field takes
pub record Short (n : ℕ) (octets : List ℕ) (e : FileFault) : Type 0 where
  pub is : Truncated ≡ e
  pub short : length octets < n

pub field_fails : (n : ℕ) (octets : List ℕ) (e : FileFault) → field_at n octets ≡ Err e
    → Short n octets e
unfolding field_by
field_fails n octets e h =
    elim (chosen (ltb (length octets) n) (failed Field Truncated)
    (answered Field (take n octets, drop n octets)) (failed Field e) h) [
      | inl w ↦ record {
        is = same_fault Field Truncated e w.1;
        short = ltb-true (length octets) n w.0;
      }
      | inr w ↦ absurd (not_both Field (take n octets, drop n octets) e w.1)
    ]

pub field_short : (n : ℕ) (octets : List ℕ) → length octets < n → field_at n octets ≡ Err Truncated
unfolding field_by
field_short n octets lt
    = ap (λ (b : Bool). cond b (failed Field Truncated)
    (answered Field (take n octets, drop n octets))) (lt-ltb (length octets) n lt)

pub field_whole : (n : ℕ) (octets : List ℕ) → n ≤ length octets
    → field_at n octets ≡ Ok (take n octets, drop n octets)
unfolding field_by
field_whole n octets le
    = ap (λ (b : Bool). cond b (failed Field Truncated)
    (answered Field (take n octets, drop n octets))) (le-ltb (length octets) n le)

-- ---- tests of octets

not_true : (b : Bool) → (b ≡ true → ⊥) → b ≡ false
not_true true h = absurd (h refl)
not_true false h = refl

pub apart : (a b : List ℕ) → (a ≡ b → ⊥) → bytes_eq a b ≡ false
apart a b h = not_true (bytes_eq a b) (λ t. h ((bytes_eq-Decides a b).0 t))

pub differ : (a b : List ℕ) → bytes_eq a b ≡ false → a ≡ b → ⊥
differ a b e p = let t : bytes_eq a b ≡ true = (bytes_eq-Decides a b).1 p in let bad : true ≡ false
    = sym t ∙ e in absurd cc

pub itself : (a : List ℕ) → bytes_eq a a ≡ true
itself a = (bytes_eq-Decides a a).1 refl

-- ---- numbers

-- what is short behind a number is short with it
pub short_with : (l d n m : ℕ) → d ≡ l - 2 → 2 ≤ l → d < m → n ≡ m → l < 2 + n
short_with l d n m p q r s = omega arith

pub less : (l d n : ℕ) → d ≡ l - 2 → 2 ≤ l → l < 2 + n → d < n
less l d n p q r = omega arith
