-- Numbers that two sets have, where one of them gets one more.
use Rattle.std.proofs.Common.{◌≡◌, ◌∙◌, ℕ, ◌+◌, Bool, true, false, not, ◌&&◌, ◌||◌, cond, ap}
use Rattle.std.proofs.Common.{refl, sym}
use Rattle.std.proofs.Common.{⊎_elim, arith, nat_eq}
use Rattle.std.proofs.lemmas.Bool.{cases_Bool, eqb-true}
use Rattle.std.specs.Cmp.{nat_cmp_total, unsigned_tied}
use Rattle.std.specs.FinSet.{FinSet, contains, contains-insert, contains-intersection, insert}
use Rattle.std.specs.FinSet.{intersection, len, len-insert, nat_cmp-IsAntisymmetric, same_set}
use Rattle.std.specs.Ordering.{eq_by_cmp, nat_cmp}

-- a number that is the one which came, or another
tied : (q n : ℕ) (b : Bool) → eq_by_cmp nat_cmp q n ≡ b → nat_eq q n ≡ b
tied q n b e = sym (unsigned_tied q n) ∙ e

both_there : (s t : FinSet nat_cmp) (n : ℕ) → contains t n ≡ true
    → intersection (insert s n) t ≡ insert (intersection s t) n
both_there s t n e =
    same_set nat_cmp_total nat_cmp-IsAntisymmetric _ _
    (λ q. contains-intersection nat_cmp_total (insert s n) t q
    ∙ ap (λ (b : Bool). b && contains t q) (contains-insert nat_cmp_total s n q)
    ∙ there_at q
    ∙ ap (λ (b : Bool). eq_by_cmp nat_cmp q n || b)
    (sym (contains-intersection nat_cmp_total s t q))
    ∙ sym (contains-insert nat_cmp_total (intersection s t) n q)) where
      there_at : (q : ℕ) → ((eq_by_cmp nat_cmp q n || contains s q) && contains t q)
          ≡ (eq_by_cmp nat_cmp q n || (contains s q && contains t q))
      there_at q =
          ⊎_elim
          (λ same. ap (λ (b : Bool). (b || contains s q) && contains t q) same
          ∙ ap (contains t) (eqb-true q n (tied q n true same)) ∙ e
          ∙ sym (ap (λ (b : Bool). b || (contains s q && contains t q)) same))
          (λ other. ap (λ (b : Bool). (b || contains s q) && contains t q) other
          ∙ sym (ap (λ (b : Bool). b || (contains s q && contains t q)) other))
          (cases_Bool (eq_by_cmp nat_cmp q n))

nothing : (b : Bool) → (b && false) ≡ false
nothing true = refl
nothing false = refl

none_there : (s t : FinSet nat_cmp) (n : ℕ) → contains t n ≡ false
    → intersection (insert s n) t ≡ intersection s t
none_there s t n e =
    same_set nat_cmp_total nat_cmp-IsAntisymmetric _ _
    (λ q. contains-intersection nat_cmp_total (insert s n) t q
    ∙ ap (λ (b : Bool). b && contains t q) (contains-insert nat_cmp_total s n q)
    ∙ none_at q ∙ sym (contains-intersection nat_cmp_total s t q)) where
      none_at : (q : ℕ) → ((eq_by_cmp nat_cmp q n || contains s q) && contains t q)
          ≡ (contains s q && contains t q)
      none_at q =
          ⊎_elim
          (λ same.
          let gone : contains t q ≡ false = ap (contains t) (eqb-true q n (tied q n true same)) ∙ e in
          ap (λ (b : Bool). (eq_by_cmp nat_cmp q n || contains s q) && b) gone
          ∙ nothing (eq_by_cmp nat_cmp q n || contains s q) ∙ sym (nothing (contains s q))
          ∙ ap (λ (b : Bool). contains s q && b) (sym gone))
          (λ other. ap (λ (b : Bool). (b || contains s q) && contains t q) other)
          (cases_Bool (eq_by_cmp nat_cmp q n))

turned : (a b : Bool) → (a && b) ≡ (b && a)
turned true true = refl
turned true false = refl
turned false true = refl
turned false false = refl

swapped : (s t : FinSet nat_cmp) → intersection s t ≡ intersection t s
swapped s t =
    same_set nat_cmp_total nat_cmp-IsAntisymmetric _ _
    (λ q. contains-intersection nat_cmp_total s t q ∙ turned (contains s q) (contains t q)
    ∙ sym (contains-intersection nat_cmp_total t s q))

counted : (b : Bool) (m : ℕ) → cond (b && true) m (m + 1) ≡ m + cond (not b && true) 1 0
counted true m = omega arith
counted false m = refl

uncounted : (b : Bool) (m : ℕ) → m ≡ m + cond (b && false) 1 0
uncounted true m = omega arith
uncounted false m = omega arith

-- how many both have, where a number comes to the first
pub both_more : (s t : FinSet nat_cmp) (n : ℕ) → len (intersection (insert s n) t)
    ≡ len (intersection s t) + cond (not (contains s n) && contains t n) 1 0
both_more s t n =
    ⊎_elim
    (λ yes. ap (λ (x : FinSet nat_cmp). len x) (both_there s t n yes)
    ∙ len-insert nat_cmp_total (intersection s t) n
    ∙ ap (λ (b : Bool). cond b (len (intersection s t)) (len (intersection s t) + 1))
    (contains-intersection nat_cmp_total s t n ∙ ap (λ (b : Bool). contains s n && b) yes)
    ∙ counted (contains s n) (len (intersection s t))
    ∙ ap (λ (b : Bool). len (intersection s t) + cond (not (contains s n) && b) 1 0) (sym yes))
    (λ no. ap (λ (x : FinSet nat_cmp). len x) (none_there s t n no)
    ∙ uncounted (not (contains s n)) (len (intersection s t))
    ∙ ap (λ (b : Bool). len (intersection s t) + cond (not (contains s n) && b) 1 0) (sym no))
    (cases_Bool (contains t n))

-- and where one comes to the second
pub both_more_second : (s t : FinSet nat_cmp) (n : ℕ) → len (intersection s (insert t n))
    ≡ len (intersection s t) + cond (not (contains t n) && contains s n) 1 0
both_more_second s t n =
    ap (λ (x : FinSet nat_cmp). len x) (swapped s (insert t n)) ∙ both_more t s n
    ∙ ap (λ (x : FinSet nat_cmp). len x + cond (not (contains t n) && contains s n) 1 0)
    (swapped t s)
