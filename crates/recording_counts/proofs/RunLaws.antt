-- The set of the numbers of runs.
use Rattle.std.proofs.Common.{◌≡◌, ◌≢◌, ◌∙◌, ℕ, zero, suc, ◌+◌, ◌-◌, Bool, true, false, ◌||◌, ◌&&◌}
use Rattle.std.proofs.Common.{List, [], ◌∷◌, refl, ap, sym, arith, nat_le, nat_lt, nat_eq, ⊎_elim}
use Rattle.std.proofs.lemmas.Bool.{cases_Bool, eqb-true, eqb-false}
use Rattle.std.proofs.lemmas.Bool.Decides.{nat_tests}
use Rattle.std.proofs.lemmas.List.Folds.{list_any-append}
use Rattle.std.specs.Cmp.{nat_cmp_total, unsigned_tied}
use Rattle.std.specs.FinSet.{FinSet, contains, contains-from_list_nat, contains-insert}
use Rattle.std.specs.FinSet.{nat_cmp-IsAntisymmetric, same_set, insert}
use Rattle.std.specs.List.{flat_map, list_any}
use Rattle.std.specs.Ordering.{nat_cmp}
use Rattle.recording_counts.specs.Runs.{counting, in_run, is_in, numbers_of, run_numbers}
use Rattle.recording_counts.specs.declared.number_set.Run.{Run}

any_counting : (q first n : ℕ)
    → list_any (λ y. nat_eq y q) (counting first n) ≡ (nat_le first q && nat_lt q (first + n))
any_counting q first zero = grind (arith, nat_tests)
any_counting q first (suc n) = grind (arith, nat_tests, any_counting q (suc first) n)

any_run : (q : ℕ) (r : Run) → list_any (λ y. nat_eq y q) (run_numbers r) ≡ in_run q r
any_run q r = grind (arith, nat_tests, any_counting q r.first (r.last + 1 - r.first))

any_runs : (q : ℕ) (runs : List Run)
    → list_any (λ y. nat_eq y q) (flat_map run_numbers runs) ≡ is_in q runs
any_runs q [] = refl
any_runs q (r ∷ runs) =
    list_any-append (λ y. nat_eq y q) (run_numbers r) (flat_map run_numbers runs)
    ∙ ap (λ (b : Bool). b || list_any (λ y. nat_eq y q) (flat_map run_numbers runs)) (any_run q r)
    ∙ ap (λ (b : Bool). in_run q r || b) (any_runs q runs)

pub contains_runs : (q : ℕ) (runs : List Run) → contains (numbers_of runs) q ≡ is_in q runs
contains_runs q runs = contains-from_list_nat (flat_map run_numbers runs) q ∙ any_runs q runs

-- two tests that hold together are one
both_hold : (a b : Bool) → (a ≡ true → b ≡ true) → (b ≡ true → a ≡ true) → a ≡ b
both_hold true b f g = sym (f refl)
both_hold false true f g = g refl
both_hold false false f g = refl

-- a set that has one number more, and no other
pub one_more : (s t : FinSet nat_cmp) (n : ℕ) → contains t n ≡ true
    → ((q : ℕ) → contains s q ≡ true → contains t q ≡ true)
    → ((q : ℕ) → contains t q ≡ true → q ≢ n → contains s q ≡ true) → t ≡ insert s n
one_more s t n own more only =
    same_set nat_cmp_total nat_cmp-IsAntisymmetric _ _
    (λ q. at q
    ∙ ap (λ (b : Bool). b || contains s q) (sym (unsigned_tied q n))
    ∙ sym (contains-insert nat_cmp_total s n q))
  where
    at : (q : ℕ) → contains t q ≡ (nat_eq q n || contains s q)
    at q =
        ⊎_elim
        (λ same. ap (contains t) (eqb-true q n same) ∙ own
        ∙ sym (ap (λ (b : Bool). b || contains s q) same))
        (λ other. both_hold (contains t q) (contains s q)
        (λ h. only q h (eqb-false q n other)) (more q)
        ∙ sym (ap (λ (b : Bool). b || contains s q) other))
        (cases_Bool (nat_eq q n))

joined : (s : FinSet nat_cmp) (n q : ℕ) → contains s n ≡ true
    → (nat_eq q n || contains s q) ≡ contains s q
joined s n q e =
    ⊎_elim
    (λ t. ap (λ (b : Bool). b || contains s q) t
    ∙ sym (ap (contains s) (eqb-true q n t) ∙ e))
    (λ f. ap (λ (b : Bool). b || contains s q) f)
    (cases_Bool (nat_eq q n))

-- a set does not change where a number that it has is put in
pub insert_there : (s : FinSet nat_cmp) (n : ℕ) → contains s n ≡ true → insert s n ≡ s
insert_there s n e =
    same_set nat_cmp_total nat_cmp-IsAntisymmetric _ _
    (λ q. contains-insert nat_cmp_total s n q
    ∙ ap (λ (b : Bool). b || contains s q) (unsigned_tied q n) ∙ joined s n q e)
