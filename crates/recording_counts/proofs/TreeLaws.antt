-- Trees of runs, where one more number is put to them.
use Rattle.std.proofs.Common.{◌≡◌, ◌≢◌, ◌∙◌, ℕ, zero, suc, ◌+◌, ◌<◌, ◌≤◌, Bool, true, false, ◌||◌, ◌==◌}
use Rattle.std.proofs.Common.{List, [], ◌∷◌, map, length, Option, Some, None, IsSome, is_some, cond}
use Rattle.std.proofs.Common.{refl, ap, sym, arith, nat_le, subst, ◌⊎◌, inl, inr, ⊎_elim}
use Rattle.std.proofs.Common.{leb-true, leb-false}
use Rattle.std.proofs.lemmas.Bool.{and_from, and_parts, both_ways, cases_Bool, cases_eq, cases_lt, eqb-true, eqb-false}
use Rattle.std.proofs.lemmas.Bool.{false_from_ne_true, or_left, or_right}
use Rattle.std.proofs.lemmas.Bool.Decides.{nat_tests}
use Rattle.std.proofs.lemmas.Map.Lookups.{exact_unsigned}
use Rattle.std.proofs.lemmas.Map.Views.{btree_map_get_iff}
use Rattle.std.specs.BTreeMap.{BTreeMap, IsOrdered, Updates, UpdatesBy, get, is_at}
use Rattle.std.specs.List.Sorted.{IsStrictlySortedBy}
use Rattle.std.specs.Map.{keys_of, lookup}
use Rattle.std.specs.Cmp.{nat_cmp_is, nat_cmp_total, unsigned_tied}
use Rattle.std.specs.FinSet.{contains}
use Rattle.std.specs.List.{Contains}
use Rattle.std.specs.Ordering.{is_gt, nat_cmp}
use Rattle.std.specs.declared.cmp.Ordering.TheVariants.{Equal, Less}
use Rattle.recording_counts.specs.Runs.{Apart, AreRunsApart, BeginsRun, HasOneMore, HoldsNumber}
use Rattle.recording_counts.specs.Runs.{IsLastFrom}
use Rattle.recording_counts.specs.Runs.{IsPut, all_runs, begin_of}
use Rattle.recording_counts.specs.Runs.{in_run, is_in, numbers_of, reaches, run_of, runs_of}
use Rattle.recording_counts.specs.declared.number_set.Run.{Run}
use Rattle.recording_counts.proofs.RunLaws.{contains_runs, one_more}

abbrev Tree : Type 0
Tree = BTreeMap ℕ ℕ

abbrev at : Tree → ℕ → Option ℕ
at m k = get nat_cmp m k

is_there : (o : Option ℕ) (v : ℕ) → o ≡ Some v → IsSome o
is_there o v e = ap (λ (x : Option ℕ). is_some x) e

value_of : (o : Option ℕ) → IsSome o → (v : ℕ) × (o ≡ Some v)
value_of None h = absurd (cc)
value_of (Some v) h = (v, refl)

one_value : (o : Option ℕ) (v w : ℕ) → o ≡ Some v → o ≡ Some w → v ≡ w
one_value o v w e f = cc

no_value : (o : Option ℕ) (v : ℕ) → o ≡ None → o ≡ Some v → ⊥
no_value o v e f = absurd (cc)

-- how the order of keys says that a number is at most another
pub not_above : (q n : ℕ) → q ≤ n → is_gt (nat_cmp q n) ≡ false
not_above q n le =
    ⊎_elim (λ lt. ap is_gt (sym (nat_cmp_is q n Less lt)))
    (λ ge. ap is_gt (sym (nat_cmp_is q n Equal (omega (arith, le, ge))))) (cases_lt q n)

-- ---- a number in a tree

found : (n : ℕ) (es : List (ℕ × ℕ)) → is_in n (map run_of es) ≡ true
    → (e : ℕ × ℕ) × Contains es e × (in_run n (run_of e) ≡ true)
found n [] h = absurd (cc)
found n (e ∷ es) h =
    ⊎_elim (λ here. (e, (0, omega arith, refl), here))
    (λ other.
    let r = found n es (sym (ap (λ (b : Bool). b || is_in n (map run_of es)) other) ∙ h) in
    let lt : r.1.0 < length es = r.1.1 in
    (r.0, (suc (r.1.0), omega arith, r.1.2), r.2))
    (cases_Bool (in_run n (run_of e)))

inside : (n : ℕ) (es : List (ℕ × ℕ)) (e : ℕ × ℕ) → Contains es e
    → in_run n (run_of e) ≡ true → is_in n (map run_of es) ≡ true
inside n [] e (k, lt, is) h = absurd (omega (arith, lt))
inside n (x ∷ es) e (zero, lt, is) h =
    or_left (in_run n (run_of x)) (is_in n (map run_of es))
    (ap (λ (y : ℕ × ℕ). in_run n (run_of y)) is ∙ h)
inside n (x ∷ es) e (suc k, lt, is) h =
    or_right (in_run n (run_of x)) (is_in n (map run_of es))
    (inside n es e (k, omega (arith, lt), is) h)

pub held : (m : Tree) (n : ℕ) → IsOrdered nat_cmp m → is_in n (runs_of m) ≡ true → HoldsNumber m n
held m n o h =
    let r = found n m.entries h in
    let b = and_parts _ _ r.2 in (
      r.0.0,
      r.0.1,
      (btree_map_get_iff nat_cmp_total exact_unsigned m o r.0.0 r.0.1).1 r.1,
      leb-true _ _ b.0,
      leb-true _ _ b.1,
    )

pub holds : (m : Tree) (n : ℕ) → IsOrdered nat_cmp m → HoldsNumber m n → is_in n (runs_of m) ≡ true
holds m n o (k, l, g, le, ge) =
    inside n m.entries (k, l) ((btree_map_get_iff nat_cmp_total exact_unsigned m o k l).0 g)
    (and_from (nat_le k n) (nat_le n l) (le_test k n le) (le_test n l ge))
  where
    le_test : (a b : ℕ) → a ≤ b → nat_le a b ≡ true
    le_test a b h = grind (arith, nat_tests, h)

-- ---- the last run that begins at a number or before it

module _ (limit : ℕ) (m : Tree) (n : ℕ) (apart : Apart limit m) where
  pub reached : (r : Option Run) → IsLastFrom n m r → reaches r n ≡ true → HoldsNumber m n
  reached None l h = absurd (cc)
  reached (Some r) l h = (r.first, r.last, l.0, l.1, leb-true _ _ h)

  pub unreached : (r : Option Run) → IsLastFrom n m r → reaches r n ≡ false → HoldsNumber m n → ⊥
  unreached None l h (k, j, g, le, ge) = no_value (at m k) j (l k le) g
  unreached (Some r) l h (k, j, g, le, ge) =
      let past : r.last < n = leb-false _ _ h in
      let first : k ≤ r.first = l.2 k le (is_there (at m k) j g) in
      let begin : r.first ≤ n = l.1 in
      ⊎_elim
      (λ lt. let b : j + 2 ≤ r.first = apart.between k j r.first r.last g l.0 lt in absurd (omega (arith, ge)))
      (λ eq.
      let same : k ≡ r.first = omega arith in
      let last : j ≡ r.last = one_value (at m k) j r.last g (ap (at m) same ∙ l.0) in
      absurd (omega (arith, ge)))
      (cases_lt k r.first)

  -- a number that is in no run, and the run that it is put to
  pub begins : (r : Option Run) → IsLastFrom n m r → reaches r n ≡ false
      → BeginsRun (begin_of r n) n m
  begins None l h =
      record {
        bound = omega arith;
        own = λ last g. absurd (no_value (at m n) last (l n (omega arith)) g);
        joined = λ lt. absurd (omega (arith, lt));
        before = λ q last g lt. absurd (no_value (at m q) last (l q (omega (arith, lt))) g);
        behind = λ q g lt. lt;
      }
  begins (Some r) l h = by (r.last + 1 == n) refl
    where
      past : r.last < n
      past = leb-false _ _ h

      own_run : r.first ≤ r.last
      own_run = apart.each r.first r.last l.0

      by : (b : Bool) → (r.last + 1 == n) ≡ b → BeginsRun (cond b r.first n) n m
      by true e =
          let next : r.last + 1 ≡ n = eqb-true _ _ e in
          record {
            bound = l.1;
            own = λ last g. let same : last ≡ r.last = one_value (at m r.first) last r.last g l.0 in omega arith;
            joined = λ lt. is_there (at m r.first) r.last l.0;
            before = λ q last g lt. apart.between q last r.first r.last g l.0 lt;
            behind = λ q g lt.
                ⊎_elim (λ (less : n < q). less)
                (λ (le : q ≤ n). let first : q ≤ r.first = l.2 q le g in absurd (omega (arith, lt)))
                (cases_lt n q);
          }
      by false e =
          let other : r.last + 1 ≢ n = eqb-false _ _ e in
          let past_two : r.last + 2 ≤ n = omega (arith, past, other) in
          record {
            bound = omega arith;
            own = λ last g.
                let first : n ≤ r.first = l.2 n (omega arith) (is_there (at m n) last g) in
                absurd (omega (arith, past_two, own_run));
            joined = λ lt. absurd (omega (arith, lt));
            before = λ q last g lt.
                let first : q ≤ r.first = l.2 q (omega (arith, lt)) (is_there (at m q) last g) in
                ⊎_elim
                (λ (less : q < r.first).
                let b : last + 2 ≤ r.first = apart.between q last r.first r.last g l.0 less in
                omega (arith, past_two, own_run))
                (λ (le : r.first ≤ q).
                let same : q ≡ r.first = omega arith in
                let end : last ≡ r.last = one_value (at m q) last r.last g (ap (at m) same ∙ l.0) in
                omega (arith, past_two))
                (cases_lt q r.first);
            behind = λ q g lt. lt;
          }

pub apart_from : (k q : ℕ) → q ≢ k → is_at (nat_cmp k) q ≡ false
apart_from k q other =
    unsigned_tied k q ∙ false_from_ne_true _ (λ h. other (sym (eqb-true k q h)))

-- ---- a number between runs

-- The new tree has the run from first to last, in which the number is, and not the one that began
-- right behind the number, if there was one.
pub record IsJoined (first n last : ℕ) (old new : Tree) : Type 0 where
  pub ends : ((at old (n + 1) ≡ None) × (last ≡ n)) ⊎ (at old (n + 1) ≡ Some last)
  pub own : at new first ≡ Some last
  pub next : at new (n + 1) ≡ None
  pub others : (q : ℕ) → q ≢ first → q ≢ n + 1 → at new q ≡ at old q

pub joined_behind : (first n last : ℕ) (old mid new : Tree) → first ≤ n
    → at old (n + 1) ≡ Some last → Updates nat_cmp old mid first (Some last)
    → UpdatesBy nat_cmp (nat_cmp (n + 1)) mid new None → IsJoined first n last old new
joined_behind first n last old mid new le more put taken =
    record {
      ends = inr more;
      own = taken.2 first (apart_from (n + 1) first (λ e. let z : first ≡ n + 1 = e in absurd (omega (arith, le)))) ∙ put.1;
      next = taken.1;
      others = λ q a b. taken.2 q (apart_from (n + 1) q b) ∙ put.2 q (apart_from first q a);
    }

pub joined_alone : (first n : ℕ) (old new : Tree) → first ≤ n → at old (n + 1) ≡ None
    → Updates nat_cmp old new first (Some n) → IsJoined first n n old new
joined_alone first n old new le none put =
    record {
      ends = inl (none, refl);
      own = put.1;
      next = put.2 (n + 1) (apart_from first (n + 1) (λ e. let z : n + 1 ≡ first = e in absurd (omega (arith, le)))) ∙ none;
      others = λ q a b. put.2 q (apart_from first q a);
    }

module _ (limit first n last : ℕ) (old new : Tree) (apart : Apart limit old)
    (begins : BeginsRun first n old) (joined : IsJoined first n last old new) where
  reach : n ≤ last
  reach =
      ⊎_elim (λ alone. let e : last ≡ n = alone.1 in omega arith)
      (λ more. let e : n + 1 ≤ last = apart.each (n + 1) last more in omega arith) joined.ends

  which : (q l : ℕ) → at new q ≡ Some l
      → ((q ≡ first) × (l ≡ last)) ⊎ ((at old q ≡ Some l) × (q ≢ first) × (q ≢ n + 1))
  which q l g =
      ⊎_elim (λ same. inl (same, one_value (at new q) l last g (ap (at new) same ∙ joined.own)))
      (λ other.
      ⊎_elim (λ next. absurd (no_value (at new q) l (ap (at new) next ∙ joined.next) g))
      (λ apart. inr (sym (joined.others q other apart) ∙ g, other, apart)) (cases_eq q (n + 1)))
      (cases_eq q first)

  behind_last : (p e : ℕ) → at old p ≡ Some e → p ≢ n + 1 → first < p → last + 2 ≤ p
  behind_last p e g other lt =
      let far : n < p = begins.behind p (is_there (at old p) e g) lt in
      ⊎_elim (λ alone. let z : last ≡ n = alone.1 in omega (arith, far, other))
      (λ more. apart.between (n + 1) last p e more g (omega (arith, far, other))) joined.ends

  pub joined_apart : IsOrdered nat_cmp new → n + 1 < limit → Apart limit new
  joined_apart ordered room =
      record {
        ordered = ordered;
        each = λ q l g.
            ⊎_elim
            (λ own. let a : q ≡ first = own.0 in
            let b : l ≡ last = own.1 in
            omega (arith, reach, begins.bound))
            (λ other. apart.each q l other.0) (which q l g);
        between = λ q l p e g h lt. between q l p e lt (which q l g) (which p e h);
        below = λ q l g.
            ⊎_elim
            (λ own.
            let b : l ≡ last = own.1 in
            ⊎_elim (λ alone. let z : last ≡ n = alone.1 in omega (arith, room))
            (λ more. let z : last + 2 ≤ limit = apart.below (n + 1) last more in omega arith)
            joined.ends)
            (λ other. apart.below q l other.0) (which q l g);
      }
    where
      between : (q l p e : ℕ) → q < p
          → ((q ≡ first) × (l ≡ last)) ⊎ ((at old q ≡ Some l) × (q ≢ first) × (q ≢ n + 1))
          → ((p ≡ first) × (e ≡ last)) ⊎ ((at old p ≡ Some e) × (p ≢ first) × (p ≢ n + 1))
          → l + 2 ≤ p
      between q l p e lt (inl x) (inl y) =
          let a : q ≡ first = x.0 in let b : p ≡ first = y.0 in absurd (omega (arith, lt))
      between q l p e lt (inl x) (inr y) =
          let a : q ≡ first = x.0 in
          let b : l ≡ last = x.1 in
          let c : last + 2 ≤ p = behind_last p e y.0 y.2 (omega (arith, lt)) in omega arith
      between q l p e lt (inr x) (inl y) =
          let a : p ≡ first = y.0 in
          let b : l + 2 ≤ first = begins.before q l x.0 (omega (arith, lt)) in omega arith
      between q l p e lt (inr x) (inr y) = apart.between q l p e x.0 y.0 lt

  pub joined_more : HasOneMore old n new
  joined_more = ((first, last, joined.own, begins.bound, reach), kept, only)
    where
      kept : (q : ℕ) → HoldsNumber old q → HoldsNumber new q
      kept q (k, l, g, le, ge) =
          ⊎_elim
          (λ own.
          let e : k ≡ first = own in
          let end : l + 1 ≡ n = begins.own l (sym (ap (at old) own) ∙ g) in
          (first, last, joined.own, omega (arith, le), omega (arith, ge, reach)))
          (λ other.
          ⊎_elim
          (λ next.
          let e : k ≡ n + 1 = next in
          let s : at old (n + 1) ≡ Some l = sym (ap (at old) next) ∙ g in
          let end : l ≡ last =
          ⊎_elim (λ alone. absurd (no_value (at old (n + 1)) l alone.0 s))
          (λ more. one_value (at old (n + 1)) l last s more) joined.ends in
          (first, last, joined.own, omega (arith, le, begins.bound), omega (arith, ge)))
          (λ far. (k, l, joined.others k other far ∙ g, le, ge)) (cases_eq k (n + 1)))
          (cases_eq k first)

      only : (q : ℕ) → HoldsNumber new q → q ≢ n → HoldsNumber old q
      only q (k, l, g, le, ge) apart_n =
          ⊎_elim
          (λ own.
          let a : k ≡ first = own.0 in
          let b : l ≡ last = own.1 in
          ⊎_elim
          (λ (low : q < n).
          let w = value_of (at old first) (begins.joined (omega (arith, le))) in
          let end : w.0 + 1 ≡ n = begins.own w.0 w.1 in
          (first, w.0, w.1, omega (arith, le), omega (arith, low)))
          (λ (high : n ≤ q).
          ⊎_elim (λ alone. let z : last ≡ n = alone.1 in absurd (omega (arith, ge, high, apart_n)))
          (λ more. (n + 1, last, more, omega (arith, high, apart_n), omega (arith, ge))) joined.ends)
          (cases_lt q n))
          (λ other. (k, l, other.0, le, ge)) (which k l g)

-- ---- the runs with the top one

-- a number is in the top run, or in one of the tree
abbrev pub In : Run → Tree → ℕ → Type 0
In top m q = ((top.first ≤ q) × (q ≤ top.last)) ⊎ HoldsNumber m q

module _ (top : Run) (m : Tree) (ordered : IsOrdered nat_cmp m) where
  pub has : (q : ℕ) → In top m q → contains (numbers_of (all_runs (Some top) m)) q ≡ true
  has q (inl w) =
      contains_runs q (top ∷ runs_of m)
      ∙ or_left (in_run q top) (is_in q (runs_of m)) (in_one w.0 w.1)
    where
      in_one : top.first ≤ q → q ≤ top.last → in_run q top ≡ true
      in_one a b = grind (arith, nat_tests, a, b)
  has q (inr w) =
      contains_runs q (top ∷ runs_of m)
      ∙ or_right (in_run q top) (is_in q (runs_of m)) (holds m q ordered w)

  pub had : (q : ℕ) → contains (numbers_of (all_runs (Some top) m)) q ≡ true → In top m q
  had q h =
      let e : (in_run q top || is_in q (runs_of m)) ≡ true = sym (contains_runs q (top ∷ runs_of m)) ∙ h in
      ⊎_elim
      (λ here. let b = and_parts _ _ here in inl (leb-true _ _ b.0, leb-true _ _ b.1))
      (λ other. inr (held m q ordered (sym (ap (λ (b : Bool). b || is_in q (runs_of m)) other) ∙ e)))
      (cases_Bool (in_run q top))

-- a number that comes to runs that it isn't in
pub put_is : (top next : Run) (old new : Tree) (n : ℕ) → AreRunsApart (Some top) old
    → AreRunsApart (Some next) new → (In top old n → ⊥) → In next new n
    → ((q : ℕ) → In top old q → In next new q) → ((q : ℕ) → In next new q → q ≢ n → In top old q)
    → IsPut (Some top) old n (Some next) new
put_is top next old new n was are none own more only = (
  false_from_ne_true _ (λ h. none (had top old was.1.ordered n h)),
  are,
  one_more _ _ n (has next new are.1.ordered n own)
      (λ q h. has next new are.1.ordered q (more q (had top old was.1.ordered q h)))
      (λ q h apart. has top old was.1.ordered q (only q (had next new are.1.ordered q h) apart)),
)

-- ---- a number that comes

empty_holds : (m : Tree) (k v : ℕ) → m.entries ≡ [] → at m k ≡ Some v → ⊥
empty_holds m k v e g =
    no_value (at m k) v (ap (λ (es : List (ℕ × ℕ)). lookup (is_at (nat_cmp k)) es) e) g

nothing : (m : Tree) (q : ℕ) → m.entries ≡ [] → contains (numbers_of (runs_of m)) q ≡ false
nothing m q e =
    contains_runs q (runs_of m) ∙ ap (λ (es : List (ℕ × ℕ)). is_in q (map run_of es)) e

empty_apart : (m : Tree) (limit : ℕ) → m.entries ≡ [] → Apart limit m
unfolding IsStrictlySortedBy
empty_apart m limit e =
    record {
      ordered = subst (λ (es : List (ℕ × ℕ)). IsStrictlySortedBy nat_cmp (keys_of es)) (sym e) tt;
      each = λ k v g. absurd (empty_holds m k v e g);
      between = λ k v j w g h lt. absurd (empty_holds m k v e g);
      below = λ k v g. absurd (empty_holds m k v e g);
    }

abbrev only_run : ℕ → Run
only_run n = record { first = n; last = n }

pub first_put : (top : Option Run) (m : Tree) (n : ℕ) → ((t : Run) → top ≡ Some t → ⊥)
    → AreRunsApart top m → IsPut top m n (Some (only_run n)) m
first_put (Some t) m n e are = absurd (e t refl)
first_put None m n e are = (
  nothing m n are,
  (omega arith, apart),
  one_more (numbers_of (runs_of m)) (numbers_of (all_runs (Some (only_run n)) m)) n
      (has (only_run n) m apart.ordered n (inl (omega arith, omega arith)))
      (λ q h. absurd (both_ways _ (nothing m q are) h))
      (λ q h other. only q other (had (only_run n) m apart.ordered q h)),
) where
  apart : Apart n m
  apart = empty_apart m n are

  only : (q : ℕ) → q ≢ n → In (only_run n) m q → contains (numbers_of (runs_of m)) q ≡ true
  only q other (inl w) =
      let a : n ≤ q = w.0 in let b : q ≤ n = w.1 in absurd (omega (arith, other))
  only q other (inr (k, l, g, le, ge)) = absurd (empty_holds m k l are g)

module _ (top : Run) (m : Tree) (n : ℕ) (are : AreRunsApart (Some top) m) where
  holds_below : (q : ℕ) → HoldsNumber m q → q + 2 ≤ top.first
  holds_below q (k, l, g, le, ge) =
      let b : l + 2 ≤ top.first = are.1.below k l g in omega (arith, ge)

  none_above : top.last < n → In top m n → ⊥
  none_above lt (inl w) = let a : n ≤ top.last = w.1 in absurd (omega (arith, lt))
  none_above lt (inr w) =
      let a : n + 2 ≤ top.first = holds_below n w in
      let b : top.first ≤ top.last = are.0 in absurd (omega (arith, lt))

  none_below : n < top.first → (HoldsNumber m n → ⊥) → In top m n → ⊥
  none_below lt none (inl w) = let a : top.first ≤ n = w.0 in absurd (omega (arith, lt))
  none_below lt none (inr w) = none w

  pub lengthened : top.last + 1 ≡ n
      → IsPut (Some top) m n (Some (record { first = top.first; last = n })) m
  lengthened e =
      let b : top.first ≤ top.last = are.0 in
      put_is top (record { first = top.first; last = n }) m m n are
      (omega arith, are.1) (none_above (omega arith)) (inl (omega arith, omega arith)) more only
    where
      more : (q : ℕ) → In top m q → In (record { first = top.first; last = n }) m q
      more q (inl w) = let a : q ≤ top.last = w.1 in inl (w.0, omega (arith, e))
      more q (inr w) = inr w

      only : (q : ℕ) → In (record { first = top.first; last = n }) m q → q ≢ n → In top m q
      only q (inl w) other = let a : q ≤ n = w.1 in inl (w.0, omega (arith, e, other))
      only q (inr w) other = inr w

  pub raised : (new : Tree) → top.last + 2 ≤ n → Updates nat_cmp m new top.first (Some top.last)
      → IsOrdered nat_cmp new → IsPut (Some top) m n (Some (only_run n)) new
  raised new room updates ordered =
      put_is top (only_run n) m new n are (omega arith, apart) (none_above (omega (arith, room)))
      (inl (omega arith, omega arith)) more only
    where
      which : (q l : ℕ) → at new q ≡ Some l
          → ((q ≡ top.first) × (l ≡ top.last)) ⊎ (at m q ≡ Some l)
      which q l g =
          ⊎_elim
          (λ same. inl (same, one_value (at new q) l top.last g (ap (at new) same ∙ updates.1)))
          (λ other. inr (sym (updates.2 q (apart_from top.first q other)) ∙ g))
          (cases_eq q top.first)

      between : (q l p e : ℕ) → q < p → ((q ≡ top.first) × (l ≡ top.last)) ⊎ (at m q ≡ Some l)
          → ((p ≡ top.first) × (e ≡ top.last)) ⊎ (at m p ≡ Some e) → l + 2 ≤ p
      between q l p e lt (inl x) (inl y) =
          let a : q ≡ top.first = x.0 in let b : p ≡ top.first = y.0 in absurd (omega (arith, lt))
      between q l p e lt (inl x) (inr y) =
          let a : q ≡ top.first = x.0 in
          let b : e + 2 ≤ top.first = are.1.below p e y in
          let d : p ≤ e = are.1.each p e y in absurd (omega (arith, lt))
      between q l p e lt (inr x) (inl y) =
          let a : p ≡ top.first = y.0 in
          let b : l + 2 ≤ top.first = are.1.below q l x in omega arith
      between q l p e lt (inr x) (inr y) = are.1.between q l p e x y lt

      each : (q l : ℕ) → ((q ≡ top.first) × (l ≡ top.last)) ⊎ (at m q ≡ Some l) → q ≤ l
      each q l (inl x) =
          let a : q ≡ top.first = x.0 in
          let b : l ≡ top.last = x.1 in let d : top.first ≤ top.last = are.0 in omega arith
      each q l (inr x) = are.1.each q l x

      below : (q l : ℕ) → ((q ≡ top.first) × (l ≡ top.last)) ⊎ (at m q ≡ Some l) → l + 2 ≤ n
      below q l (inl x) = let b : l ≡ top.last = x.1 in omega (arith, room)
      below q l (inr x) =
          let b : l + 2 ≤ top.first = are.1.below q l x in
          let d : top.first ≤ top.last = are.0 in omega (arith, room)

      apart : Apart n new
      apart =
          record {
            ordered = ordered;
            each = λ q l g. each q l (which q l g);
            between = λ q l p e g h lt. between q l p e lt (which q l g) (which p e h);
            below = λ q l g. below q l (which q l g);
          }

      more : (q : ℕ) → In top m q → In (only_run n) new q
      more q (inl w) = inr (top.first, top.last, updates.1, w.0, w.1)
      more q (inr (k, l, g, le, ge)) =
          let b : l + 2 ≤ top.first = are.1.below k l g in
          let d : k ≤ l = are.1.each k l g in
          inr
          (k, l, updates.2 k (apart_from top.first k (λ same. let z : k ≡ top.first = same in absurd (omega arith))) ∙ g, le, ge)

      old_one : (q k l : ℕ) → k ≤ q → q ≤ l
          → ((k ≡ top.first) × (l ≡ top.last)) ⊎ (at m k ≡ Some l) → In top m q
      old_one q k l le ge (inl x) =
          let a : k ≡ top.first = x.0 in
          let b : l ≡ top.last = x.1 in inl (omega (arith, le), omega (arith, ge))
      old_one q k l le ge (inr x) = inr (k, l, x, le, ge)

      only : (q : ℕ) → In (only_run n) new q → q ≢ n → In top m q
      only q (inl w) other =
          let a : n ≤ q = w.0 in let b : q ≤ n = w.1 in absurd (omega (arith, other))
      only q (inr (k, l, g, le, ge)) other = old_one q k l le ge (which k l g)

  pub put_apart : (new : Tree) → n < top.first → (HoldsNumber m n → ⊥) → Apart top.first new
      → HasOneMore m n new → IsPut (Some top) m n (Some top) new
  put_apart new lt none apart more =
      put_is top top m new n are (are.0, apart) (none_below lt none) (inr more.0)
      (λ q. ⊎_elim (λ w. inl w) (λ w. inr (more.1 q w)))
      (λ q w other. ⊎_elim (λ x. inl x) (λ x. inr (more.2 q x other)) w)

  -- a number right below the top run, which then begins where the run before it did
  pub led : (new : Tree) (first : ℕ) → n + 1 ≡ top.first → (HoldsNumber m n → ⊥)
      → BeginsRun first n m → IsOrdered nat_cmp new → at new first ≡ None
      → ((q : ℕ) → q ≢ first → at new q ≡ at m q)
      → IsPut (Some top) m n (Some (record { first = first; last = top.last })) new
  led new first next none begins ordered gone others =
      put_is top (record { first = first; last = top.last }) m new n are
      (let a : top.first ≤ top.last = are.0 in omega (arith, begins.bound, next), apart)
      (none_below (omega (arith, next)) none)
      (inl (begins.bound, let a : top.first ≤ top.last = are.0 in omega (arith, next))) more only
    where
      was : (q l : ℕ) → at new q ≡ Some l → (at m q ≡ Some l) × (q ≢ first)
      was q l g =
          let other : q ≢ first = λ same. no_value (at new q) l (ap (at new) same ∙ gone) g in
          (sym (others q other) ∙ g, other)

      apart : Apart first new
      apart =
          record {
            ordered = ordered;
            each = λ q l g. are.1.each q l (was q l g).0;
            between = λ q l p e g h lt. are.1.between q l p e (was q l g).0 (was p e h).0 lt;
            below = λ q l g. below q l (was q l g).0 (was q l g).1;
          }
        where
          below : (q l : ℕ) → at m q ≡ Some l → q ≢ first → l + 2 ≤ first
          below q l g other =
              ⊎_elim (λ (low : q < first). begins.before q l g low)
              (λ (high : first ≤ q).
              let far : n < q = begins.behind q (is_there (at m q) l g) (omega (arith, high, other)) in
              let a : q ≤ l = are.1.each q l g in
              let b : l + 2 ≤ top.first = are.1.below q l g in absurd (omega (arith, next)))
              (cases_lt q first)

      more : (q : ℕ) → In top m q → In (record { first = first; last = top.last }) new q
      more q (inl w) =
          let a : top.first ≤ q = w.0 in inl (omega (arith, begins.bound, next), w.1)
      more q (inr (k, l, g, le, ge)) =
          ⊎_elim
          (λ own.
          let e : k ≡ first = own in
          let end : l + 1 ≡ n = begins.own l (sym (ap (at m) own) ∙ g) in
          let b : top.first ≤ top.last = are.0 in
          inl (omega (arith, le), omega (arith, ge, next)))
          (λ other. inr (k, l, others k other ∙ g, le, ge)) (cases_eq k first)

      only : (q : ℕ) → In (record { first = first; last = top.last }) new q → q ≢ n → In top m q
      only q (inl w) other =
          let a : first ≤ q = w.0 in
          ⊎_elim
          (λ (low : q < n).
          let v = value_of (at m first) (begins.joined (omega (arith, low))) in
          let end : v.0 + 1 ≡ n = begins.own v.0 v.1 in
          inr (first, v.0, v.1, w.0, omega (arith, low)))
          (λ (high : n ≤ q). inl (omega (arith, high, other, next), w.1)) (cases_lt q n)
      only q (inr (k, l, g, le, ge)) other = inr (k, l, (was k l g).0, le, ge)

  -- where the number is a run of its own, nothing begins at it
  pub alone : BeginsRun n n m → at m n ≡ None
  alone begins = by (at m n) refl
    where
      by : (o : Option ℕ) → at m n ≡ o → o ≡ None
      by None e = refl
      by (Some v) e =
          let a : n ≤ v = are.1.each n v e in
          let b : v + 1 ≡ n = begins.own v e in absurd (omega arith)

-- ---- whether a number is there

le_is : (a b : ℕ) (c : Bool) → (a ≤ b → c ≡ true) → (c ≡ true → a ≤ b) → nat_le a b ≡ c
le_is a b c f g =
    ⊎_elim (λ t. t ∙ sym (f (leb-true a b t)))
    (λ e. e ∙ sym (false_from_ne_true c (λ h. let l : a ≤ b = g h in let n : b < a = leb-false a b e in absurd (omega arith))))
    (cases_Bool (nat_le a b))

pub none_in : (top : Option Run) (m : Tree) (n : ℕ) → top ≡ None → AreRunsApart top m
    → contains (numbers_of (all_runs top m)) n ≡ false
none_in (Some t) m n e are = absurd (cc)
none_in None m n e are = nothing m n are

pub in_top : (top : Option Run) (t : Run) (m : Tree) (n : ℕ) → top ≡ Some t → AreRunsApart top m
    → t.first ≤ n → nat_le n t.last ≡ contains (numbers_of (all_runs top m)) n
in_top None t m n e are le = absurd (cc)
in_top (Some u) t m n e are le =
    let same : u ≡ t = cc in
    subst
    (λ (x : Run). x.first ≤ n → nat_le n x.last ≡ contains (numbers_of (all_runs (Some u) m)) n)
    same
    (λ from. le_is n u.last _ (λ ge. has u m are.1.ordered n (inl (from, ge)))
    (λ h. ⊎_elim (λ w. w.1)
    (λ w. let b : n + 2 ≤ u.first = holds_below u m n are n w in absurd (omega (arith, from)))
    (had u m are.1.ordered n h)))
    le

pub in_below : (top : Option Run) (t : Run) (m : Tree) (n : ℕ) (r : Option Run) → top ≡ Some t
    → AreRunsApart top m → n < t.first → IsLastFrom n m r
    → reaches r n ≡ contains (numbers_of (all_runs top m)) n
in_below None t m n r e are lt l = absurd (cc)
in_below (Some u) t m n r e are lt l =
    let same : u ≡ t = cc in
    let less : n < u.first = subst (λ (x : Run). n < x.first) (sym same) lt in
    ⊎_elim
    (λ yes. yes ∙ sym (has u m are.1.ordered n (inr (reached u.first m n are.1 r l yes))))
    (λ no. no
    ∙ sym
    (false_from_ne_true _
    (λ h. none_below u m n are less (unreached u.first m n are.1 r l no) (had u m are.1.ordered n h))))
    (cases_Bool (reaches r n))

pub there : (top : Run) (m : Tree) (n : ℕ) → AreRunsApart (Some top) m → HoldsNumber m n
    → contains (numbers_of (all_runs (Some top) m)) n ≡ true
there top m n are w = has top m are.1.ordered n (inr w)

pub there_top : (top : Option Run) (t : Run) (m : Tree) (n : ℕ) → top ≡ Some t → AreRunsApart top m
    → t.first ≤ n → n ≤ t.last → contains (numbers_of (all_runs top m)) n ≡ true
there_top top t m n e are le ge =
    sym (in_top top t m n e are le) ∙ le_is n t.last true (λ h. refl) (λ h. ge)

pub same_runs : (top : Option Run) (old new : Tree) → new.entries ≡ old.entries
    → all_runs top new ≡ all_runs top old
same_runs None old new e = ap (λ (es : List (ℕ × ℕ)). map run_of es) e
same_runs (Some t) old new e = ap (λ (es : List (ℕ × ℕ)). t ∷ map run_of es) e
