-- What is counted where one more number comes.
use Rattle.std.proofs.Common.{◌≡◌, ℕ, ◌+◌, min, max, Bool, true, false, not}
use Rattle.std.proofs.Common.{cond, List, []}
use Rattle.std.proofs.Common.{◌∷◌, ◌++◌, length, Option, Some, None, refl, ap, sym, ◌∙◌, arith}
use Rattle.std.proofs.Common.{append-nil, append_assoc, add_assoc}
use Rattle.std.proofs.lemmas.List.{length-append}
use Rattle.std.specs.Cmp.{nat_cmp_total}
use Rattle.std.specs.FinSet.{FinSet, contains, empty, from_list, from_list_push, insert, len}
use Rattle.std.specs.FinSet.{len-empty}
use Rattle.std.specs.FinSet.{len-insert}
use Rattle.std.specs.FinSet.{nat_cmp-IsAntisymmetric}
use Rattle.std.specs.Option.{option_map_or}
use Rattle.std.specs.Ordering.{nat_cmp}
use Rattle.st_format.specs.Device.{capped}
use Rattle.recording_counts.specs.declared.path_count.Came.{Came}
use Rattle.recording_counts.specs.declared.path_count.Came.TheVariants.{Repeated}
use Rattle.recording_counts.specs.declared.path_count.PathCount.{PathCount}
use Rattle.recording_counts.specs.PathCounts.{came, came_after, count_of, is_late, late_after, one_more}
use Rattle.recording_counts.specs.Numbering.{highest_of, joined, lowest_of}

pub capped_one : (b : Bool) (m : ℕ) → one_more (capped m) b ≡ capped (m + cond b 1 0)
capped_one true m = omega arith
capped_one false m = omega arith

capped_set : (b : Bool) (m : ℕ) → one_more (capped m) (not b) ≡ capped (cond b m (m + 1))
capped_set true m = refl
capped_set false m = omega arith

swap_zero : (a : ℕ) → a + 0 ≡ 0 + a
swap_zero a = omega arith

late_more : (before ns : List ℕ) (n : ℕ) → late_after before (ns ++ n ∷ [])
    ≡ late_after before ns + cond (is_late (came (before ++ ns) n)) 1 0
late_more before [] n =
    let e : before ++ [] ≡ before = append-nil before in
    ap (λ (x : List ℕ). cond (is_late (came x n)) 1 0 + 0) (sym e)
    ∙ swap_zero (cond (is_late (came (before ++ []) n)) 1 0)
late_more before (m ∷ ns) n =
    let e : (before ++ m ∷ []) ++ ns ≡ before ++ m ∷ ns = append_assoc before (m ∷ []) ns in
    ap (λ (x : ℕ). cond (is_late (came before m)) 1 0 + x) (late_more (before ++ m ∷ []) ns n)
    ∙ ap
    (λ (x : List ℕ). cond (is_late (came before m)) 1 0
    + (late_after (before ++ m ∷ []) ns + cond (is_late (came x n)) 1 0)) e
    ∙ sym
    (add_assoc (cond (is_late (came before m)) 1 0) (late_after (before ++ m ∷ []) ns)
    (cond (is_late (came (before ++ m ∷ ns) n)) 1 0))

module _ (f : ℕ → ℕ → ℕ) (assoc : (a b c : ℕ) → f a (f b c) ≡ f (f a b) c) where
  behind : (m n : ℕ) (o : Option ℕ)
      → f m (option_map_or (λ h. f h n) o n) ≡ f (option_map_or (f m) o m) n
  behind m n None = refl
  behind m n (Some h) = assoc m h n

  joined_more : (ns : List ℕ) (n : ℕ)
      → joined f (ns ++ n ∷ []) ≡ Some (option_map_or (λ h. f h n) (joined f ns) n)
  joined_more [] n = refl
  joined_more (m ∷ ns) n =
      ap (λ (o : Option ℕ). Some (option_map_or (f m) o m)) (joined_more ns n)
      ∙ ap (λ (x : ℕ). Some x) (behind m n (joined f ns))

min_assoc : (a b c : ℕ) → min a (min b c) ≡ min (min a b) c
min_assoc a b c = omega arith

max_assoc : (a b c : ℕ) → max a (max b c) ≡ max (max a b) c
max_assoc a b c = omega arith

pub highest_more : (ns : List ℕ) (n : ℕ)
    → highest_of (ns ++ n ∷ []) ≡ Some (option_map_or (λ h. max h n) (highest_of ns) n)
highest_more ns n = joined_more max max_assoc ns n

pub lowest_more : (ns : List ℕ) (n : ℕ)
    → lowest_of (ns ++ n ∷ []) ≡ Some (option_map_or (λ l. min l n) (lowest_of ns) n)
lowest_more ns n = joined_more min min_assoc ns n

numbers_more : (ns : List ℕ) (n : ℕ)
    → from_list {R = nat_cmp} (ns ++ n ∷ []) ≡ insert (from_list ns) n
numbers_more ns n = from_list_push nat_cmp_total nat_cmp-IsAntisymmetric ns n

length_more : (ns : List ℕ) (n : ℕ) → one_more (capped (length ns)) true
    ≡ capped (length (ns ++ n ∷ []))
length_more ns n = capped_one true (length ns) ∙ ap capped (sym (length-append ns (n ∷ [])))

different_more : (ns : List ℕ) (n : ℕ)
    → one_more (capped (len (from_list {R = nat_cmp} ns)))
    (not (contains (from_list {R = nat_cmp} ns) n))
    ≡ capped (len (from_list {R = nat_cmp} (ns ++ n ∷ [])))
different_more ns n =
    capped_set (contains (from_list {R = nat_cmp} ns) n) (len (from_list {R = nat_cmp} ns))
    ∙ ap capped
    (sym (len-insert nat_cmp_total (from_list {R = nat_cmp} ns) n)
    ∙ ap (λ (s : FinSet nat_cmp). len s) (sym (numbers_more ns n)))

late_one : (ns : List ℕ) (n : ℕ)
    → one_more (capped (late_after [] ns)) (is_late (came ns n))
    ≡ capped (late_after [] (ns ++ n ∷ []))
late_one ns n =
    capped_one (is_late (came ns n)) (late_after [] ns) ∙ ap capped (sym (late_more [] ns n))

module _ {A : Type 0} where
  abbrev built : ℕ → ℕ → ℕ → Option ℕ → Option ℕ → FinSet nat_cmp → PathCount A
  built d e l lo hi s =
      record {
        datagrams = d;
        different = e;
        late = l;
        lowest = lo;
        highest = hi;
        numbers = s;
      }

  -- what a count is once one more number came
  abbrev pub after : PathCount A → ℕ → PathCount A
  after c n =
      built (one_more c.datagrams true) (one_more c.different (not (contains c.numbers n)))
      (one_more c.late (is_late (came_after (not (contains c.numbers n)) c.highest n)))
      (Some (option_map_or (λ l. min l n) c.lowest n))
      (Some (option_map_or (λ h. max h n) c.highest n)) (insert c.numbers n)

  pub count_more : (ns : List ℕ) (n : ℕ) → after (count_of ns) n ≡ count_of (ns ++ n ∷ [])
  count_more ns n =
      let all : List ℕ = ns ++ n ∷ [] in
      let d : ℕ = capped (length all) in
      let e : ℕ = capped (len (from_list {R = nat_cmp} all)) in
      let l : ℕ = capped (late_after [] all) in
      let e0 : ℕ =
      one_more (capped (len (from_list {R = nat_cmp} ns)))
      (not (contains (from_list {R = nat_cmp} ns) n)) in
      let l0 : ℕ = one_more (capped (late_after [] ns)) (is_late (came ns n)) in
      let lo0 : Option ℕ = Some (option_map_or (λ l. min l n) (lowest_of ns) n) in
      let hi0 : Option ℕ = Some (option_map_or (λ h. max h n) (highest_of ns) n) in
      let s0 : FinSet nat_cmp = insert (from_list ns) n in
      ap (λ (x : ℕ). built x e0 l0 lo0 hi0 s0) (length_more ns n)
      ∙ ap (λ (x : ℕ). built d x l0 lo0 hi0 s0) (different_more ns n)
      ∙ ap (λ (x : ℕ). built d e x lo0 hi0 s0) (late_one ns n)
      ∙ ap (λ (x : Option ℕ). built d e l x hi0 s0) (sym (lowest_more ns n))
      ∙ ap (λ (x : Option ℕ). built d e l (lowest_of all) x s0) (sym (highest_more ns n))
      ∙ ap (λ (x : FinSet nat_cmp). built d e l (lowest_of all) (highest_of all) x)
      (sym (numbers_more ns n))

  pub count_goes_on : (c : PathCount A) (ns : List ℕ) (n : ℕ) → c ≡ count_of ns
      → after c n ≡ count_of (ns ++ n ∷ [])
  count_goes_on c ns n e = ap (λ (x : PathCount A). after x n) e ∙ count_more ns n

  -- of its parts, as the code has them
  pub built_after : (c : PathCount A) (n d e l lo hi : ℕ) (new late : Bool) (how : Came)
      (s : FinSet nat_cmp) → d ≡ one_more c.datagrams true → e ≡ one_more c.different new
      → l ≡ one_more c.late late → late ≡ is_late how → how ≡ came_after new c.highest n
      → lo ≡ option_map_or (λ l. min l n) c.lowest n
      → hi ≡ option_map_or (λ h. max h n) c.highest n → s ≡ insert c.numbers n
      → new ≡ not (contains c.numbers n) → built d e l (Some lo) (Some hi) s ≡ after c n
  built_after c n d e l lo hi new late how s d_is e_is l_is late_is how_is lo_is hi_is s_is new_is =
      let e1 : ℕ = one_more c.different (not (contains c.numbers n)) in
      let l1 : ℕ =
      one_more c.late (is_late (came_after (not (contains c.numbers n)) c.highest n)) in
      let late_one : late ≡ is_late (came_after (not (contains c.numbers n)) c.highest n) =
      late_is ∙ ap is_late how_is
      ∙ ap (λ (x : Bool). is_late (came_after x c.highest n)) new_is in
      ap (λ (x : ℕ). built x e l (Some lo) (Some hi) s) d_is
      ∙ ap (λ (x : ℕ). built (one_more c.datagrams true) x l (Some lo) (Some hi) s)
      (e_is ∙ ap (one_more c.different) new_is)
      ∙ ap (λ (x : ℕ). built (one_more c.datagrams true) e1 x (Some lo) (Some hi) s)
      (l_is ∙ ap (one_more c.late) late_one)
      ∙ ap (λ (x : ℕ). built (one_more c.datagrams true) e1 l1 (Some x) (Some hi) s) lo_is
      ∙ ap
      (λ (x : ℕ). built (one_more c.datagrams true) e1 l1
      (Some (option_map_or (λ l. min l n) c.lowest n)) (Some x) s) hi_is
      ∙ ap
      (λ (x : FinSet nat_cmp). built (one_more c.datagrams true) e1 l1
      (Some (option_map_or (λ l. min l n) c.lowest n))
      (Some (option_map_or (λ h. max h n) c.highest n)) x) s_is

  -- of no numbers
  pub count_none : (s : FinSet nat_cmp) → s ≡ empty → built 0 0 0 None None s ≡ count_of []
  count_none s e =
      ap (λ (x : ℕ). built 0 x 0 None None s) (sym (ap capped (len-empty nat_cmp)))
      ∙ ap (λ (x : FinSet nat_cmp). built 0 (capped (len (empty {R = nat_cmp}))) 0 None None x) e

-- ---- how a number comes

pub came_repeated : (b : Bool) (h : Option ℕ) (n : ℕ) → b ≡ false → Repeated ≡ came_after b h n
came_repeated false h n e = refl
came_repeated true h n e = absurd (cc)
