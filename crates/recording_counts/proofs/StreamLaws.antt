-- A stream and a timestamp where one more packet comes.
use Rattle.std.proofs.Common.{◌≡◌, ◌∙◌, ℕ, Bool, true, false, not, nat_lt, ◌&&◌}
use Rattle.std.proofs.Common.{cond, List, [], ◌∷◌, ◌++◌}
use Rattle.std.proofs.Common.{map, max, Option, Some, None, ap, refl, sym}
use Rattle.std.proofs.Common.{append-nil}
use Rattle.std.proofs.lemmas.List.{map-append}
use Rattle.std.proofs.lemmas.List.Elements.{filter-append}
use Rattle.std.specs.Cmp.{nat_cmp_total}
use Rattle.std.specs.FinSet.{FinSet, contains, from_list, from_list_push, insert, intersection}
use Rattle.std.specs.FinSet.{contains-empty, contains-intersection, empty, len, len-empty}
use Rattle.std.specs.FinSet.{nat_cmp-IsAntisymmetric, same_set}
use Rattle.std.specs.List.{filter}
use Rattle.std.specs.Option.{option_map_or}
use Rattle.std.specs.Ordering.{nat_cmp}
use Rattle.st_format.specs.Device.{capped}
use Rattle.recording_counts.specs.declared.packet.Packet.{Packet}
use Rattle.recording_counts.specs.declared.packet.StreamKey.{StreamKey}
use Rattle.recording_counts.specs.declared.path_count.PathCount.{PathCount}
use Rattle.recording_counts.specs.declared.stream.StreamCount.{StreamCount}
use Rattle.recording_counts.specs.declared.path_count.Came.{Came}
use Rattle.recording_counts.specs.declared.path_count.Came.TheVariants.{Late, New}
use Rattle.recording_counts.specs.PathCounts.{came, came_after, count_of, is_repeated, one_more}
use Rattle.recording_counts.specs.Numbering.{Numbered, highest_of, number_after, numbered}
use Rattle.recording_counts.specs.Numbering.{numbered_after, numbered_behind}
use Rattle.recording_counts.specs.Streams.{is_a, numbers_by_a, numbers_by_b, stream_counted}
use Rattle.recording_counts.specs.Streams.{stream_of}
use Rattle.recording_counts.proofs.BothLaws.{both_more, both_more_second}
use Rattle.recording_counts.proofs.CountLaws.{capped_one, highest_more}

pub numbered_more : (before : List Numbered) (own : List Packet) (p : Packet)
    → numbered_after before (own ++ p ∷ [])
    ≡ numbered_after before own ++ numbered_behind (numbered_after before own) p ∷ []
numbered_more before [] p = refl
numbered_more before (q ∷ own) p =
    numbered_more (before ++ numbered_behind before q ∷ []) own p

abbrev number : Numbered → ℕ
number n = n.number

-- the numbers that pass a test, with one more
some_more : (test : Numbered → Bool) (ns : List Numbered) (m : Numbered)
    → map number (filter test (ns ++ m ∷ []))
    ≡ map number (filter test ns) ++ map number (cond (test m) (m ∷ []) [])
some_more test ns m =
    ap (map number) (filter-append test ns (m ∷ []))
    ∙ map-append number (filter test ns) (cond (test m) (m ∷ []) [])

one_passes : (test : Numbered → Bool) (ns : List Numbered) (m : Numbered) → test m ≡ true
    → map number (filter test (ns ++ m ∷ [])) ≡ map number (filter test ns) ++ m.number ∷ []
one_passes test ns m e =
    some_more test ns m
    ∙ ap (λ (b : Bool). map number (filter test ns) ++ map number (cond b (m ∷ []) [])) e

none_passes : (test : Numbered → Bool) (ns : List Numbered) (m : Numbered) → test m ≡ false
    → map number (filter test (ns ++ m ∷ [])) ≡ map number (filter test ns)
none_passes test ns m e =
    some_more test ns m
    ∙ ap (λ (b : Bool). map number (filter test ns) ++ map number (cond b (m ∷ []) [])) e
    ∙ append-nil (map number (filter test ns))

highest_numbered : (ns : List Numbered) (m : Numbered) → highest_of (map number (ns ++ m ∷ []))
    ≡ Some (option_map_or (λ h. max h m.number) (highest_of (map number ns)) m.number)
highest_numbered ns m =
    ap highest_of (map-append number ns (m ∷ [])) ∙ highest_more (map number ns) m.number

-- how many numbers both lists have
abbrev both_of : List ℕ → List ℕ → ℕ
both_of xs ys = len (intersection (from_list {R = nat_cmp} xs) (from_list ys))

push : (xs : List ℕ) (n : ℕ) → from_list {R = nat_cmp} (xs ++ n ∷ []) ≡ insert (from_list xs) n
push xs n = from_list_push nat_cmp_total nat_cmp-IsAntisymmetric xs n

not_repeated : (b : Bool) → is_repeated (cond b Late New) ≡ false
not_repeated true = refl
not_repeated false = refl

repeated_is : (b : Bool) (h : Option ℕ) (n : ℕ) → is_repeated (came_after (not b) h n) ≡ b
repeated_is true h n = refl
repeated_is false None n = refl
repeated_is false (Some h) n = not_repeated (nat_lt n h)

both_first : (xs ys : List ℕ) (n : ℕ)
    → one_more (capped (both_of xs ys))
    (not (is_repeated (came xs n)) && contains (from_list {R = nat_cmp} ys) n)
    ≡ capped (both_of (xs ++ n ∷ []) ys)
both_first xs ys n =
    let s : FinSet nat_cmp = from_list xs in
    let t : FinSet nat_cmp = from_list ys in
    ap (λ (b : Bool). one_more (capped (both_of xs ys)) (not b && contains t n))
    (repeated_is (contains s n) (highest_of xs) n)
    ∙ capped_one (not (contains s n) && contains t n) (both_of xs ys)
    ∙ ap capped
    (sym (both_more s t n) ∙ ap (λ (x : FinSet nat_cmp). len (intersection x t)) (sym (push xs n)))

both_second : (xs ys : List ℕ) (n : ℕ)
    → one_more (capped (both_of xs ys))
    (not (is_repeated (came ys n)) && contains (from_list {R = nat_cmp} xs) n)
    ≡ capped (both_of xs (ys ++ n ∷ []))
both_second xs ys n =
    let s : FinSet nat_cmp = from_list xs in
    let t : FinSet nat_cmp = from_list ys in
    ap (λ (b : Bool). one_more (capped (both_of xs ys)) (not b && contains s n))
    (repeated_is (contains t n) (highest_of ys) n)
    ∙ capped_one (not (contains t n) && contains s n) (both_of xs ys)
    ∙ ap capped
    (sym (both_more_second s t n)
    ∙ ap (λ (x : FinSet nat_cmp). len (intersection s x)) (sym (push ys n)))

none_both : both_of [] [] ≡ 0
none_both =
    ap (λ (x : FinSet nat_cmp). len x)
    (same_set nat_cmp_total nat_cmp-IsAntisymmetric (intersection empty empty) empty
    (λ q. contains-intersection nat_cmp_total empty empty q
    ∙ ap (λ (b : Bool). b && contains (empty {R = nat_cmp}) q) (contains-empty nat_cmp q)
    ∙ sym (contains-empty nat_cmp q)))
    ∙ len-empty nat_cmp

module _ {A : Type 0} where
  abbrev built : StreamKey → Option ℕ → ℕ → PathCount A → PathCount A → StreamCount A
  built k hi both a b = record { key = k; highest = hi; both = both; a = a; b = b }

  -- a count that goes on from this one by one number
  abbrev pub GoesOn : PathCount A → ℕ → PathCount A → Type 0
  GoesOn old n next = (ns : List ℕ) → old ≡ count_of ns → next ≡ count_of (ns ++ n ∷ [])

  -- how it came
  abbrev pub CameSo : PathCount A → ℕ → Came → Type 0
  CameSo old n how = (ns : List ℕ) → old ≡ count_of ns → how ≡ came ns n

  -- of no packets
  pub stream_none : (k : StreamKey) (a b : PathCount A) → a ≡ count_of [] → b ≡ count_of []
      → built k None 0 a b ≡ stream_of k []
  stream_none k a b e f =
      ap (λ (x : ℕ). built k None x a b) (sym (ap capped none_both))
      ∙ ap (λ (x : PathCount A). built k None (capped (both_of [] [])) x b) e
      ∙ ap (λ (x : PathCount A). built k None (capped (both_of [] [])) (count_of []) x) f

  module _ (k : StreamKey) (own : List Packet) (p : Packet) (old : StreamCount A) (n hi both : ℕ)
      (how : Came) (there : Bool) (e : old ≡ stream_of k own)
      (n_is : n ≡ number_after old.highest p)
      (hi_is : hi ≡ option_map_or (λ h. max h n) old.highest n)
      (both_is : both ≡ one_more old.both (not (is_repeated how) && there)) where
    abbrev ns : List Numbered
    ns = numbered own

    abbrev m : Numbered
    m = numbered_behind ns p

    abbrev all : List Numbered
    all = ns ++ m ∷ []

    same_number : n ≡ m.number
    same_number = n_is ∙ ap (λ (x : StreamCount A). number_after x.highest p) e

    highest_is : Some hi ≡ highest_of (map number all)
    highest_is =
        ap (λ (x : ℕ). Some x) hi_is
        ∙ ap (λ (x : StreamCount A). Some (option_map_or (λ h. max h n) x.highest n)) e
        ∙ ap (λ (x : ℕ). Some (option_map_or (λ h. max h x) (highest_of (map number ns)) x))
        same_number
        ∙ sym (highest_numbered ns m)

    all_is : stream_counted {A = A} k all ≡ stream_of k (own ++ p ∷ [])
    all_is = ap (stream_counted {A = A} k) (sym (numbered_more [] own p))

    -- from its parts
    put : (a b : PathCount A) → both ≡ capped (both_of (numbers_by_a all) (numbers_by_b all))
        → a ≡ count_of (numbers_by_a all) → b ≡ count_of (numbers_by_b all)
        → built old.key (Some hi) both a b ≡ stream_of k (own ++ p ∷ [])
    put a b c_is a_is b_is =
        ap (λ (x : StreamCount A). built x.key (Some hi) both a b) e
        ∙ ap (λ (x : Option ℕ). built k x both a b) highest_is
        ∙ ap (λ (x : ℕ). built k (highest_of (map number all)) x a b) c_is
        ∙ ap
        (λ (x : PathCount A). built k (highest_of (map number all))
        (capped (both_of (numbers_by_a all) (numbers_by_b all))) x b) a_is
        ∙ ap
        (λ (x : PathCount A). built k (highest_of (map number all))
        (capped (both_of (numbers_by_a all) (numbers_by_b all))) (count_of (numbers_by_a all)) x)
        b_is
        ∙ all_is

    was : both ≡ one_more (capped (both_of (numbers_by_a ns) (numbers_by_b ns)))
        (not (is_repeated how) && there)
    was =
        both_is
        ∙ ap (λ (x : StreamCount A). one_more x.both (not (is_repeated how) && there)) e

    pub stream_by_a : (a : PathCount A) → is_a p.path ≡ true → GoesOn old.a n a
        → CameSo old.a n how → there ≡ contains old.b.numbers n
        → built old.key (Some hi) both a old.b ≡ stream_of k (own ++ p ∷ [])
    stream_by_a a t on so there_is =
        let xs : List ℕ = numbers_by_a ns in
        let ys : List ℕ = numbers_by_b ns in
        let a_was : old.a ≡ count_of xs = ap (λ (x : StreamCount A). x.a) e in
        let b_was : old.b ≡ count_of ys = ap (λ (x : StreamCount A). x.b) e in
        let xs_is : xs ++ n ∷ [] ≡ numbers_by_a all =
        ap (λ (x : ℕ). xs ++ x ∷ []) same_number
        ∙ sym (one_passes (λ x. is_a x.path) ns m t) in
        let ys_is : ys ≡ numbers_by_b all =
        sym (none_passes (λ x. not (is_a x.path)) ns m (ap not t)) in
        let t_is : there ≡ contains (from_list {R = nat_cmp} ys) n =
        there_is ∙ ap (λ (x : PathCount A). contains x.numbers n) b_was in
        put a old.b
        (was
        ∙ ap (λ (x : Came). one_more (capped (both_of xs ys)) (not (is_repeated x) && there))
        (so xs a_was)
        ∙ ap (λ (x : Bool). one_more (capped (both_of xs ys)) (not (is_repeated (came xs n)) && x))
        t_is
        ∙ both_first xs ys n
        ∙ ap (λ (x : List ℕ). capped (both_of x ys)) xs_is
        ∙ ap (λ (x : List ℕ). capped (both_of (numbers_by_a all) x)) ys_is)
        (on xs a_was ∙ ap (λ (x : List ℕ). count_of x) xs_is)
        (b_was ∙ ap (λ (x : List ℕ). count_of x) ys_is)

    pub stream_by_b : (b : PathCount A) → is_a p.path ≡ false → GoesOn old.b n b
        → CameSo old.b n how → there ≡ contains old.a.numbers n
        → built old.key (Some hi) both old.a b ≡ stream_of k (own ++ p ∷ [])
    stream_by_b b t on so there_is =
        let xs : List ℕ = numbers_by_a ns in
        let ys : List ℕ = numbers_by_b ns in
        let a_was : old.a ≡ count_of xs = ap (λ (x : StreamCount A). x.a) e in
        let b_was : old.b ≡ count_of ys = ap (λ (x : StreamCount A). x.b) e in
        let ys_is : ys ++ n ∷ [] ≡ numbers_by_b all =
        ap (λ (x : ℕ). ys ++ x ∷ []) same_number
        ∙ sym (one_passes (λ x. not (is_a x.path)) ns m (ap not t)) in
        let xs_is : xs ≡ numbers_by_a all = sym (none_passes (λ x. is_a x.path) ns m t) in
        let t_is : there ≡ contains (from_list {R = nat_cmp} xs) n =
        there_is ∙ ap (λ (x : PathCount A). contains x.numbers n) a_was in
        put old.a b
        (was
        ∙ ap (λ (x : Came). one_more (capped (both_of xs ys)) (not (is_repeated x) && there))
        (so ys b_was)
        ∙ ap (λ (x : Bool). one_more (capped (both_of xs ys)) (not (is_repeated (came ys n)) && x))
        t_is
        ∙ both_second xs ys n
        ∙ ap (λ (x : List ℕ). capped (both_of xs x)) ys_is
        ∙ ap (λ (x : List ℕ). capped (both_of x (numbers_by_b all))) xs_is)
        (a_was ∙ ap (λ (x : List ℕ). count_of x) xs_is)
        (on ys b_was ∙ ap (λ (x : List ℕ). count_of x) ys_is)
