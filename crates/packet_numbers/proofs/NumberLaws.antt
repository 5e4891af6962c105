-- A map is its places, and has one list of missing runs.
use Rattle.std.proofs.Common.{◌≡◌, ℕ, suc, ◌+◌, ◌<◌, ◌≤◌, Bool, true, false, List, [], ◌∷◌, map}
use Rattle.std.proofs.Common.{get_or, set, inl, inr, ◌⊎◌, ◌↔◌, refl, sym, ap, ◌∙◌, subst, arith}
use Rattle.std.specs.List.Sorted.{IsStrictlyIncreasing}
use Rattle.std.proofs.lemmas.Bool.{cases_eq}
use Rattle.std.proofs.lemmas.List.{same_lists, get_or_default, get_or-set_same, get_or-set_other}
use Rattle.std.proofs.lemmas.List.{length-set}
use Rattle.st_format.specs.Member.{IsMember, SameMembers}
use Rattle.packet_numbers.specs.Numbers.{Numbers, number_count, number_place, IsNoted, with_place}
use Rattle.packet_numbers.specs.Numbers.{AreAlike}
use Rattle.packet_numbers.specs.Numbers.{union, AreMissingRuns, after_notes}
use Rattle.packet_numbers.proofs.NumberSets.{noted_below, union_places}
use Rattle.packet_numbers.proofs.BitLemmas.{length-union}
use Rattle.packet_numbers.proofs.Runs.{Rises}

-- ---- places

same_flag : (a b : Bool) → (a ≡ true → b ≡ true) → (b ≡ true → a ≡ true) → a ≡ b
same_flag true b to from = sym (to refl)
same_flag false true to from = from refl
same_flag false false to from = refl

pub one_map : (m n : Numbers) → AreAlike m n → ((place : ℕ) → IsNoted m place ↔ IsNoted n place)
    → m ≡ n
one_map m n alike same =
    let e : m.noted ≡ n.noted = same_lists m.noted n.noted alike.count (λ k d lt.
    get_or_default m.noted k d false lt
    ∙ same_flag (get_or m.noted k false) (get_or n.noted k false) (same k).0 (same k).1
    ∙ get_or_default n.noted k false d (let c = alike.count in omega arith)) in
    ap (λ (xs : List Bool). record { first = m.first; noted = xs }) e
    ∙ ap (λ (k : ℕ). record { first = k; noted = n.noted }) alike.first

other_way : {A B : Type 0} → A ⊎ B → B ⊎ A
other_way (inl a) = inr a
other_way (inr b) = inl b

alike_union : (m n : Numbers) → AreAlike m n → AreAlike (union m n) (union n m)
alike_union m n alike = record {
  first = alike.first;
  count =
      length-union m.noted n.noted alike.count ∙ alike.count
      ∙ sym (length-union n.noted m.noted (sym alike.count));
}

pub either_way : (m n : Numbers) → AreAlike m n → union m n ≡ union n m
either_way m n alike =
    let back : AreAlike n m = record { first = sym alike.first; count = sym alike.count } in
    one_map (union m n) (union n m) (alike_union m n alike) (λ place. (
      λ h. (union_places n m back place).1 (other_way ((union_places m n alike place).0 h)),
      λ h. (union_places m n alike place).1 (other_way ((union_places n m back place).0 h)),
    ))

-- ---- packet numbers

-- a number of the list has the place, and there is such a place
record IsAmong (m : Numbers) (numbers : List ℕ) (place : ℕ) : Type 0 where
  number : ℕ
  member : IsMember number numbers
  is : place ≡ number_place m number
  within : place < number_count m

noted_here : (m : Numbers) (at place : ℕ) → place ≡ at → place < number_count m
    → IsNoted (with_place m at) place
noted_here m at place e lt =
    ap (λ (k : ℕ). get_or (set m.noted at true) k false) e
    ∙ get_or-set_same m.noted at true false (omega arith)

found : (m : Numbers) (at place : ℕ) → IsNoted (with_place m at) place
    → IsNoted m place ⊎ ((place ≡ at) × (place < number_count m))
found m at place h = elim (cases_eq place at) [
  | inl e ↦ inr (
    e,
    (let lt =
        noted_below (with_place m at) place h in omega (arith, length-set m.noted at true)),
  )
  | inr ne ↦ inl (sym (get_or-set_other m.noted at place true false ne) ∙ h)
]

kept : (m : Numbers) (at place : ℕ) → IsNoted m place ⊎ ((place ≡ at) × (place < number_count m))
    → IsNoted (with_place m at) place
kept m at place (inr now) = noted_here m at place now.0 now.1
kept m at place (inl was) = elim (cases_eq place at) [
  | inl e ↦ noted_here m at place e (noted_below m place was)
  | inr ne ↦ get_or-set_other m.noted at place true false ne ∙ was
]

after_found : (m : Numbers) (numbers : List ℕ) (place : ℕ) → IsNoted (after_notes m numbers) place
    → IsNoted m place ⊎ IsAmong m numbers place
after_found m [] place h = inl h
after_found m (number ∷ numbers) place h =
    let at : ℕ = number_place m number in
    let long : number_count (with_place m at) ≡ number_count m = length-set m.noted at true in
    elim (after_found (with_place m at) numbers place h) [
      | inl a ↦
          elim (found m at place a) [
            | inl was ↦ inl was
            | inr now ↦ inr
                (record { number = number; member = inl refl; is = now.0; within = now.1 })
          ]
      | inr b ↦ inr
          (record {
            number = b.number;
            member = inr b.member;
            is = b.is;
            within =
                (let w = b.within in omega arith);
          })
    ]

after_kept : (m : Numbers) (numbers : List ℕ) (place : ℕ) → IsNoted m place
    → IsNoted (after_notes m numbers) place
after_kept m [] place was = was
after_kept m (number ∷ numbers) place was =
    after_kept (with_place m (number_place m number)) numbers place
    (kept m (number_place m number) place (inl was))

after_member : (m : Numbers) (numbers : List ℕ) (number place : ℕ) → IsMember number numbers
    → place ≡ number_place m number → place < number_count m → IsNoted (after_notes m numbers) place
after_member m [] number place h is within = absurd h
after_member m (x ∷ numbers) number place (inl e) is within =
    let at : ℕ = number_place m x in
    after_kept (with_place m at) numbers place
    (noted_here m at place (is ∙ ap (number_place m) e) within)
after_member m (x ∷ numbers) number place (inr h) is within =
    let at : ℕ = number_place m x in
    let long : number_count (with_place m at) ≡ number_count m = length-set m.noted at true in
    after_member (with_place m at) numbers number place h is (omega arith)

after_alike : (m : Numbers) (numbers : List ℕ) → AreAlike (after_notes m numbers) m
after_alike m [] = record { first = refl; count = refl }
after_alike m (number ∷ numbers) =
    let at : ℕ = number_place m number in
    let rest = after_alike (with_place m at) numbers in
    record { first = rest.first; count = rest.count ∙ length-set m.noted at true }

after_forth : (m : Numbers) (xs ys : List ℕ) → ((x : ℕ) → IsMember x xs → IsMember x ys)
    → (place : ℕ) → IsNoted (after_notes m xs) place → IsNoted (after_notes m ys) place
after_forth m xs ys forth place h = elim (after_found m xs place h) [
  | inl was ↦ after_kept m ys place was
  | inr a ↦ after_member m ys a.number place (forth a.number a.member) a.is a.within
]

pub same_notes : (m : Numbers) (xs ys : List ℕ) → SameMembers xs ys
    → after_notes m xs ≡ after_notes m ys
same_notes m xs ys same =
    let a = after_alike m xs in
    let b = after_alike m ys in
    one_map (after_notes m xs) (after_notes m ys)
    (record { first = a.first ∙ sym b.first; count = a.count ∙ sym b.count }) (λ place.
    (after_forth m xs ys same.forth place, after_forth m ys xs same.back place))

-- ---- runs

rises_of : (n : ℕ) (xs : List ℕ) → IsStrictlyIncreasing xs → n ≤ get_or xs 0 n → Rises n xs
rises_of n [] h le = tt
rises_of n (x ∷ []) h le = (le, tt)
rises_of n (x ∷ y ∷ xs) h le = (
  le,
  rises_of (x + 1) (y ∷ xs)
      (λ k lt.
      (let e : suc k + 1 ≡ suc (k + 1) = omega arith in let s =
      h (suc k) (omega arith) in subst
      (λ (j : ℕ). get_or (y ∷ xs) k 0 < get_or (x ∷ y ∷ xs) j 0) e s))
      (let s = h 0 (omega arith) in omega arith),
)

above : (f : (ℕ × ℕ) → ℕ) (n : ℕ) (xs : List (ℕ × ℕ)) → Rises n (map f xs) → (x : ℕ × ℕ)
    → IsMember x xs → n ≤ f x
above f n [] h x m = absurd m
above f n (y ∷ xs) h x (inl e) = subst (λ (r : ℕ × ℕ). n ≤ f r) (sym e) h.0
above f n (y ∷ xs) h x (inr m) = let le = above f (f y + 1) xs h.1 x m in let first =
    h.0 in omega arith

behind_first : (f : (ℕ × ℕ) → ℕ) (x y : ℕ × ℕ) (xs ys : List (ℕ × ℕ)) → x ≡ y
    → Rises (f x + 1) (map f xs) → (r : ℕ × ℕ) → IsMember r xs → IsMember r (y ∷ ys) → IsMember r ys
behind_first f x y xs ys e h r m (inl here) =
    let le = above f (f x + 1) xs h r m in
    let same : f r ≡ f x = ap f (here ∙ sym e) in
    absurd (omega arith)
behind_first f x y xs ys e h r m (inr there) = there

pub same_from_members : (f : (ℕ × ℕ) → ℕ) (n p : ℕ) (xs ys : List (ℕ × ℕ)) → Rises n (map f xs)
    → Rises p (map f ys)
    → ((r : ℕ × ℕ) → IsMember r xs → IsMember r ys) → ((r : ℕ × ℕ) → IsMember r ys → IsMember r xs)
    → xs ≡ ys
same_from_members f n p [] [] h g forth back = refl
same_from_members f n p [] (y ∷ ys) h g forth back = absurd (back y (inl refl))
same_from_members f n p (x ∷ xs) [] h g forth back = absurd (forth x (inl refl))
same_from_members f n p (x ∷ xs) (y ∷ ys) h g forth back =
    let e : x ≡ y = elim (forth x (inl refl)) [
      | inl e ↦ e
      | inr a ↦
          elim (back y (inl refl)) [
            | inl e ↦ sym e
            | inr b ↦ absurd
                (let u = above f (f y + 1) ys g.1 x a in let v =
                above f (f x + 1) xs h.1 y b in omega arith)
          ]
    ] in
    ap (λ (r : ℕ × ℕ). r ∷ xs) e
    ∙ ap (λ (rs : List (ℕ × ℕ)). y ∷ rs)
    (same_from_members f (f x + 1) (f y + 1) xs ys h.1 g.1
    (λ r m. behind_first f x y xs ys e h.1 r m (forth r (inr m)))
    (λ r m. behind_first f y x ys xs (sym e) g.1 r m (back r (inr m))))

pub one_list : (m : Numbers) (xs ys : List (ℕ × ℕ)) → AreMissingRuns m xs → AreMissingRuns m ys
    → xs ≡ ys
one_list m xs ys h g =
    let f = λ (run : ℕ × ℕ). number_place m run.0 in
    same_from_members f 0 0 xs ys (rises_of 0 (map f xs) h.order (omega arith))
    (rises_of 0 (map f ys) g.order (omega arith))
    (λ r k. (g.each r.0 r.1).1 ((h.each r.0 r.1).0 k))
    (λ r k. (h.each r.0 r.1).1 ((g.each r.0 r.1).0 k))
