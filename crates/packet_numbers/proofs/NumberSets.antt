-- The places that two maps noted.
use Rattle.std.proofs.Common.{◌≡◌, ℕ, ◌<◌, Bool, false, List, get_or, inl, inr, ◌⊎◌, ◌↔◌, sym}
use Rattle.std.proofs.Common.{subst, ◌∙◌, arith}
use Rattle.std.proofs.lemmas.Bool.{cases_lt, or_cases, or_left, or_right, false≢true}
use Rattle.std.proofs.lemmas.List.{get_or_past}
use Rattle.packet_numbers.specs.Numbers.{Numbers, number_count, IsCount, IsNumbers, IsNoted}
use Rattle.packet_numbers.specs.Numbers.{AreAlike}
use Rattle.packet_numbers.specs.Numbers.{union}
use Rattle.packet_numbers.specs.BitList.{union_of_flags}
use Rattle.packet_numbers.proofs.BitLemmas.{length-union, get_or-union}

pub union_numbers : (m n : Numbers) → IsNumbers m → AreAlike m n → IsNumbers (union m n)
union_numbers m n is alike =
    let e : number_count (union m n) ≡ number_count m = length-union m.noted n.noted alike.count in
    record { first = is.first; count = subst IsCount (sym e) is.count }

pub noted_below : (m : Numbers) (place : ℕ) → IsNoted m place → place < number_count m
noted_below m place h = elim (cases_lt place (number_count m)) [
  | inl lt ↦ lt
  | inr ge ↦ absurd (false≢true (sym (get_or_past m.noted place false ge) ∙ h))
]

pub union_places : (m n : Numbers) → AreAlike m n → (place : ℕ)
    → IsNoted (union m n) place ↔ (IsNoted m place ⊎ IsNoted n place)
union_places m n alike place =
    let e : number_count (union m n) ≡ number_count m = length-union m.noted n.noted alike.count in
    let same : number_count m ≡ number_count n = alike.count in
    let a : Bool = get_or m.noted place false in
    let b : Bool = get_or n.noted place false in (
      λ h. or_cases a b
          (sym (get_or-union m.noted n.noted place false alike.count
          (let lt = noted_below (union m n) place h in omega arith)) ∙ h),
      λ either. elim either [
        | inl ours ↦ get_or-union m.noted n.noted place false alike.count
            (noted_below m place ours) ∙ or_left a b ours
        | inr theirs ↦ get_or-union m.noted n.noted place false alike.count
            (let lt = noted_below n place theirs in omega arith) ∙ or_right a b theirs
      ],
    )

abbrev pub with_flags : Numbers → List Bool → Numbers
with_flags m flags = record { first = m.first; noted = flags }

pub absorbed_numbers : (m n : Numbers) (flags : List Bool) → flags ≡ union_of_flags m.noted n.noted
    → IsNumbers m → AreAlike m n → IsNumbers (with_flags m flags)
absorbed_numbers m n flags e is alike =
    subst (λ (xs : List Bool). IsNumbers (with_flags m xs)) (sym e) (union_numbers m n is alike)

pub absorbed_places : (m n left right : Numbers) (flags : List Bool)
    → flags ≡ union_of_flags m.noted n.noted → AreAlike m n → m ≡ left → n ≡ right
    → (place : ℕ) → IsNoted (with_flags m flags) place ↔ (IsNoted left place ⊎ IsNoted right place)
absorbed_places m n left right flags e alike is_left is_right place =
    subst (λ (x : Numbers). IsNoted (with_flags m flags) place
    ↔ (IsNoted x place ⊎ IsNoted right place)) is_left
    (subst (λ (x : Numbers). IsNoted (with_flags m flags) place
    ↔ (IsNoted m place ⊎ IsNoted x place)) is_right
    (subst (λ (xs : List Bool). IsNoted (with_flags m xs) place
    ↔ (IsNoted m place ⊎ IsNoted n place)) (sym e) (union_places m n alike place)))
