-- The maximal runs of places that were not noted.
use Rattle.std.proofs.Common.{◌≡◌, ℕ, zero, suc, ◌+◌, ◌-◌, ◌%◌, ◌^◌, ◌<◌, ◌≤◌, Bool, true, false}
use Rattle.std.proofs.Common.{List, [], ◌∷◌, ◌++◌, length, map, get_or, drop, refl, sym, ap, ◌∙◌}
use Rattle.std.proofs.Common.{subst, inl, inr, arith}
use Rattle.std.proofs.lemmas.Bool.{lt-ltb, le-ltb, cases_lt, cases_eq, false≢true}
use Rattle.std.proofs.lemmas.List.{drop_more, length-drop, append-nil}
use Rattle.std.specs.List.Sorted.{IsStrictlyIncreasing}
use Rattle.st_format.specs.Member.{IsMember}
use Rattle.st_format.proofs.Members.{member_left, member_right, member_cases, member-map}
use Rattle.st_format.proofs.Members.{member_of_map}
use Rattle.packet_numbers.specs.Numbers.{Numbers, number_count, IsNumbers, number_place, IsNoted}
use Rattle.packet_numbers.specs.Numbers.{IsMissingRun, AreMissingRuns, closed_run, runs_from}
use Rattle.packet_numbers.specs.Numbers.{numbered_run}
use Rattle.packet_numbers.specs.Numbers.{missing_runs_of}

-- ---- the walk

pub closed_some : (start end : ℕ) → start < end → closed_run start end ≡ (start, end - start) ∷ []
closed_some start end lt = rw (lt-ltb start end lt) refl

pub closed_none : (start end : ℕ) → end ≤ start → closed_run start end ≡ []
closed_none start end le = rw (le-ltb start end le) refl

pub runs_on : (flags : List Bool) (start place : ℕ) → place < length flags
    → get_or flags place false ≡ false
    → runs_from start place (drop place flags)
    ≡ runs_from start (place + 1) (drop (place + 1) flags)
runs_on flags start place lt e =
    ap (runs_from start place) (drop_more flags place false lt)
    ∙ ap (λ (b : Bool). runs_from start place (b ∷ drop (place + 1) flags)) e

-- ---- which runs it tells

-- nothing was noted from start up to place, and the place before start was
pub record IsOpen (m : Numbers) (start place : ℕ) : Type 0 where
  pub order : start ≤ place
  pub within : place ≤ number_count m
  pub missing : (k : ℕ) → start ≤ k → k < place → IsNoted m k → ⊥
  pub before : 0 < start → IsNoted m (start - 1)

-- the run from start on is over at place
abbrev IsOver : Numbers → ℕ → Type 0
IsOver m place = place < number_count m → IsNoted m place

run_closed : (m : Numbers) (start place : ℕ) → IsOpen m start place → IsOver m place
    → start < place → IsMissingRun m start (place - start)
run_closed m start place o over lt =
    let e : start + (place - start) ≡ place = omega arith in
    let within : place ≤ number_count m = o.within in
    record {
      some = omega arith;
      within = omega arith;
      missing = λ k from to. o.missing k from (omega arith);
      before = o.before;
      behind = λ more. rw e (over (omega arith));
    }

pub closed_found : (m : Numbers) (start place : ℕ) → IsOpen m start place → IsOver m place
    → (s len : ℕ) → IsMember (s, len) (closed_run start place) → IsMissingRun m s len × (start ≤ s)
closed_found m start place o over s len h = elim (cases_lt start place) [
  | inl lt ↦
      elim (subst (λ (xs : List (ℕ × ℕ)). IsMember (s, len) xs) (closed_some start place lt) h) [
        | inl e ↦ (
          subst (λ (r : ℕ × ℕ). IsMissingRun m r.0 r.1) (sym e)
              (run_closed m start place o over lt),
          subst (λ (r : ℕ × ℕ). start ≤ r.0) (sym e) (omega arith),
        )
        | inr none ↦ absurd none
      ]
  | inr le ↦ absurd
      (subst (λ (xs : List (ℕ × ℕ)). IsMember (s, len) xs) (closed_none start place le) h)
]

-- a run from start on whose first place is below place is the one that is closed there
pub closed_all : (m : Numbers) (start place : ℕ) → IsOpen m start place → IsOver m place
    → (s len : ℕ) → IsMissingRun m s len → start ≤ s → s < place
    → IsMember (s, len) (closed_run start place)
closed_all m start place o over s len run from below =
    let w1 : s + len ≤ number_count m = run.within in
    let w2 : 0 < len = run.some in
    let w3 : place ≤ number_count m = o.within in
    let here : s ≡ start = elim (cases_lt start s) [
      | inl lt ↦ absurd (o.missing (s - 1) (omega arith) (omega arith) (run.before (omega arith)))
      | inr le ↦ omega arith
    ] in
    let no_less : place ≤ s + len = elim (cases_lt (s + len) place) [
      | inl lt ↦ absurd (o.missing (s + len) (omega arith) lt (run.behind (omega arith)))
      | inr le ↦ le
    ] in
    let no_more : s + len ≤ place = elim (cases_lt place (s + len)) [
      | inl lt ↦ absurd (run.missing place (omega arith) lt (over (omega arith)))
      | inr le ↦ le
    ] in
    let long : len ≡ place - start = omega arith in
    let lt : start < place = omega arith in
    let is : (s, len) ≡ (start, place - start) = cc in
    subst (λ (xs : List (ℕ × ℕ)). IsMember (s, len) xs) (sym (closed_some start place lt)) (inl is)

-- what is left from a place on
record IsFirstOf (all : List Bool) (place : ℕ) (b : Bool) (flags : List Bool) : Type 0 where
  within : place < length all
  is : get_or all place false ≡ b
  rest : flags ≡ drop (place + 1) all

head_of : (all : List Bool) (place : ℕ) (b : Bool) (flags : List Bool)
    → (b ∷ flags) ≡ drop place all → IsFirstOf all place b flags
head_of all place b flags e =
    let n : suc (length flags) ≡ length all - place = ap length e ∙ length-drop place all in
    let lt : place < length all = omega arith in
    let both : (b ∷ flags) ≡ get_or all place false ∷ drop (place + 1) all =
    e ∙ drop_more all place false lt in
    record { within = lt; is = cc; rest = cc }

none_left : (all : List Bool) (place : ℕ) → [] ≡ drop place all → length all ≤ place
none_left all place e = let n : 0 ≡ length all - place =
    ap length e ∙ length-drop place all in omega arith

open_on : (m : Numbers) (start place : ℕ) → IsOpen m start place → place < number_count m
    → get_or m.noted place false ≡ false → IsOpen m start (place + 1)
open_on m start place o lt clear =
    let le : start ≤ place = o.order in
    record {
      order = omega arith;
      within = omega arith;
      missing = λ k from to came. elim (cases_eq k place) [
        | inl e ↦ false≢true (sym clear ∙ sym (ap (λ (x : ℕ). get_or m.noted x false) e) ∙ came)
        | inr ne ↦ o.missing k from (omega arith) came
      ];
      before = o.before;
    }

open_anew : (m : Numbers) (place : ℕ) → place < number_count m → IsNoted m place
    → IsOpen m (place + 1) (place + 1)
open_anew m place lt came = record {
  order = omega arith;
  within = omega arith;
  missing = λ k from to noted. omega arith;
  before = λ some. (let e : place + 1 - 1 ≡ place = omega arith in rw e came);
}

pub runs_found : (m : Numbers) (start place : ℕ) (flags : List Bool) → flags ≡ drop place m.noted
    → IsOpen m start place
    → (s len : ℕ) → IsMember (s, len) (runs_from start place flags)
    → IsMissingRun m s len × (start ≤ s)
runs_found m start place [] e o s len h =
    let end : number_count m ≤ place = none_left m.noted place e in
    closed_found m start place o (λ lt. absurd (omega arith)) s len h
runs_found m start place (true ∷ flags) e o s len h =
    let hd = head_of m.noted place true flags e in
    let le : start ≤ place = o.order in
    elim (member_cases (s, len) (closed_run start place)
    (runs_from (place + 1) (place + 1) flags) h) [
      | inl a ↦ closed_found m start place o (λ lt. hd.is) s len a
      | inr b ↦ let r : IsMissingRun m s len × (place + 1 ≤ s) =
          runs_found m (place + 1) (place + 1) flags hd.rest
          (open_anew m place hd.within hd.is) s len b in (r.0, omega (arith, r.1))
    ]
runs_found m start place (false ∷ flags) e o s len h =
    let hd = head_of m.noted place false flags e in
    runs_found m start (place + 1) flags hd.rest (open_on m start place o hd.within hd.is) s len h

pub runs_all : (m : Numbers) (start place : ℕ) (flags : List Bool) → flags ≡ drop place m.noted
    → IsOpen m start place
    → (s len : ℕ) → IsMissingRun m s len → start ≤ s
    → IsMember (s, len) (runs_from start place flags)
runs_all m start place [] e o s len run from =
    let end : number_count m ≤ place = none_left m.noted place e in
    let w1 : s + len ≤ number_count m = run.within in
    let w2 : 0 < len = run.some in
    closed_all m start place o (λ lt. absurd (omega arith)) s len run from (omega arith)
runs_all m start place (true ∷ flags) e o s len run from =
    let hd = head_of m.noted place true flags e in
    let w2 : 0 < len = run.some in
    elim (cases_lt s place) [
      | inl lt ↦ member_left (s, len) (closed_run start place)
          (runs_from (place + 1) (place + 1) flags)
          (closed_all m start place o (λ lt. hd.is) s len run from lt)
      | inr ge ↦ elim (cases_eq s place) [
        | inl here ↦ absurd (run.missing place (omega arith) (omega arith) hd.is)
        | inr there ↦ member_right (s, len) (closed_run start place)
            (runs_from (place + 1) (place + 1) flags)
            (runs_all m (place + 1) (place + 1) flags hd.rest
            (open_anew m place hd.within hd.is) s len run (omega arith))
      ]
    ]
runs_all m start place (false ∷ flags) e o s len run from =
    let hd = head_of m.noted place false flags e in
    runs_all m start (place + 1) flags hd.rest
    (open_on m start place o hd.within hd.is) s len run from

-- ---- in rising order

-- each number is at least n, and above the one before it
abbrev pub Rises : ℕ → List ℕ → Type 0
Rises n [] = Unit {0}
Rises n (x ∷ xs) = (n ≤ x) × Rises (x + 1) xs

rises_from : (n p : ℕ) (xs : List ℕ) → p ≤ n → Rises n xs → Rises p xs
rises_from n p [] le h = tt
rises_from n p (x ∷ xs) le h = (omega (arith, h.0), h.1)

rising_step : (x y : ℕ) (xs : List ℕ) → x < y → IsStrictlyIncreasing (y ∷ xs)
    → IsStrictlyIncreasing (x ∷ y ∷ xs)
rising_step x y xs lt rest zero below = lt
rising_step x y xs lt rest (suc k) below = let e : suc k + 1 ≡ suc (k + 1) =
    omega arith in rw e (rest k (omega arith))

rising : (n : ℕ) (xs : List ℕ) → Rises n xs → IsStrictlyIncreasing xs
rising n [] h = λ k lt. absurd (omega arith)
rising n (x ∷ []) h = λ k lt. absurd (omega arith)
rising n (x ∷ y ∷ xs) h = rising_step x y xs (omega (arith, h.1.0)) (rising (x + 1) (y ∷ xs) h.1)

abbrev firsts : List (ℕ × ℕ) → List ℕ
firsts rs = map (λ (r : ℕ × ℕ). r.0) rs

closed_rises : (start place : ℕ) (rs : List (ℕ × ℕ)) → start ≤ place → Rises place (firsts rs)
    → Rises start (firsts (closed_run start place ++ rs))
closed_rises start place rs le h = elim (cases_lt start place) [
  | inl lt ↦ rw (closed_some start place lt)
      (omega arith, rises_from place (start + 1) (firsts rs) (omega arith) h)
  | inr ge ↦ rw (closed_none start place ge) (rises_from place start (firsts rs) le h)
]

starts_rise : (start place : ℕ) (flags : List Bool) → start ≤ place
    → Rises start (firsts (runs_from start place flags))
starts_rise start place [] le =
    subst (λ (rs : List (ℕ × ℕ)). Rises start (firsts rs)) (append-nil (closed_run start place))
    (closed_rises start place [] le tt)
starts_rise start place (true ∷ flags) le =
    closed_rises start place (runs_from (place + 1) (place + 1) flags) le
    (rises_from (place + 1) place (firsts (runs_from (place + 1) (place + 1) flags)) (omega arith)
    (starts_rise (place + 1) (place + 1) flags (omega arith)))
starts_rise start place (false ∷ flags) le = starts_rise start (place + 1) flags (omega arith)

-- ---- by packet numbers

place_of_numbered : (m : Numbers) (r : ℕ × ℕ) → m.first < 2 ^ 32 → r.0 < 2 ^ 32
    → number_place m (numbered_run m.first r).0 ≡ r.0
place_of_numbered m r small below = omega arith

number_of_place : (m : Numbers) (number : ℕ) → m.first < 2 ^ 32 → number < 2 ^ 32
    → (m.first + number_place m number) % 2 ^ 32 ≡ number
number_of_place m number small below = omega arith

places_again : (m : Numbers) (rs : List (ℕ × ℕ)) → m.first < 2 ^ 32
    → ((s len : ℕ) → IsMember (s, len) rs → s < 2 ^ 32)
    → map (λ (run : ℕ × ℕ). number_place m run.0) (map (numbered_run m.first) rs) ≡ firsts rs
places_again m [] small each = refl
places_again m ((s, len) ∷ rs) small each =
    ap (λ (x : ℕ). x ∷ map (λ (run : ℕ × ℕ). number_place m run.0) (map (numbered_run m.first) rs))
    (place_of_numbered m (s, len) small (each s len (inl refl)))
    ∙ ap (λ (xs : List ℕ). s ∷ xs) (places_again m rs small (λ t n h. each t n (inr h)))

numbered_found : (m : Numbers) (rs : List (ℕ × ℕ)) → m.first < 2 ^ 32
    → ((s len : ℕ) → IsMember (s, len) rs → IsMissingRun m s len)
    → ((s len : ℕ) → IsMember (s, len) rs → s < 2 ^ 32)
    → (number len : ℕ) → IsMember (number, len) (map (numbered_run m.first) rs)
    → (number < 2 ^ 32) × IsMissingRun m (number_place m number) len
numbered_found m rs small found below number len h =
    let r : (x : ℕ × ℕ) × IsMember x rs × ((number, len) ≡ numbered_run m.first x) =
    member-map (numbered_run m.first) (number, len) rs h in
    let s : ℕ = r.0.0 in
    let is_number : number ≡ (m.first + s) % 2 ^ 32 = ap (λ (x : ℕ × ℕ). x.0) r.2 in
    let is_len : len ≡ r.0.1 = ap (λ (x : ℕ × ℕ). x.1) r.2 in
    let place : number_place m number ≡ s =
    ap (number_place m) is_number ∙ place_of_numbered m r.0 small (below s r.0.1 r.1) in (
      omega arith,
      subst (λ (x : ℕ). IsMissingRun m x len) (sym place)
          (subst (λ (x : ℕ). IsMissingRun m s x) (sym is_len) (found s r.0.1 r.1)),
    )

numbered_all : (m : Numbers) (rs : List (ℕ × ℕ)) → m.first < 2 ^ 32 → (number len : ℕ)
    → number < 2 ^ 32 → IsMember (number_place m number, len) rs
    → IsMember (number, len) (map (numbered_run m.first) rs)
numbered_all m rs small number len below h =
    subst (λ (x : ℕ). IsMember (x, len) (map (numbered_run m.first) rs))
    (number_of_place m number small below)
    (member_of_map (numbered_run m.first) (number_place m number, len) rs h)

pub are_missing_runs : (m : Numbers) → IsNumbers m → AreMissingRuns m (missing_runs_of m)
are_missing_runs m is =
    let rs : List (ℕ × ℕ) = runs_from 0 0 m.noted in
    let o : IsOpen m 0 0 =
    record {
      order = omega arith;
      within = omega arith;
      missing =
          λ k from to noted. omega arith;
      before = λ some. absurd (omega arith);
    } in
    let small : m.first < 2 ^ 32 = is.first in
    let count : number_count m ≤ 1048576 = is.count.most in
    let found : (s len : ℕ) → IsMember (s, len) rs
    → IsMissingRun m s len = λ s len h. (runs_found m 0 0 m.noted refl o s len h).0 in
    let below : (s len : ℕ) → IsMember (s, len) rs
    → s < 2 ^ 32 =
    λ s len h.
    (let w = (found s len h).within in let x =
    (found s len h).some in omega (arith, w, x, count)) in
    record {
      each =
          λ number len. (
            numbered_found m rs small found below number len,
            λ h. numbered_all m rs small number len h.0
                (runs_all m 0 0 m.noted refl o (number_place m number) len h.1 (omega arith)),
          );
      order =
          subst IsStrictlyIncreasing (sym (places_again m rs small below))
          (rising 0 (firsts rs) (starts_rise 0 0 m.noted (omega arith)));
    }

pub are_runs : (m view : Numbers) (runs : List (ℕ × ℕ)) → m ≡ view → IsNumbers m
    → runs ≡ missing_runs_of m → AreMissingRuns view runs
are_runs m view runs is_view is e =
    subst (λ (n : Numbers). AreMissingRuns n runs) is_view
    (subst (λ (rs : List (ℕ × ℕ)). AreMissingRuns m rs) (sym e) (are_missing_runs m is))
