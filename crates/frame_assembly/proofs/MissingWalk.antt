-- The walk over a row's mark words, stretch by stretch.
use Rattle.std.proofs.Common.{◌≡◌, ℕ, zero, suc, ◌+◌, ◌-◌, ◌*◌, ◌<◌, ◌≤◌, Bool, true, false}
use Rattle.std.proofs.Common.{List, [], ◌∷◌, ◌++◌, length, map, drop, get_or, refl, sym, ap, ◌∙◌}
use Rattle.std.proofs.Common.{arith, inl, inr, subst}
use Rattle.std.specs.declared.ops.Range.{Range}
use Rattle.std.proofs.lemmas.List.{append-nil, drop-map, drop_all, get_or-drop}
use Rattle.std.proofs.lemmas.List.{get_or-map, length-drop, length-map}
use Rattle.std.proofs.lemmas.Bool.{cases_lt}
use Rattle.packet_numbers.specs.Numbers.{closed_run, runs_from}
use Rattle.packet_numbers.proofs.Runs.{closed_none, closed_some}
use Rattle.frame_assembly.specs.Missing.{IsStretch, columns_of, flags_in, is_known_mark}
use Rattle.frame_assembly.specs.Missing.{runs_of_marks}

-- ---- of flags

-- first groups that are known end no run
skipped : (at k : ℕ) (flags : List Bool) → k ≤ length flags
    → ((j : ℕ) → j < k → get_or flags j false ≡ true)
    → runs_from at at flags ≡ runs_from (at + k) (at + k) (drop k flags)
skipped at zero flags le all =
    let e : at + 0 ≡ at = omega arith in
    sym (ap (λ (n : ℕ). runs_from n n flags) e)
skipped at (suc k) [] le all = absurd (omega (arith, le))
skipped at (suc k) (false ∷ flags) le all =
    let e : false ≡ true = all 0 (omega arith) in absurd cc
skipped at (suc k) (true ∷ flags) le all =
    let e : (at + 1) + k ≡ at + suc k = omega arith in
    ap (λ runs. runs ++ runs_from (at + 1) (at + 1) flags) (closed_none at at (omega arith))
    ∙ skipped (at + 1) k flags (omega (arith, le)) (λ j lt. all (suc j) (omega (arith, lt)))
    ∙ ap (λ (n : ℕ). runs_from n n (drop k flags)) e

-- those that are missing lengthen the run
passed : (start at k : ℕ) (flags : List Bool) → k ≤ length flags
    → ((j : ℕ) → j < k → get_or flags j false ≡ false)
    → runs_from start at flags ≡ runs_from start (at + k) (drop k flags)
passed start at zero flags le all =
    let e : at + 0 ≡ at = omega arith in
    sym (ap (λ (n : ℕ). runs_from start n flags) e)
passed start at (suc k) [] le all = absurd (omega (arith, le))
passed start at (suc k) (true ∷ flags) le all =
    let e : true ≡ false = all 0 (omega arith) in absurd cc
passed start at (suc k) (false ∷ flags) le all =
    let e : (at + 1) + k ≡ at + suc k = omega arith in
    passed start (at + 1) k flags (omega (arith, le)) (λ j lt. all (suc j) (omega (arith, lt)))
    ∙ ap (λ (n : ℕ). runs_from start n (drop k flags)) e

-- and one that is known, or the end, closes it
closed : (start at : ℕ) (flags : List Bool) → (0 < length flags → get_or flags 0 false ≡ true)
    → runs_from start at flags ≡ closed_run start at ++ runs_from at at flags
closed start at [] next =
    sym (ap (λ runs. closed_run start at ++ runs) (closed_none at at (omega arith))
    ∙ append-nil (closed_run start at))
closed start at (false ∷ flags) next =
    let e : false ≡ true = next (omega arith) in absurd cc
closed start at (true ∷ flags) next =
    sym (ap (λ runs. closed_run start at ++ (runs ++ runs_from (at + 1) (at + 1) flags))
    (closed_none at at (omega arith)))

-- ---- of mark words

flag_is : (marks : List ℕ) (group : ℕ) → group < length marks
    → get_or (flags_in marks) group false ≡ is_known_mark (get_or marks group 0)
flag_is marks group lt = get_or-map is_known_mark marks group 0 false lt

-- a stretch of known groups, and then one of missing ones
stretched : (at k m : ℕ) (marks : List ℕ) → IsStretch true k marks
    → IsStretch false m (drop k marks)
    → runs_from at at (flags_in marks)
    ≡ closed_run (at + k) ((at + k) + m)
    ++ runs_from ((at + k) + m) ((at + k) + m) (flags_in (drop m (drop k marks)))
stretched at k m marks known missing =
    let rest : List ℕ = drop k marks in
    let last : List ℕ = drop m rest in
    let n : ℕ = at + k in
    let long : length (flags_in marks) ≡ length marks = length-map marks is_known_mark in
    let rest_long : length (flags_in rest) ≡ length rest = length-map rest is_known_mark in
    let last_long : length (flags_in last) ≡ length last = length-map last is_known_mark in
    let last_short : length last ≡ length rest - m = length-drop m rest in
    let within : k ≤ length marks = known.within in
    let rest_within : m ≤ length rest = missing.within in
    skipped at k (flags_in marks) (omega (arith, within, long))
    (λ j lt. flag_is marks j (omega (arith, within, lt)) ∙ known.same j lt)
    ∙ ap (runs_from n n) (drop-map is_known_mark k marks)
    ∙ passed n n m (flags_in rest) (omega (arith, rest_within, rest_long))
    (λ j lt. flag_is rest j (omega (arith, rest_within, lt)) ∙ missing.same j lt)
    ∙ ap (runs_from n (n + m)) (drop-map is_known_mark m rest)
    ∙ closed n (n + m) (flags_in last)
    (λ some.
    (let here : m + 0 ≡ m = omega arith in
    flag_is last 0 (omega (arith, some, last_long))
    ∙ ap is_known_mark
    (get_or-drop m rest 0 0 ∙ ap (λ (j : ℕ). get_or rest j 0) here)
    ∙ missing.next (omega (arith, some, last_long, last_short))))

-- the run that comes next, and those behind it
first_run : (columns at k m start end : ℕ) (marks : List ℕ) → IsStretch true k marks
    → IsStretch false m (drop k marks) → 0 < m → start ≡ columns * (at + k)
    → end ≡ columns * ((at + k) + m)
    → runs_of_marks columns at marks
    ≡ record { start = start; end = end } ∷ runs_of_marks columns ((at + k) + m)
    (drop m (drop k marks))
first_run columns at k m start end marks known missing some is_start is_end =
    let n : ℕ = at + k in
    let behind : List (Range ℕ) =
    runs_of_marks columns (n + m) (drop m (drop k marks)) in
    let whole : n + ((n + m) - n) ≡ n + m = omega arith in
    ap (map (columns_of columns)) (stretched at k m marks known missing)
    ∙ ap (λ runs. map (columns_of columns)
    (runs ++ runs_from (n + m) (n + m) (flags_in (drop m (drop k marks)))))
    (closed_some n (n + m) (omega (arith, some)))
    ∙ ap (λ (j : ℕ). record { start = columns * n; end = columns * j } ∷ behind) whole
    ∙ ap (λ (j : ℕ). record { start = j; end = columns * (n + m) } ∷ behind) (sym is_start)
    ∙ ap (λ (j : ℕ). record { start = start; end = j } ∷ behind) (sym is_end)

-- where none comes, no group is left
no_groups : (k : ℕ) (marks : List ℕ) → IsStretch true k marks → IsStretch false 0 (drop k marks)
    → length marks ≤ k
no_groups k marks known missing =
    elim (cases_lt k (length marks)) [
      | inl lt ↦
          let here : k + 0 ≡ k = omega arith in
          let short : length (drop k marks) ≡ length marks - k = length-drop k marks in
          let e : false ≡ true =
          sym (known.next lt)
          ∙ sym (ap is_known_mark
          (get_or-drop k marks 0 0 ∙ ap (λ (j : ℕ). get_or marks j 0) here))
          ∙ missing.next (omega (arith, lt, short)) in
          absurd cc
      | inr le ↦ le
    ]

no_run : (columns at k : ℕ) (marks : List ℕ) → IsStretch true k marks
    → IsStretch false 0 (drop k marks) → runs_of_marks columns at marks ≡ []
no_run columns at k marks known missing =
    let n : ℕ = at + k in
    let long : length (flags_in marks) ≡ length marks = length-map marks is_known_mark in
    let within : k ≤ length marks = known.within in
    let le : length marks ≤ k = no_groups k marks known missing in
    ap (map (columns_of columns))
    (skipped at k (flags_in marks) (omega (arith, within, long))
    (λ j lt. flag_is marks j (omega (arith, within, lt)) ∙ known.same j lt)
    ∙ ap (runs_from n n) (drop_all k (flags_in marks) (omega (arith, le, long)))
    ∙ closed_none n n (omega arith))

no_more : (columns at k m : ℕ) (marks : List ℕ) → IsStretch true k marks
    → IsStretch false 0 (drop k marks) → runs_of_marks columns at (drop m (drop k marks)) ≡ []
no_more columns at k m marks known missing =
    let le : length marks ≤ k = no_groups k marks known missing in
    let short : length (drop k marks) ≡ length marks - k = length-drop k marks in
    ap (runs_of_marks columns at)
    (drop_all m (drop k marks) (omega (arith, le, short)))
    ∙ ap (map (columns_of columns)) (closed_none at at (omega arith))

-- ---- as `next` cuts them

longer : (columns n m : ℕ) → 0 < m → 0 < columns → columns * n < columns * (n + m)
longer zero n m some wide = absurd (omega (arith, wide))
longer (suc columns) n zero some wide = absurd (omega (arith, some))
longer (suc columns) n (suc m) some wide = omega arith

-- a run of so many groups, and those behind it
pub run_here : (columns at k m : ℕ) (marks rest last : List ℕ) → rest ≡ drop k marks
    → last ≡ drop m rest → IsStretch true k marks → IsStretch false m rest → 0 < m → 0 < columns
    → (runs_of_marks columns at marks
    ≡ record { start = columns * (at + k); end = columns * ((at + k) + m) }
    ∷ runs_of_marks columns ((at + k) + m) last)
    × (columns * (at + k) < columns * ((at + k) + m))
run_here columns at k m marks rest last is_rest is_last known missing some wide = (
  first_run columns at k m (columns * (at + k)) (columns * ((at + k) + m)) marks known
      (subst (IsStretch false m) is_rest missing) some refl refl
      ∙ ap (λ (xs : List ℕ).
      record { start = columns * (at + k); end = columns * ((at + k) + m) }
      ∷ runs_of_marks columns ((at + k) + m) xs)
      (sym (is_last ∙ ap (drop m) is_rest)),
  longer columns (at + k) m some wide,
)

-- none is left
pub none_here : (columns at next k m : ℕ) (marks rest last : List ℕ) → rest ≡ drop k marks
    → last ≡ drop m rest → IsStretch true k marks → IsStretch false m rest → m ≡ 0
    → (runs_of_marks columns at marks ≡ []) × (runs_of_marks columns next last ≡ [])
none_here columns at next k m marks rest last is_rest is_last known missing none =
    let here : IsStretch false 0 (drop k marks) =
    subst (λ (j : ℕ). IsStretch false j (drop k marks)) none
    (subst (IsStretch false m) is_rest missing) in (
      no_run columns at k marks known here,
      ap (runs_of_marks columns next) (is_last ∙ ap (drop m) is_rest)
          ∙ no_more columns next k m marks known here,
    )
