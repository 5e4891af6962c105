-- A format has one full plan of packets of a size.
use Rattle.std.proofs.Common.{◌≡◌, ℕ, ◌+◌, ◌-◌, ◌*◌, ◌<◌, ◌≤◌, inl, inr, Bool, true, false, cond}
use Rattle.std.proofs.Common.{eqb, List, [], ◌∷◌, length, refl, sym, ap, ◌∙◌, subst, arith}
use Rattle.std.specs.List.{flat_map, range_with_len, AllByRecursion}
use Rattle.std.specs.Prelude.{min}
use Rattle.std.proofs.lemmas.Bool.{cases_lt, eqb-true}
use Rattle.std.proofs.lemmas.Nat.{mul-le}
use Rattle.std.proofs.lemmas.List.FromFn.{length-range_with_len}
use Rattle.st_format.specs.declared.format.Format.{Format}
use Rattle.st_format.specs.Position.{group_count, row_groups}
use Rattle.packet_plan.specs.declared.run.PacketRun.{PacketRun}
use Rattle.packet_plan.specs.Plan.{HasRoom, IsFullPlan, IsPacket, IsRun, NoneHasRoom, RowsRise}
use Rattle.packet_plan.specs.Plan.{group_octets, numbers, one_more, run_groups}
use Rattle.packet_plan.proofs.Packets.{length-numbers, more_numbers, none_left, split}
use Rattle.packet_plan.proofs.Walks.{all_numbers, front}

-- ---- places in rows

row_up : (r w : ℕ) → (r + 1) * w ≡ r * w + w
row_up r w = omega arith

-- a number has one place in rows of w
one_place : (w i j b c : ℕ) → b < w → c < w → i * w + b ≡ j * w + c → (i ≡ j) × (b ≡ c)
one_place w i j b c left right e =
    elim (cases_lt i j) [
      | inl h ↦ absurd
          (omega (
            arith,
            e,
            left,
            mul-le (i + 1) w j w (omega (arith, h)) (omega arith),
            row_up i w,
          ))
      | inr h ↦ elim (cases_lt j i) [
        | inl g ↦ absurd
            (omega (
              arith,
              e,
              right,
              mul-le (j + 1) w i w (omega (arith, g)) (omega arith),
              row_up j w,
            ))
        | inr g ↦
            let same : i ≡ j = omega (arith, h, g) in
            (same, omega (arith, e, ap (λ (k : ℕ). k * w) same))
      ]
    ]

-- ---- the first run of a packet

-- A run that another of a later row follows ends its row.
ends_row : (f : Format) (r q : PacketRun) (rs : List PacketRun) (a n : ℕ)
    → AllByRecursion (IsRun f) (r ∷ q ∷ rs) → RowsRise (r ∷ q ∷ rs)
    → flat_map (numbers f) (r ∷ q ∷ rs) ≡ range_with_len a n → r.first + r.groups ≡ row_groups f
ends_row f r q rs a n runs rise whole =
    let w : ℕ = row_groups f in
    let s =
    split r.groups a n (r.row * w + r.first) (flat_map (numbers f) (q ∷ rs)) runs.0.some whole in
    let t =
    split q.groups (a + r.groups) s.left (q.row * w + q.first) (flat_map (numbers f) rs)
    runs.1.0.some s.rest in
    let later : r.row < q.row = rise.0.0 in
    omega (
      arith,
      s.start,
      t.start,
      runs.0.inside,
      mul-le (r.row + 1) w q.row w (omega (arith, later)) (omega arith),
      row_up r.row w,
    )

-- The first of runs that join to n groups from a on, and what follows it: it has all of them that
-- its row has.
record First (f : Format) (r : PacketRun) (rs : List PacketRun) (a n : ℕ) : Type 0 where
  left : ℕ
  sum : r.groups + left ≡ n
  start : r.row * row_groups f + r.first ≡ a
  rest : flat_map (numbers f) rs ≡ range_with_len (a + r.groups) left
  groups : r.groups ≡ min n (row_groups f - r.first)

first_of_runs : (f : Format) (r : PacketRun) (rs : List PacketRun) (a n : ℕ)
    → AllByRecursion (IsRun f) (r ∷ rs) → RowsRise (r ∷ rs)
    → flat_map (numbers f) (r ∷ rs) ≡ range_with_len a n → First f r rs a n
first_of_runs f r [] a n runs rise whole =
    let w : ℕ = row_groups f in
    let s = split r.groups a n (r.row * w + r.first) [] runs.0.some whole in
    let none : s.left ≡ 0 = none_left (a + r.groups) s.left s.rest in
    record {
      left = s.left;
      sum = s.sum;
      start = s.start;
      rest = s.rest;
      groups = omega (arith, s.sum, none, runs.0.inside);
    }
first_of_runs f r (q ∷ rs) a n runs rise whole =
    let w : ℕ = row_groups f in
    let s =
    split r.groups a n (r.row * w + r.first) (flat_map (numbers f) (q ∷ rs)) runs.0.some whole in
    let end : r.first + r.groups ≡ row_groups f = ends_row f r q rs a n runs rise whole in
    record {
      left = s.left;
      sum = s.sum;
      start = s.start;
      rest = s.rest;
      groups = omega (arith, s.sum, end);
    }

-- Runs that begin at one group stand at one place.
same_start : (f : Format) (r q : PacketRun) (a : ℕ) → IsRun f r → IsRun f q
    → r.row * row_groups f + r.first ≡ a → q.row * row_groups f + q.first ≡ a
    → (r.row ≡ q.row) × (r.first ≡ q.first)
same_start f r q a is at start other =
    one_place (row_groups f) r.row q.row r.first q.first (omega (arith, is.some, is.inside))
    (omega (arith, at.some, at.inside)) (start ∙ sym other)

-- ---- a packet by its first group and how many groups it has

same_run : (r q : PacketRun) → r.row ≡ q.row → r.first ≡ q.first → r.groups ≡ q.groups → r ≡ q
same_run r q row first groups =
    λ i. record { row = row i; first = first i; groups = groups i }

one_packet : (f : Format) (rs qs : List PacketRun) (a n : ℕ) → AllByRecursion (IsRun f) rs
    → RowsRise rs → flat_map (numbers f) rs ≡ range_with_len a n → AllByRecursion (IsRun f) qs
    → RowsRise qs → flat_map (numbers f) qs ≡ range_with_len a n → rs ≡ qs
one_packet f [] [] a n runs rise whole others rose join = refl
one_packet f [] (q ∷ qs) a n runs rise whole others rose join =
    let first = first_of_runs f q qs a n others rose join in
    absurd (omega (arith, none_left a n whole, first.sum, others.0.some))
one_packet f (r ∷ rs) [] a n runs rise whole others rose join =
    let first = first_of_runs f r rs a n runs rise whole in
    absurd (omega (arith, none_left a n join, first.sum, runs.0.some))
one_packet f (r ∷ rs) (q ∷ qs) a n runs rise whole others rose join =
    let first = first_of_runs f r rs a n runs rise whole in
    let other = first_of_runs f q qs a n others rose join in
    let at = same_start f r q a runs.0 others.0 first.start other.start in
    let groups : r.groups ≡ q.groups =
    first.groups ∙ ap (λ (c : ℕ). min n (row_groups f - c)) at.1 ∙ sym other.groups in
    let left : other.left ≡ first.left = omega (arith, first.sum, other.sum, groups) in
    let rest : flat_map (numbers f) qs ≡ range_with_len (a + r.groups) first.left =
    other.rest ∙ ap (λ (g : ℕ). range_with_len (a + g) other.left) (sym groups)
    ∙ ap (range_with_len (a + r.groups)) left in
    ap (λ (x : PacketRun). x ∷ rs) (same_run r q at.0 at.1 groups)
    ∙ ap (λ (xs : List PacketRun). q ∷ xs)
    (one_packet f rs qs (a + r.groups) first.left runs.1 rise.1 first.rest others.1 rose.1 rest)

-- ---- a packet that another passes has room

some_runs : (f : Format) (rs : List PacketRun) (a n : ℕ)
    → flat_map (numbers f) rs ≡ range_with_len a n → 0 < n → 1 ≤ length rs
some_runs f [] a n whole some = absurd (omega (arith, none_left a n whole, some))
some_runs f (r ∷ rs) a n whole some = omega arith

more_few_at : (f : Format) (r q : PacketRun) (qs : List PacketRun) (b : Bool)
    → eqb (r.first + r.groups) (row_groups f) ≡ b
    → (r.first + r.groups ≡ row_groups f → 1 ≤ length qs)
    → length (cond b (r ∷ record { row = r.row + 1; first = 0; groups = 1 } ∷ [])
    (record { row = r.row; first = r.first; groups = r.groups + 1 } ∷ [])) ≤ length (q ∷ qs)
more_few_at f r q qs true e some =
    let more : 1 ≤ length qs = some (eqb-true (r.first + r.groups) (row_groups f) e) in
    omega (arith, more)
more_few_at f r q qs false e some = omega arith

-- With one group more it has no more runs than one that has more groups.
more_few : (f : Format) (rs qs : List PacketRun) (a m k : ℕ) → AllByRecursion (IsRun f) rs
    → RowsRise rs → flat_map (numbers f) rs ≡ range_with_len a m → AllByRecursion (IsRun f) qs
    → RowsRise qs → flat_map (numbers f) qs ≡ range_with_len a k → m < k
    → length (one_more f rs) ≤ length qs
unfolding one_more
more_few f [] qs a m k runs rise whole others rose join lt = omega arith
more_few f (r ∷ []) [] a m k runs rise whole others rose join lt =
    absurd (omega (arith, none_left a k join, lt))
more_few f (r ∷ p ∷ rs) [] a m k runs rise whole others rose join lt =
    absurd (omega (arith, none_left a k join, lt))
more_few f (r ∷ []) (q ∷ qs) a m k runs rise whole others rose join lt =
    let first = first_of_runs f r [] a m runs rise whole in
    let other = first_of_runs f q qs a k others rose join in
    let at = same_start f r q a runs.0 others.0 first.start other.start in
    more_few_at f r q qs (eqb (r.first + r.groups) (row_groups f)) refl
    (λ end. some_runs f qs (a + q.groups) other.left other.rest
    (omega (arith, end, lt, first.sum, other.sum, others.0.inside, at.1)))
more_few f (r ∷ p ∷ rs) (q ∷ qs) a m k runs rise whole others rose join lt =
    let first = first_of_runs f r (p ∷ rs) a m runs rise whole in
    let other = first_of_runs f q qs a k others rose join in
    let at = same_start f r q a runs.0 others.0 first.start other.start in
    let end : r.first + r.groups ≡ row_groups f = ends_row f r p rs a m runs rise whole in
    let groups : q.groups ≡ r.groups =
    omega (arith, end, other.groups, at.1, first.sum, lt) in
    let rest : flat_map (numbers f) qs ≡ range_with_len (a + r.groups) other.left =
    other.rest ∙ ap (λ (g : ℕ). range_with_len (a + g) other.left) groups in
    let more : length (one_more f (p ∷ rs)) ≤ length qs =
    more_few f (p ∷ rs) qs (a + r.groups) first.left other.left runs.1 rise.1 first.rest others.1
    rose.1 rest (omega (arith, first.sum, other.sum, groups, lt)) in
    omega (arith, more)

has_room : (f : Format) (size a m k : ℕ) (p q : List PacketRun) → IsPacket f size p → RowsRise p
    → flat_map (numbers f) p ≡ range_with_len a m → IsPacket f size q → RowsRise q
    → flat_map (numbers f) q ≡ range_with_len a k → m < k → HasRoom p f size
has_room f size a m k p q is rise whole at rose join lt =
    let more : length (one_more f p) ≤ length q =
    more_few f p q a m k is.runs rise whole at.runs rose join lt in
    let groups : run_groups (one_more f p) ≡ m + 1 =
    sym (length-numbers f (one_more f p))
    ∙ ap (λ (xs : List ℕ). length xs) (more_numbers f p a m is.some is.runs whole)
    ∙ length-range_with_len a (m + 1) in
    let others : run_groups q ≡ k =
    sym (length-numbers f q) ∙ ap (λ (xs : List ℕ). length xs) join ∙ length-range_with_len a k in
    let octets : group_octets f * run_groups (one_more f p) ≤ group_octets f * run_groups q =
    mul-le (group_octets f) (run_groups (one_more f p)) (group_octets f) (run_groups q)
    (omega arith) (omega (arith, groups, others, lt)) in
    record {
      few = omega (arith, more, at.few);
      fits = omega (arith, more, at.fits, octets);
    }

-- ---- plans

-- A packet of a plan passes each other that begins where it does, unless it has as many groups or
-- is the last.
none_passes : (f : Format) (size a m k n : ℕ) (p q : List PacketRun) (ps : List (List PacketRun))
    → IsPacket f size p → RowsRise p → flat_map (numbers f) p ≡ range_with_len a m
    → NoneHasRoom (p ∷ ps) f size → all_numbers f ps ≡ range_with_len (a + m) n
    → IsPacket f size q → RowsRise q → flat_map (numbers f) q ≡ range_with_len a k → k ≤ m + n
    → k ≤ m
none_passes f size a m k n p q [] is rise whole none rest at rose join le =
    omega (arith, le, none_left (a + m) n rest)
none_passes f size a m k n p q (o ∷ ps) is rise whole none rest at rose join le =
    elim (cases_lt m k) [
      | inl lt ↦ absurd (none.0 (has_room f size a m k p q is rise whole at rose join lt))
      | inr ge ↦ ge
    ]

-- none has room of the packets behind the first
room_behind : (f : Format) (size : ℕ) (p : List PacketRun) (ps : List (List PacketRun))
    → NoneHasRoom (p ∷ ps) f size → NoneHasRoom ps f size
room_behind f size p [] none = tt
room_behind f size p (q ∷ ps) none = none.1

some_groups_of : (f : Format) (rs : List PacketRun) → 1 ≤ length rs → AllByRecursion (IsRun f) rs
    → 1 ≤ run_groups rs
some_groups_of f [] some runs = absurd (omega arith)
some_groups_of f (r ∷ rs) some runs = omega (arith, runs.0.some)

-- a plan's packet is of some groups
not_none : (f : Format) (size a n : ℕ) (p : List PacketRun) (ps : List (List PacketRun))
    → IsPacket f size p → all_numbers f (p ∷ ps) ≡ range_with_len a n → 1 ≤ n
not_none f size a n p ps is whole =
    let x = front (flat_map (numbers f) p) (all_numbers f ps) a n whole in
    omega (arith, x.1, length-numbers f p, some_groups_of f p is.some is.runs)

-- Packets that join to n groups from a on, each of rising rows, none but the last with room
record FromGroup (f : Format) (size a n : ℕ) (ps : List (List PacketRun)) : Type 0 where
  each : AllByRecursion (IsPacket f size) ps
  rows : AllByRecursion RowsRise ps
  room : NoneHasRoom ps f size
  whole : all_numbers f ps ≡ range_with_len a n

-- so of the packets behind the first
record Behind (f : Format) (size a n : ℕ) (p : List PacketRun) (ps : List (List PacketRun))
    : Type 0 where
  count : ℕ
  left : ℕ
  sum : count + left ≡ n
  mine : flat_map (numbers f) p ≡ range_with_len a count
  rest : FromGroup f size (a + count) left ps

behind_first : (f : Format) (size a n : ℕ) (p : List PacketRun) (ps : List (List PacketRun))
    → FromGroup f size a n (p ∷ ps) → Behind f size a n p ps
behind_first f size a n p ps is =
    let x = front (flat_map (numbers f) p) (all_numbers f ps) a n is.whole in
    record {
      count = length (flat_map (numbers f) p);
      left = x.0;
      sum = x.1;
      mine = x.2;
      rest = record {
        each = is.each.1;
        rows = is.rows.1;
        room = room_behind f size p ps is.room;
        whole = x.3;
      };
    }

-- The first packets have as many groups.
same_count : (f : Format) (size a n : ℕ) (p q : List PacketRun) (ps qs : List (List PacketRun))
    → FromGroup f size a n (p ∷ ps) → FromGroup f size a n (q ∷ qs)
    → (x : Behind f size a n p ps) → (y : Behind f size a n q qs) → x.count ≡ y.count
same_count f size a n p q ps qs is at x y =
    let back : y.count ≤ x.count =
    none_passes f size a x.count y.count x.left p q ps is.each.0 is.rows.0 x.mine is.room
    x.rest.whole at.each.0 at.rows.0 y.mine (omega (arith, x.sum, y.sum)) in
    let forth : x.count ≤ y.count =
    none_passes f size a y.count x.count y.left q p qs at.each.0 at.rows.0 y.mine at.room
    y.rest.whole is.each.0 is.rows.0 x.mine (omega (arith, x.sum, y.sum)) in
    omega (arith, back, forth)

same_packets : (f : Format) (size a n : ℕ) (ps qs : List (List PacketRun))
    → FromGroup f size a n ps → FromGroup f size a n qs → ps ≡ qs
same_packets f size a n [] [] is at = refl
same_packets f size a n [] (q ∷ qs) is at =
    absurd (omega (arith, none_left a n is.whole, not_none f size a n q qs at.each.0 at.whole))
same_packets f size a n (p ∷ ps) [] is at =
    absurd (omega (arith, none_left a n at.whole, not_none f size a n p ps is.each.0 is.whole))
same_packets f size a n (p ∷ ps) (q ∷ qs) is at =
    let x = behind_first f size a n p ps is in
    let y = behind_first f size a n q qs at in
    let count : y.count ≡ x.count = sym (same_count f size a n p q ps qs is at x y) in
    let left : y.left ≡ x.left = omega (arith, x.sum, y.sum, count) in
    let mine : flat_map (numbers f) q ≡ range_with_len a x.count =
    y.mine ∙ ap (range_with_len a) count in
    let rest : FromGroup f size (a + x.count) x.left qs =
    subst (λ (l : ℕ). FromGroup f size (a + x.count) l qs) left
    (subst (λ (c : ℕ). FromGroup f size (a + c) y.left qs) count y.rest) in
    ap (λ (o : List PacketRun). o ∷ ps)
    (one_packet f p q a x.count is.each.0.runs is.rows.0 x.mine at.each.0.runs at.rows.0 mine)
    ∙ ap (λ (os : List (List PacketRun)). q ∷ os)
    (same_packets f size (a + x.count) x.left ps qs x.rest rest)

full_from : (f : Format) (size : ℕ) (ps : List (List PacketRun)) → IsFullPlan ps f size
    → FromGroup f size 0 (group_count f) ps
full_from f size ps full =
    record { each = full.plan.each; rows = full.rows; room = full.room; whole = full.plan.whole }

-- Two full plans of one format and one size are one.
pub one_plan : (p q : List (List PacketRun)) (f : Format) (size : ℕ) → IsFullPlan p f size
    → IsFullPlan q f size → p ≡ q
one_plan p q f size a b =
    same_packets f size 0 (group_count f) p q (full_from f size p a) (full_from f size q b)
