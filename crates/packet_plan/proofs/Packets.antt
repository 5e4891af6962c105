-- What a packet of some runs reaches.
use Rattle.std.proofs.Common.{◌≡◌, ℕ, zero, suc, ◌+◌, ◌-◌, ◌*◌, ◌/◌, ◌%◌, ◌<◌, ◌≤◌, inl, inr, List}
use Rattle.std.proofs.Common.{[], ◌∷◌, ◌++◌, length, append_assoc, refl, sym, ap, ◌∙◌, subst, arith}
use Rattle.std.proofs.Common.{cond, Bool, true, false, eqb}
use Rattle.std.specs.List.{flat_map, range_with_len, AllByRecursion}
use Rattle.std.specs.Prelude.{min, max}
use Rattle.std.proofs.lemmas.Bool.{cases_lt, eqb-true, eqb-false}
use Rattle.std.proofs.Math.Nat.{mul-div-le}
use Rattle.std.proofs.lemmas.Nat.{mul-le, div-add-mod', le-div, mod_below}
use Rattle.std.proofs.lemmas.List.{append-nil, length-append}
use Rattle.std.proofs.lemmas.List.FromFn.{length-range_with_len}
use Rattle.st_format.specs.declared.format.Format.{Format}
use Rattle.st_format.specs.declared.sampling.Sampling.{Sampling}
use Rattle.st_format.specs.declared.sampling.Sampling.TheVariants.{Ycc422, Ycc444, Rgb}
use Rattle.st_format.specs.declared.sampling.Depth.{Depth}
use Rattle.st_format.specs.declared.sampling.Depth.TheVariants.{D8, D10, D12, D16}
use Rattle.st_format.specs.Pgroup.{pixel_group}
use Rattle.packet_plan.specs.Greedy.{room, reach, next, cut, packet_from}
use Rattle.packet_plan.specs.declared.run.PacketRun.{PacketRun}
use Rattle.packet_plan.specs.Plan.{IsSize, RowsRise, one_more, HasRoom, IsRun, IsPacket}
use Rattle.packet_plan.specs.Plan.{group_octets, numbers, run_groups}
use Rattle.st_format.specs.Position.{row_groups, group_count}

-- ---- ranges

pub range-append : (a m n b t : ℕ) → a + m ≡ b → m + n ≡ t
    → range_with_len a m ++ range_with_len b n ≡ range_with_len a t
range-append a zero n b t e f = let eb : b ≡ a = omega arith in let et : n ≡ t =
    omega arith in rw (eb, et) refl
range-append a (suc m) n b zero e f = absurd (omega arith)
range-append a (suc m) n b (suc t) e f =
    ap (λ (xs : List ℕ). a ∷ xs) (range-append (a + 1) m n b t (omega arith) (omega arith))

-- what stands in front of a range, and what is left
pub record Split (g a t s : ℕ) (ys : List ℕ) : Type 0 where
  pub left : ℕ
  pub sum : g + left ≡ t
  pub start : s ≡ a
  pub rest : ys ≡ range_with_len (a + g) left

split_more : (g a t s : ℕ) (ys : List ℕ) → range_with_len s g ++ ys ≡ range_with_len a t → s ≡ a
    → (left : ℕ) × (g + left ≡ t) × (ys ≡ range_with_len (a + g) left)
split_more zero a t s ys e same = let z : a + 0 ≡ a = omega arith in (t, omega arith, rw z e)
split_more (suc g) a zero s ys e same = absurd cc
split_more (suc g) a (suc t) s ys e same =
    let inner : range_with_len (s + 1) g ++ ys ≡ range_with_len (a + 1) t = cc in
    let r = split_more g (a + 1) t (s + 1) ys inner (omega arith) in
    let z : a + 1 + g ≡ a + suc g = omega arith in
    let left : g + r.0 ≡ t = r.1 in
    (r.0, omega arith, subst (λ (k : ℕ). ys ≡ range_with_len k r.0) z r.2)

head_of : (g a t s : ℕ) (ys : List ℕ) → 0 < g → range_with_len s g ++ ys ≡ range_with_len a t
    → s ≡ a
head_of zero a t s ys lt e = absurd (omega arith)
head_of (suc g) a zero s ys lt e = absurd cc
head_of (suc g) a (suc t) s ys lt e = cc

pub split : (g a t s : ℕ) (ys : List ℕ) → 0 < g → range_with_len s g ++ ys ≡ range_with_len a t
    → Split g a t s ys
split g a t s ys lt e =
    let same = head_of g a t s ys lt e in
    let r = split_more g a t s ys e same in
    record { left = r.0; sum = r.1; start = same; rest = r.2 }

pub none_left : (a n : ℕ) → [] ≡ range_with_len a n → n ≡ 0
none_left a zero e = refl
none_left a (suc n) e = absurd cc

-- ---- rows

row_up : (r w : ℕ) → (r + 1) * w ≡ r * w + w
row_up r w = omega arith

below_row : (r j w a : ℕ) → r * w ≤ a → a < (j + 1) * w → r < j + 1
below_row r j w a le lt = elim (cases_lt r (j + 1)) [
  | inl h ↦ h
  | inr h ↦ absurd (omega (arith, mul-le (j + 1) w r w h (omega arith)))
]

-- Runs that join to the groups from a on get no further than the end of the row of the last.
pub reached : (f : Format) (rs : List PacketRun) (a n j : ℕ) → AllByRecursion (IsRun f) rs
    → flat_map (numbers f) rs ≡ range_with_len a n
    → a < (j + 1) * row_groups f → 1 ≤ length rs → a + n ≤ (j + length rs) * row_groups f
reached f [] a n j runs whole lt some = absurd (omega arith)
reached f (r ∷ []) a n j runs whole lt some =
    let w : ℕ = row_groups f in
    let is = runs.0 in
    let s = split r.groups a n (r.row * w + r.first) [] is.some whole in
    let none : s.left ≡ 0 = none_left (a + r.groups) s.left s.rest in
    let row : r.row < j + 1 = below_row r.row j w a (omega arith) lt in
    omega (arith, mul-le (r.row + 1) w (j + 1) w (omega arith) (omega arith), row_up r.row w)
reached f (r ∷ q ∷ rs) a n j runs whole lt some =
    let w : ℕ = row_groups f in
    let is = runs.0 in
    let s =
    split r.groups a n (r.row * w + r.first) (flat_map (numbers f) (q ∷ rs)) is.some whole in
    let row : r.row < j + 1 = below_row r.row j w a (omega arith) lt in
    let end : a + r.groups ≤ (j + 1) * w =
    omega (arith, mul-le (r.row + 1) w (j + 1) w (omega arith) (omega arith), row_up r.row w) in
    let more =
    reached f (q ∷ rs) (a + r.groups) s.left (j + 1) runs.1 s.rest
    (omega (arith, row_up (j + 1) w)) (omega arith) in
    let sum : j + 1 + length (q ∷ rs) ≡ j + length (r ∷ q ∷ rs) = omega arith in
    subst (λ (k : ℕ). a + n ≤ k * w) sum (omega arith)

-- as many numbers as groups
pub length-numbers : (f : Format) (rs : List PacketRun)
    → length (flat_map (numbers f) rs) ≡ run_groups rs
length-numbers f [] = refl
length-numbers f (r ∷ rs) = length-append (numbers f r) (flat_map (numbers f) rs)
    ∙ ap (λ (n : ℕ). n + length (flat_map (numbers f) rs))
    (length-range_with_len (r.row * row_groups f + r.first) r.groups)
    ∙ ap (λ (n : ℕ). r.groups + n) (length-numbers f rs)

-- ---- some groups of some octets

some_pixels : (s : Sampling) (d : Depth) (w : ℕ) → 2 ≤ w → w % (pixel_group s d).pixels ≡ 0
    → 0 < w / (pixel_group s d).pixels
some_pixels Ycc422 D8 w h e = le-div 1 w 2 (omega arith) (omega arith)
some_pixels Ycc422 D10 w h e = le-div 1 w 2 (omega arith) (omega arith)
some_pixels Ycc422 D12 w h e = le-div 1 w 2 (omega arith) (omega arith)
some_pixels Ycc422 D16 w h e = le-div 1 w 2 (omega arith) (omega arith)
some_pixels Ycc444 D8 w h e = le-div 1 w 1 (omega arith) (omega arith)
some_pixels Ycc444 D10 w h e = le-div 1 w 4 (omega arith) (omega arith)
some_pixels Ycc444 D12 w h e = le-div 1 w 2 (omega arith) (omega arith)
some_pixels Ycc444 D16 w h e = le-div 1 w 1 (omega arith) (omega arith)
some_pixels Rgb D8 w h e = le-div 1 w 1 (omega arith) (omega arith)
some_pixels Rgb D10 w h e = le-div 1 w 4 (omega arith) (omega arith)
some_pixels Rgb D12 w h e = le-div 1 w 2 (omega arith) (omega arith)
some_pixels Rgb D16 w h e = le-div 1 w 1 (omega arith) (omega arith)

pub some_groups : (f : Format) → 0 < row_groups f
some_groups f =
    some_pixels f.sampling f.depth f.width f.whole_width.least f.whole_width.whole_groups

some_octets_of : (s : Sampling) (d : Depth) → 0 < (pixel_group s d).octets
some_octets_of Ycc422 D8 = omega arith
some_octets_of Ycc422 D10 = omega arith
some_octets_of Ycc422 D12 = omega arith
some_octets_of Ycc422 D16 = omega arith
some_octets_of Ycc444 D8 = omega arith
some_octets_of Ycc444 D10 = omega arith
some_octets_of Ycc444 D12 = omega arith
some_octets_of Ycc444 D16 = omega arith
some_octets_of Rgb D8 = omega arith
some_octets_of Rgb D10 = omega arith
some_octets_of Rgb D12 = omega arith
some_octets_of Rgb D16 = omega arith

pub some_octets : (f : Format) → 0 < group_octets f
unfolding group_octets
some_octets f = some_octets_of f.sampling f.depth

-- ---- where a packet ends

pub in_row : (k w : ℕ) → 0 < w → k < (k / w + 1) * w
in_row k w lt = omega (arith, div-add-mod' k w, mod_below k w lt, row_up (k / w) w)

pub next_room : (f : Format) (size k : ℕ) → IsSize size f → k < group_count f → k < next f size k
unfolding next room
next_room f size k fits lt =
    let one : 1 ≤ (size - (14 + 6 * 1)) / group_octets f =
    le-div 1 (size - (14 + 6 * 1)) (group_octets f) (some_octets f)
    (omega (arith, fits.least)) in
    let row : k < (k / row_groups f + 1) * row_groups f = in_row k (row_groups f) (some_groups f) in
    omega arith

pub next_below : (f : Format) (size k : ℕ) → next f size k ≤ group_count f
unfolding next
next_below f size k = omega arith

-- where the next packet begins
pub ruleset next_bounds = (next_room, next_below)

next_least : (f : Format) (size k x c : ℕ) → 1 ≤ c → c ≤ 3 → x ≤ reach f size k c
    → x ≤ group_count f → x ≤ next f size k
unfolding next
next_least f size k x zero some few le all = absurd (omega arith)
next_least f size k x (suc zero) some few le all = omega arith
next_least f size k x (suc (suc zero)) some few le all = omega arith
next_least f size k x (suc (suc (suc zero))) some few le all = omega arith
next_least f size k x (suc (suc (suc (suc c)))) some few le all = absurd (omega arith)

record Attained (f : Format) (size k : ℕ) : Type 0 where
  count : ℕ
  some : 1 ≤ count
  few : count ≤ 3
  behind : next f size k ≤ reach f size k count

attained : (f : Format) (size k : ℕ) → Attained f size k
unfolding next
attained f size k = elim (cases_lt (max (reach f size k 2) (reach f size k 3)) (reach f size k 1)) [
  | inl h ↦ record { count = 1; some = omega arith; few = omega arith; behind = omega arith }
  | inr h ↦ elim (cases_lt (reach f size k 3) (reach f size k 2)) [
    | inl g ↦ record { count = 2; some = omega arith; few = omega arith; behind = omega arith }
    | inr g ↦ record { count = 3; some = omega arith; few = omega arith; behind = omega arith }
  ]
]

-- A packet that begins no later than at k ends no later than the greedy one from k.
pub ahead : (f : Format) (size a n k : ℕ) (p : List PacketRun) → IsPacket f size p
    → flat_map (numbers f) p ≡ range_with_len a n
    → a ≤ k → a + n ≤ group_count f → a + n ≤ next f size k
unfolding room
ahead f size a n k p is whole le all =
    let w : ℕ = row_groups f in
    let row : k < (k / w + 1) * w = in_row k w (some_groups f) in
    let far : a + n ≤ (k / w + length p) * w =
    reached f p a n (k / w) is.runs whole (omega arith) is.some in
    let count : run_groups p ≡ n =
    sym (length-numbers f p) ∙ ap length whole ∙ length-range_with_len a n in
    let octets : group_octets f * n ≤ size - (14 + 6 * length p) =
    subst (λ (m : ℕ). group_octets f * m ≤ size - (14 + 6 * length p)) count
    (omega (arith, is.fits)) in
    let fit : n ≤ (size - (14 + 6 * length p)) / group_octets f =
    le-div n (size - (14 + 6 * length p)) (group_octets f) (some_octets f) (omega arith) in
    next_least f size k (a + n) (length p) is.some is.few (omega arith) all

add_rows : (a b w : ℕ) → (a + b) * w ≡ a * w + b * w
add_rows a b w = omega arith

-- ---- groups cut into runs

cut_none : (w c row first : ℕ) → cut w c row first 0 ≡ []
unfolding cut
cut_none w zero row first = refl
cut_none w (suc c) row first = refl

times_up : (c w : ℕ) → suc c * w ≡ c * w + w
times_up c w = omega arith

pub cut-numbers : (f : Format) (c row first n : ℕ) → first < row_groups f
    → first + n ≤ c * row_groups f
    → flat_map (numbers f) (cut (row_groups f) c row first n)
    ≡ range_with_len (row * row_groups f + first) n
unfolding cut
cut-numbers f zero row first n lt le = let e : n ≡ 0 = omega arith in rw e refl
cut-numbers f (suc c) row first zero lt le = refl
cut-numbers f (suc c) row first (suc n) lt le =
    let w : ℕ = row_groups f in
    let m : ℕ = min (suc n) (w - first) in
    elim (cases_lt (w - first) (suc n)) [
      | inl h ↦
          let at : m ≡ w - first = omega arith in
          let rest =
          cut-numbers f c (row + 1) 0 (suc n - m) (some_groups f)
          (omega (arith, times_up c w)) in
          ap (λ (xs : List ℕ). range_with_len (row * w + first) m ++ xs) rest
          ∙ range-append (row * w + first) m (suc n - m) ((row + 1) * w + 0) (suc n)
          (omega (arith, row_up row w)) (omega arith)
      | inr h ↦
          let at : m ≡ suc n = omega arith in
          let none : suc n - m ≡ 0 = omega arith in
          let nothing : flat_map (numbers f) (cut w c (row + 1) 0 (suc n - m)) ≡ [] =
          ap (λ (k : ℕ). flat_map (numbers f) (cut w c (row + 1) 0 k)) none
          ∙ ap (flat_map (numbers f)) (cut_none w c (row + 1) 0) in
          ap (λ (xs : List ℕ). range_with_len (row * w + first) m ++ xs) nothing
          ∙ append-nil (range_with_len (row * w + first) m)
          ∙ ap (range_with_len (row * w + first)) at
    ]

pub cut-runs : (f : Format) (c row first n : ℕ) → first < row_groups f
    → AllByRecursion (IsRun f) (cut (row_groups f) c row first n)
unfolding cut
cut-runs f zero row first n lt = tt
cut-runs f (suc c) row first zero lt = tt
cut-runs f (suc c) row first (suc n) lt = (
  record { some = omega arith; inside = omega arith },
  cut-runs f c (row + 1) 0 (suc n - min (suc n) (row_groups f - first)) (some_groups f),
)

cut-below : (w c row first n j : ℕ) → j < row
    → AllByRecursion (λ s. j < s.row) (cut w c row first n)
unfolding cut
cut-below w zero row first n j lt = tt
cut-below w (suc c) row first zero j lt = tt
cut-below w (suc c) row first (suc n) j lt =
    (lt, cut-below w c (row + 1) 0 (suc n - min (suc n) (w - first)) j (omega arith))

pub cut-differ : (w c row first n : ℕ) → RowsRise (cut w c row first n)
unfolding cut
cut-differ w zero row first n = tt
cut-differ w (suc c) row first zero = tt
cut-differ w (suc c) row first (suc n) = (
  cut-below w c (row + 1) 0 (suc n - min (suc n) (w - first)) row (omega arith),
  cut-differ w c (row + 1) 0 (suc n - min (suc n) (w - first)),
)

cut-length : (w c e row first n : ℕ) → first + n ≤ e * w → length (cut w c row first n) ≤ e
unfolding cut
cut-length w zero e row first n le = omega arith
cut-length w (suc c) e row first zero le = omega arith
cut-length w (suc c) zero row first (suc n) le = absurd (omega arith)
cut-length w (suc c) (suc e) row first (suc n) le =
    let more =
    cut-length w c e (row + 1) 0 (suc n - min (suc n) (w - first))
    (omega (arith, times_up e w)) in
    omega arith

cut-some : (w c row first n : ℕ) → 0 < n → 1 ≤ length (cut w (suc c) row first n)
unfolding cut
cut-some w c row first zero lt = absurd (omega arith)
cut-some w c row first (suc n) lt = omega arith

-- ---- the packet from a group on

in_rows : (f : Format) (size k e : ℕ) → k ≤ next f size k
    → next f size k ≤ (k / row_groups f + e) * row_groups f
    → k % row_groups f + (next f size k - k) ≤ e * row_groups f
in_rows f size k e after le =
    omega (arith, div-add-mod' k (row_groups f), add_rows (k / row_groups f) e (row_groups f))

pub from_numbers : (f : Format) (size k : ℕ) → IsSize size f → k < group_count f
    → flat_map (numbers f) (packet_from f size k) ≡ range_with_len k (next f size k - k)
unfolding packet_from
from_numbers f size k fits lt =
    let w : ℕ = row_groups f in
    let far : k < next f size k = next_room f size k fits lt in
    let a = attained f size k in
    let bound : next f size k ≤ (k / w + a.count) * w = omega (arith, a.behind) in
    let three : (k / w + a.count) * w ≤ (k / w + 3) * w =
    mul-le (k / w + a.count) w (k / w + 3) w (omega (arith, a.few)) (omega arith) in
    cut-numbers f 3 (k / w) (k % w) (next f size k - k) (mod_below k w (some_groups f))
    (in_rows f size k 3 (omega arith) (omega arith))
    ∙ ap (λ (s : ℕ). range_with_len s (next f size k - k)) (div-add-mod' k w)

pub from_packet : (f : Format) (size k : ℕ) → IsSize size f → k < group_count f
    → IsPacket f size (packet_from f size k)
unfolding packet_from room
from_packet f size k fits lt =
    let w : ℕ = row_groups f in
    let p : List PacketRun = cut w 3 (k / w) (k % w) (next f size k - k) in
    let a = attained f size k in
    let far : k < next f size k = next_room f size k fits lt in
    let bound : next f size k ≤ (k / w + a.count) * w = omega (arith, a.behind) in
    let few : length p ≤ a.count =
    cut-length w 3 a.count (k / w) (k % w) (next f size k - k)
    (in_rows f size k a.count (omega arith) bound) in
    let count : run_groups p ≡ next f size k - k =
    sym (length-numbers f p) ∙ ap length (from_numbers f size k fits lt)
    ∙ length-range_with_len k (next f size k - k) in
    let behind : next f size k - k ≤ (size - (14 + 6 * a.count)) / group_octets f =
    omega (arith, a.behind) in
    let octets : group_octets f * (next f size k - k) ≤ size - (14 + 6 * a.count) =
    omega (
      arith,
      mul-le (group_octets f) (next f size k - k) (group_octets f)
          ((size - (14 + 6 * a.count)) / group_octets f) (omega arith) behind,
      mul-div-le (size - (14 + 6 * a.count)) (group_octets f),
    ) in
    record {
      some = cut-some w 2 (k / w) (k % w) (next f size k - k) (omega arith);
      few = omega (arith, a.few);
      runs = cut-runs f 3 (k / w) (k % w) (next f size k - k) (mod_below k w (some_groups f));
      fits =
          subst (λ (m : ℕ). 14 + 6 * length p + group_octets f * m ≤ size) (sym count)
          (omega arith);
    }

pub from_differ : (f : Format) (size k : ℕ) → RowsRise (packet_from f size k)
unfolding packet_from
from_differ f size k =
    cut-differ (row_groups f) 3 (k / row_groups f) (k % row_groups f) (next f size k - k)

-- ---- one group more

more_at : (f : Format) (r : PacketRun) (a n : ℕ) (b : Bool) → IsRun f r
    → r.row * row_groups f + r.first ≡ a → r.groups ≡ n
    → eqb (r.first + r.groups) (row_groups f) ≡ b
    → flat_map (numbers f)
    (cond b (r ∷ record { row = r.row + 1; first = 0; groups = 1 } ∷ [])
    (record { row = r.row; first = r.first; groups = r.groups + 1 } ∷ []))
    ≡ range_with_len a (n + 1)
more_at f r a n true is start count e =
    let w : ℕ = row_groups f in
    let end : r.first + r.groups ≡ w = eqb-true (r.first + r.groups) w e in
    range-append (r.row * w + r.first) r.groups 1 ((r.row + 1) * w + 0) (r.groups + 1)
    (omega (arith, row_up r.row w)) (omega arith)
    ∙ ap (λ (s : ℕ). range_with_len s (r.groups + 1)) start
    ∙ ap (λ (g : ℕ). range_with_len a (g + 1)) count
more_at f r a n false is start count e =
    let w : ℕ = row_groups f in
    append-nil (range_with_len (r.row * w + r.first) (r.groups + 1))
    ∙ ap (λ (s : ℕ). range_with_len s (r.groups + 1)) start
    ∙ ap (λ (g : ℕ). range_with_len a (g + 1)) count

pub more_numbers : (f : Format) (rs : List PacketRun) (a n : ℕ) → 1 ≤ length rs
    → AllByRecursion (IsRun f) rs → flat_map (numbers f) rs ≡ range_with_len a n
    → flat_map (numbers f) (one_more f rs) ≡ range_with_len a (n + 1)
unfolding one_more
more_numbers f [] a n some runs whole = absurd (omega arith)
more_numbers f (r ∷ []) a n some runs whole =
    let s = split r.groups a n (r.row * row_groups f + r.first) [] runs.0.some whole in
    let none : s.left ≡ 0 = none_left (a + r.groups) s.left s.rest in
    more_at f r a n (eqb (r.first + r.groups) (row_groups f)) runs.0 s.start
    (omega (arith, s.sum)) refl
more_numbers f (r ∷ q ∷ rs) a n some runs whole =
    let w : ℕ = row_groups f in
    let s =
    split r.groups a n (r.row * w + r.first)
    (flat_map (numbers f) (q ∷ rs)) runs.0.some whole in
    let more = more_numbers f (q ∷ rs) (a + r.groups) s.left (omega arith) runs.1 s.rest in
    let start = s.start in
    let sum = s.sum in
    ap (λ (xs : List ℕ). range_with_len (r.row * w + r.first) r.groups ++ xs) more
    ∙ ap (λ (k : ℕ). range_with_len k r.groups ++ range_with_len (a + r.groups) (s.left + 1)) start
    ∙ range-append a r.groups (s.left + 1) (a + r.groups) (n + 1) refl (omega arith)

more_runs_at : (f : Format) (r : PacketRun) (b : Bool) → IsRun f r
    → eqb (r.first + r.groups) (row_groups f) ≡ b
    → AllByRecursion (IsRun f)
    (cond b (r ∷ record { row = r.row + 1; first = 0; groups = 1 } ∷ [])
    (record { row = r.row; first = r.first; groups = r.groups + 1 } ∷ []))
more_runs_at f r true is e = let some =
    some_groups f in (is, (record { some = omega arith; inside = omega arith }, tt))
more_runs_at f r false is e =
    let ne = eqb-false (r.first + r.groups) (row_groups f) e in
    let inside = is.inside in
    (record { some = omega arith; inside = omega arith }, tt)

more_runs : (f : Format) (rs : List PacketRun) → AllByRecursion (IsRun f) rs
    → AllByRecursion (IsRun f) (one_more f rs)
unfolding one_more
more_runs f [] runs = tt
more_runs f (r ∷ []) runs = more_runs_at f r (eqb (r.first + r.groups) (row_groups f)) runs.0 refl
more_runs f (r ∷ q ∷ rs) runs = (runs.0, more_runs f (q ∷ rs) runs.1)

more_some : (f : Format) (rs : List PacketRun) → 1 ≤ length rs → 1 ≤ length (one_more f rs)
unfolding one_more
more_some f [] some = some
more_some f (r ∷ []) some =
    elim (eqb (r.first + r.groups) (row_groups f)) as
    (λ b. 1
    ≤ length
    (cond b (r ∷ record { row = r.row + 1; first = 0; groups = 1 } ∷ [])
    (record { row = r.row; first = r.first; groups = r.groups + 1 }
    ∷ []))) [ true ↦ omega arith | false ↦ omega arith ]
more_some f (r ∷ q ∷ rs) some = omega arith

-- A packet that doesn't end the raster has no room.
pub no_room : (f : Format) (size k : ℕ) → IsSize size f → k < group_count f
    → next f size k < group_count f → HasRoom (packet_from f size k) f size → ⊥
no_room f size k fits lt more room =
    let p : List PacketRun = packet_from f size k in
    let is = from_packet f size k fits lt in
    let bigger : IsPacket f size (one_more f p) =
    record {
      some = more_some f p is.some;
      few = room.few;
      runs = more_runs f p is.runs;
      fits =
          room.fits;
    } in
    let far : k < next f size k = next_room f size k fits lt in
    let whole =
    more_numbers f p k (next f size k - k) is.some is.runs (from_numbers f size k fits lt) in
    let bound =
    ahead f size k (next f size k - k + 1) k (one_more f p) bigger whole (omega arith)
    (omega arith) in
    absurd (omega arith)

-- ---- the code's cut

pub cut_one : (w c row first n : ℕ) → 0 < c → 0 < n
    → cut w c row first n
    ≡ record { row = row; first = first; groups = min n (w - first) } ∷ cut w (c - 1) (row + 1) 0
    (n - min n (w - first))
unfolding cut
cut_one w zero row first n lc ln = absurd (omega arith)
cut_one w (suc c) row first zero lc ln = absurd (omega arith)
cut_one w (suc c) row first (suc n) lc ln = let e : suc c - 1 ≡ c = omega arith in rw e refl

pub cut_over : (w c row first n : ℕ) → (0 < n → 0 < c → ⊥) → cut w c row first n ≡ []
unfolding cut
cut_over w zero row first n h = refl
cut_over w (suc c) row first zero h = refl
cut_over w (suc c) row first (suc n) h = absurd (h (omega arith) (omega arith))

-- one run more in the code
pub code_more : (w n m row first left groups : ℕ) (rs new : List PacketRun) (r : PacketRun)
    (whole : List PacketRun) → n < 3 → 0 < left → groups ≡ min left (w - first) → m ≡ n + 1
    → r ≡ record { row = row; first = first; groups = groups } → new ≡ rs ++ r ∷ []
    → rs ++ cut w (3 - n) row first left ≡ whole
    → new ++ cut w (3 - m) (row + 1) 0 (left - groups) ≡ whole
code_more w n m row first left groups rs new r whole lt some at up is_r is_new h =
    let rest : List PacketRun = cut w (3 - m) (row + 1) 0 (left - groups) in
    let less : 3 - n - 1 ≡ 3 - m = omega arith in
    let one : cut w (3 - n) row first left ≡ r ∷ rest =
    cut_one w (3 - n) row first left (omega arith) some
    ∙ ap
    (λ (c : ℕ). record { row = row; first = first; groups = min left (w - first) } ∷ cut w c
    (row + 1) 0 (left - min left (w - first))) less
    ∙ ap
    (λ (g : ℕ). record { row = row; first = first; groups = g } ∷ cut w (3 - m) (row + 1) 0
    (left - g)) (sym at)
    ∙ ap (λ (q : PacketRun). q ∷ rest) (sym is_r) in
    ap (λ (xs : List PacketRun). xs ++ rest) is_new
    ∙ append_assoc rs (r ∷ []) rest
    ∙ ap (λ (zs : List PacketRun). rs ++ zs) (sym one)
    ∙ h

pub code_over : (w c row first left : ℕ) (rs whole : List PacketRun) → (0 < left → 0 < c → ⊥)
    → rs ++ cut w c row first left ≡ whole → rs ≡ whole
code_over w c row first left rs whole over h =
    sym (append-nil rs)
    ∙ ap (λ (zs : List PacketRun). rs ++ zs) (sym (cut_over w c row first left over)) ∙ h
