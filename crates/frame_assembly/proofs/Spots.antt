-- The contested samples that a row's mark words tell are those of its cells.
use Rattle.std.proofs.Common.{◌≡◌, ℕ, zero, suc, ◌+◌, ◌-◌, ◌*◌, ◌<◌, ◌≤◌, Bool, true, false, cond}
use Rattle.std.proofs.Common.{eqb, List, [], ◌∷◌, ◌++◌, length, map, drop, get_or, refl, sym, ap}
use Rattle.std.proofs.Common.{◌∙◌, ◌⊎◌, subst, arith, eq-eqb, inl, inr}
use Rattle.std.specs.Int.{bit_at}
use Rattle.std.specs.List.{filter, flat_map, range_with_len}
use Rattle.std.proofs.lemmas.Bool.{cases_lt, ne_eqb}
use Rattle.std.proofs.lemmas.List.{drop_all, drop_more, map-append}
use Rattle.std.proofs.lemmas.List.Elements.{filter-append}
use Rattle.std.proofs.lemmas.Nat.{div-mul-add, mod-mul-add}
use Rattle.std.proofs.lemmas.Nat.Bits.{bit_at-pow_other, bit_at-zero}
use Rattle.st_format.specs.declared.format.Format.{Format}
use Rattle.st_format.specs.declared.sampling.Sampling.{Sampling}
use Rattle.st_format.specs.Cell.{is_contested}
use Rattle.st_format.specs.Pgroup.{pixel_group}
use Rattle.st_format.specs.Position.{Position, group_positions, group_start, place, place_in_row}
use Rattle.st_format.specs.Position.{component_in_row, row_groups, row_samples}
use Rattle.st_format.specs.Raster.{IsWhole, Raster, cell_at}
use Rattle.st_format.proofs.Columns.{row_samples_groups}
use Rattle.frame_assembly.specs.ContestedSamples.{AreEven, HasContested, IsNextSet}
use Rattle.frame_assembly.specs.ContestedSamples.{contested_spots, spot_of}
use Rattle.frame_assembly.specs.ContestedSamples.{spots_of_mark, spots_of_marks}
use Rattle.frame_assembly.specs.Rows.{IsMarkOf, group_cells}
use Rattle.frame_assembly.proofs.MissingColumns.{cell_is}
use Rattle.frame_assembly.proofs.MissingFlags.{group_long}

-- ---- the walk over a mark word

clear : (b : ℕ → Bool) (a d k : ℕ) → ((i : ℕ) → a ≤ i → i < a + d → b i ≡ false)
    → filter b (range_with_len a (d + k)) ≡ filter b (range_with_len (a + d) k)
clear b a zero k none =
    let e : 0 + k ≡ k = omega arith in
    let f : a + 0 ≡ a = omega arith in
    ap (λ (n : ℕ). filter b (range_with_len a n)) e
    ∙ sym (ap (λ (n : ℕ). filter b (range_with_len n k)) f)
clear b a (suc d) k none =
    let e : suc d + k ≡ suc (d + k) = omega arith in
    let f : (a + 1) + d ≡ a + suc d = omega arith in
    let rest : List ℕ = filter b (range_with_len (a + 1) (d + k)) in
    ap (λ (n : ℕ). filter b (range_with_len a n)) e
    ∙ ap (λ (t : Bool). cond t (a ∷ rest) rest) (none a (omega arith) (omega arith))
    ∙ clear b (a + 1) d k (λ i from to. none i (omega (arith, from)) (omega (arith, to)))
    ∙ ap (λ (n : ℕ). filter b (range_with_len n k)) f

spots_on : (s : Sampling) (first size mark at next : ℕ) → at ≤ next → next ≤ size
    → ((i : ℕ) → at ≤ i → i < next → bit_at mark i ≡ 1 → ⊥)
    → spots_of_mark s first size mark at ≡ spots_of_mark s first size mark next
spots_on s first size mark at next least most none =
    let b : ℕ → Bool = λ i. eqb (bit_at mark i) 1 in
    let d : ℕ = next - at in
    let k : ℕ = size - next in
    let long : size - at ≡ d + k = omega (arith, least, most) in
    let there : at + d ≡ next = omega (arith, least) in
    ap (map (λ (i : ℕ). place_in_row s (first + i)))
    (ap (λ (n : ℕ). filter b (range_with_len at n)) long
    ∙ clear b at d k
    (λ i from to. ne_eqb (bit_at mark i) 1 (none i from (omega (arith, to, there))))
    ∙ ap (λ (n : ℕ). filter b (range_with_len n k)) there)

spots_end : (s : Sampling) (first size mark : ℕ) → spots_of_mark s first size mark size ≡ []
spots_end s first size mark =
    let e : size - size ≡ 0 = omega arith in
    ap (λ (n : ℕ). map (λ (i : ℕ). place_in_row s (first + i))
    (filter (λ i. eqb (bit_at mark i) 1) (range_with_len size n))) e

spots_here : (s : Sampling) (first size mark next : ℕ) → next < size → bit_at mark next ≡ 1
    → spots_of_mark s first size mark next
    ≡ place_in_row s (first + next) ∷ spots_of_mark s first size mark (next + 1)
spots_here s first size mark next lt set =
    let b : ℕ → Bool = λ i. eqb (bit_at mark i) 1 in
    let k : ℕ = size - (next + 1) in
    let e : size - next ≡ suc k = omega (arith, lt) in
    let rest : List ℕ = filter b (range_with_len (next + 1) k) in
    ap (map (λ (i : ℕ). place_in_row s (first + i)))
    (ap (λ (n : ℕ). filter b (range_with_len next n)) e
    ∙ ap (λ (t : Bool). cond t (next ∷ rest) rest) (eq-eqb (bit_at mark next) 1 set))

spots_next : (s : Sampling) (first size mark at next : ℕ) → IsNextSet mark at size next
    → next < size
    → spots_of_mark s first size mark at
    ≡ place_in_row s (first + next) ∷ spots_of_mark s first size mark (next + 1)
spots_next s first size mark at next is lt =
    spots_on s first size mark at next is.least is.most is.none
    ∙ spots_here s first size mark next lt (is.set lt)

spots_none : (s : Sampling) (first size mark at next : ℕ) → IsNextSet mark at size next
    → size ≤ next → spots_of_mark s first size mark at ≡ []
spots_none s first size mark at next is le =
    let most : next ≤ size = is.most in
    let e : next ≡ size = omega (arith, le, most) in
    spots_on s first size mark at next is.least is.most is.none
    ∙ ap (spots_of_mark s first size mark) e ∙ spots_end s first size mark

-- ---- the walk over mark words

even_mark : (s : Sampling) (first size mark : ℕ) → (HasContested size mark → ⊥)
    → spots_of_mark s first size mark 0 ≡ []
even_mark s first size mark none =
    spots_on s first size mark 0 size (omega arith) (omega arith)
    (λ i from to set. none (i, to, set))
    ∙ spots_end s first size mark

even_on : (s : Sampling) (size group k : ℕ) (marks : List ℕ) → k ≤ length marks
    → ((g : ℕ) → g < k → HasContested size (get_or marks g 0) → ⊥)
    → spots_of_marks s size group marks ≡ spots_of_marks s size (group + k) (drop k marks)
even_on s size group zero marks le none =
    let e : group + 0 ≡ group = omega arith in
    sym (ap (λ (n : ℕ). spots_of_marks s size n marks) e)
even_on s size group (suc k) [] le none = absurd (omega (arith, le))
even_on s size group (suc k) (mark ∷ marks) le none =
    let e : (group + 1) + k ≡ group + suc k = omega arith in
    ap (λ spots. spots ++ spots_of_marks s size (group + 1) marks)
    (even_mark s (size * group) size mark (none 0 (omega arith)))
    ∙ even_on s size (group + 1) k marks (omega (arith, le))
    (λ g lt. none (suc g) (omega (arith, lt)))
    ∙ ap (λ (n : ℕ). spots_of_marks s size n (drop k marks)) e

-- no group is left
groups_none : (s : Sampling) (size group k : ℕ) (marks : List ℕ) → AreEven size k marks
    → k ≡ length marks → spots_of_marks s size group marks ≡ []
groups_none s size group k marks even end =
    even_on s size group k marks even.within even.none
    ∙ ap (spots_of_marks s size (group + k)) (drop_all k marks (omega (arith, end)))

-- a first sample has one, where its group has
pub first_below : (size k next : ℕ) (marks : List ℕ) → AreEven size k marks → k < length marks
    → IsNextSet (get_or marks k 0) 0 size next → next < size
first_below size k next marks even lt is =
    let some : HasContested size (get_or marks k 0) = even.some lt in
    elim (cases_lt next size) [
      | inl below ↦ below
      | inr ge ↦ absurd (is.none some.0 (omega arith) (omega (arith, ge, some.1)) some.2)
    ]

-- a group with a contested sample, and its first one
groups_next : (s : Sampling) (size group k first next : ℕ) (marks last : List ℕ)
    → AreEven size k marks → k < length marks → IsNextSet (get_or marks k 0) 0 size next
    → first ≡ size * (group + k) → last ≡ drop (k + 1) marks
    → spots_of_marks s size group marks
    ≡ place_in_row s (first + next) ∷ (spots_of_mark s first size (get_or marks k 0) (next + 1)
    ++ spots_of_marks s size ((group + k) + 1) last)
groups_next s size group k first next marks last even lt is is_first is_last =
    let mark : ℕ = get_or marks k 0 in
    let here : next < size = first_below size k next marks even lt is in
    let behind : List (ℕ × ℕ) = spots_of_marks s size ((group + k) + 1) (drop (k + 1) marks) in
    even_on s size group k marks even.within even.none
    ∙ ap (spots_of_marks s size (group + k)) (drop_more marks k 0 lt)
    ∙ ap (λ (n : ℕ). spots_of_mark s n size mark 0 ++ behind) (sym is_first)
    ∙ ap (λ spots. spots ++ behind) (spots_next s first size mark 0 next is here)
    ∙ ap (λ (xs : List ℕ). place_in_row s (first + next)
    ∷ (spots_of_mark s first size mark (next + 1)
    ++ spots_of_marks s size ((group + k) + 1) xs)) (sym is_last)

-- ---- the cells of a group

one_step : {P Q : Type 0} (t : Bool) (h : P → Q) (q : ℕ → Q) (x : P) (y : ℕ) (xs : List P)
    (ys : List ℕ) → h x ≡ q y → map h xs ≡ map q ys
    → map h (cond t (x ∷ xs) xs) ≡ map q (cond t (y ∷ ys) ys)
one_step true h q x y xs ys e f =
    ap (λ z. z ∷ map h xs) e ∙ ap (λ zs. q y ∷ zs) f
one_step false h q x y xs ys e f = f

mapped : {P Q : Type 0} (c : P → Bool) (h : P → Q) (pl : ℕ → P) (b : ℕ → Bool) (q : ℕ → Q)
    (start at k : ℕ)
    → ((i : ℕ) → at ≤ i → i < at + k → (c (pl (start + i)) ≡ b i) × (h (pl (start + i)) ≡ q i))
    → map h (filter c (map pl (range_with_len (start + at) k)))
    ≡ map q (filter b (range_with_len at k))
mapped c h pl b q start at zero each = refl
mapped c h pl b q start at (suc k) each =
    let here = each at (omega arith) (omega arith) in
    let next : (start + at) + 1 ≡ start + (at + 1) = omega arith in
    let rest = filter c (map pl (range_with_len (start + (at + 1)) k)) in
    ap (λ (n : ℕ). map h (cond (c (pl (start + at)))
    (pl (start + at) ∷ filter c (map pl (range_with_len n k)))
    (filter c (map pl (range_with_len n k))))) next
    ∙ ap (λ (t : Bool). map h (cond t (pl (start + at) ∷ rest) rest)) here.0
    ∙ one_step (b at) h q (pl (start + at)) at rest (filter b (range_with_len (at + 1) k)) here.1
    (mapped c h pl b q start (at + 1) k
    (λ i from to. each i (omega (arith, from)) (omega (arith, to))))

-- a group's sample, counted from its row's first
abbrev in_row : Format → ℕ → ℕ → ℕ
in_row f group i = (pixel_group f.sampling f.depth).samples * group + i

-- and as a position of a row
abbrev spot_at : Sampling → ℕ → ℕ → Position
spot_at s row sample = record {
  row = row;
  column = (place_in_row s sample).0;
  component = (place_in_row s sample).1;
}

spot_is : (f : Format) (row group i : ℕ) → group < row_groups f
    → i < (pixel_group f.sampling f.depth).samples
    → place f (group_start f row group + i) ≡ spot_at f.sampling row (in_row f group i)
unfolding place
spot_is f row group i below lt =
    let s : ℕ = (pixel_group f.sampling f.depth).samples in
    let w : ℕ = row_groups f in
    let d : ℕ = w - (group + 1) in
    let up : w ≡ group + (1 + d) = omega (arith, below) in
    let wide : s * w ≡ s * group + (s + s * d) = ap (λ (k : ℕ). s * k) up ∙ omega arith in
    let samples : s * w ≡ row_samples f = row_samples_groups f in
    let short : in_row f group i < row_samples f = omega (arith, samples, wide, lt) in
    let turn : s * (row * w + group) + i ≡ row * (s * w) + (s * group + i) = omega arith in
    let number : group_start f row group + i ≡ row * row_samples f + in_row f group i =
    turn ∙ ap (λ (k : ℕ). row * k + (s * group + i)) samples in
    rw (
      number,
      div-mul-add row (row_samples f) (in_row f group i) short,
      mod-mul-add row (row_samples f) (in_row f group i) short,
    ) refl

abbrev samples_in : Raster → ℕ
samples_in r = (pixel_group r.format.sampling r.format.depth).samples

abbrev is_disputed : Raster → Position → Bool
is_disputed r p = is_contested (cell_at r p)

group_spots : (r : Raster) (row group mark : ℕ) → IsWhole r → row < r.format.height
    → group < row_groups r.format → IsMarkOf mark (group_cells r row group)
    → map spot_of (filter (is_disputed r) (group_positions r.format row group))
    ≡ spots_of_mark r.format.sampling (samples_in r * group) (samples_in r) mark 0
group_spots r row group mark whole inside below is =
    let f : Format = r.format in
    let n : ℕ = samples_in r in
    let start : ℕ = group_start f row group in
    let long : length (group_cells r row group) ≡ n = group_long r row group whole inside below in
    let e : start ≡ start + 0 = omega arith in
    let z : n ≡ n - 0 = omega arith in
    ap (λ (k : ℕ). map spot_of (filter (is_disputed r) (map (place f) (range_with_len k n)))) e
    ∙ mapped (is_disputed r) spot_of (place f) (λ i. eqb (bit_at mark i) 1)
    (λ i. place_in_row f.sampling (n * group + i)) start 0 n
    (λ i from to.
    (let lt : i < n = omega (arith, to) in
    let within : i < length (group_cells r row group) = omega (arith, lt, long) in (
      ap is_contested (cell_is r row group i lt) ∙ is.contested i within,
      ap spot_of (spot_is f row group i below lt),
    )))
    ∙ ap (λ (k : ℕ). map (λ (i : ℕ). place_in_row f.sampling (n * group + i))
    (filter (λ (i : ℕ). eqb (bit_at mark i) 1) (range_with_len 0 k))) z

-- ---- the cells of a row

groups_from : (r : Raster) (row group : ℕ) (marks : List ℕ) → IsWhole r → row < r.format.height
    → group + length marks ≤ row_groups r.format
    → ((j : ℕ) → j < length marks → IsMarkOf (get_or marks j 0) (group_cells r row (group + j)))
    → map spot_of (filter (is_disputed r)
    (flat_map (group_positions r.format row) (range_with_len group (length marks))))
    ≡ spots_of_marks r.format.sampling (samples_in r) group marks
groups_from r row group [] whole inside within each = refl
groups_from r row group (mark ∷ marks) whole inside within each =
    let f : Format = r.format in
    let none : group + 0 ≡ group = omega arith in
    let first : IsMarkOf mark (group_cells r row group) =
    subst (λ (k : ℕ). IsMarkOf mark (group_cells r row k)) none (each 0 (omega arith)) in
    let behind : List Position =
    flat_map (group_positions f row) (range_with_len (group + 1) (length marks)) in
    ap (map spot_of) (filter-append (is_disputed r) (group_positions f row group) behind)
    ∙ map-append spot_of (filter (is_disputed r) (group_positions f row group))
    (filter (is_disputed r) behind)
    ∙ ap (λ spots. spots ++ map spot_of (filter (is_disputed r) behind))
    (group_spots r row group mark whole inside (omega (arith, within)) first)
    ∙ ap (λ spots. spots_of_mark f.sampling (samples_in r * group) (samples_in r) mark 0 ++ spots)
    (groups_from r row (group + 1) marks whole inside (omega (arith, within))
    (λ j lt.
    (let e : group + suc j ≡ (group + 1) + j = omega arith in
    subst (λ (k : ℕ). IsMarkOf (get_or marks j 0) (group_cells r row k)) e
    (each (suc j) (omega (arith, lt))))))

pub spots_are : (r : Raster) (row size : ℕ) (s : Sampling) (marks : List ℕ) → IsWhole r
    → row < r.format.height → length marks ≡ row_groups r.format → s ≡ r.format.sampling
    → size ≡ (pixel_group r.format.sampling r.format.depth).samples
    → ((group : ℕ) → group < row_groups r.format
    → IsMarkOf (get_or marks group 0) (group_cells r row group))
    → spots_of_marks s size 0 marks ≡ contested_spots r row
spots_are r row size s marks whole inside long same_sampling same_size each =
    ap (λ (x : Sampling). spots_of_marks x size 0 marks) same_sampling
    ∙ ap (λ (n : ℕ). spots_of_marks r.format.sampling n 0 marks) same_size
    ∙ sym (groups_from r row 0 marks whole inside (omega (arith, long))
    (λ j lt.
    (let e : j ≡ 0 + j = omega arith in
    subst (λ (k : ℕ). IsMarkOf (get_or marks j 0) (group_cells r row k)) e
    (each j (omega (arith, lt, long))))))
    ∙ ap (λ (n : ℕ). map spot_of (filter (is_disputed r)
    (flat_map (group_positions r.format row) (range_with_len 0 n)))) long

-- ---- as `next` goes on

-- a sample of the group that is looked at
pub sample_here : (s : Sampling) (first size mark at next : ℕ) (behind : List (ℕ × ℕ))
    (given : ℕ × ℕ) → IsNextSet mark at size next → next < size
    → given ≡ place_in_row s (first + next) → given.1 < 3
    → (spots_of_mark s first size mark at ++ behind
    ≡ given ∷ (spots_of_mark s first size mark (next + 1) ++ behind)) × (given.1 < 3)
sample_here s first size mark at next behind given is lt same named = (
  ap (λ spots. spots ++ behind) (spots_next s first size mark at next is lt)
      ∙ ap (λ (x : ℕ × ℕ). x ∷ (spots_of_mark s first size mark (next + 1) ++ behind)) (sym same),
  named,
)

-- the first one of a group behind it
pub sample_behind : (s : Sampling) (old size old_mark at end group k after first next : ℕ)
    (marks last : List ℕ) (given : ℕ × ℕ) → IsNextSet old_mark at size end → size ≤ end
    → AreEven size k marks → k < length marks → IsNextSet (get_or marks k 0) 0 size next
    → first ≡ size * (group + k) → last ≡ drop (k + 1) marks → after ≡ (group + k) + 1
    → given ≡ place_in_row s (first + next) → given.1 < 3
    → (spots_of_mark s old size old_mark at ++ spots_of_marks s size group marks
    ≡ given ∷ (spots_of_mark s first size (get_or marks k 0) (next + 1)
    ++ spots_of_marks s size after last)) × (given.1 < 3)
sample_behind s old size old_mark at end group k after first next marks last given was none even lt
    is is_first is_last is_after same named = (
      ap (λ spots. spots ++ spots_of_marks s size group marks)
          (spots_none s old size old_mark at end was none)
          ∙ groups_next s size group k first next marks last even lt is is_first is_last
          ∙ ap (λ (x : ℕ × ℕ). x ∷ (spots_of_mark s first size (get_or marks k 0) (next + 1)
          ++ spots_of_marks s size ((group + k) + 1) last)) (sym same)
          ∙ ap (λ (n : ℕ). given ∷ (spots_of_mark s first size (get_or marks k 0) (next + 1)
          ++ spots_of_marks s size n last)) (sym is_after),
      named,
    )

-- none is left
pub sample_none : (s : Sampling) (first size mark at end group k : ℕ) (marks : List ℕ)
    → IsNextSet mark at size end → size ≤ end → AreEven size k marks → k ≡ length marks
    → spots_of_mark s first size mark at ++ spots_of_marks s size group marks ≡ []
sample_none s first size mark at end group k marks was none even all =
    ap (λ spots. spots ++ spots_of_marks s size group marks)
    (spots_none s first size mark at end was none)
    ∙ groups_none s size group k marks even all

-- ---- mark words and samples by themselves

-- a word of a missing group, or of one without a contested sample, has no such bit
pub no_bits : (size mark : ℕ) → size ≤ 12 → (mark ≡ 0) ⊎ (mark ≡ 32768) → HasContested size mark
    → ⊥
no_bits size mark small (inl e) some =
    let z : bit_at mark some.0 ≡ 0 = ap (λ (m : ℕ). bit_at m some.0) e ∙ bit_at-zero some.0 in
    let set : bit_at mark some.0 ≡ 1 = some.2 in
    absurd (omega (arith, z, set))
no_bits size mark small (inr e) some =
    let other : some.0 ≡ 15 → ⊥ = λ same. omega (arith, some.1, small, same) in
    let z : bit_at mark some.0 ≡ 0 =
    ap (λ (m : ℕ). bit_at m some.0) e ∙ bit_at-pow_other 15 some.0 other in
    let set : bit_at mark some.0 ≡ 1 = some.2 in
    absurd (omega (arith, z, set))

pair_is : (a b x y : ℕ) → x ≡ a → y ≡ b → ◌≡◌ {A = ℕ × ℕ} (x, y) (a, b)
pair_is a b x y e f =
    let first : ℕ → ℕ × ℕ = λ k. (k, y) in
    let second : ℕ → ℕ × ℕ = λ k. (a, k) in
    ap first e ∙ ap second f

pub place_is : (s : Sampling) (j x y : ℕ) → x ≡ (place_in_row s j).0 → y ≡ component_in_row s j
    → ◌≡◌ {A = ℕ × ℕ} (x, y) (place_in_row s j)
unfolding place_in_row
place_is s j x y e f = pair_is (place_in_row s j).0 (place_in_row s j).1 x y e f
