-- Columns: where a segment begins, and which positions a pgroup has.
use Rattle.std.proofs.Common.{◌≡◌, ℕ, ◌+◌, ◌*◌, ◌/◌, ◌%◌, ◌<◌, ◌≤◌, ◌-◌, inr, refl, sym, ap, ◌∙◌}
use Rattle.std.proofs.Common.{subst, arith, map, mul-le-mul_left}
use Rattle.std.specs.List.{range_with_len}
use Rattle.std.proofs.lemmas.Nat.{div-mul-add, mod-mul-add, div-add-mod', mod_below, div_below}
use Rattle.std.proofs.Math.Nat.{mul_comm}
use Rattle.st_format.specs.declared.sampling.Sampling.{Sampling}
use Rattle.st_format.specs.declared.sampling.Sampling.TheVariants.{Ycc422, Ycc444, Rgb}
use Rattle.st_format.specs.declared.sampling.Depth.{Depth}
use Rattle.st_format.specs.declared.sampling.Depth.TheVariants.{D8, D10, D12, D16}
use Rattle.st_format.specs.declared.format.Format.{Format}
use Rattle.st_format.specs.Member.{IsMember}
use Rattle.st_format.specs.Pgroup.{pixel_group}
use Rattle.st_format.specs.Position.{Position, HasComponent, IsPosition, group_positions}
use Rattle.st_format.specs.Position.{group_start, number_in_row, number_in_run, number_of, place}
use Rattle.st_format.specs.Position.{row_groups, row_samples, run_columns, run_samples}
use Rattle.st_format.specs.Position.{sample_count}
use Rattle.st_format.specs.Raster.{Segment, first_number}
use Rattle.st_format.proofs.Members.{member-map, member_of_map}
use Rattle.st_format.proofs.Numbering.{number_in_row-below, number_in_run-below, number_of-place}
use Rattle.st_format.proofs.Numbering.{place-number_of}
use Rattle.st_format.proofs.Places.{member-range, member_of_range, place-is_position}

-- ---- where a segment begins

-- the component that is sent first of a run
first_component : Sampling → ℕ
first_component Ycc422 = 1
first_component Ycc444 = 1
first_component Rgb = 0

-- it stands at the first column of a group, first in its run
record Starts (s : Sampling) (column component : ℕ) : Type 0 where
  stands : HasComponent s column component
  first : number_in_run s (column % run_columns s) component ≡ 0

starts : (s : Sampling) (d : Depth) (column : ℕ) → column % (pixel_group s d).pixels ≡ 0
    → Starts s column (first_component s)
unfolding number_in_run first_component
starts Ycc422 D8 column e = record { stands = (omega arith, inr e); first = refl }
starts Ycc422 D10 column e = record { stands = (omega arith, inr e); first = refl }
starts Ycc422 D12 column e = record { stands = (omega arith, inr e); first = refl }
starts Ycc422 D16 column e = record { stands = (omega arith, inr e); first = refl }
starts Ycc444 d column e = record { stands = omega arith; first = refl }
starts Rgb d column e = record { stands = omega arith; first = refl }

-- The place of a segment's first number
first_place : (f : Format) (s : Segment) → s.row < f.height → s.offset < f.width
    → s.offset % (pixel_group f.sampling f.depth).pixels ≡ 0
    → place f (first_number f s)
    ≡ record { row = s.row; column = s.offset; component = first_component f.sampling }
unfolding number_of number_in_row
first_place f s row column at_group =
    let starts' = starts f.sampling f.depth s.offset at_group in
    let p : Position =
    record { row = s.row; column = s.offset; component = first_component f.sampling } in
    let is : IsPosition p f = record { row = row; column = column; component = starts'.stands } in
    let first : number_of f p ≡ first_number f s = omega (arith, starts'.first) in
    ap (place f) (sym first) ∙ place-number_of f p is

pub first-row : (f : Format) (s : Segment) → s.row < f.height → s.offset < f.width
    → s.offset % (pixel_group f.sampling f.depth).pixels ≡ 0
    → (place f (first_number f s)).row ≡ s.row
first-row f s row column at_group =
    ap (λ (p : Position). p.row) (first_place f s row column at_group)

pub first-column : (f : Format) (s : Segment) → s.row < f.height → s.offset < f.width
    → s.offset % (pixel_group f.sampling f.depth).pixels ≡ 0
    → (place f (first_number f s)).column ≡ s.offset
first-column f s row column at_group =
    ap (λ (p : Position). p.column) (first_place f s row column at_group)

-- ---- which positions a pgroup has

-- samples of whole groups before a column
pub samples_before : (s : Sampling) (d : Depth) (x : ℕ) → x % (pixel_group s d).pixels ≡ 0
    → (pixel_group s d).samples * (x / (pixel_group s d).pixels) ≡ x / run_columns s * run_samples s
samples_before Ycc422 D8 x whole = omega arith
samples_before Ycc422 D10 x whole = omega arith
samples_before Ycc422 D12 x whole = omega arith
samples_before Ycc422 D16 x whole = omega arith
samples_before Ycc444 D8 x whole = omega arith
samples_before Ycc444 D10 x whole = omega arith
samples_before Ycc444 D12 x whole = omega arith
samples_before Ycc444 D16 x whole = omega arith
samples_before Rgb D8 x whole = omega arith
samples_before Rgb D10 x whole = omega arith
samples_before Rgb D12 x whole = omega arith
samples_before Rgb D16 x whole = omega arith

-- samples of a row, by its groups
pub row_samples_groups : (f : Format)
    → (pixel_group f.sampling f.depth).samples * row_groups f ≡ row_samples f
row_samples_groups f = samples_before f.sampling f.depth f.width f.whole_width.whole_groups

-- the group of a sample, by its column
group_of_column : (s : Sampling) (d : Depth) (column i : ℕ) → i < run_samples s
    → (column / run_columns s * run_samples s + i) / (pixel_group s d).samples
    ≡ column / (pixel_group s d).pixels
group_of_column Ycc422 D8 column i below = omega arith
group_of_column Ycc422 D10 column i below = omega arith
group_of_column Ycc422 D12 column i below = omega arith
group_of_column Ycc422 D16 column i below = omega arith
group_of_column Ycc444 D8 column i below = omega arith
group_of_column Ycc444 D10 column i below = omega arith
group_of_column Ycc444 D12 column i below = omega arith
group_of_column Ycc444 D16 column i below = omega arith
group_of_column Rgb D8 column i below = omega arith
group_of_column Rgb D10 column i below = omega arith
group_of_column Rgb D12 column i below = omega arith
group_of_column Rgb D16 column i below = omega arith

pub some_samples : (s : Sampling) (d : Depth) → 0 < (pixel_group s d).samples
some_samples Ycc422 D8 = omega arith
some_samples Ycc422 D10 = omega arith
some_samples Ycc422 D12 = omega arith
some_samples Ycc422 D16 = omega arith
some_samples Ycc444 D8 = omega arith
some_samples Ycc444 D10 = omega arith
some_samples Ycc444 D12 = omega arith
some_samples Ycc444 D16 = omega arith
some_samples Rgb D8 = omega arith
some_samples Rgb D10 = omega arith
some_samples Rgb D12 = omega arith
some_samples Rgb D16 = omega arith

-- Rows of w groups of s samples: number n of a row is in its group n / s, and in no other group of
-- any row.
split_number : (s w row n : ℕ) → row * (s * w) + n ≡ (row * w + n / s) * s + n % s
split_number s w row n =
    let parts : n / s * s + n % s ≡ n = div-add-mod' n s in
    grind (arith, parts)

in_group : (s w row n : ℕ) → 0 < s
    → (s * (row * w + n / s) ≤ row * (s * w) + n) × (row * (s * w) + n < s * (row * w + n / s) + s)
in_group s w row n some =
    let split = split_number s w row n in
    let turned = mul_comm s (row * w + n / s) in
    let below : n % s < s = mod_below n s some in
    (omega (arith, split, turned, below), omega (arith, split, turned, below))

same_place : (w row group other at : ℕ) → group < w → at < w → other * w + at ≡ row * w + group
    → (other ≡ row) × (at ≡ group)
same_place w row group other at below here e = (
  sym (div-mul-add other w at here) ∙ ap (λ (x : ℕ). x / w) e ∙ div-mul-add row w group below,
  sym (mod-mul-add other w at here) ∙ ap (λ (x : ℕ). x % w) e ∙ mod-mul-add row w group below,
)

same_group : (s w row group other n : ℕ) → 0 < s → group < w → n < s * w
    → s * (row * w + group) ≤ other * (s * w) + n → other * (s * w) + n < s * (row * w + group) + s
    → (other ≡ row) × (n / s ≡ group)
same_group s w row group other n some below inside least most =
    let k : ℕ = other * (s * w) + n in
    let rest : ℕ = k - s * (row * w + group) in
    let turned = mul_comm s (row * w + group) in
    let here : k ≡ (row * w + group) * s + rest = omega arith in
    let mine : k / s ≡ row * w + group =
    ap (λ (x : ℕ). x / s) here ∙ div-mul-add (row * w + group) s rest (omega arith) in
    let its : k / s ≡ other * w + n / s =
    ap (λ (x : ℕ). x / s) (split_number s w other n)
    ∙ div-mul-add (other * w + n / s) s (n % s) (mod_below n s some) in
    let at : n / s < w = div_below n s w some (subst (λ (x : ℕ). n < x) (mul_comm s w) inside) in
    same_place w row group other (n / s) below at (sym its ∙ mine)

-- what is known of a position's number in its row
record InRow (f : Format) (p : Position) (n : ℕ) : Type 0 where
  number : number_of f p ≡ p.row * ((pixel_group f.sampling f.depth).samples * row_groups f) + n
  inside : n < (pixel_group f.sampling f.depth).samples * row_groups f
  group : n / (pixel_group f.sampling f.depth).samples
      ≡ p.column / (pixel_group f.sampling f.depth).pixels

in_row : (f : Format) (p : Position) → IsPosition p f
    → InRow f p (number_in_row f.sampling p.column p.component)
unfolding number_of number_in_row
in_row f p is = record {
  number =
      ap (λ (x : ℕ). p.row * x + number_in_row f.sampling p.column p.component)
      (sym (row_samples_groups f));
  inside =
      subst (λ (x : ℕ). number_in_row f.sampling p.column p.component < x)
      (sym (row_samples_groups f))
      (number_in_row-below f p.column p.component is.column is.component);
  group =
      group_of_column f.sampling f.depth p.column
      (number_in_run f.sampling (p.column % run_columns f.sampling) p.component)
      (number_in_run-below f.sampling p.column p.component is.component);
}

-- the numbers of a group are numbers of the raster
group_inside : (s w height row group k : ℕ) → row < height → group < w
    → k < s * (row * w + group) + s → k < height * (s * w)
group_inside s w height row group k inside below lt =
    let rows : row * w + w ≤ height * w = grind (arith) in
    let most : s * (row * w + group + 1) ≤ s * (height * w) = mul-le-mul_left s (omega arith) in
    grind (arith)

-- a position of a group
pub record StandsIn (f : Format) (row group : ℕ) (p : Position) : Type 0 where
  pub is : IsPosition p f
  pub in_row : p.row ≡ row
  pub in_group : p.column / (pixel_group f.sampling f.depth).pixels ≡ group

pub stands_in : (f : Format) (row group : ℕ) (p : Position) → row < f.height → group < row_groups f
    → IsMember p (group_positions f row group) → StandsIn f row group p
stands_in f row group p inside below m =
    let s : ℕ = (pixel_group f.sampling f.depth).samples in
    let w : ℕ = row_groups f in
    let r = member-map (place f) p (range_with_len (group_start f row group) s) m in
    let k : ℕ = r.0 in
    let range = member-range (group_start f row group) s k r.1 in
    let raster : k < sample_count f =
    subst (λ (x : ℕ). k < f.height * x) (row_samples_groups f)
    (group_inside s w f.height row group k inside below range.1) in
    let is : IsPosition p f =
    subst (λ (q : Position). IsPosition q f) (sym r.2) (place-is_position f k raster) in
    let number : number_of f p ≡ k = ap (number_of f) r.2 ∙ number_of-place f k in
    let n : ℕ = number_in_row f.sampling p.column p.component in
    let at : InRow f p n = in_row f p is in
    let k_is : p.row * (s * w) + n ≡ k = sym at.number ∙ number in
    let same =
    same_group s w row group p.row n (some_samples f.sampling f.depth) below at.inside
    (subst (λ (x : ℕ). s * (row * w + group) ≤ x) (sym k_is) range.0)
    (subst (λ (x : ℕ). x < s * (row * w + group) + s) (sym k_is) range.1) in
    record { is = is; in_row = same.0; in_group = sym at.group ∙ same.1 }

pub member-group_positions : (f : Format) (p : Position) → IsPosition p f
    → IsMember p (group_positions f p.row (p.column / (pixel_group f.sampling f.depth).pixels))
member-group_positions f p is =
    let s : ℕ = (pixel_group f.sampling f.depth).samples in
    let w : ℕ = row_groups f in
    let n : ℕ = number_in_row f.sampling p.column p.component in
    let k : ℕ = number_of f p in
    let at : InRow f p n = in_row f p is in
    let around = in_group s w p.row n (some_samples f.sampling f.depth) in
    let start : ℕ = s * (p.row * w + n / s) in
    let listed : IsMember p (map (place f) (range_with_len start s)) =
    subst (λ (q : Position). IsMember q (map (place f) (range_with_len start s)))
    (place-number_of f p is)
    (member_of_map (place f) k (range_with_len start s)
    (member_of_range start s k (k - start) (omega (arith, around.0, at.number))
    (omega (arith, around.1, at.number, some_samples f.sampling f.depth)))) in
    subst (λ (x : ℕ). IsMember p (group_positions f p.row x)) at.group listed
