-- The runs of a row's columns are the maximal ones.
use Rattle.std.proofs.Common.{◌≡◌, ℕ, zero, suc, ◌+◌, ◌-◌, ◌*◌, ◌/◌, ◌%◌, ◌^◌, ◌<◌, ◌≤◌, Bool}
use Rattle.std.proofs.Common.{true, false, not, List, [], ◌∷◌, length, map, drop, get_or, refl, sym}
use Rattle.std.proofs.Common.{ap, ◌∙◌, inl, inr, subst, arith}
use Rattle.std.specs.List.{list_all, range_with_len}
use Rattle.std.specs.List.Sorted.{IsStrictlyIncreasing}
use Rattle.std.specs.declared.ops.Range.{Range}
use Rattle.std.proofs.lemmas.Bool.{cases_eq}
use Rattle.std.proofs.lemmas.List.{get_or-drop, get_or-map, get_or-take, length-map}
use Rattle.std.proofs.lemmas.List.FromFn.{get_or-map-range_with_len, length-map-range_with_len}
use Rattle.st_format.specs.declared.cell.Cell.{Cell}
use Rattle.st_format.specs.declared.cell.Cell.TheVariants.{Missing}
use Rattle.st_format.specs.declared.format.Format.{Format}
use Rattle.st_format.specs.declared.sampling.Sampling.{Sampling}
use Rattle.st_format.specs.declared.sampling.Sampling.TheVariants.{Ycc422, Ycc444, Rgb}
use Rattle.st_format.specs.declared.sampling.Depth.{Depth}
use Rattle.st_format.specs.declared.sampling.Depth.TheVariants.{D8, D10, D12, D16}
use Rattle.st_format.specs.Cell.{is_missing}
use Rattle.st_format.specs.Member.{IsMember}
use Rattle.st_format.specs.Pgroup.{pixel_group}
use Rattle.st_format.specs.Position.{HasComponent, IsPosition, Position, group_start}
use Rattle.st_format.specs.Position.{place, row_groups}
use Rattle.st_format.specs.Raster.{IsWhole, Raster, cell_at}
use Rattle.st_format.proofs.Columns.{member-group_positions}
use Rattle.st_format.proofs.Members.{member-map, member_of_map}
use Rattle.st_format.proofs.Numbering.{number_of-place}
use Rattle.st_format.proofs.Places.{member-range}
use Rattle.packet_numbers.specs.Numbers.{AreMissingRuns, IsMissingRun, IsNoted, Numbers}
use Rattle.packet_numbers.specs.Numbers.{number_place}
use Rattle.frame_assembly.specs.Missing.{AreUnknownRuns, IsKnown, IsUnknown, IsUnknownRun}
use Rattle.frame_assembly.specs.Missing.{columns_of, in_column, known_groups, missing_runs_in}
use Rattle.frame_assembly.specs.Missing.{unknown_runs}
use Rattle.frame_assembly.specs.Rows.{GroupsAreWhole, group_cells}
use Rattle.frame_assembly.proofs.MissingFlags.{all_same, group_long, group_some, groups_few}
use Rattle.frame_assembly.proofs.MissingFlags.{maximal}

-- ---- numbers of columns and of pgroups

-- what is so of 1, 2 and 4 columns is so of a pgroup's
with_pixels : (P : ℕ → Type 0) (s : Sampling) (d : Depth) → P 1 → P 2 → P 4
    → P (pixel_group s d).pixels
with_pixels P Ycc422 D8 one two four = two
with_pixels P Ycc422 D10 one two four = two
with_pixels P Ycc422 D12 one two four = two
with_pixels P Ycc422 D16 one two four = two
with_pixels P Ycc444 D8 one two four = one
with_pixels P Ycc444 D10 one two four = four
with_pixels P Ycc444 D12 one two four = two
with_pixels P Ycc444 D16 one two four = one
with_pixels P Rgb D8 one two four = one
with_pixels P Rgb D10 one two four = four
with_pixels P Rgb D12 one two four = two
with_pixels P Rgb D16 one two four = one

record Counts (p : ℕ) : Type 0 where
  none : 0 % p ≡ 0
  again : (x : ℕ) → p * x / p ≡ x
  last : (x : ℕ) → 0 < x → (p * x - 1) / p ≡ x - 1
  same : (x : ℕ) → (x % p ≡ 0 → ⊥) → (x - 1) / p ≡ x / p
  whole : (x : ℕ) → x % p ≡ 0 → p * (x / p) ≡ x
  rises : (x y : ℕ) → x < y → p * x < p * y
  falls : (x y : ℕ) → p * x < p * y → x < y
  most : (x y : ℕ) → x ≤ y → p * x ≤ p * y
  least : (x y : ℕ) → p * x ≤ p * y → x ≤ y
  inside : (x y c : ℕ) → p * x ≤ c → c < p * y → (x ≤ c / p) × (c / p < y)

one_column : Counts 1
one_column = record {
  none = refl;
  again = λ x. omega arith;
  last = λ x some. omega (arith, some);
  same = λ x other. absurd (other (omega arith));
  whole = λ x e. omega (arith, e);
  rises = λ x y lt. omega (arith, lt);
  falls = λ x y lt. omega (arith, lt);
  most = λ x y le. omega (arith, le);
  least = λ x y le. omega (arith, le);
  inside = λ x y c from to. (omega (arith, from), omega (arith, to));
}

two_columns : Counts 2
two_columns = record {
  none = refl;
  again = λ x. omega arith;
  last = λ x some. omega (arith, some);
  same = λ x other. omega (arith, other);
  whole = λ x e. omega (arith, e);
  rises = λ x y lt. omega (arith, lt);
  falls = λ x y lt. omega (arith, lt);
  most = λ x y le. omega (arith, le);
  least = λ x y le. omega (arith, le);
  inside = λ x y c from to. (omega (arith, from), omega (arith, to));
}

four_columns : Counts 4
four_columns = record {
  none = refl;
  again = λ x. omega arith;
  last = λ x some. omega (arith, some);
  same = λ x other. omega (arith, other);
  whole = λ x e. omega (arith, e);
  rises = λ x y lt. omega (arith, lt);
  falls = λ x y lt. omega (arith, lt);
  most = λ x y le. omega (arith, le);
  least = λ x y le. omega (arith, le);
  inside = λ x y c from to. (omega (arith, from), omega (arith, to));
}

counts_in : (s : Sampling) (d : Depth) → Counts (pixel_group s d).pixels
counts_in s d = with_pixels Counts s d one_column two_columns four_columns

-- ---- the cells of a column are some of its group's

abbrev pub pixels_in : Raster → ℕ
pixels_in r = (pixel_group r.format.sampling r.format.depth).pixels

pub cell_is : (r : Raster) (row group i : ℕ)
    → i < (pixel_group r.format.sampling r.format.depth).samples
    → cell_at r (place r.format (group_start r.format row group + i))
    ≡ get_or (group_cells r row group) i Missing
cell_is r row group i lt =
    let at : ℕ = group_start r.format row group in
    ap (λ (k : ℕ). get_or r.cells k Missing) (number_of-place r.format (at + i))
    ∙ sym (get_or-drop at r.cells i Missing)
    ∙ sym (get_or-take (pixel_group r.format.sampling r.format.depth).samples (drop at r.cells) i
    Missing lt)

in_its_group : (r : Raster) (row column component : ℕ)
    → IsPosition (in_column row column component) r.format
    → (i : ℕ) × (i < (pixel_group r.format.sampling r.format.depth).samples)
    × (cell_at r (in_column row column component)
    ≡ get_or (group_cells r row (column / pixels_in r)) i Missing)
in_its_group r row column component is =
    let f : Format = r.format in
    let p : Position = in_column row column component in
    let group : ℕ = column / pixels_in r in
    let n : ℕ = (pixel_group f.sampling f.depth).samples in
    let start : ℕ = group_start f row group in
    let found : (k : ℕ) × IsMember k (range_with_len start n) × (p ≡ place f k) =
    member-map (place f) p (range_with_len start n) (member-group_positions f p is) in
    let k : ℕ = found.0 in
    let around : (start ≤ k) × (k < start + n) = member-range start n k found.1 in
    let at : k ≡ start + (k - start) = omega (arith, around.0) in
    let below : k - start < n = omega (arith, around.0, around.1) in (
      k - start,
      below,
      ap (cell_at r) (found.2 ∙ ap (place f) at) ∙ cell_is r row group (k - start) below,
    )

alike : (r : Raster) (row column : ℕ) (b : Bool)
    → length (group_cells r row (column / pixels_in r))
    ≡ (pixel_group r.format.sampling r.format.depth).samples
    → ((i : ℕ) → i < length (group_cells r row (column / pixels_in r))
    → is_missing (get_or (group_cells r row (column / pixels_in r)) i Missing) ≡ b)
    → (component : ℕ) → IsPosition (in_column row column component) r.format
    → is_missing (cell_at r (in_column row column component)) ≡ b
alike r row column b long each component is =
    let t = in_its_group r row column component is in
    ap is_missing t.2 ∙ each t.0 (omega (arith, t.1, long))

-- component 0 stands at each column
has_first : (s : Sampling) (column : ℕ) → HasComponent s column 0
has_first Ycc422 column = (omega arith, inl refl)
has_first Ycc444 column = omega arith
has_first Rgb column = omega arith

-- ---- a column is known where its group is

pub record AreTold (r : Raster) (row : ℕ) : Type 0 where
  pub known : (c : ℕ) → c < r.format.width → IsNoted (known_groups r row) (c / pixels_in r)
      → IsKnown r row c
  pub unknown : (c : ℕ) → c < r.format.width
      → (IsNoted (known_groups r row) (c / pixels_in r) → ⊥) → IsUnknown r row c
  pub noted : (c : ℕ) → c < r.format.width → IsKnown r row c
      → IsNoted (known_groups r row) (c / pixels_in r)
  pub unnoted : (c : ℕ) → c < r.format.width → IsUnknown r row c
      → IsNoted (known_groups r row) (c / pixels_in r) → ⊥

noted_is : (r : Raster) (row group : ℕ) → group < row_groups r.format
    → get_or (known_groups r row).noted group false
    ≡ not (list_all is_missing (group_cells r row group))
noted_is r row group below =
    get_or-map-range_with_len (λ k. not (list_all is_missing (group_cells r row k))) 0
    (row_groups r.format) group group false below (omega arith)

pub group_below : (r : Raster) (c : ℕ) → c < r.format.width → c / pixels_in r < row_groups r.format
group_below r c lt =
    let is = counts_in r.format.sampling r.format.depth in
    let wide : pixels_in r * row_groups r.format ≡ r.format.width =
    is.whole r.format.width r.format.whole_width.whole_groups in
    (is.inside 0 (row_groups r.format) c (omega arith) (omega (arith, lt, wide))).1

are_told : (r : Raster) (row : ℕ) → IsWhole r → GroupsAreWhole r → row < r.format.height
    → AreTold r row
are_told r row whole groups inside =
    let cells : ℕ → List Cell = λ c. group_cells r row (c / pixels_in r) in
    let below : (c : ℕ) → c < r.format.width → c / pixels_in r < row_groups r.format =
    group_below r in
    let long : (c : ℕ) → c < r.format.width
    → length (cells c) ≡ (pixel_group r.format.sampling r.format.depth).samples =
    λ c lt. group_long r row (c / pixels_in r) whole inside (below c lt) in
    let some : (c : ℕ) → c < r.format.width → 0 < length (cells c) =
    λ c lt. group_some r row (c / pixels_in r) whole inside (below c lt) in
    let flag : (c : ℕ) (b : Bool) → c < r.format.width
    → ((i : ℕ) → i < length (cells c) → is_missing (get_or (cells c) i Missing) ≡ b)
    → get_or (known_groups r row).noted (c / pixels_in r) false ≡ not b =
    λ c b lt each. noted_is r row (c / pixels_in r) (below c lt)
    ∙ ap not (all_same b (cells c) each (some c lt)) in
    let first : (c : ℕ) → c < r.format.width → IsPosition (in_column row c 0) r.format =
    λ c lt. record {
      row = inside;
      column = lt;
      component = has_first r.format.sampling c;
    } in
    record {
      known =
          λ c lt noted. elim (groups row (c / pixels_in r) inside (below c lt)) [
            | inl all ↦
                let e : true ≡ false = sym noted ∙ flag c true lt all in absurd cc
            | inr none ↦ alike r row c false (long c lt) none
          ];
      unknown =
          λ c lt other. elim (groups row (c / pixels_in r) inside (below c lt)) [
            | inl all ↦ alike r row c true (long c lt) all
            | inr none ↦ absurd (other (flag c false lt none))
          ];
      noted =
          λ c lt known. elim (groups row (c / pixels_in r) inside (below c lt)) [
            | inl all ↦
                let e : true ≡ false =
                sym (alike r row c true (long c lt) all 0 (first c lt)) ∙ known 0 (first c lt) in
                absurd cc
            | inr none ↦ flag c false lt none
          ];
      unnoted =
          λ c lt unknown noted. elim (groups row (c / pixels_in r) inside (below c lt)) [
            | inl all ↦
                let e : true ≡ false = sym noted ∙ flag c true lt all in cc
            | inr none ↦
                let e : true ≡ false =
                sym (unknown 0 (first c lt)) ∙ alike r row c false (long c lt) none 0 (first c lt) in
                cc
          ];
    }

-- ---- a run of groups as one of columns

record Width (r : Raster) (row : ℕ) : Type 0 where
  told : AreTold r row
  wide : pixels_in r * row_groups r.format ≡ r.format.width
  long : length (known_groups r row).noted ≡ row_groups r.format

width_of : (r : Raster) (row : ℕ) → IsWhole r → GroupsAreWhole r → row < r.format.height
    → Width r row
width_of r row whole groups inside = record {
  told = are_told r row whole groups inside;
  wide =
      (counts_in r.format.sampling r.format.depth).whole r.format.width
      r.format.whole_width.whole_groups;
  long =
      length-map-range_with_len (λ k. not (list_all is_missing (group_cells r row k))) 0
      (row_groups r.format);
}

to_columns : (r : Raster) (row s len : ℕ) → Width r row
    → IsMissingRun (known_groups r row) s len
    → IsUnknownRun r row (columns_of (pixels_in r) (s, len))
to_columns r row s len is run =
    let p : ℕ = pixels_in r in
    let w : ℕ = r.format.width in
    let n : ℕ = row_groups r.format in
    let counts : Counts p = counts_in r.format.sampling r.format.depth in
    let wide : p * n ≡ w = is.wide in
    let long : length (known_groups r row).noted ≡ n = is.long in
    let some : 0 < len = run.some in
    let ends : s + len ≤ n = omega (arith, run.within, long) in
    let within : p * (s + len) ≤ p * n = counts.most (s + len) n ends in
    record {
      some = counts.rises s (s + len) (omega (arith, some));
      within = omega (arith, within, wide);
      unknown =
          λ c from to.
          (let around = counts.inside s (s + len) c from to in
          is.told.unknown c (omega (arith, to, within, wide))
          (run.missing (c / p) around.0 around.1));
      before =
          λ more.
          (let first : 0 < s = counts.falls 0 s (omega (arith, more)) in
          let below : p * s ≤ p * (s + len) = counts.most s (s + len) (omega arith) in
          is.told.known (p * s - 1) (omega (arith, more, within, wide, below))
          (subst (IsNoted (known_groups r row)) (sym (counts.last s first)) (run.before first)));
      behind =
          λ more.
          (let left : s + len < n = counts.falls (s + len) n (omega (arith, more, wide)) in
          is.told.known (p * (s + len)) more
          (subst (IsNoted (known_groups r row)) (sym (counts.again (s + len)))
          (run.behind (omega (arith, left, long)))));
    }

-- ---- and a run of columns as one of groups

starts_whole : (r : Raster) (row : ℕ) (run : Range ℕ) → Width r row → IsUnknownRun r row run
    → run.start % pixels_in r ≡ 0
starts_whole r row run is maximal =
    let p : ℕ = pixels_in r in
    let counts : Counts p = counts_in r.format.sampling r.format.depth in
    let some : run.start < run.end = maximal.some in
    let within : run.end ≤ r.format.width = maximal.within in
    elim (cases_eq (run.start % p) 0) [
      | inl e ↦ e
      | inr other ↦ elim (cases_eq run.start 0) [
        | inl start ↦ ap (λ (k : ℕ). k % p) start ∙ counts.none
        | inr more ↦
            absurd (is.told.unnoted run.start (omega (arith, some, within))
            (maximal.unknown run.start (omega arith) some)
            (subst (IsNoted (known_groups r row)) (counts.same run.start other)
            (is.told.noted (run.start - 1) (omega (arith, some, within))
            (maximal.before (omega (arith, more))))))
      ]
    ]

ends_whole : (r : Raster) (row : ℕ) (run : Range ℕ) → Width r row → IsUnknownRun r row run
    → run.end % pixels_in r ≡ 0
ends_whole r row run is maximal =
    let p : ℕ = pixels_in r in
    let w : ℕ = r.format.width in
    let counts : Counts p = counts_in r.format.sampling r.format.depth in
    let some : run.start < run.end = maximal.some in
    let within : run.end ≤ w = maximal.within in
    elim (cases_eq (run.end % p) 0) [
      | inl e ↦ e
      | inr other ↦ elim (cases_eq run.end w) [
        | inl end ↦ ap (λ (k : ℕ). k % p) end ∙ r.format.whole_width.whole_groups
        | inr more ↦
            let short : run.end < w = omega (arith, within, more) in
            absurd (is.told.unnoted (run.end - 1) (omega (arith, short))
            (maximal.unknown (run.end - 1) (omega (arith, some)) (omega (arith, some)))
            (subst (IsNoted (known_groups r row)) (sym (counts.same run.end other))
            (is.told.noted run.end short (maximal.behind short))))
      ]
    ]

-- a run of columns, by its groups
record OfGroups (r : Raster) (row : ℕ) (run : Range ℕ) : Type 0 where
  first : ℕ
  count : ℕ
  is : IsMissingRun (known_groups r row) first count
  same : run ≡ columns_of (pixels_in r) (first, count)

of_groups : (r : Raster) (row : ℕ) (run : Range ℕ) → Width r row → IsUnknownRun r row run
    → OfGroups r row run
of_groups r row run is maximal =
    let p : ℕ = pixels_in r in
    let w : ℕ = r.format.width in
    let n : ℕ = row_groups r.format in
    let m : Numbers = known_groups r row in
    let counts : Counts p = counts_in r.format.sampling r.format.depth in
    let wide : p * n ≡ w = is.wide in
    let long : length m.noted ≡ n = is.long in
    let some : run.start < run.end = maximal.some in
    let within : run.end ≤ w = maximal.within in
    let s : ℕ = run.start / p in
    let e : ℕ = run.end / p in
    let start : p * s ≡ run.start = counts.whole run.start (starts_whole r row run is maximal) in
    let end : p * e ≡ run.end = counts.whole run.end (ends_whole r row run is maximal) in
    let order : s < e = counts.falls s e (omega (arith, start, end, some)) in
    let last : e ≤ n = counts.least e n (omega (arith, end, wide, within)) in
    let up : s + (e - s) ≡ e = omega (arith, order) in
    record {
      first = s;
      count = e - s;
      is = record {
        some = omega (arith, order);
        within = omega (arith, up, last, long);
        missing =
            λ place from to noted.
            (let low : p * s ≤ p * place = counts.most s place from in
            let high : p * place < p * e = counts.rises place e (omega (arith, to, up)) in
            is.told.unnoted (p * place) (omega (arith, high, end, within))
            (maximal.unknown (p * place) (omega (arith, low, start)) (omega (arith, high, end)))
            (subst (IsNoted m) (sym (counts.again place)) noted));
        before =
            λ more.
            (let low : p * 0 < p * s = counts.rises 0 s more in
            let first : 0 < run.start = omega (arith, low, start) in
            subst (IsNoted m)
            (ap (λ (k : ℕ). (k - 1) / p) (sym start) ∙ counts.last s more)
            (is.told.noted (run.start - 1) (omega (arith, some, within))
            (maximal.before first)));
        behind =
            λ more.
            (let left : e < n = omega (arith, more, up, long) in
            let short : p * e < p * n = counts.rises e n left in
            let behind : run.end < w = omega (arith, short, end, wide) in
            subst (IsNoted m) (sym up)
            (is.told.noted run.end behind (maximal.behind behind)));
      };
      same =
          ap (λ (k : ℕ). record { start = k; end = run.end }) (sym start)
          ∙ ap (λ (k : ℕ). record { start = p * s; end = k })
          (sym end ∙ ap (λ (k : ℕ). p * k) (sym up));
    }

-- ---- all runs, in rising order

member_at : {X : Type 0} (xs : List X) (k : ℕ) (d : X) → k < length xs
    → IsMember (get_or xs k d) xs
member_at [] k d lt = absurd (omega (arith, lt))
member_at (x ∷ xs) zero d lt = inl refl
member_at (x ∷ xs) (suc k) d lt = inr (member_at xs k d (omega (arith, lt)))

place_is : (r : Raster) (row s : ℕ) → s < 2 ^ 32 → number_place (known_groups r row) s ≡ s
place_is r row s small = omega (arith, small)

start_at : (p k : ℕ) (gs : List (ℕ × ℕ)) → k < length gs
    → get_or (map (λ (run : Range ℕ). run.start) (map (columns_of p) gs)) k 0
    ≡ p * (get_or gs k (0, 0)).0
start_at p k gs lt =
    let long : length (map (columns_of p) gs) ≡ length gs = length-map gs (columns_of p) in
    get_or-map (λ (run : Range ℕ). run.start) (map (columns_of p) gs) k (columns_of p (0, 0)) 0
    (omega (arith, lt, long))
    ∙ ap (λ (run : Range ℕ). run.start)
    (get_or-map (columns_of p) gs k (0, 0) (columns_of p (0, 0)) lt)

in_order : (r : Raster) (row : ℕ) → AreMissingRuns (known_groups r row) (missing_runs_in r row)
    → IsStrictlyIncreasing (map (λ (run : Range ℕ). run.start) (unknown_runs r row))
in_order r row are k below =
    let p : ℕ = pixels_in r in
    let m : Numbers = known_groups r row in
    let gs : List (ℕ × ℕ) = missing_runs_in r row in
    let placed : (ℕ × ℕ) → ℕ = λ run. number_place m run.0 in
    let counts : Counts p = counts_in r.format.sampling r.format.depth in
    let long : length (map (columns_of p) gs) ≡ length gs = length-map gs (columns_of p) in
    let starts : length (map (λ (run : Range ℕ). run.start) (map (columns_of p) gs))
    ≡ length (map (columns_of p) gs) =
    length-map (map (columns_of p) gs) (λ (run : Range ℕ). run.start) in
    let lt : k + 1 < length gs = omega (arith, below, starts, long) in
    let here : k < length gs = omega (arith, lt) in
    let s : ℕ = (get_or gs k (0, 0)).0 in
    let t : ℕ = (get_or gs (k + 1) (0, 0)).0 in
    let small : s < 2 ^ 32 =
    ((are.each s (get_or gs k (0, 0)).1).0 (member_at gs k (0, 0) here)).0 in
    let little : t < 2 ^ 32 =
    ((are.each t (get_or gs (k + 1) (0, 0)).1).0 (member_at gs (k + 1) (0, 0) lt)).0 in
    let count : length (map placed gs) ≡ length gs = length-map gs placed in
    let rises = are.order k (omega (arith, lt, count)) in
    let left : get_or (map placed gs) k 0 ≡ s =
    get_or-map placed gs k (0, 0) 0 here ∙ place_is r row s small in
    let right : get_or (map placed gs) (k + 1) 0 ≡ t =
    get_or-map placed gs (k + 1) (0, 0) 0 lt ∙ place_is r row t little in
    let up : s < t =
    subst (λ (x : ℕ). x < t) left
    (subst (λ (x : ℕ). get_or (map placed gs) k 0 < x) right rises) in
    subst (λ (x : ℕ). x
    < get_or (map (λ (run : Range ℕ). run.start) (map (columns_of p) gs)) (k + 1) 0)
    (sym (start_at p k gs here))
    (subst (λ (x : ℕ). p * s < x) (sym (start_at p (k + 1) gs lt)) (counts.rises s t up))

pub are_unknown_runs : (r : Raster) (row : ℕ) → IsWhole r → GroupsAreWhole r
    → row < r.format.height → AreUnknownRuns r row (unknown_runs r row)
are_unknown_runs r row whole groups inside =
    let p : ℕ = pixels_in r in
    let m : Numbers = known_groups r row in
    let gs : List (ℕ × ℕ) = missing_runs_in r row in
    let are : AreMissingRuns m gs = maximal r row in
    let is : Width r row = width_of r row whole groups inside in
    let long : length m.noted ≡ row_groups r.format = is.long in
    let few = groups_few r in
    record {
      each =
          λ run. (
            λ member.
                (let found : (g : ℕ × ℕ) × IsMember g gs × (run ≡ columns_of p g) =
                member-map (columns_of p) run gs member in
                let told = (are.each found.0.0 found.0.1).0 found.1 in
                subst (IsUnknownRun r row) (sym found.2)
                (to_columns r row found.0.0 found.0.1 is
                (subst (λ (x : ℕ). IsMissingRun m x found.0.1)
                (place_is r row found.0.0 told.0) told.1))),
            λ unknown.
                (let o : OfGroups r row run = of_groups r row run is unknown in
                let some : 0 < o.count = o.is.some in
                let small : o.first < 2 ^ 32 = omega (arith, o.is.within, long, few, some) in
                subst (λ (q : Range ℕ). IsMember q (map (columns_of p) gs)) (sym o.same)
                (member_of_map (columns_of p) (o.first, o.count) gs
                ((are.each o.first o.count).1 (
                  small,
                  subst (λ (x : ℕ). IsMissingRun m x o.count)
                      (sym (place_is r row o.first small)) o.is,
                )))),
          );
      order = in_order r row are;
    }
