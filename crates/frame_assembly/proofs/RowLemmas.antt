-- Rows and groups of a raster, in the code's numbers.
use Rattle.std.proofs.Common.{◌≡◌, ℕ, ◌+◌, ◌-◌, ◌*◌, ◌<◌, ◌≤◌, List, length, get_or, take, drop}
use Rattle.std.proofs.Common.{map, sym, ap, ◌∙◌, subst, arith}
use Rattle.std.proofs.lemmas.List.{get_or-drop, get_or-take, length-take}
use Rattle.std.proofs.Math.Nat.{mul-add}
use Rattle.st_format.specs.declared.format.Format.{Format}
use Rattle.st_format.specs.Pgroup.{bits_of, pixel_group}
use Rattle.st_format.specs.Position.{row_groups, row_samples, group_count}
use Rattle.st_format.specs.Raster.{Raster}
use Rattle.st_format.specs.Samples.{Spells}
use Rattle.frame_assembly.specs.Packed.{ArePacked, cells_in}
use Rattle.st_format.specs.Cell.{known_value}
use Rattle.frame_assembly.specs.Rows.{IsMarkOf, group_cells, row_cells}
use Rattle.frame_assembly.proofs.PackedLemmas.{sizes}
use Rattle.frame_assembly.proofs.Runs.{times_le}
use Rattle.st_format.proofs.Columns.{row_samples_groups}
use Rattle.frame_assembly.proofs.Segments.{row_ends, swap_first}
use Rattle.frame_assembly.proofs.GroupCells.{group_mark, part_spelled}

abbrev pub raster_in : Format → List ℕ → List ℕ → Raster
raster_in f marks octets = record { format = f; cells = cells_in f marks octets }

-- a row, or a group of it, ends in the raster
pub row_inside : (f : Format) (marks : List ℕ) (row : ℕ) → length marks ≡ group_count f
    → row < f.height → row * row_groups f + row_groups f ≤ length marks
row_inside f marks row whole lt =
    omega (arith, row_ends row f.height (row_groups f) (row_groups f) lt (omega arith))

pub group_inside : (f : Format) (marks : List ℕ) (row group : ℕ) → length marks ≡ group_count f
    → row < f.height → group < row_groups f → row * row_groups f + group < length marks
group_inside f marks row group whole lt below = omega (arith, row_inside f marks row whole lt)

pub octets_inside : (f : Format) (marks octets : List ℕ) (at count z : ℕ)
    → ArePacked f marks octets → at + count ≤ length marks
    → z ≡ (pixel_group f.sampling f.depth).octets → z * (at + count) ≤ length octets
octets_inside f marks octets at count z packed le same =
    let size : ℕ = (pixel_group f.sampling f.depth).octets in
    let e : z * (at + count) ≡ size * (at + count) = ap (λ (k : ℕ). k * (at + count)) same in
    omega (arith, packed.long, times_le size (at + count) (length marks) le)

row_spelled_here : (f : Format) (marks octets : List ℕ) (row : ℕ) → length marks ≡ group_count f
    → ArePacked f marks octets → row < f.height
    → Spells (bits_of f.depth)
    (take ((pixel_group f.sampling f.depth).octets * (row * row_groups f + row_groups f) -
    (pixel_group f.sampling f.depth).octets * (row * row_groups f))
    (drop ((pixel_group f.sampling f.depth).octets * (row * row_groups f)) octets))
    (map known_value (row_cells (raster_in f marks octets) row))
row_spelled_here f marks octets row whole packed lt =
    let size : ℕ = (pixel_group f.sampling f.depth).octets in
    let s : ℕ = (pixel_group f.sampling f.depth).samples in
    let at : ℕ = row * row_groups f in
    let count : size * (at + row_groups f) - size * at ≡ size * row_groups f =
    omega (arith, mul-add size at (row_groups f)) in
    let first : s * at ≡ row * row_samples f =
    swap_first s row (row_groups f) ∙ ap (λ (x : ℕ). row * x) (row_samples_groups f) in
    subst (λ (k : ℕ). Spells (bits_of f.depth) (take k (drop (size * at) octets))
    (map known_value (row_cells (raster_in f marks octets) row))) (sym count)
    (subst (λ (k : ℕ). Spells (bits_of f.depth)
    (take (size * row_groups f) (drop (size * at) octets))
    (map known_value (take k (drop (row * row_samples f) (cells_in f marks octets)))))
    (row_samples_groups f)
    (subst (λ (k : ℕ). Spells (bits_of f.depth)
    (take (size * row_groups f) (drop (size * at) octets))
    (map known_value (take (s * row_groups f) (drop k (cells_in f marks octets))))) first
    (part_spelled (bits_of f.depth) size s at (row_groups f) marks octets
    (sizes f.sampling f.depth) (row_inside f marks row whole lt) packed)))

pub row_spelled : (f : Format) (marks octets : List ℕ) (row z count : ℕ)
    → z ≡ (pixel_group f.sampling f.depth).octets → count ≡ row_groups f
    → length marks ≡ group_count f → ArePacked f marks octets → row < f.height
    → Spells (bits_of f.depth)
    (take (z * (row * count + count) - z * (row * count)) (drop (z * (row * count)) octets))
    (map known_value (row_cells (raster_in f marks octets) row))
row_spelled f marks octets row z count same_size same_count whole packed lt =
    let values : List ℕ = map known_value (row_cells (raster_in f marks octets) row) in
    subst (λ (y : ℕ). Spells (bits_of f.depth)
    (take (y * (row * count + count) - y * (row * count))
    (drop (y * (row * count)) octets)) values) (sym same_size)
    (subst (λ (c : ℕ). Spells (bits_of f.depth)
    (take ((pixel_group f.sampling f.depth).octets * (row * c + c) -
    (pixel_group f.sampling f.depth).octets * (row * c))
    (drop ((pixel_group f.sampling f.depth).octets * (row * c)) octets)) values)
    (sym same_count)
    (row_spelled_here f marks octets row whole packed lt))

-- the mark words of a row
pub row_marks : (f : Format) (marks octets : List ℕ) (row count : ℕ) → count ≡ row_groups f
    → length marks ≡ group_count f → ArePacked f marks octets → row < f.height
    → (group : ℕ) → group < row_groups f
    → IsMarkOf
    (get_or (take (row * count + count - row * count) (drop (row * count) marks)) group 0)
    (group_cells (raster_in f marks octets) row group)
row_marks f marks octets row count same whole packed lt group below =
    let k : ℕ = row * row_groups f + group in
    let at : row * count ≡ row * row_groups f = ap (λ (c : ℕ). row * c) same in
    let read : get_or (take (row * count + count - row * count) (drop (row * count) marks)) group 0
    ≡ get_or marks k 0 =
    get_or-take (row * count + count - row * count) (drop (row * count) marks) group 0
    (omega arith) ∙ get_or-drop (row * count) marks group 0
    ∙ ap (λ (j : ℕ). get_or marks (j + group) 0) at in
    subst (λ (m : ℕ). IsMarkOf m (group_cells (raster_in f marks octets) row group)) (sym read)
    (group_mark (bits_of f.depth) (pixel_group f.sampling f.depth).octets
    (pixel_group f.sampling f.depth).samples k marks octets (sizes f.sampling f.depth)
    (group_inside f marks row group whole lt below) packed)

-- the octets of a group
pub group_spelled : (f : Format) (marks octets : List ℕ) (row group z at : ℕ)
    → z ≡ (pixel_group f.sampling f.depth).octets → at ≡ row * row_groups f + group
    → length marks ≡ group_count f → ArePacked f marks octets
    → row < f.height → group < row_groups f
    → Spells (bits_of f.depth) (take (z * (at + 1) - z * at) (drop (z * at) octets))
    (map known_value (group_cells (raster_in f marks octets) row group))
group_spelled f marks octets row group z at same is_at whole packed lt below =
    let size : ℕ = (pixel_group f.sampling f.depth).octets in
    let s : ℕ = (pixel_group f.sampling f.depth).samples in
    let k : ℕ = row * row_groups f + group in
    let count : size * (k + 1) - size * k ≡ size * 1 = omega (arith, mul-add size k 1) in
    let one : s * 1 ≡ s = omega arith in
    let values : List ℕ = map known_value (group_cells (raster_in f marks octets) row group) in
    subst (λ (y : ℕ). Spells (bits_of f.depth)
    (take (y * (at + 1) - y * at) (drop (y * at) octets)) values) (sym same)
    (subst (λ (j : ℕ). Spells (bits_of f.depth)
    (take (size * (j + 1) - size * j) (drop (size * j) octets)) values) (sym is_at)
    (subst (λ (j : ℕ). Spells (bits_of f.depth) (take j (drop (size * k) octets)) values)
    (sym count)
    (subst (λ (j : ℕ). Spells (bits_of f.depth) (take (size * 1) (drop (size * k) octets))
    (map known_value (take j (drop (s * k) (cells_in f marks octets))))) one
    (part_spelled (bits_of f.depth) size s k 1 marks octets (sizes f.sampling f.depth)
    (omega (arith, group_inside f marks row group whole lt below)) packed))))

-- the mark word of a group
pub group_marks : (f : Format) (marks octets : List ℕ) (row group at : ℕ)
    → at ≡ row * row_groups f + group → length marks ≡ group_count f → ArePacked f marks octets
    → row < f.height → group < row_groups f
    → IsMarkOf (get_or marks at 0) (group_cells (raster_in f marks octets) row group)
group_marks f marks octets row group at is_at whole packed lt below =
    subst (λ (j : ℕ). IsMarkOf (get_or marks j 0)
    (group_cells (raster_in f marks octets) row group)) (sym is_at)
    (group_mark (bits_of f.depth) (pixel_group f.sampling f.depth).octets
    (pixel_group f.sampling f.depth).samples (row * row_groups f + group) marks octets
    (sizes f.sampling f.depth)
    (group_inside f marks row group whole lt below) packed)

pub group_few : (f : Format) (marks octets : List ℕ) (row group : ℕ)
    → length (group_cells (raster_in f marks octets) row group) ≤ 12
group_few f marks octets row group =
    let is = sizes f.sampling f.depth in
    let few = is.few in
    omega (
      arith,
      length-take (pixel_group f.sampling f.depth).samples
          (drop ((pixel_group f.sampling f.depth).samples * (row * row_groups f + group))
          (cells_in f marks octets)),
    )
