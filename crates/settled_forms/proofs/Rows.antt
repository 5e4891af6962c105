-- Rows of which each sample has a value: their octets spell the settled samples.
use Rattle.std.proofs.Common.{◌≡◌, ℕ, ◌+◌, ◌*◌, ◌/◌, ◌%◌, ◌<◌, ◌≤◌, true, List, [], ◌++◌, length}
use Rattle.std.proofs.Common.{get_or, take, drop, map, refl, sym, ap, ◌∙◌, arith}
use Rattle.std.specs.List.{range_with_len}
use Rattle.std.proofs.lemmas.Grind.{same_number_lists}
use Rattle.std.proofs.lemmas.List.{get_or-drop, get_or-map, get_or-take, length-drop, length-map}
use Rattle.std.proofs.lemmas.List.{length-take-le}
use Rattle.std.proofs.lemmas.List.FromFn.{get_or-map-range_with_len, length-map-range_with_len}
use Rattle.std.proofs.lemmas.Slice.{take-put_mid}
use Rattle.std.proofs.Math.Nat.{div-add-mod}
use borrow.Rule.Slice.PartMut.{put_mid}
use Rattle.st_format.specs.declared.cell.Cell.{Cell}
use Rattle.st_format.specs.declared.cell.Cell.TheVariants.{Missing, Value, Contested}
use Rattle.st_format.specs.declared.format.Format.{Format}
use Rattle.st_format.specs.declared.sampling.Depth.{Depth}
use Rattle.st_format.specs.declared.sampling.Depth.TheVariants.{D10}
use Rattle.st_format.specs.declared.sampling.Sampling.{Sampling}
use Rattle.st_format.specs.declared.sampling.Sampling.TheVariants.{Ycc422}
use Rattle.st_format.specs.Cell.{is_present, known_value}
use Rattle.st_format.specs.Pgroup.{bits_of, pixel_group}
use Rattle.st_format.specs.Picture.{Values}
use Rattle.st_format.specs.Position.{row_groups, row_octets, row_samples}
use Rattle.st_format.specs.Raster.{IsWhole, Raster}
use Rattle.st_format.specs.Samples.{Spells, values_in}
use Rattle.st_format.proofs.Columns.{row_samples_groups}
use Rattle.st_format.proofs.Spelled.{values_in-spelled}
use Rattle.pgroup_pack.proofs.Values.{bits_of_pos}
use Rattle.frame_assembly.specs.declared.base.Base.{Base}
use Rattle.frame_assembly.specs.Marks.{state_of_mark}
use Rattle.frame_assembly.specs.Rows.{IsStateOf, group_cells, row_cells}
use Rattle.frame_assembly.specs.Settled.{IsBaseOf, base_number, settled_cell, settled_picture}
use Rattle.frame_assembly.proofs.MissingFlags.{group_long}
use Rattle.frame_assembly.proofs.PackedLemmas.{sizes}
use Rattle.frame_assembly.proofs.Segments.{row_ends}
use Rattle.frame_assembly.proofs.SettledLemmas.{settled-samples}
use Rattle.picture_forms.specs.Layouts.{plane_first, plane_step, y4m_spelling}
use Rattle.picture_forms.specs.Planes.{every_text, sample_size}
use Rattle.picture_forms.proofs.Texts.{every_append, every_none}
use Rattle.settled_forms.specs.Packed.{ten_bit_text}
use Rattle.settled_forms.specs.Pieces.{group_share, groups_text, row_size, rows_text}
use Rattle.settled_forms.specs.Settled.{RowHasValues}
use Rattle.settled_forms.proofs.Groups.{groups_apart, share_steps, times_both}

-- the cells of a row are some of the raster's
row_inside : (r : Raster) (row : ℕ) → IsWhole r → row < r.format.height
    → row * row_samples r.format + row_samples r.format ≤ length r.cells
row_inside r row whole lt =
    let many : ℕ = row_samples r.format in
    omega (arith, whole, row_ends row r.format.height many many lt (omega arith))

cell_of_row : (r : Raster) (row k : ℕ) → k < row_samples r.format
    → get_or (row_cells r row) k Missing ≡ get_or r.cells (row * row_samples r.format + k) Missing
cell_of_row r row k lt =
    get_or-take (row_samples r.format) (drop (row * row_samples r.format) r.cells) k Missing lt
    ∙ get_or-drop (row * row_samples r.format) r.cells k Missing

-- a number below a product, as one of a group and one in it
group_below : (s wide k : ℕ) → 0 < s → k < s * wide → k / s < wide
group_below s wide k some lt = grind (arith, div-add-mod k s)

-- where the mark of each pgroup says that it is whole, each cell has a value
pub row_has_values : (r : Raster) (row : ℕ) (marks : List ℕ) → IsWhole r → row < r.format.height
    → length marks ≡ row_groups r.format
    → ((group : ℕ) → group < row_groups r.format
    → IsStateOf (state_of_mark (get_or marks group 0)) (group_cells r row group))
    → ((k : ℕ) → k < length marks → get_or marks k 0 ≡ 32768)
    → RowHasValues r row
row_has_values r row marks whole lt long states marked k below =
    let f : Format = r.format in
    let s : ℕ = (pixel_group f.sampling f.depth).samples in
    let wide : ℕ = row_groups f in
    let is = sizes f.sampling f.depth in
    let some : 0 < s = is.some in
    let many : s * wide ≡ row_samples f = row_samples_groups f in
    let group : ℕ = k / s in
    let i : ℕ = k % s in
    let k_is : s * group + i ≡ k = div-add-mod k s in
    let i_below : i < s = omega arith in
    let inside : group < wide = group_below s wide k some (omega (arith, many, below)) in
    let start : s * (row * wide + group) + i ≡ row * (s * wide) + (s * group + i) = omega arith in
    let at : s * (row * wide + group) + i ≡ row * row_samples f + k =
    start ∙ ap (λ (x : ℕ). row * x + (s * group + i)) many
    ∙ ap (λ (x : ℕ). row * row_samples f + x) k_is in
    let here : get_or (group_cells r row group) i Missing ≡ get_or (row_cells r row) k Missing =
    get_or-take s (drop (s * (row * wide + group)) r.cells) i Missing i_below
    ∙ get_or-drop (s * (row * wide + group)) r.cells i Missing
    ∙ ap (λ (x : ℕ). get_or r.cells x Missing) at
    ∙ sym (cell_of_row r row k below) in
    let mark : get_or marks group 0 ≡ 32768 = marked group (omega (arith, long, inside)) in
    let state : IsStateOf (state_of_mark 32768) (group_cells r row group) =
    rw mark at (states group inside) in
    ap is_present (sym here)
    ∙ state i (omega (arith, group_long r row group whole lt inside, i_below))

-- what is kept of a cell that has a value is that value
present_known : (c : Cell) (fill : ℕ) → is_present c ≡ true → known_value c ≡ settled_cell c fill
unfolding known_value
present_known Missing fill is = cc
present_known (Value v) fill is = refl
present_known Contested fill is = cc

-- and the octets of such a row spell what is settled
pub row_settled : {A : Type 0} (r : Raster) (base : Base A) (row : ℕ) (packed : List ℕ)
    → IsBaseOf base r.format → IsWhole r → row < r.format.height
    → Spells (bits_of r.format.depth) packed (map known_value (row_cells r row))
    → RowHasValues r row
    → values_in (bits_of r.format.depth) packed
    ≡ take ((pixel_group r.format.sampling r.format.depth).samples * row_groups r.format)
    (drop ((pixel_group r.format.sampling r.format.depth).samples * (row_groups r.format * row))
    (settled_picture r base).samples)
row_settled r base row packed is whole lt spelled has =
    let f : Format = r.format in
    let s : ℕ = (pixel_group f.sampling f.depth).samples in
    let wide : ℕ = row_groups f in
    let many : ℕ = row_samples f in
    let settle = λ (k : ℕ). settled_cell (get_or r.cells k Missing)
    (base_number f.sampling base k) in
    let all : List ℕ = map settle (range_with_len 0 (length r.cells)) in
    let left : List ℕ = map known_value (row_cells r row) in
    let right : List ℕ = take many (drop (row * many) all) in
    let same : s * wide ≡ many = row_samples_groups f in
    let turn : s * (wide * row) ≡ row * (s * wide) = omega arith in
    let from : s * (wide * row) ≡ row * many = turn ∙ ap (λ (x : ℕ). row * x) same in
    let samples : all ≡ (settled_picture r base).samples = settled-samples r base is whole in
    let inside : row * many + many ≤ length r.cells = row_inside r row whole lt in
    let long : length all ≡ length r.cells =
    length-map-range_with_len settle 0 (length r.cells) in
    let left_long : length left ≡ many =
    length-map (row_cells r row) known_value
    ∙ length-take-le many (drop (row * many) r.cells)
    (omega (arith, length-drop (row * many) r.cells, inside)) in
    let right_long : length right ≡ many =
    length-take-le many (drop (row * many) all)
    (omega (arith, length-drop (row * many) all, inside, long)) in
    values_in-spelled (bits_of f.depth) packed left (bits_of_pos f.depth) spelled
    ∙ same_number_lists left right (left_long ∙ sym right_long)
    (λ k below.
    let few : k < many = omega (arith, below, left_long) in
    get_or-map known_value (row_cells r row) k Missing 0
    (omega (arith, length-map (row_cells r row) known_value, below))
    ∙ present_known (get_or (row_cells r row) k Missing)
    (base_number f.sampling base (row * many + k)) (has k few)
    ∙ ap (λ (c : Cell). settled_cell c (base_number f.sampling base (row * many + k)))
    (cell_of_row r row k few)
    ∙ sym (get_or-take many (drop (row * many) all) k 0 few ∙ get_or-drop (row * many) all k 0
    ∙ get_or-map-range_with_len settle 0 (length r.cells) (row * many + k) (row * many + k) 0
    (omega (arith, inside, few)) (omega arith)))
    ∙ ap (λ (n : ℕ). take n (drop (row * many) all)) (sym same)
    ∙ ap (λ (n : ℕ). take (s * wide) (drop n all)) (sym from)
    ∙ ap (λ (xs : List ℕ). take (s * wide) (drop (s * (wide * row)) xs)) samples

-- ---- 4:2:2 at 10 bits

-- a pgroup has five octets of four samples
groups_of_ten : (s : Sampling) (d : Depth) → s ≡ Ycc422 → d ≡ D10
    → ((pixel_group s d).samples ≡ 4) × ((pixel_group s d).octets ≡ 5)
groups_of_ten s d sampling depth = rw (sampling, depth) (refl, refl)

-- what a row has of a component takes two octets a sample
pub size_of_ten : (f : Format) (c n : ℕ) → f.depth ≡ D10 → n ≡ row_size f c
    → n ≡ 2 * (group_share f c * row_groups f)
size_of_ten f c n depth is =
    is ∙ ap (λ (d : Depth). sample_size (y4m_spelling d) * (group_share f c * row_groups f)) depth

-- and lies in its octets
pub room_of_ten : (f : Format) (c n : ℕ) (packed : List ℕ) → f.sampling ≡ Ycc422
    → f.depth ≡ D10 → length packed ≡ row_octets f → n ≡ group_share f c * row_groups f
    → 5 * (plane_step Ycc422 c * n) ≤ 4 * length packed
room_of_ten f c n packed sampling depth long is =
    let wide : ℕ = row_groups f in
    let sizes = groups_of_ten f.sampling f.depth sampling depth in
    let steps : plane_step Ycc422 c * n ≡ 4 * wide =
    ap (λ (s : Sampling). plane_step s c * n) (sym sampling)
    ∙ ap (λ (k : ℕ). plane_step f.sampling c * k) is
    ∙ times_both (plane_step f.sampling c) (group_share f c)
    (pixel_group f.sampling f.depth).samples wide (share_steps f c)
    ∙ ap (λ (k : ℕ). k * wide) sizes.0 in
    let octets : length packed ≡ wide * 5 = long ∙ ap (λ (k : ℕ). wide * k) sizes.1 in
    omega (arith, steps, octets)

text_of_ten : (s : Sampling) (d : Depth) (c n : ℕ) (packed : List ℕ) → s ≡ Ycc422 → d ≡ D10
    → ten_bit_text c packed n
    ≡ every_text (y4m_spelling d) (values_in (bits_of d) packed) (plane_first s c)
    (plane_step s c) 0 n
text_of_ten s d c n packed sampling depth = rw (sampling, depth) refl

-- a row that is spelled from its octets
pub row_of_ten : {A : Type 0} (r : Raster) (base : Base A) (c row n : ℕ) (packed octets : List ℕ)
    → octets ≡ ten_bit_text c packed n → r.format.sampling ≡ Ycc422 → r.format.depth ≡ D10 → c < 3
    → n ≡ group_share r.format c * row_groups r.format
    → values_in (bits_of r.format.depth) packed
    ≡ take ((pixel_group r.format.sampling r.format.depth).samples * row_groups r.format)
    (drop ((pixel_group r.format.sampling r.format.depth).samples * (row_groups r.format * row))
    (settled_picture r base).samples)
    → octets
    ≡ groups_text (settled_picture r base) c (row_groups r.format * row) (row_groups r.format)
row_of_ten r base c row n packed octets spelled sampling depth lt is values =
    spelled ∙ ap (ten_bit_text c packed) is
    ∙ text_of_ten r.format.sampling r.format.depth c (group_share r.format c * row_groups r.format)
    packed sampling depth
    ∙ groups_apart (settled_picture r base) c (row_groups r.format * row) (row_groups r.format)
    (values_in (bits_of r.format.depth) packed) lt values

-- ---- rows, one behind the other

-- rows and one more
rows_more : (v : Values) (c first i : ℕ)
    → rows_text v c first i
    ++ groups_text v c (row_groups v.format * (first + i)) (row_groups v.format)
    ≡ rows_text v c first (i + 1)
rows_more v c first i =
    let f : Format = v.format in
    let share : ℕ = group_share f c in
    let wide : ℕ = row_groups f in
    let at : share * (wide * (first + i)) ≡ share * (wide * first) + share * (wide * i) =
    omega arith in
    let all : share * (wide * i) + share * wide ≡ share * (wide * (i + 1)) = omega arith in
    ap (λ (k : ℕ). rows_text v c first i
    ++ every_text (y4m_spelling f.depth) v.samples (plane_first f.sampling c)
    (plane_step f.sampling c) k (share * wide)) at
    ∙ sym (every_append (y4m_spelling f.depth) v.samples (plane_first f.sampling c)
    (plane_step f.sampling c) (share * (wide * first)) (share * (wide * i)) (share * wide))
    ∙ ap (every_text (y4m_spelling f.depth) v.samples (plane_first f.sampling c)
    (plane_step f.sampling c) (share * (wide * first))) all

-- written into their octets
pub row_put : (v : Values) (c first i a k m : ℕ) (octets row : List ℕ) → m ≡ a + length row
    → a ≤ length octets → take a octets ≡ rows_text v c first i
    → row ≡ groups_text v c (row_groups v.format * (first + i)) (row_groups v.format)
    → take m (put_mid a k octets row) ≡ rows_text v c first (i + 1)
row_put v c first i a k m octets row end inside so_far is =
    take-put_mid a k octets row m end inside
    ∙ ap (λ (t : List ℕ). t ++ row) so_far
    ∙ ap (λ (t : List ℕ). rows_text v c first i ++ t) is
    ∙ rows_more v c first i

-- and none
pub rows_none : (v : Values) (c first : ℕ) → rows_text v c first 0 ≡ []
rows_none v c first =
    let f : Format = v.format in
    let none : group_share f c * (row_groups f * 0) ≡ 0 = omega arith in
    ap (every_text (y4m_spelling f.depth) v.samples (plane_first f.sampling c)
    (plane_step f.sampling c) (group_share f c * (row_groups f * first))) none
    ∙ every_none (y4m_spelling f.depth) v.samples (plane_first f.sampling c)
    (plane_step f.sampling c) (group_share f c * (row_groups f * first))
