-- Groups of mark words and packed octets are those of a row's cells.
use Rattle.std.proofs.Common.{◌≡◌, ℕ, zero, suc, ◌+◌, ◌-◌, ◌*◌, ◌<◌, ◌≤◌}
use Rattle.std.proofs.Common.{List, [], ◌∷◌, ◌++◌, length, get_or, take, drop, map}
use Rattle.std.proofs.Common.{Option, None, Some, append_assoc, append-nil, drop-drop, refl, sym}
use Rattle.std.proofs.Common.{ap, ◌∙◌, subst, arith}
use Rattle.std.specs.List.{AllByRecursion}
use Rattle.std.specs.Io.KnownBytes.{Appends}
use Rattle.std.proofs.KnownBytes.{Appends-trans}
use Rattle.std.proofs.lemmas.List.{drop-map, drop-take, length-drop, length-map}
use Rattle.std.proofs.lemmas.List.{length-take-le, take-map, take-take, take_all}
use Rattle.std.proofs.Math.Nat.{mul_comm}
use Rattle.st_format.specs.declared.cell.Cell.{Cell}
use Rattle.st_format.specs.declared.format.Format.{Format}
use Rattle.st_format.specs.Pgroup.{bits_of}
use Rattle.st_format.specs.Position.{row_groups, row_octets, row_samples}
use Rattle.st_format.specs.Raster.{IsWhole, Raster}
use Rattle.st_format.specs.Device.{AppendsPrefix}
use Rattle.st_format.specs.Samples.{Spells}
use Rattle.pgroup_pack.proofs.Parts.{all_first, all_rest, spelled_first, spelled_rest}
use Rattle.st_format.specs.Cell.{known_value}
use Rattle.frame_assembly.specs.Rows.{IsStateOf, group_cells, row_cells}
use Rattle.frame_assembly.specs.Marks.{state_of_mark}
use Rattle.st_format.proofs.Columns.{row_samples_groups}
use Rattle.frame_assembly.proofs.Segments.{sample_count_groups, swap_first}
use Rattle.media_file.proofs.Once.{shape_is}
use Rattle.media_file.specs.Groups.{IsShape, Shape, group_text, groups_text}
use Rattle.media_file.specs.StateFile.{cut_cells}
use Rattle.media_file.proofs.Written.{prefix_first, prefix_then}
use Rattle.receiver_file.specs.Known.{known_text, row_cut, shape_in}
use Rattle.receiver_file.specs.Marked.{Passes, marked_text}
use Rattle.receiver_file.proofs.RowRuns.{sum_rows}
use Rattle.receiver_file.proofs.Spelling.{known_is}

-- ---- octets that pass through a room

pub passes_none : (known : Option (List ℕ)) → Passes known known [] []
passes_none None = record { first = []; taken = tt; whole = refl }
passes_none (Some o) = record { first = []; taken = sym (append-nil o); whole = refl }

pub passes_then : (old mid new : Option (List ℕ)) (xs ys zs : List ℕ) → Passes old mid xs ys
    → Passes mid new ys zs → Passes old new xs zs
passes_then old mid new xs ys zs p q = record {
  first = p.first ++ q.first;
  taken = Appends-trans old mid new p.first q.first p.taken q.taken;
  whole =
      p.whole ∙ ap (λ (t : List ℕ). p.first ++ t) q.whole ∙ sym (append_assoc p.first q.first zs);
}

pub passes_more : (old new : Option (List ℕ)) (xs ys ts us vs : List ℕ) → Passes old new xs ys
    → us ≡ xs ++ ts → vs ≡ ys ++ ts → Passes old new us vs
passes_more old new xs ys ts us vs p e f = record {
  first = p.first;
  taken = p.taken;
  whole =
      e ∙ ap (λ (t : List ℕ). t ++ ts) p.whole ∙ append_assoc p.first ys ts
      ∙ ap (λ (t : List ℕ). p.first ++ t) (sym f);
}

pub passes_all : (old mid new : Option (List ℕ)) (xs ys : List ℕ) → Passes old mid xs ys
    → Appends mid new ys → Appends old new xs
passes_all old mid new xs ys p q =
    subst (Appends old new) (sym p.whole) (Appends-trans old mid new p.first ys p.taken q)

pub passes_cut : (old mid new : Option (List ℕ)) (xs ys : List ℕ) → Passes old mid xs ys
    → AppendsPrefix mid new ys → AppendsPrefix old new xs
passes_cut old mid new xs ys p q =
    subst (AppendsPrefix old new) (sym p.whole) (prefix_then old mid new p.first ys p.taken q)

-- ---- one group more

pub marked_next : (size g : ℕ) (marks octets : List ℕ) → g < length marks
    → marked_text size (take (g + 1) marks) octets
    ≡ marked_text size (take g marks) octets ++ known_text (state_of_mark (get_or marks g 0))
    (take size (drop (size * g) octets))
unfolding marked_text
marked_next size g [] octets lt = absurd (omega (arith, lt))
marked_next size zero (m ∷ marks) octets lt =
    let z : 0 ≡ size * 0 = omega arith in
    append-nil (known_text (state_of_mark m) (take size octets))
    ∙ ap (λ (n : ℕ). known_text (state_of_mark m) (take size (drop n octets))) z
marked_next size (suc g) (m ∷ marks) octets lt =
    let z : size + size * g ≡ size * suc g = omega arith in
    let e : suc g + 1 ≡ suc (g + 1) = omega arith in
    ap (λ (k : ℕ). marked_text size (take k (m ∷ marks)) octets) e
    ∙ ap (λ (t : List ℕ). known_text (state_of_mark m) (take size octets) ++ t)
    (marked_next size g marks (drop size octets) (omega (arith, lt)))
    ∙ sym
    (append_assoc (known_text (state_of_mark m) (take size octets))
    (marked_text size (take g marks) (drop size octets))
    (known_text (state_of_mark (get_or marks g 0))
    (take size (drop (size * g) (drop size octets)))))
    ∙ ap
    (λ (t : List ℕ).
    (known_text (state_of_mark m) (take size octets) ++ marked_text size (take g marks)
    (drop size octets)) ++ known_text (state_of_mark (get_or marks g 0)) (take size t))
    (drop-drop (size * g) size octets ∙ ap (λ (n : ℕ). drop n octets) z)

-- the first groups, and the others
marked_split : (size g : ℕ) (marks octets : List ℕ)
    → marked_text size marks octets
    ≡ marked_text size (take g marks) octets ++ marked_text size (drop g marks)
    (drop (size * g) octets)
unfolding marked_text
marked_split size zero marks octets = let z : 0 ≡ size * 0 =
    omega arith in ap (λ (n : ℕ). marked_text size marks (drop n octets)) z
marked_split size (suc g) [] octets = refl
marked_split size (suc g) (m ∷ marks) octets =
    let z : size + size * g ≡ size * suc g = omega arith in
    ap (λ (t : List ℕ). known_text (state_of_mark m) (take size octets) ++ t)
    (marked_split size g marks (drop size octets))
    ∙ sym
    (append_assoc (known_text (state_of_mark m) (take size octets))
    (marked_text size (take g marks) (drop size octets))
    (marked_text size (drop g marks) (drop (size * g) (drop size octets))))
    ∙ ap
    (λ (t : List ℕ).
    (known_text (state_of_mark m) (take size octets) ++ marked_text size (take g marks)
    (drop size octets)) ++ marked_text size (drop g marks) t)
    (drop-drop (size * g) size octets ∙ ap (λ (n : ℕ). drop n octets) z)

pub marked_cut : (size g : ℕ) (marks octets : List ℕ) (old new : Option (List ℕ))
    → AppendsPrefix old new (marked_text size (take g marks) octets)
    → AppendsPrefix old new (marked_text size marks octets)
marked_cut size g marks octets old new p =
    subst (AppendsPrefix old new) (sym (marked_split size g marks octets))
    (prefix_first old new (marked_text size (take g marks) octets)
    (marked_text size (drop g marks) (drop (size * g) octets)) p)

-- ---- the groups of cells

pub row_text : (s : Shape) (marks octets : List ℕ) (cells : List Cell) → IsShape s
    → ((i : ℕ) → i < length marks
    → IsStateOf (state_of_mark (get_or marks i 0)) (take s.samples (drop (s.samples * i) cells)))
    → s.samples * length marks ≤ length cells → length octets ≡ s.octets * length marks
    → AllByRecursion (λ (v : ℕ). v < 256) octets
    → Spells s.bits octets (map known_value (take (s.samples * length marks) cells))
    → marked_text s.octets marks octets ≡ groups_text s (cut_cells s.samples (length marks) cells)
unfolding marked_text cut_cells
row_text s [] octets cells is each long size small spelled = refl
row_text s (m ∷ marks) octets cells is each long size small spelled =
    let n : ℕ = s.samples in
    let z : ℕ = s.octets in
    let k : ℕ = length marks in
    let all : List Cell = take (n * suc k) cells in
    let more : n * suc k ≡ n + n * k = omega arith in
    let sizes : z * suc k ≡ z + z * k = omega arith in
    let inside : n ≤ length cells = omega (arith, long, more) in
    let some_octets : z ≤ length octets = omega (arith, size, sizes) in
    let all_long : length (map known_value all) ≡ n * suc k =
    length-map all known_value ∙ length-take-le (n * suc k) cells long in
    let some_cells : n ≤ length (map known_value all) = omega (arith, all_long, more) in
    let none : 0 ≡ n * 0 = omega arith in
    let first_cells : take n (map known_value all) ≡ map known_value (take n cells) =
    take-map known_value n all
    ∙ ap (map known_value) (take-take n (n * suc k) cells (omega (arith, more))) in
    let rest_cells : drop n (map known_value all) ≡ map known_value (take (n * k) (drop n cells)) =
    drop-map known_value n all ∙ ap (λ (j : ℕ). map known_value (drop n (take j cells))) more
    ∙ ap (map known_value) (drop-take n (n * k) cells) in
    let first_spelled : Spells s.bits (take z octets) (map known_value (take n cells)) =
    subst (Spells s.bits (take z octets)) first_cells
    (spelled_first s.bits z n octets
    (map known_value all) is.octets some_octets some_cells spelled) in
    let rest_spelled : Spells s.bits (drop z octets)
    (map known_value (take (n * k) (drop n cells))) =
    subst (Spells s.bits (drop z octets)) rest_cells
    (spelled_rest s.bits z n octets
    (map known_value all) is.octets some_octets some_cells spelled) in
    let long_first : length (take n cells) ≡ n = length-take-le n cells inside in
    let state : IsStateOf (state_of_mark m) (take n cells) =
    subst (λ (j : ℕ). IsStateOf (state_of_mark m) (take n (drop j cells))) (sym none)
    (each 0 (omega arith)) in
    let next : (i : ℕ) → i < k
    → IsStateOf (state_of_mark (get_or marks i 0)) (take n (drop (n * i) (drop n cells))) =
    λ i lt. let e : n * suc i ≡ n + n * i = omega arith in
    subst (λ (t : List Cell). IsStateOf (state_of_mark (get_or marks i 0)) (take n t))
    (ap (λ (j : ℕ). drop j cells) e ∙ sym (drop-drop (n * i) n cells))
    (each (suc i) (omega (arith, lt))) in
    ap (λ (t : List ℕ). t ++ marked_text z marks (drop z octets))
    (known_is s (take n cells) (take z octets) (state_of_mark m)
    (omega (arith, long_first, is.some))
    (all_first (λ (v : ℕ). v < 256) z octets small) first_spelled state)
    ∙ ap (λ (t : List ℕ). group_text s (take n cells) ++ t)
    (row_text s marks (drop z octets) (drop n cells) is next
    (omega (arith, length-drop n cells, long, more))
    (omega (arith, length-drop z octets, size, sizes))
    (all_rest (λ (v : ℕ). v < 256) z octets small) rest_spelled)

-- ---- a loop over groups

pub passes_start : (size : ℕ) (octets : List ℕ) (known : Option (List ℕ))
    → Passes known known (marked_text size [] octets) []
unfolding marked_text
passes_start size octets known = passes_none known

pub passes_done : (size g : ℕ) (marks octets kept : List ℕ) (old mid new : Option (List ℕ))
    → length marks ≤ g
    → Passes old mid (marked_text size (take g marks) octets) kept → Appends mid new kept
    → Appends old new (marked_text size marks octets)
passes_done size g marks octets kept old mid new le p q =
    subst (λ (ms : List ℕ). Appends old new (marked_text size ms octets)) (take_all g marks le)
    (passes_all old mid new (marked_text size (take g marks) octets) kept p q)

pub passes_stop : (size g : ℕ) (marks octets kept : List ℕ) (old mid new : Option (List ℕ))
    → Passes old mid (marked_text size (take g marks) octets) kept → AppendsPrefix mid new kept
    → AppendsPrefix old new (marked_text size marks octets)
passes_stop size g marks octets kept old mid new p q =
    marked_cut size g marks octets old new
    (passes_cut old mid new (marked_text size (take g marks) octets) kept p q)

-- a slice of all behind the first
pub slice_rest : (n : ℕ) (xs : List ℕ) → take (length xs - n) (drop n xs) ≡ drop n xs
slice_rest n xs = take_all (length xs - n) (drop n xs) (omega (arith, length-drop n xs))

pub marked_more : (size g count : ℕ) (marks octets : List ℕ)
    → marked_text size (take (g + count) marks) octets
    ≡ marked_text size (take g marks) octets ++ marked_text size (take count (drop g marks))
    (drop (size * g) octets)
marked_more size g count marks octets =
    marked_split size g (take (g + count) marks) octets
    ∙ ap
    (λ (ms : List ℕ). marked_text size ms octets ++ marked_text size
    (drop g (take (g + count) marks)) (drop (size * g) octets))
    (take-take g (g + count) marks (omega arith))
    ∙ ap
    (λ (ms : List ℕ). marked_text size (take g marks) octets ++ marked_text size ms
    (drop (size * g) octets))
    (drop-take g count marks)

-- more groups, which are cut out of all
pub passes_groups : (size g count : ℕ) (marks octets kept room : List ℕ) (at end : ℕ)
    (old mid new : Option (List ℕ))
    → Passes old mid (marked_text size (take g marks) octets) kept
    → Passes mid new kept (take at room)
    → (later : List ℕ)
    → take end later
    ≡ take at room ++ marked_text size (take count (take (length marks - g) (drop g marks)))
    (take (length octets - size * g) (drop (size * g) octets))
    → Passes old new (marked_text size (take (g + count) marks) octets) (take end later)
passes_groups size g count marks octets kept room at end old mid new p q later put =
    let t : List ℕ = marked_text size (take count (drop g marks)) (drop (size * g) octets) in
    passes_more old new (marked_text size (take g marks) octets) (take at room) t
    (marked_text size (take (g + count) marks) octets) (take end later)
    (passes_then old mid new (marked_text size (take g marks) octets) kept (take at room) p q)
    (marked_more size g count marks octets)
    (put
    ∙ ap
    (λ (ms : List ℕ). take at room ++ marked_text size (take count ms)
    (take (length octets - size * g) (drop (size * g) octets)))
    (slice_rest g marks)
    ∙ ap (λ (o : List ℕ). take at room ++ marked_text size (take count (drop g marks)) o)
    (slice_rest (size * g) octets))

-- ---- the groups of a frame's row

pub row_is : (r : Raster) (row size : ℕ) (marks octets : List ℕ) → IsWhole r
    → row < r.format.height → size ≡ (shape_in r.format).octets
    → length marks ≡ row_groups r.format → length octets ≡ row_octets r.format
    → ((group : ℕ) → group < row_groups r.format
    → IsStateOf (state_of_mark (get_or marks group 0)) (group_cells r row group))
    → AllByRecursion (λ (v : ℕ). v < 256) octets
    → Spells (bits_of r.format.depth) octets (map known_value (row_cells r row))
    → marked_text size marks octets ≡ groups_text (shape_in r.format) (row_cut r row)
row_is r row size marks octets whole lt same many long each small spelled =
    let f : Format = r.format in
    let n : ℕ = (shape_in f).samples in
    let per : ℕ = row_groups f in
    let cells : List Cell = drop (n * (row * per + 0)) r.cells in
    let d : ℕ = f.height - (row + 1) in
    let rows : (row * per + per) + d * per ≡ f.height * per =
    sum_rows per row f.height d (omega arith) in
    let split : n * ((row * per + per) + d * per)
    ≡ n * (row * per + 0) + (n * per + n * (d * per)) = omega arith in
    let total : length r.cells ≡ n * (row * per + 0) + (n * per + n * (d * per)) =
    whole ∙ sym (sample_count_groups f) ∙ ap (λ (k : ℕ). n * k) (sym rows) ∙ split in
    let inside : n * per ≤ length cells =
    omega (arith, length-drop (n * (row * per + 0)) r.cells, total) in
    let at : (i : ℕ) → i < per
    → IsStateOf (state_of_mark (get_or marks i 0)) (take n (drop (n * i) cells)) =
    λ i below. let e : n * (row * per + i) ≡ n * (row * per + 0) + n * i = omega arith in
    subst (λ (t : List Cell). IsStateOf (state_of_mark (get_or marks i 0)) (take n t))
    (ap (λ (k : ℕ). drop k r.cells) e ∙ sym (drop-drop (n * i) (n * (row * per + 0)) r.cells))
    (each i below) in
    let first : row * row_samples f ≡ n * (row * per + 0) =
    let e : n * (row * per) ≡ n * (row * per + 0) =
    omega arith in sym (swap_first n row per ∙ ap (λ (k : ℕ). row * k) (row_samples_groups f))
    ∙ e in
    let here : Spells (bits_of f.depth) octets (map known_value (take (n * per) cells)) =
    subst (λ (k : ℕ). Spells (bits_of f.depth) octets
    (map known_value (take (n * per) (drop k r.cells)))) first
    (subst (λ (k : ℕ). Spells (bits_of f.depth) octets
    (map known_value (take k (drop (row * row_samples f) r.cells))))
    (sym (row_samples_groups f)) spelled) in
    let size_here : length octets ≡ (shape_in f).octets * length marks =
    long ∙ mul_comm (row_groups f) (shape_in f).octets
    ∙ ap (λ (k : ℕ). (shape_in f).octets * k) (sym many) in
    ap (λ (k : ℕ). marked_text k marks octets) same
    ∙ row_text (shape_in f) marks octets cells (shape_is f.sampling f.depth)
    (λ i below. at i (subst (λ (k : ℕ). i < k) many below))
    (subst (λ (k : ℕ). n * k ≤ length cells) (sym many) inside) size_here small
    (subst (λ (k : ℕ). Spells (bits_of f.depth) octets (map known_value (take (n * k) cells)))
    (sym many) here)
    ∙ ap (λ (k : ℕ). groups_text (shape_in f) (cut_cells n k cells)) many
