-- Samples of a run of groups that are settled: they are a part of all that are.
use Rattle.std.proofs.Common.{◌≡◌, ℕ, ◌+◌, ◌-◌, ◌*◌, ◌%◌, ◌<◌, ◌≤◌, List, length, get_or, take, drop}
use Rattle.std.proofs.Common.{refl, sym, ap, ◌∙◌, arith}
use Rattle.std.proofs.lemmas.List.{get_or-drop, get_or-take, length-drop, length-take-le, take_all}
use Rattle.std.proofs.lemmas.List.FromFn.{get_or-map-range_with_len, length-map-range_with_len}
use Rattle.std.proofs.Math.Nat.{mul-add}
use Rattle.st_format.specs.declared.cell.Cell.{Cell}
use Rattle.st_format.specs.declared.cell.Cell.TheVariants.{Missing}
use Rattle.st_format.specs.declared.format.Format.{Format}
use Rattle.st_format.specs.declared.sampling.Depth.{Depth}
use Rattle.st_format.specs.declared.sampling.Depth.TheVariants.{D8, D10, D12, D16}
use Rattle.st_format.specs.declared.sampling.Sampling.{Sampling}
use Rattle.st_format.specs.declared.sampling.Sampling.TheVariants.{Ycc422, Ycc444, Rgb}
use Rattle.st_format.specs.Pgroup.{bits_of, pixel_group}
use Rattle.st_format.specs.Position.{component_in_row, run}
use Rattle.st_format.specs.Samples.{values_in}
use Rattle.st_format.proofs.PictureLemmas.{all_set}
use Rattle.frame_assembly.specs.Packed.{ArePacked, cells_in, packed_cells}
use Rattle.frame_assembly.specs.Settled.{IsSettledTo, settled_cell, settled_numbers}
use Rattle.frame_assembly.proofs.GroupCells.{part_cells}
use Rattle.frame_assembly.proofs.PackedLemmas.{length-packed_cells, sizes}
use Rattle.frame_assembly.proofs.Runs.{part_between, part_packed, times_le}
use Rattle.frame_assembly.proofs.SettleSteps.{all_settled, get_or-part}

-- what is settled of a part of the cells is that part of what is settled
settled_part : (cells : List Cell) (b : ℕ → ℕ) (a c : ℕ) → a + c ≤ length cells
    → settled_numbers (take c (drop a cells)) (λ k. b (a + k))
    ≡ take c (drop a (settled_numbers cells b))
settled_part cells b a c le =
    let part : List Cell = take c (drop a cells) in
    let all : List ℕ = settled_numbers cells b in
    let new : List ℕ = take c (drop a all) in
    let long : length part ≡ c =
    length-take-le c (drop a cells) (omega (arith, length-drop a cells)) in
    let all_long : length all ≡ length cells =
    length-map-range_with_len (λ k. settled_cell (get_or cells k Missing) (b k)) 0
    (length cells) in
    let new_long : length new ≡ c =
    length-take-le c (drop a all) (omega (arith, length-drop a all, all_long)) in
    sym (all_set (λ k. settled_cell (get_or part k Missing) (b (a + k))) new (length part)
    (new_long ∙ sym long)
    (λ k below.
    let lt : k < c = omega (arith, below, long) in
    get_or-part a c k all lt
    ∙ get_or-map-range_with_len (λ j. settled_cell (get_or cells j Missing) (b j)) 0
    (length cells) (a + k) (a + k) 0 (omega arith) (omega arith)
    ∙ ap (λ (x : Cell). settled_cell x (b (a + k)))
    (sym (get_or-take c (drop a cells) k Missing lt ∙ get_or-drop a cells k Missing))))

-- The same of a run of groups, in the code's numbers
pub run_settled : (f : Format) (first count z : ℕ) (marks octets old new : List ℕ) (b : ℕ → ℕ)
    → z ≡ (pixel_group f.sampling f.depth).octets → first + count ≤ length marks
    → ArePacked f marks octets
    → old ≡ values_in (bits_of f.depth)
    (take (z * (first + count) - z * first) (drop (z * first) octets))
    → IsSettledTo (pixel_group f.sampling f.depth).samples
    (length (take (first + count - first) (drop first marks)))
    (take (first + count - first) (drop first marks))
    (λ k. b ((pixel_group f.sampling f.depth).samples * first + k)) old new
    → new ≡ take ((pixel_group f.sampling f.depth).samples * count)
    (drop ((pixel_group f.sampling f.depth).samples * first)
    (settled_numbers (cells_in f marks octets) b))
run_settled f first count z marks octets old new b same le packed are is =
    let n : ℕ = bits_of f.depth in
    let size : ℕ = (pixel_group f.sampling f.depth).octets in
    let s : ℕ = (pixel_group f.sampling f.depth).samples in
    let agree = sizes f.sampling f.depth in
    let here = part_between size z first count (first + count) same refl in
    let of_marks : List ℕ = take (first + count - first) (drop first marks) in
    let of_octets : List ℕ =
    take (z * (first + count) - z * first) (drop (z * first) octets) in
    let part : ArePacked f of_marks of_octets =
    part_packed n size s first count first (first + count - first) (z * first)
    (z * (first + count) - z * first) marks octets here agree le packed in
    let cells : List Cell = cells_in f marks octets in
    let cells_are : cells_in f of_marks of_octets ≡ take (s * count) (drop (s * first) cells) =
    ap (λ (k : ℕ). packed_cells n size (take k (drop first marks)) of_octets)
    here.marks_count_is
    ∙ ap (λ (k : ℕ). packed_cells n size (take count (drop first marks))
    (take k (drop (z * first) octets))) here.octets_count_is
    ∙ ap (λ (k : ℕ). packed_cells n size (take count (drop first marks))
    (take (size * count) (drop k octets))) here.octets_at_is
    ∙ part_cells n size s first count marks octets agree le packed in
    let long : length cells ≡ s * length marks =
    length-packed_cells n size s marks octets agree packed.long in
    all_settled f of_marks of_octets old new (λ k. b (s * first + k)) part are is
    ∙ ap (λ (cs : List Cell). settled_numbers cs (λ k. b (s * first + k))) cells_are
    ∙ settled_part cells b (s * first) (s * count)
    (omega (arith, long, times_le s (first + count) (length marks) le, mul-add s first count))

-- the component of a sample, counted from a group on
pub component_on : (s : Sampling) (d : Depth) (first k : ℕ)
    → component_in_row s ((pixel_group s d).samples * first + k) ≡ component_in_row s k
component_on Ycc422 D8 first k =
    let e : (4 * first + k) % 4 ≡ k % 4 = omega arith in
    ap (λ (x : ℕ). (get_or (run Ycc422) x (0, 0)).1) e
component_on Ycc422 D10 first k =
    let e : (4 * first + k) % 4 ≡ k % 4 = omega arith in
    ap (λ (x : ℕ). (get_or (run Ycc422) x (0, 0)).1) e
component_on Ycc422 D12 first k =
    let e : (4 * first + k) % 4 ≡ k % 4 = omega arith in
    ap (λ (x : ℕ). (get_or (run Ycc422) x (0, 0)).1) e
component_on Ycc422 D16 first k =
    let e : (4 * first + k) % 4 ≡ k % 4 = omega arith in
    ap (λ (x : ℕ). (get_or (run Ycc422) x (0, 0)).1) e
component_on Ycc444 D8 first k =
    let e : (3 * first + k) % 3 ≡ k % 3 = omega arith in
    ap (λ (x : ℕ). (get_or (run Ycc444) x (0, 0)).1) e
component_on Ycc444 D10 first k =
    let e : (12 * first + k) % 3 ≡ k % 3 = omega arith in
    ap (λ (x : ℕ). (get_or (run Ycc444) x (0, 0)).1) e
component_on Ycc444 D12 first k =
    let e : (6 * first + k) % 3 ≡ k % 3 = omega arith in
    ap (λ (x : ℕ). (get_or (run Ycc444) x (0, 0)).1) e
component_on Ycc444 D16 first k =
    let e : (3 * first + k) % 3 ≡ k % 3 = omega arith in
    ap (λ (x : ℕ). (get_or (run Ycc444) x (0, 0)).1) e
component_on Rgb D8 first k =
    let e : (3 * first + k) % 3 ≡ k % 3 = omega arith in
    ap (λ (x : ℕ). (get_or (run Rgb) x (0, 0)).1) e
component_on Rgb D10 first k =
    let e : (12 * first + k) % 3 ≡ k % 3 = omega arith in
    ap (λ (x : ℕ). (get_or (run Rgb) x (0, 0)).1) e
component_on Rgb D12 first k =
    let e : (6 * first + k) % 3 ≡ k % 3 = omega arith in
    ap (λ (x : ℕ). (get_or (run Rgb) x (0, 0)).1) e
component_on Rgb D16 first k =
    let e : (3 * first + k) % 3 ≡ k % 3 = omega arith in
    ap (λ (x : ℕ). (get_or (run Rgb) x (0, 0)).1) e

-- the values that are held from a group on
pub held_on : (a k : ℕ) (xs : List ℕ)
    → get_or (take (length xs - a) (drop a xs)) k 0 ≡ get_or xs (a + k) 0
held_on a k xs =
    ap (λ (ys : List ℕ). get_or ys k 0)
    (take_all (length xs - a) (drop a xs) (omega (arith, length-drop a xs)))
    ∙ get_or-drop a xs k 0
