-- The contested samples of a row are the positions of which the cell is contested.
use Rattle.std.proofs.Common.{◌≡◌, ◌↔◌, ℕ, ◌+◌, ◌/◌, ◌<◌, ◌≤◌, Bool, true, List, sym, ap}
use Rattle.std.proofs.Common.{◌∙◌, subst, arith}
use Rattle.std.specs.List.{filter, range_with_len}
use Rattle.st_format.specs.declared.format.Format.{Format}
use Rattle.st_format.specs.Cell.{is_contested}
use Rattle.st_format.specs.Member.{IsMember}
use Rattle.st_format.specs.Position.{IsPosition, Position, group_positions, row_groups}
use Rattle.st_format.specs.Raster.{Raster, cell_at}
use Rattle.st_format.proofs.Columns.{StandsIn, member-group_positions, stands_in}
use Rattle.st_format.proofs.Members.{member-filter, member-flat_map, member-map, member_of_filter}
use Rattle.st_format.proofs.Members.{member_of_flat_map, member_of_map}
use Rattle.st_format.proofs.Places.{member-range, member_of_range}
use Rattle.frame_assembly.specs.ContestedSamples.{IsContestedSample, contested_spots, row_positions}
use Rattle.frame_assembly.specs.ContestedSamples.{spot_of}
use Rattle.frame_assembly.specs.Missing.{in_column}
use Rattle.frame_assembly.proofs.MissingColumns.{group_below, pixels_in}

abbrev disputed : Raster → Position → Bool
disputed r p = is_contested (cell_at r p)

is_sample : (r : Raster) (row : ℕ) → row < r.format.height → (column component : ℕ)
    → IsMember (column, component) (contested_spots r row)
    → IsContestedSample r row column component
is_sample r row inside column component member =
    let f : Format = r.format in
    let n : ℕ = row_groups f in
    let ps : List Position = row_positions f row in
    let found : (p : Position) × IsMember p (filter (disputed r) ps)
    × ((column, component) ≡ spot_of p) =
    member-map spot_of (column, component) (filter (disputed r) ps) member in
    let p : Position = found.0 in
    let kept : IsMember p ps × (disputed r p ≡ true) = member-filter (disputed r) p ps found.1 in
    let group : (g : ℕ) × IsMember g (range_with_len 0 n) × IsMember p (group_positions f row g) =
    member-flat_map (group_positions f row) p (range_with_len 0 n) kept.0 in
    let below : (0 ≤ group.0) × (group.0 < 0 + n) = member-range 0 n group.0 group.1 in
    let stands : StandsIn f row group.0 p =
    stands_in f row group.0 p inside (omega (arith, below.1)) group.2 in
    let same : p ≡ in_column row column component =
    ap (λ (k : ℕ). in_column k p.column p.component) stands.in_row
    ∙ ap (λ (q : ℕ × ℕ). in_column row q.0 q.1) (sym found.2) in
    record {
      position = subst (λ (q : Position). IsPosition q f) same stands.is;
      contested = subst (λ (q : Position). disputed r q ≡ true) same kept.1;
    }

is_member : (r : Raster) (row column component : ℕ) → IsContestedSample r row column component
    → IsMember (column, component) (contested_spots r row)
is_member r row column component is =
    let f : Format = r.format in
    let n : ℕ = row_groups f in
    let p : Position = in_column row column component in
    let g : ℕ = column / pixels_in r in
    let below : g < n = group_below r column is.position.column in
    member_of_map spot_of p (filter (disputed r) (row_positions f row))
    (member_of_filter (disputed r) p (row_positions f row) is.contested
    (member_of_flat_map (group_positions f row) g p (range_with_len 0 n)
    (member_of_range 0 n g g (omega arith) below)
    (member-group_positions f p is.position)))

pub contested_each : (r : Raster) (row : ℕ) → row < r.format.height → (column component : ℕ)
    → IsMember (column, component) (contested_spots r row)
    ↔ IsContestedSample r row column component
contested_each r row inside column component =
    (is_sample r row inside column component, is_member r row column component)
