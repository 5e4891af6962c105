-- The lines of a row's contested samples, and of frames that have none.
use Rattle.std.proofs.Common.{◌≡◌, ℕ, zero, suc, ◌+◌, ◌<◌, Bool, true, false, List, [], ◌∷◌}
use Rattle.std.proofs.Common.{◌++◌, map, get_or, refl, sym, ap, ◌∙◌, if◌then◌else◌, cond, count_by}
use Rattle.std.proofs.Common.{inl, inr, arith}
use Rattle.std.specs.List.{filter, flat_map, range_with_len}
use Rattle.std.proofs.lemmas.Grind.{flat_map-append}
use Rattle.std.proofs.lemmas.List.Sums.{sum_by-cons}
use Rattle.st_format.specs.declared.cell.Cell.{Cell}
use Rattle.st_format.specs.declared.cell.Cell.TheVariants.{Missing, Value, Contested}
use Rattle.st_format.specs.declared.sampling.Sampling.{Sampling}
use Rattle.st_format.specs.Cell.{is_contested}
use Rattle.st_format.specs.Member.{IsMember}
use Rattle.st_format.specs.Position.{Position, group_positions, number_of, row_groups}
use Rattle.st_format.specs.Raster.{Raster, cell_at}
use Rattle.st_format.proofs.Columns.{stands_in}
use Rattle.st_format.proofs.Members.{member-flat_map}
use Rattle.st_format.proofs.Places.{member-range}
use Rattle.frame_assembly.specs.ContestedSamples.{contested_spots, row_positions, spot_of}
use Rattle.frame_report.specs.Contested.{component_names, contested_at, contested_in_group}
use Rattle.frame_report.specs.Contested.{contested_in_row, contested_line, contested_lines}
use Rattle.frame_report.specs.Contested.{sample_text, spot_line}
use Rattle.frame_report.proofs.Ranges.{texts_empty}

-- ---- the lines of a row

abbrev disputed : Raster → Position → Bool
disputed r p = is_contested (cell_at r p)

line_if : (t : Bool) (r : Raster) (row : ℕ) (p : Position) (ps : List Position) → p.row ≡ row
    → flat_map (spot_line r.format.sampling row) (map spot_of (cond t (p ∷ ps) ps))
    ≡ (if t then contested_line r.format.sampling p else [])
    ++ flat_map (spot_line r.format.sampling row) (map spot_of ps)
line_if false r row p ps e = refl
line_if true r row p ps e =
    ap (λ (k : ℕ). sample_text k p.column
    (get_or (component_names r.format.sampling) p.component [])
    ++ flat_map (spot_line r.format.sampling row) (map spot_of ps)) (sym e)

lines_at : (r : Raster) (row : ℕ) (ps : List Position)
    → ((p : Position) → IsMember p ps → p.row ≡ row)
    → flat_map (spot_line r.format.sampling row) (map spot_of (filter (disputed r) ps))
    ≡ flat_map (contested_at r) ps
lines_at r row [] each = refl
lines_at r row (p ∷ ps) each =
    line_if (disputed r p) r row p (filter (disputed r) ps) (each p (inl refl))
    ∙ ap (λ (t : List ℕ). contested_at r p ++ t) (lines_at r row ps (λ q m. each q (inr m)))

nested : {X Y : Type 0} (f : Y → List ℕ) (g : X → List Y) (xs : List X)
    → flat_map f (flat_map g xs) ≡ flat_map (λ x. flat_map f (g x)) xs
nested f g [] = refl
nested f g (x ∷ xs) =
    flat_map-append f (g x) (flat_map g xs)
    ∙ ap (λ (t : List ℕ). flat_map f (g x) ++ t) (nested f g xs)

-- the lines of a row's samples, as the code goes through them
pub row_lines : (r : Raster) (row : ℕ) (s : Sampling) (spots : List (ℕ × ℕ))
    → row < r.format.height → s ≡ r.format.sampling → spots ≡ contested_spots r row
    → flat_map (spot_line s row) spots ≡ contested_in_row r row
row_lines r row s spots inside same_sampling same =
    let n : ℕ = row_groups r.format in
    let gp : ℕ → List Position = group_positions r.format row in
    ap (λ (x : Sampling). flat_map (spot_line x row) spots) same_sampling
    ∙ ap (flat_map (spot_line r.format.sampling row)) same
    ∙ lines_at r row (row_positions r.format row)
    (λ p m.
    (let found = member-flat_map gp p (range_with_len 0 n) m in
    let below = member-range 0 n found.0 found.1 in
    (stands_in r.format row found.0 p inside (omega (arith, below.1)) found.2).in_row))
    ∙ nested (contested_at r) gp (range_with_len 0 n)

-- one sample of those that are left, and those behind it
pub line_here : (s : Sampling) (row : ℕ) (spot : ℕ × ℕ) (spots rest : List (ℕ × ℕ))
    → spots ≡ spot ∷ rest
    → flat_map (spot_line s row) spots ≡ spot_line s row spot ++ flat_map (spot_line s row) rest
line_here s row spot spots rest e = ap (flat_map (spot_line s row)) e

pub line_end : (s : Sampling) (row : ℕ) (spots : List (ℕ × ℕ)) → spots ≡ []
    → flat_map (spot_line s row) spots ≡ []
line_end s row spots e = ap (flat_map (spot_line s row)) e

-- ---- frames without a contested sample

abbrev one_if : Bool → ℕ
one_if b = cond b 1 0

counted : (c : Cell) (cells : List Cell)
    → count_by is_contested (c ∷ cells) ≡ one_if (is_contested c) + count_by is_contested cells
counted c cells = sum_by-cons (λ x. one_if (is_contested x)) c cells

not_counted : (c : Cell) → one_if (is_contested c) ≡ 0 → is_contested c ≡ false
not_counted Missing e = refl
not_counted (Value v) e = refl
not_counted Contested e = absurd (omega (arith, e))

none_at : (cells : List Cell) (k : ℕ) → count_by is_contested cells ≡ 0
    → is_contested (get_or cells k Missing) ≡ false
none_at [] k e = refl
none_at (c ∷ cells) zero e = not_counted c (omega (arith, e, counted c cells))
none_at (c ∷ cells) (suc k) e = none_at cells k (omega (arith, e, counted c cells))

pub lines_none : (r : Raster) → count_by is_contested r.cells ≡ 0 → contested_lines r ≡ []
lines_none r e =
    texts_empty (contested_in_row r) (range_with_len 0 r.format.height)
    (λ row. texts_empty (contested_in_group r row) (range_with_len 0 (row_groups r.format))
    (λ group. texts_empty (contested_at r) (group_positions r.format row group)
    (λ p. ap (λ (b : Bool). if b then contested_line r.format.sampling p else [])
    (none_at r.cells (number_of r.format p) e))))
