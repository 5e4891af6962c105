-- The lines of the contested samples of a frame (own).
use Rattle.std.specs.Prelude.{ℕ, if◌then◌else◌, List, [], ◌∷◌, ◌++◌, codes, slice_index_or}
use Rattle.std.specs.List.{flat_map, range_with_len}
use Rattle.st_format.specs.declared.sampling.Sampling.{Sampling}
use Rattle.st_format.specs.declared.sampling.Sampling.TheVariants.{Ycc422, Ycc444, Rgb}
use Rattle.st_format.specs.Cell.{is_contested}
use Rattle.st_format.specs.Position.{Position, group_positions, row_groups}
use Rattle.st_format.specs.Raster.{Raster, cell_at}
use Rattle.frame_report.specs.Gathers.{numbered_word}

-- the names of components 0, 1 and 2 (SMPTE ST 2110-20, sampling)
abbrev pub component_names : Sampling → List (List ℕ)
component_names Ycc422 = codes "Y" ∷ codes "Cb" ∷ codes "Cr" ∷ []
component_names Ycc444 = codes "Y" ∷ codes "Cb" ∷ codes "Cr" ∷ []
component_names Rgb = codes "R" ∷ codes "G" ∷ codes "B" ∷ []

-- `contested row R column K NAME`
abbrev pub sample_text : ℕ → ℕ → List ℕ → List ℕ
sample_text row column name =
    numbered_word (codes "contested row ") row ++ (numbered_word (codes " column ") column
    ++ (codes " " ++ (name ++ codes "\n")))

-- the line of a position, which names its component
abbrev pub contested_line : Sampling → Position → List ℕ
contested_line s p =
    sample_text p.row p.column (slice_index_or (component_names s) p.component [])

-- the line of a position, where its sample is contested
abbrev pub contested_at : Raster → Position → List ℕ
contested_at r p =
    if is_contested (cell_at r p) then contested_line r.format.sampling p else []

-- those of a pgroup, in the order in which its samples are sent
abbrev pub contested_in_group : Raster → ℕ → ℕ → List ℕ
contested_in_group r row group =
    flat_map (contested_at r) (group_positions r.format row group)

-- those of a row, pgroup by pgroup from the left
abbrev pub contested_in_row : Raster → ℕ → List ℕ
contested_in_row r row =
    flat_map (contested_in_group r row) (range_with_len 0 (row_groups r.format))

-- the lines of all rows, from the top
abbrev pub contested_lines : Raster → List ℕ
contested_lines r = flat_map (contested_in_row r) (range_with_len 0 r.format.height)

-- The same of a row's column and component, for the code's own clauses
abbrev pub spot_line : Sampling → ℕ → (ℕ × ℕ) → List ℕ
spot_line s row spot = sample_text row spot.0 (slice_index_or (component_names s) spot.1 [])
