-- Lines of rows (own).
use Rattle.std.specs.Prelude.{ℕ, zero, suc, List, [], ◌∷◌, ◌++◌}
use Rattle.stream_inspection.specs.Columns.{column_text}
use Rattle.stream_inspection.specs.Json.{json_text}
use Rattle.stream_inspection.specs.declared.rows.Row.{Row}
use Rattle.stream_inspection.specs.declared.text.Form.{Form}
use Rattle.stream_inspection.specs.declared.text.Form.TheVariants.{Columns, Json}

-- a row as columns or as an object, and LF
abbrev pub row_line : Form → Row → List ℕ
row_line Columns row = column_text row ++ 10 ∷ []
row_line Json row = json_text row ++ 10 ∷ []

-- a heading stands among columns alone
abbrev pub heading_lines : Form → List ℕ → List ℕ
heading_lines Columns heading = heading ++ 10 ∷ []
heading_lines Json heading = []

-- a row where what it counts came at all
abbrev pub counted_line : Form → Row → ℕ → List ℕ
counted_line form row zero = []
counted_line form row (suc n) = row_line form row
