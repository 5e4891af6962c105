-- A frame's groups are missing as a whole, or have no missing sample.
use Rattle.std.proofs.Common.{◌≡◌, ℕ, ◌+◌, ◌*◌, ◌<◌, Bool, true, false, ◌==◌, List, length, get_or}
use Rattle.std.proofs.Common.{inl, inr, refl}
use Rattle.std.specs.Int.{bit_at}
use Rattle.st_format.specs.declared.cell.Cell.{Cell}
use Rattle.st_format.specs.declared.cell.Cell.TheVariants.{Missing}
use Rattle.st_format.specs.declared.format.Format.{Format}
use Rattle.st_format.specs.Cell.{is_missing}
use Rattle.st_format.specs.Position.{row_groups}
use Rattle.frame_assembly.specs.Packed.{HasAllGroups}
use Rattle.frame_assembly.specs.Rows.{GroupsAreWhole, IsAllOrNone, IsMarkOf, group_cells}
use Rattle.frame_assembly.proofs.RowLemmas.{group_marks, raster_in}

alike : (b : Bool) (cells : List Cell)
    → ((i : ℕ) → i < length cells → is_missing (get_or cells i Missing) ≡ b) → IsAllOrNone cells
alike true cells same = inl same
alike false cells same = inr same

all_or_none : (mark : ℕ) (cells : List Cell) → IsMarkOf mark cells → IsAllOrNone cells
all_or_none mark cells is = alike (bit_at mark 15 == 0) cells is.missing

pub whole_groups : (f : Format) (marks octets : List ℕ) → HasAllGroups f marks octets
    → GroupsAreWhole (raster_in f marks octets)
whole_groups f marks octets kept row group lt below =
    let at : ℕ = row * row_groups f + group in
    all_or_none (get_or marks at 0) (group_cells (raster_in f marks octets) row group)
    (group_marks f marks octets row group at refl kept.groups kept.packed lt below)
