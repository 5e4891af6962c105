-- Groups that are taken into the cells of a frame (own).
use Rattle.std.specs.Prelude.{◌≡◌, ℕ, ◌+◌, ◌*◌, List, ◌++◌, take, drop, replicate, Option, Ok}
use Rattle.st_format.specs.declared.cell.Cell.{Cell}
use Rattle.st_format.specs.declared.cell.Cell.TheVariants.{Missing}
use Rattle.st_format.specs.Given.{Takes}
use Rattle.media_file.specs.Groups.{Shape, groups_at}
use Rattle.media_file.specs.StateFile.{cut_cells}
use Rattle.receiver_file.specs.Giving.{GaveOf}

-- Octets are those of so many groups, whose cells are the first of these, whatever is behind them.
pub record AreGroups (s : Shape) (n : ℕ) (octets : List ℕ) (cells : List Cell) : Type 0 where
  pub says : (behind : List ℕ)
      → groups_at s n (octets ++ behind) ≡ Ok (cut_cells s.samples n cells, behind)

-- the groups from the one of number `first` on are missing
abbrev pub AreBlank : Shape → ℕ → ℕ → List Cell → Type 0
AreBlank s first groups cells = (d : ℕ) → first + d ≡ groups
    → drop (s.samples * first) cells ≡ replicate (s.samples * d) Missing

-- The group of a number became one of these cells. No other cell changed.
pub record IsGivenGroup (s : Shape) (number : ℕ) (cells old new : List Cell) : Type 0 where
  pub is : take s.samples (drop (s.samples * number) new) ≡ cells
  pub before : take (s.samples * number) new ≡ take (s.samples * number) old
  pub behind : drop (s.samples * (number + 1)) new ≡ drop (s.samples * (number + 1)) old

-- Cells became those of so many groups from the one of number `first` on, whose octets a source
-- gave. No other cell changed. What it gave was `earlier` and is `now`, and what it was to give was
-- `was` and is `left`.
pub record Gained (s : Shape) (first n : ℕ) (earlier now : List ℕ) (was left : Option (List ℕ))
    (old new : List Cell) : Type 0 where
  pub read : Takes (groups_at s n) was left
      (cut_cells s.samples n (drop (s.samples * first) new))
  pub gave : GaveOf (groups_at s n) earlier now
      (cut_cells s.samples n (drop (s.samples * first) new))
  pub before : take (s.samples * first) new ≡ take (s.samples * first) old
  pub behind : drop (s.samples * (first + n)) new ≡ drop (s.samples * (first + n)) old
