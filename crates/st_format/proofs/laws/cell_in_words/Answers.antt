use Rattle.st_format.specs.Offer.{values_for, cell_of}
use Rattle.st_format.proofs.Cells.{is_cell, one_cell}
use Rattle.st_format.proofs.laws.cell_in_words.Goals as goal

pub returns-clause-is : goal.returns-clause-is
returns-clause-is c xs ts p = is_cell (values_for xs ts p)

pub returns-clause-only : goal.returns-clause-only
returns-clause-only c xs ts p d is =
    one_cell (values_for xs ts p) d (cell_of xs ts p) is (is_cell (values_for xs ts p))
