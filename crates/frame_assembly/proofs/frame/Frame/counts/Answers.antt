use Rattle.std.proofs.Common.{rules, subst}
use Rattle.st_format.specs.Raster.{IsWhole}
use Rattle.frame_assembly.proofs.Positions.{counts_of_positions}
use Rattle.frame_assembly.proofs.frame.Frame.counts.Goals as goal

pub returns-clause-positions : goal.returns-clause-positions
returns-clause-positions g c =
    counts_of_positions c.args.self.now c.count_cells.result
    (subst IsWhole c.self.view_is c.self.invariant.frame.whole) (search rules) (search rules)
    (search rules)
