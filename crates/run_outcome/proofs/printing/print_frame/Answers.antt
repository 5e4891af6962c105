use Rattle.std.proofs.Common.{List, ℕ, OnErr, subst}
use Rattle.st_format.specs.Device.{GrowsPart}
use Rattle.st_format.specs.Raster.{Raster}
use Rattle.run_outcome.proofs.Printed.{are_counts, frame_line_is}
use Rattle.run_outcome.proofs.printing.print_frame.Goals as goal

pub returns-clause-cut : goal.returns-clause-cut
returns-clause-cut g c =
    let frame : Raster = c.in-Some.frame.now in
    subst (λ (line : List ℕ). OnErr c.print.result (GrowsPart
    (g.O.ByteSink.took c.args.output.now) (g.O.ByteSink.took c.print.new.output) line))
    (frame_line_is c.args.receiver.now c.args.timestamp frame c.counts-counts.result
    c.in-Some.ensures.frame
    (are_counts c.counts-counts.result frame c.counts-counts.ensures.present
    c.counts-counts.ensures.missing c.counts-counts.ensures.contested))
    c.print.ensures.cut
