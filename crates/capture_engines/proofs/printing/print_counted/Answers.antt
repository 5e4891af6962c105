use Rattle.std.proofs.Common.{◌≡◌, ◌++◌, List, ℕ, OnErr, OnOk, subst}
use Rattle.st_format.specs.Device.{GrowsPart}
use Rattle.capture_engines.proofs.Printed.{none_counted, some_counted}
use Rattle.capture_engines.proofs.printing.print_counted.Goals as goal

pub returns-then-count-eq0-clause-printed : goal.returns-then-count-eq0-clause-printed
returns-then-count-eq0-clause-printed g c =
    none_counted c.args.count c.args.line _ c.if-count-eq0.true

pub returns-clause-printed : goal.returns-clause-printed
returns-clause-printed g c =
    subst (λ (t : List ℕ). OnOk c.print.result (g.O.ByteSink.took c.print.new.output
    ≡ g.O.ByteSink.took c.args.output.now ++ t))
    (some_counted c.args.count c.args.line c.if-count-eq0.false) c.print.ensures.printed

pub returns-clause-cut : goal.returns-clause-cut
returns-clause-cut g c =
    subst (λ (t : List ℕ). OnErr c.print.result (GrowsPart
    (g.O.ByteSink.took c.args.output.now) (g.O.ByteSink.took c.print.new.output) t))
    (some_counted c.args.count c.args.line c.if-count-eq0.false) c.print.ensures.cut
