use Rattle.std.proofs.Common.{◌≡◌, ◌++◌, List, ℕ}
use Rattle.std.specs.List.{flat_map}
use Rattle.std.proofs.lemmas.Result.{err_from_is_err_and}
use Rattle.st_format.specs.Device.{GrowsPart}
use Rattle.media_file.proofs.Written.{part_first, part_then, took_both}
use Rattle.path_receiver.specs.Answers.{all_refusals}
use Rattle.capture_engines.specs.Printed.{counted_line, refusal_line, tally_text}
use Rattle.run_outcome.specs.declared.line.Line.TheVariants.{OutsideCount}
use Rattle.run_outcome.proofs.Printed.{on_err, on_ok}
use Rattle.capture_engines.proofs.printing.print_tally.Goals as goal

pub returns-in_err-print_refusals-clause-cut : goal.returns-in_err-print_refusals-clause-cut
returns-in_err-print_refusals-clause-cut g c =
    let t = c.args.tally.now in
    let p = err_from_is_err_and c.from_residual.result c.from_residual.ensures.1 in
    rw (p.1)
    (part_first (g.O.ByteSink.took c.args.output.now)
    (g.O.ByteSink.took c.print_refusals.new.output) (flat_map (refusal_line t.refused) all_refusals)
    (counted_line t.outside (OutsideCount t.outside)) c.in_err-print_refusals.ensures.cut)

pub returns-clause-printed : goal.returns-clause-printed
returns-clause-printed g c =
    let t = c.args.tally.now in
    let lines : List ℕ = flat_map (refusal_line t.refused) all_refusals in
    let last : List ℕ = counted_line t.outside (OutsideCount t.outside) in
    let old = g.O.ByteSink.took c.args.output.now in
    let mid = g.O.ByteSink.took c.print_refusals.new.output in
    let new = g.O.ByteSink.took c.print_counted.new.output in
    on_ok c.print_counted.result (new ≡ mid ++ last) (new ≡ old ++ tally_text t)
    (took_both old mid new lines last c.in_ok-print_refusals.ensures.printed)
    c.print_counted.ensures.printed

pub returns-clause-cut : goal.returns-clause-cut
returns-clause-cut g c =
    let t = c.args.tally.now in
    let lines : List ℕ = flat_map (refusal_line t.refused) all_refusals in
    let last : List ℕ = counted_line t.outside (OutsideCount t.outside) in
    let old = g.O.ByteSink.took c.args.output.now in
    let mid = g.O.ByteSink.took c.print_refusals.new.output in
    let new = g.O.ByteSink.took c.print_counted.new.output in
    on_err c.print_counted.result (GrowsPart mid new last)
    (GrowsPart old new (tally_text t))
    (part_then old mid new lines last c.in_ok-print_refusals.ensures.printed)
    c.print_counted.ensures.cut
