use Rattle.std.proofs.lemmas.Result.{err_from_is_err_and}
use Rattle.st_format.proofs.Gave.{grew_twice}
use Rattle.follow_engine.specs.Line.{ended_in, ended_line}
use Rattle.follow_engine.specs.Running.{running_of}
use Rattle.follow_engine.specs.Telling.{totals_of, wanted}
use Rattle.follow_engine.specs.declared.line.FollowLine.TheVariants as line
use Rattle.follow_engine.proofs.Grows.{grows_first, grows_part, grows_then}
use Rattle.follow_engine.proofs.Noting.{part_wanted, wanted_by}
use Rattle.follow_engine.proofs.telling.tell_totals.Goals as goal

pub returns-clause-printed : goal.returns-clause-printed
returns-clause-printed g c =
    let took = g.O.ByteSink.took in
    let run = c.args.run.now in
    let r = running_of run in
    grew_twice (took c.args.output.now) (took c.print.new.output) (took c.tell.new.output)
    (ended_line (line.Totals (totals_of r)))
    (ended_in (wanted r.follower.size r.tally.late r.need.need)) c.in_ok-print.ensures.printed
    (wanted_by (took c.print.new.output) (took c.tell.new.output) c.wanted-last.result c.size.result
    run.follower.size run.tally.late c.frames.result run.need.need c.in_ok-tell.ensures.printed
    c.wanted-last.ensures c.size.ensures.size c.frames.ensures.need)

pub returns-in_err-print-clause-part : goal.returns-in_err-print-clause-part
returns-in_err-print-clause-part g c =
    let p = err_from_is_err_and c.from_residual.result c.from_residual.ensures.1 in
    let took = g.O.ByteSink.took in
    let r = running_of c.args.run.now in
    let text = ended_line (line.Totals (totals_of r)) in
    rw (p.1)
    (grows_first (took c.args.output.now) (took c.print.new.output) text
    (ended_in (wanted r.follower.size r.tally.late r.need.need))
    (grows_part (took c.args.output.now) (took c.print.new.output) text
    c.in_err-print.ensures.part))

pub returns-in_err-tell-clause-part : goal.returns-in_err-tell-clause-part
returns-in_err-tell-clause-part g c =
    let p = err_from_is_err_and c.from_residual-in_err-tell.result
    c.from_residual-in_err-tell.ensures.1 in
    let took = g.O.ByteSink.took in
    let run = c.args.run.now in
    let r = running_of run in
    let last = ended_in (wanted r.follower.size r.tally.late r.need.need) in
    rw (p.1)
    (grows_then (took c.args.output.now) (took c.print.new.output) (took c.tell.new.output)
    (ended_line (line.Totals (totals_of r))) last c.in_ok-print.ensures.printed
    (grows_part (took c.print.new.output) (took c.tell.new.output) last
    (part_wanted (took c.print.new.output) (took c.tell.new.output) c.wanted-last.result
    c.size.result run.follower.size run.tally.late c.frames.result run.need.need
    c.in_err-tell.ensures.part c.wanted-last.ensures c.size.ensures.size c.frames.ensures.need)))
