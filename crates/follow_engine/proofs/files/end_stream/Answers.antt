use Rattle.std.proofs.lemmas.Result.{err_from_is_err_and}
use Rattle.follow_engine.proofs.Beginnings.{ends_stream}
use Rattle.follow_engine.proofs.Short.{ends_early, ends_late}
use Rattle.follow_engine.proofs.Blamed.{blames_later}
use Rattle.follow_engine.proofs.files.end_stream.Goals as goal

pub returns-in_err-totals-clause-failures : goal.returns-in_err-totals-clause-failures
returns-in_err-totals-clause-failures g c =
    let shown = g.P.PictureSink.failures in
    let told = g.O.ByteSink.failures in
    let so = c.in_ok-finish.ensures.failures in
    let p = err_from_is_err_and c.from_residual-in_err-totals.result
    c.from_residual-in_err-totals.ensures.1 in
    rw (p.1, p.2)
    (blames_later c.in_err-totals.field-0.0 (shown c.args.pictures.now)
    (shown c.finish.new.pictures) (told c.args.output.now) (told c.finish.new.output)
    (told c.tell_totals.new.output) so.0 so.1 c.in_err-totals.ensures.failures)

pub returns-clause-ended : goal.returns-clause-ended
returns-clause-ended g c =
    let took = g.O.ByteSink.took in
    ends_stream g.P.PictureSink.takes c.args.run.now c.finish.new.self c.args.pictures.now
    c.finish.new.pictures (took c.args.output.now) (took c.finish.new.output)
    (took c.tell_totals.new.output) c.in_ok-totals.totals c.in_ok-finish.ensures.finished
    c.in_ok-totals.ensures.printed c.in_ok-totals.ensures.totals

pub returns-in_err-finish-clause-part : goal.returns-in_err-finish-clause-part
returns-in_err-finish-clause-part g c =
    let p = err_from_is_err_and c.from_residual.result c.from_residual.ensures.1 in
    let took = g.O.ByteSink.took in
    rw (p.1)
    (ends_early g.P.PictureSink.takes g.P.PictureSink.fails c.args.run.now c.args.pictures.now
    c.finish.new.pictures (took c.args.output.now) (took c.finish.new.output)
    c.in_err-finish.ensures.part)

pub returns-in_err-totals-clause-part : goal.returns-in_err-totals-clause-part
returns-in_err-totals-clause-part g c =
    let p = err_from_is_err_and c.from_residual-in_err-totals.result
    c.from_residual-in_err-totals.ensures.1 in
    let took = g.O.ByteSink.took in
    rw (p.1)
    (ends_late g.P.PictureSink.takes g.P.PictureSink.fails c.args.run.now c.finish.new.self
    c.args.pictures.now c.finish.new.pictures (took c.args.output.now)
    (took c.finish.new.output) (took c.tell_totals.new.output) c.in_ok-finish.ensures.finished
    c.in_err-totals.ensures.part)
