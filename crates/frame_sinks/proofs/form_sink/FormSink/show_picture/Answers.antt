use Rattle.std.proofs.Common.{Some, ap, refl}
use Rattle.std.proofs.lemmas.Result.{err_from_is_err_and}
use Rattle.frame_sinks.proofs.Written.{fails_frame, takes_frame}
use Rattle.follow_engine.proofs.Grows.{grows_none}
use Rattle.st_format.specs.declared.format.Format.{Format}
use Rattle.frame_sinks.proofs.form_sink.FormSink.show_picture.Goals as goal

pub returns-clause-taken : goal.returns-clause-taken
returns-clause-taken g c =
    let same = c.in_ok-picture.ensures in
    let kept = c.keep.ensures in
    takes_frame g.K.ByteSink.took c.args.self.now _ c.settle.new.self c.write_next.new.sink
    c.in_ok-picture.picture _ same.filling same.fill same.held same.picture
    c.in_ok-write_next.ensures.written refl
    (ap (λ (f : Format). Some f) c.format.ensures.value) kept.filling kept.fill kept.held

pub returns-in_err-picture-clause-failed : goal.returns-in_err-picture-clause-failed
returns-in_err-picture-clause-failed g c =
    let p = err_from_is_err_and c.from_residual.result c.from_residual.ensures.1 in
    rw (p.1) (grows_none _ _)

pub returns-in_err-write_next-clause-failed : goal.returns-in_err-write_next-clause-failed
returns-in_err-write_next-clause-failed g c =
    let p = err_from_is_err_and c.from_residual-in_err-write_next.result
    c.from_residual-in_err-write_next.ensures.1 in
    rw (p.1)
    (fails_frame g.K.ByteSink.took c.args.self.now
    (record c.args.self.now { sink = c.write_next.new.sink }) c.write_next.new.sink
    c.in_ok-picture.picture (record { timestamp = c.args.timestamp; frame = c.args.frame.now })
    c.in_ok-picture.ensures.picture c.in_err-write_next.ensures.part refl)
