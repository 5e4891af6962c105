use Rattle.std.proofs.Common.{refl}
use Rattle.std.proofs.lemmas.Result.{err_from_is_err_and}
use Rattle.frame_sinks.proofs.Written.{fails_planes, takes_planes}
use Rattle.frame_sinks.proofs.form_sink.FormSink.show_planes.Goals as goal

pub returns-clause-taken : goal.returns-clause-taken
returns-clause-taken g c =
    takes_planes g.K.ByteSink.took c.args.self.now _ c.write_next_planes.new.sink
    c.fill-fill.result c.format.result
    (record { timestamp = c.args.timestamp; frame = c.args.frame.now }) c.requires.filling
    c.requires.held c.requires.ycc c.format.ensures.format c.fill-fill.ensures
    c.in_ok-write_next_planes.ensures.written refl refl refl

pub returns-in_err-write_next_planes-clause-failed :
    goal.returns-in_err-write_next_planes-clause-failed
returns-in_err-write_next_planes-clause-failed g c =
    let p = err_from_is_err_and c.from_residual.result c.from_residual.ensures.1 in
    rw (p.1)
    (fails_planes g.K.ByteSink.took c.args.self.now
    (record c.args.self.now { sink = c.write_next_planes.new.sink })
    c.write_next_planes.new.sink c.fill-fill.result
    (record { timestamp = c.args.timestamp; frame = c.args.frame.now }) c.fill-fill.ensures
    c.requires.held c.requires.ycc c.in_err-write_next_planes.ensures.part refl)
