use Rattle.std.proofs.Common.{◌≡◌, ◌++◌, ◌∷◌, []}
use Rattle.std.proofs.lemmas.Result.{err_from_is_err_and}
use Rattle.run_outcome.proofs.Printed.{are_counts, on_err, on_ok}
use Rattle.following.specs.Following.{Handed}
use Rattle.follow_engine.specs.Events.{Left}
use Rattle.follow_engine.specs.Line.{ended_line}
use Rattle.follow_engine.specs.Running.{TellsEvents, TellsSome}
use Rattle.follow_engine.specs.declared.line.FollowLine.TheVariants as line
use Rattle.follow_engine.proofs.Blamed.{accounts_output, blames_pictures}
use Rattle.follow_engine.proofs.Cut.{left_cut, left_failed, no_memory}
use Rattle.follow_engine.proofs.Tells.{told_left}
use Rattle.st_format.specs.Device.{GrowsPart}
use Rattle.follow_engine.proofs.showing.show_frame.Goals as goal

pub returns-clause-told : goal.returns-clause-told
returns-clause-told g c =
    let took = g.O.ByteSink.took in
    let takes = g.P.PictureSink.takes in
    let h : Handed = record { timestamp = c.args.timestamp; frame = c.args.frame.now } in
    let counts = c.counts-counts.result in
    let is = c.counts-counts.ensures in
    let old = took c.args.output.now in
    let new = took c.print.new.output in
    on_ok c.print.result (new ≡ old ++ ended_line (line.Left c.args.timestamp counts c.args.late))
    (TellsEvents takes c.args.pictures.now c.show.new.self old new (Left h c.args.late ∷ []))
    (told_left takes c.args.pictures.now c.show.new.self old new h counts c.args.late
    (are_counts counts c.args.frame.now is.present is.missing is.contested)
    c.in_ok-show.ensures.taken) c.print.ensures.printed

pub returns-clause-failures : goal.returns-clause-failures
returns-clause-failures g c =
    let shown = g.P.PictureSink.failures in
    let told = g.O.ByteSink.failures in
    accounts_output c.print.result (shown c.args.pictures.now) (shown c.show.new.self)
    (told c.args.output.now) (told c.print.new.output) c.in_ok-show.ensures.failures
    c.print.ensures.failures

pub returns-in_err-show-clause-failures : goal.returns-in_err-show-clause-failures
returns-in_err-show-clause-failures g c =
    let shown = g.P.PictureSink.failures in
    let told = g.O.ByteSink.failures in
    let p = err_from_is_err_and c.from_residual.result c.from_residual.ensures.1 in
    rw (p.1, p.2)
    (blames_pictures c.in_err-show.field-0.0 (shown c.args.pictures.now) (shown c.show.new.self)
    (told c.args.output.now) c.in_err-show.ensures.failures)

pub returns-clause-part : goal.returns-clause-part
returns-clause-part g c =
    let took = g.O.ByteSink.took in
    let takes = g.P.PictureSink.takes in
    let fails = g.P.PictureSink.fails in
    let h : Handed = record { timestamp = c.args.timestamp; frame = c.args.frame.now } in
    let counts = c.counts-counts.result in
    let is = c.counts-counts.ensures in
    let old = took c.args.output.now in
    let new = took c.print.new.output in
    on_err c.print.result
    (GrowsPart old new (ended_line (line.Left c.args.timestamp counts c.args.late)))
    (TellsSome takes fails c.args.pictures.now c.show.new.self old new (Left h c.args.late ∷ []))
    (left_cut takes fails c.args.pictures.now c.show.new.self old new h counts c.args.late
    (are_counts counts c.args.frame.now is.present is.missing is.contested)
    c.in_ok-show.ensures.taken) c.print.ensures.part

pub returns-in_err-show-clause-part : goal.returns-in_err-show-clause-part
returns-in_err-show-clause-part g c =
    let p = err_from_is_err_and c.from_residual.result c.from_residual.ensures.1 in
    rw (p.1)
    (left_failed g.P.PictureSink.takes g.P.PictureSink.fails c.args.pictures.now c.show.new.self
    (g.O.ByteSink.took c.args.output.now)
    (record { timestamp = c.args.timestamp; frame = c.args.frame.now }) c.args.late
    c.in_err-show.ensures.failed)

pub returns-clause-memory : goal.returns-clause-memory
returns-clause-memory g c = no_memory _ c.print.result c.print.ensures.device

pub returns-in_err-show-clause-memory : goal.returns-in_err-show-clause-memory
returns-in_err-show-clause-memory g c = λ _. c.in_err-show.ensures.failed
