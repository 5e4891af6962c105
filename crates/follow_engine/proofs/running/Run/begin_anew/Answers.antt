use Rattle.std.proofs.Common.{◌≡◌, ◌++◌, ◌∷◌, [], ◌∙◌, ap, refl, sym}
use Rattle.std.proofs.lemmas.Result.{err_from_is_err_and}
use Rattle.run_outcome.proofs.Printed.{on_err, on_ok}
use Rattle.st_format.specs.Device.{GrowsPart}
use Rattle.following.specs.Follower.{Following}
use Rattle.following.specs.Following.{frames_in}
use Rattle.follow_engine.specs.Events.{Anew, leaving}
use Rattle.follow_engine.specs.Line.{ended_line}
use Rattle.follow_engine.specs.Running.{BeginsAnew, TellsSome, steering_of}
use Rattle.follow_engine.specs.declared.line.FollowLine.TheVariants as line
use Rattle.follow_engine.specs.declared.running.Run.{Run}
use Rattle.follow_engine.proofs.Blamed.{accounts_later}
use Rattle.follow_engine.proofs.Cut.{anew_cut, tells_first, tells_then}
use Rattle.follow_engine.proofs.Leaving.{begins_anew}
use Rattle.follow_engine.proofs.Tells.{told_anew}
use Rattle.follow_engine.proofs.running.Run.begin_anew.Goals as goal

pub restart-requires : goal.restart-requires
restart-requires g c = c.in_ok-finish.ensures.finished.none

pub returns-clause-begun : goal.returns-clause-begun
returns-clause-begun g c =
    let took = g.O.ByteSink.took in
    let takes = g.P.PictureSink.takes in
    let mid = c.finish.new.self in
    let done = c.in_ok-finish.ensures.finished in
    let now : Run _ = record mid { follower = c.restart.new.self; need = c.restart-2.new.self } in
    let shown = c.finish.new.pictures in
    let told = took c.finish.new.output in
    let last = took c.print.new.output in
    let is = c.restart.ensures.opened in
    on_ok c.print.result (last ≡ told ++ ended_line (line.Anew c.args.timestamp))
    (BeginsAnew takes c.args.timestamp c.args.self.now now c.args.pictures.now shown
    (took c.args.output.now) last)
    (λ printed. begins_anew takes c.args.timestamp c.args.self.now mid now c.args.pictures.now
    shown (took c.args.output.now) told last done
    (record {
      follower = c.restart.ensures.follower;
      format = done.run.format ∙ sym c.restart.ensures.format;
      bound = done.run.bound ∙ sym (ap (λ (f : Following). f.most_ahead) is);
      steering = done.run.steering ∙ sym (ap (λ (f : Following). steering_of f.opening) is);
    })
    is c.restart-2.ensures refl (told_anew takes shown told last c.args.timestamp printed))
    c.print.ensures.printed

pub returns-clause-failures : goal.returns-clause-failures
returns-clause-failures g c =
    let shown = g.P.PictureSink.failures in
    let told = g.O.ByteSink.failures in
    let so = c.in_ok-finish.ensures.failures in
    accounts_later c.print.result (shown c.args.pictures.now) (shown c.finish.new.pictures)
    (told c.args.output.now) (told c.finish.new.output) (told c.print.new.output) so.0 so.1
    c.print.ensures.failures

pub returns-clause-part : goal.returns-clause-part
returns-clause-part g c =
    let took = g.O.ByteSink.took in
    let takes = g.P.PictureSink.takes in
    let fails = g.P.PictureSink.fails in
    let was = c.args.self.now in
    let shown = c.finish.new.pictures in
    let told = took c.finish.new.output in
    let last = took c.print.new.output in
    let left = leaving was.late (frames_in was.follower) in
    on_err c.print.result (GrowsPart told last (ended_line (line.Anew c.args.timestamp)))
    (TellsSome takes fails c.args.pictures.now shown (took c.args.output.now) last
    (left ++ Anew c.args.timestamp ∷ []))
    (λ part. tells_then takes fails c.args.pictures.now shown shown (took c.args.output.now) told
    last left (Anew c.args.timestamp ∷ []) c.in_ok-finish.ensures.finished.told
    (anew_cut takes fails shown told last c.args.timestamp part)) c.print.ensures.part

pub returns-in_err-finish-clause-part : goal.returns-in_err-finish-clause-part
returns-in_err-finish-clause-part g c =
    let p = err_from_is_err_and c.from_residual.result c.from_residual.ensures.1 in
    let took = g.O.ByteSink.took in
    let was = c.args.self.now in
    rw (p.1)
    (tells_first g.P.PictureSink.takes g.P.PictureSink.fails c.args.pictures.now
    c.finish.new.pictures (took c.args.output.now) (took c.finish.new.output)
    (leaving was.late (frames_in was.follower)) (Anew c.args.timestamp ∷ [])
    c.in_err-finish.ensures.part)
