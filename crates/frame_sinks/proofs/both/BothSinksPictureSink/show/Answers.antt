use Rattle.std.proofs.Common.{◌≡◌, ◌⊎◌, inl, inr, refl}
use Rattle.std.proofs.lemmas.Result.{err_from_is_err_and}
use Rattle.frame_sinks.proofs.Shown.{accounts_second, blames_first}
use Rattle.run_outcome.proofs.Printed.{on_err, on_ok}
use Rattle.following.specs.Following.{Handed}
use Rattle.frame_sinks.proofs.both.BothSinksPictureSink.show.Goals as goal

pub returns-clause-taken : goal.returns-clause-taken
returns-clause-taken g c =
    let h : Handed = record { timestamp = c.args.timestamp; frame = c.args.frame.now } in
    on_ok c.show-2.result
    (g.Q.PictureSink.takes c.args.self.now.second h c.show-2.new.self)
    (g.P.PictureSink.takes c.args.self.now.first h c.show.new.self
    × g.Q.PictureSink.takes c.args.self.now.second h c.show-2.new.self)
    (λ is. (c.in_ok-show.ensures.taken, is)) c.show-2.ensures.taken

pub returns-clause-failures : goal.returns-clause-failures
returns-clause-failures g c =
    accounts_second c.show-2.result (g.P.PictureSink.failures c.args.self.now.first)
    (g.P.PictureSink.failures c.show.new.self) (g.Q.PictureSink.failures c.args.self.now.second)
    (g.Q.PictureSink.failures c.show-2.new.self) c.in_ok-show.ensures.failures
    c.show-2.ensures.failures

pub returns-in_err-show-clause-failures : goal.returns-in_err-show-clause-failures
returns-in_err-show-clause-failures g c =
    let p = err_from_is_err_and c.from_residual.result c.from_residual.ensures.1 in
    rw (p.1, p.2)
    (blames_first c.in_err-show.field-0.0 (g.P.PictureSink.failures c.args.self.now.first)
    (g.P.PictureSink.failures c.show.new.self) (g.Q.PictureSink.failures c.args.self.now.second)
    c.in_err-show.ensures.failures)

pub returns-clause-failed : goal.returns-clause-failed
returns-clause-failed g c =
    let h : Handed = record { timestamp = c.args.timestamp; frame = c.args.frame.now } in
    let k = c.args.self.now in
    let first = c.show.new.self in
    let second = c.show-2.new.self in
    on_err c.show-2.result (g.Q.PictureSink.fails k.second h second)
    ((g.P.PictureSink.fails k.first h first × (second ≡ k.second))
    ⊎ (g.P.PictureSink.takes k.first h first × g.Q.PictureSink.fails k.second h second))
    (λ is. inr (c.in_ok-show.ensures.taken, is)) c.show-2.ensures.failed

pub returns-in_err-show-clause-failed : goal.returns-in_err-show-clause-failed
returns-in_err-show-clause-failed g c =
    let p = err_from_is_err_and c.from_residual.result c.from_residual.ensures.1 in
    rw (p.1) (inl (c.in_err-show.ensures.failed, refl))
