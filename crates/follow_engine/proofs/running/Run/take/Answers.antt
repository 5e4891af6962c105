use Rattle.std.proofs.Common.{◌++◌, ◌∷◌, []}
use Rattle.std.proofs.lemmas.Result.{err_from_is_err_and}
use Rattle.run_outcome.proofs.Printed.{on_err, on_ok}
use Rattle.following.specs.Following.{frames_in}
use Rattle.follow_engine.specs.Events.{Anew, datagram_time, events_at, is_anew, leaving}
use Rattle.follow_engine.specs.Running.{BeginsAnew, FollowsDatagram, IsSoundRun, TellsSome}
use Rattle.follow_engine.specs.Running.{running_of}
use Rattle.follow_engine.proofs.Blamed.{accounts_both}
use Rattle.follow_engine.proofs.Cut.{anew_stops, turn_stops}
use Rattle.follow_engine.proofs.Turns.{not_anew, some_anew, turn_anew, turn_plain}
use Rattle.follow_engine.proofs.running.Run.take.Goals as goal

pub returns-in-Some-clause-run : goal.returns-in-Some-clause-run
returns-in-Some-clause-run g c =
    let took = g.O.ByteSink.took in
    on_ok c.begin_anew.result
    (BeginsAnew g.P.PictureSink.takes c.in-Some.timestamp c.turn.new.self c.begin_anew.new.self
    c.turn.new.pictures c.begin_anew.new.pictures (took c.turn.new.output)
    (took c.begin_anew.new.output)) (IsSoundRun c.begin_anew.new.self) (λ is. is.run)
    c.begin_anew.ensures.begun

pub returns-in-Some-clause-took : goal.returns-in-Some-clause-took
returns-in-Some-clause-took g c =
    let took = g.O.ByteSink.took in
    let takes = g.P.PictureSink.takes in
    let was = c.args.self.now in
    let mid = c.turn.new.self in
    let now = c.begin_anew.new.self in
    let octets = c.args.octets.now in
    let said =
    some_anew (is_anew (running_of was) octets) (datagram_time octets) c.in-Some.timestamp
    (rw c.in-Some.is at c.in_ok-anew.ensures.anew) in
    on_ok c.begin_anew.result
    (BeginsAnew takes c.in-Some.timestamp mid now c.turn.new.pictures c.begin_anew.new.pictures
    (took c.turn.new.output) (took c.begin_anew.new.output))
    (FollowsDatagram takes was.is_eager (running_of was) (running_of now) octets c.args.pictures.now
    c.begin_anew.new.pictures (took c.args.output.now) (took c.begin_anew.new.output))
    (λ is. turn_anew takes was.is_eager (running_of was) (running_of mid) (running_of now) octets
    c.in-Some.timestamp c.args.pictures.now c.turn.new.pictures c.begin_anew.new.pictures
    (took c.args.output.now) (took c.turn.new.output) (took c.begin_anew.new.output) said.0 said.1
    c.in_ok-anew.ensures.turned is.running is.told) c.begin_anew.ensures.begun

pub returns-in-Some-clause-failures : goal.returns-in-Some-clause-failures
returns-in-Some-clause-failures g c =
    let shown = g.P.PictureSink.failures in
    let told = g.O.ByteSink.failures in
    let so = c.in_ok-anew.ensures.failures in
    accounts_both c.begin_anew.result (shown c.args.pictures.now) (shown c.turn.new.pictures)
    (shown c.begin_anew.new.pictures) (told c.args.output.now) (told c.turn.new.output)
    (told c.begin_anew.new.output) so.0 so.1 c.begin_anew.ensures.failures

pub returns-in-None-clause-took : goal.returns-in-None-clause-took
returns-in-None-clause-took g c =
    let took = g.O.ByteSink.took in
    let was = c.args.self.now in
    let octets = c.args.octets.now in
    turn_plain g.P.PictureSink.takes was.is_eager (running_of was) (running_of c.turn.new.self)
    octets c.args.pictures.now c.turn.new.pictures (took c.args.output.now)
    (took c.turn.new.output)
    (not_anew (running_of was) octets (rw c.in-None.is at c.in_ok-anew.ensures.anew))
    c.in_ok-anew.ensures.turned

pub returns-in-Some-clause-part : goal.returns-in-Some-clause-part
returns-in-Some-clause-part g c =
    let took = g.O.ByteSink.took in
    let takes = g.P.PictureSink.takes in
    let fails = g.P.PictureSink.fails in
    let was = c.args.self.now in
    let mid = c.turn.new.self in
    let octets = c.args.octets.now in
    let said =
    some_anew (is_anew (running_of was) octets) (datagram_time octets) c.in-Some.timestamp
    (rw c.in-Some.is at c.in_ok-anew.ensures.anew) in
    on_err c.begin_anew.result
    (TellsSome takes fails c.turn.new.pictures c.begin_anew.new.pictures
    (took c.turn.new.output) (took c.begin_anew.new.output)
    (leaving mid.late (frames_in mid.follower) ++ Anew c.in-Some.timestamp ∷ []))
    (TellsSome takes fails c.args.pictures.now c.begin_anew.new.pictures
    (took c.args.output.now) (took c.begin_anew.new.output)
    (events_at was.is_eager (running_of was) octets))
    (λ part. anew_stops takes fails was.is_eager (running_of was) (running_of mid) octets
    c.in-Some.timestamp c.args.pictures.now c.turn.new.pictures c.begin_anew.new.pictures
    (took c.args.output.now) (took c.turn.new.output) (took c.begin_anew.new.output) said.0 said.1
    c.in_ok-anew.ensures.turned part) c.begin_anew.ensures.part

pub returns-in_err-anew-clause-part : goal.returns-in_err-anew-clause-part
returns-in_err-anew-clause-part g c =
    let p = err_from_is_err_and c.from_residual.result c.from_residual.ensures.1 in
    let took = g.O.ByteSink.took in
    let was = c.args.self.now in
    rw (p.1)
    (turn_stops g.P.PictureSink.takes g.P.PictureSink.fails was.is_eager (running_of was)
    c.args.octets.now c.args.pictures.now c.turn.new.pictures (took c.args.output.now)
    (took c.turn.new.output) c.in_err-anew.ensures.part)
