use Rattle.std.proofs.Common.{◌≡◌, ◌∙◌, ◌++◌, [], Bool, ap, subst, sym}
use Rattle.std.proofs.lemmas.Result.{err_from_is_err_and}
use Rattle.run_outcome.proofs.Printed.{on_err, on_ok}
use Rattle.following.specs.Follower.{Following, IsFollower}
use Rattle.following.specs.Turned.{handed_as, handed_early}
use Rattle.st_format.specs.Raster.{Raster}
use Rattle.follow_engine.specs.Events.{leaving}
use Rattle.follow_engine.specs.Running.{LeavesTurn, TellsSome, running_of}
use Rattle.follow_engine.proofs.Blamed.{accounts_both, whenever_ok}
use Rattle.follow_engine.proofs.Cut.{first_cut, rest_cut}
use Rattle.follow_engine.proofs.Leaving.{leaves_turn}
use Rattle.follow_engine.proofs.running.Run.leave_turn.Goals as goal

pub leave_early-requires : goal.leave_early-requires
leave_early-requires g c =
    let left = c.in_ok-leave.ensures in
    ap (λ (r : Raster). r.format) left.frame ∙ c.requires
    ∙ sym (ap (λ (f : Following). f.opening.format) left.follower)

pub returns-clause-format : goal.returns-clause-format
returns-clause-format g c =
    let last = c.leave_early.new.self in
    whenever_ok c.leave_early.result (last.frame.format ≡ last.follower.opening.format)
    c.leave_early.ensures.format

pub returns-clause-follower : goal.returns-clause-follower
returns-clause-follower g c =
    whenever_ok c.leave_early.result (IsFollower c.leave_early.new.self.follower)
    c.leave_early.ensures.follower

pub returns-clause-restarts : goal.returns-clause-restarts
returns-clause-restarts g c = c.leave_early.ensures.restarts ∙ c.leave.ensures.restarts

pub returns-clause-eager : goal.returns-clause-eager
returns-clause-eager g c = c.leave_early.ensures.eager ∙ c.leave.ensures.eager

pub returns-clause-steering : goal.returns-clause-steering
returns-clause-steering g c = c.leave_early.ensures.steering ∙ c.leave.ensures.steering

pub returns-clause-left : goal.returns-clause-left
returns-clause-left g c =
    let was = c.args.self.now in
    let took = g.O.ByteSink.took in
    let takes = g.P.PictureSink.takes in
    let mid = c.leave.new.self in
    let last = c.leave_early.new in
    let gone = handed_as c.args.handed was.frame in
    let eager = c.in_ok-leave.ensures.eager in
    on_ok c.leave_early.result
    (LeavesTurn takes mid.is_eager (running_of mid) (running_of last.self) []
    c.leave.new.pictures last.pictures (took c.leave.new.output) (took last.output))
    (LeavesTurn takes was.is_eager (running_of was) (running_of last.self) gone
    c.args.pictures.now last.pictures (took c.args.output.now) (took last.output))
    (λ rest. leaves_turn takes was.is_eager (running_of was) (running_of mid)
    (running_of last.self) gone c.args.pictures.now c.leave.new.pictures last.pictures
    (took c.args.output.now) (took c.leave.new.output) (took last.output)
    c.in_ok-leave.ensures.left
    (subst (λ (b : Bool). LeavesTurn takes b (running_of mid) (running_of last.self) []
    c.leave.new.pictures last.pictures (took c.leave.new.output) (took last.output)) eager rest))
    c.leave_early.ensures.left

pub returns-clause-part : goal.returns-clause-part
returns-clause-part g c =
    let was = c.args.self.now in
    let took = g.O.ByteSink.took in
    let takes = g.P.PictureSink.takes in
    let fails = g.P.PictureSink.fails in
    let mid = c.leave.new.self in
    let last = c.leave_early.new in
    let gone = handed_as c.args.handed was.frame in
    let eager = c.in_ok-leave.ensures.eager in
    on_err c.leave_early.result
    (TellsSome takes fails c.leave.new.pictures last.pictures (took c.leave.new.output)
    (took last.output) (leaving mid.late (handed_early mid.is_eager mid.follower)))
    (TellsSome takes fails c.args.pictures.now last.pictures (took c.args.output.now)
    (took last.output) (leaving was.late (gone ++ handed_early was.is_eager was.follower)))
    (λ rest. rest_cut takes fails was.is_eager (running_of was) (running_of mid) gone
    c.args.pictures.now c.leave.new.pictures last.pictures (took c.args.output.now)
    (took c.leave.new.output) (took last.output) c.in_ok-leave.ensures.left
    (subst (λ (b : Bool). TellsSome takes fails c.leave.new.pictures last.pictures
    (took c.leave.new.output) (took last.output) (leaving mid.late (handed_early b mid.follower)))
    eager rest))
    c.leave_early.ensures.part

pub returns-clause-failures : goal.returns-clause-failures
returns-clause-failures g c =
    let shown = g.P.PictureSink.failures in
    let told = g.O.ByteSink.failures in
    let so = c.in_ok-leave.ensures.failures in
    accounts_both c.leave_early.result (shown c.args.pictures.now) (shown c.leave.new.pictures)
    (shown c.leave_early.new.pictures) (told c.args.output.now) (told c.leave.new.output)
    (told c.leave_early.new.output) so.0 so.1 c.leave_early.ensures.failures

pub returns-in_err-leave-clause-part : goal.returns-in_err-leave-clause-part
returns-in_err-leave-clause-part g c =
    let p = err_from_is_err_and c.from_residual.result c.from_residual.ensures.1 in
    let was = c.args.self.now in
    let took = g.O.ByteSink.took in
    rw (p.1)
    (first_cut g.P.PictureSink.takes g.P.PictureSink.fails was.late
    (handed_as c.args.handed was.frame) (handed_early was.is_eager was.follower)
    c.args.pictures.now c.leave.new.pictures (took c.args.output.now) (took c.leave.new.output)
    c.in_err-leave.ensures.part)
