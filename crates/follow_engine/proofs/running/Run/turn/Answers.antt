use Rattle.std.proofs.Common.{◌∙◌, ◌++◌, Bool, ap, subst, sym}
use Rattle.std.proofs.lemmas.Result.{err_from_is_err_and}
use Rattle.following.specs.Turned.{handed_as, handed_early, state_early}
use Rattle.following.specs.declared.restarts.Restarts.{Restarts}
use Rattle.following.proofs.Driving.{turn_state}
use Rattle.st_format.specs.Raster.{Raster}
use Rattle.follow_engine.specs.Events.{Running, leaving}
use Rattle.follow_engine.specs.Running.{LeavesTurn, TellsSome, running_of}
use Rattle.follow_engine.proofs.Cut.{turn_cut}
use Rattle.follow_engine.proofs.Turns.{anew_told, run_turned, turn_told}
use Rattle.follow_engine.proofs.running.Run.turn.Goals as goal

pub take_turn-turn-requires : goal.take_turn-turn-requires
take_turn-turn-requires g c = c.requires.format

pub leave_turn-requires : goal.leave_turn-requires
leave_turn-requires g c =
    let noted = c.note-anew.ensures in
    ap (λ (r : Raster). r.format) noted.frame ∙ c.take_turn-turn.ensures.format
    ∙ sym (ap (λ (r : Running). r.follower.opening.format) noted.noted)

pub returns-clause-run : goal.returns-clause-run
returns-clause-run g c =
    let was = c.args.self.now in
    let left = c.in_ok-leave_turn.ensures in
    let noted = ap (λ (r : Running). r.follower) c.note-anew.ensures.noted in
    run_turned was c.leave_turn.new.self was.is_eager c.args.octets.now c.requires
    (ap (λ (r : Running). r.follower) left.left.running
    ∙ ap (λ (b : Bool). state_early b c.note-anew.new.self.follower) c.note-anew.ensures.eager
    ∙ turn_state was.is_eager was.follower c.note-anew.new.self.follower c.args.octets.now
    (noted ∙ c.take_turn-turn.ensures.state))
    left.follower left.format
    (ap (λ (r : Restarts). r.bound) left.restarts ∙ c.note-anew.ensures.bound)
    (left.steering ∙ c.note-anew.ensures.steering)

pub returns-clause-turned : goal.returns-clause-turned
returns-clause-turned g c =
    let was = c.args.self.now in
    let took = g.O.ByteSink.took in
    let turn = c.take_turn-turn in
    let noted = c.note-anew in
    let gone = handed_as turn.result.handed noted.new.self.frame in
    turn_told g.P.PictureSink.takes was.is_eager (running_of was) (running_of noted.new.self)
    (running_of c.leave_turn.new.self) c.args.octets.now was.restarts.bound turn.result.answer
    turn.new.follower gone c.args.pictures.now
    c.leave_turn.new.pictures (took c.args.output.now) (took c.leave_turn.new.output)
    c.requires.bound turn.ensures.state turn.ensures.answer
    (ap (λ (r : Raster). handed_as turn.result.handed r) noted.ensures.frame
    ∙ turn.ensures.handed) noted.ensures.noted
    (subst (λ (b : Bool). LeavesTurn g.P.PictureSink.takes b (running_of noted.new.self)
    (running_of c.leave_turn.new.self) gone c.args.pictures.now c.leave_turn.new.pictures
    (took c.args.output.now) (took c.leave_turn.new.output)) noted.ensures.eager
    c.in_ok-leave_turn.ensures.left)

pub returns-clause-anew : goal.returns-clause-anew
returns-clause-anew g c =
    let was = c.args.self.now in
    anew_told (running_of was) c.args.octets.now was.restarts.bound c.take_turn-turn.result.answer
    c.note-anew.result c.requires.bound c.take_turn-turn.ensures.answer c.note-anew.ensures.anew

pub returns-in_err-leave_turn-clause-part : goal.returns-in_err-leave_turn-clause-part
returns-in_err-leave_turn-clause-part g c =
    let p = err_from_is_err_and c.from_residual.result c.from_residual.ensures.1 in
    let was = c.args.self.now in
    let took = g.O.ByteSink.took in
    let turn = c.take_turn-turn in
    let noted = c.note-anew in
    let gone = handed_as turn.result.handed noted.new.self.frame in
    rw (p.1)
    (turn_cut g.P.PictureSink.takes g.P.PictureSink.fails was.is_eager (running_of was)
    (running_of noted.new.self) c.args.octets.now was.restarts.bound turn.result.answer
    turn.new.follower gone c.args.pictures.now
    c.leave_turn.new.pictures (took c.args.output.now) (took c.leave_turn.new.output)
    turn.ensures.answer turn.ensures.state
    (ap (λ (r : Raster). handed_as turn.result.handed r) noted.ensures.frame
    ∙ turn.ensures.handed) noted.ensures.noted
    (subst (λ (b : Bool). TellsSome g.P.PictureSink.takes g.P.PictureSink.fails
    c.args.pictures.now c.leave_turn.new.pictures (took c.args.output.now)
    (took c.leave_turn.new.output)
    (leaving noted.new.self.late (gone ++ handed_early b noted.new.self.follower)))
    noted.ensures.eager c.in_err-leave_turn.ensures.part))
