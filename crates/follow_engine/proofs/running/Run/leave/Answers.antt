use Rattle.follow_engine.specs.Running.{running_of}
use Rattle.follow_engine.proofs.Leaving.{leaves_none}
use Rattle.follow_engine.proofs.running.Run.leave.Goals as goal

pub returns-in-None-clause-left : goal.returns-in-None-clause-left
returns-in-None-clause-left g c =
    rw c.in-None.is (leaves_none g.P.PictureSink.takes (running_of c.args.self.now)
    c.args.pictures.now (g.O.ByteSink.took c.args.output.now))

pub returns-in-Some-clause-left : goal.returns-in-Some-clause-left
returns-in-Some-clause-left g c = rw c.in-Some.is c.leave_one.ensures.left

pub returns-in-Some-clause-part : goal.returns-in-Some-clause-part
returns-in-Some-clause-part g c = rw c.in-Some.is c.leave_one.ensures.part
