use Rattle.follow_engine.specs.Events.{running_from}
use Rattle.follow_engine.proofs.Restarted.{restarted_frames}
use Rattle.follow_engine.proofs.laws.two_streams.Goals as goal

pub returns : goal.returns
returns c = λ eager s before rest octets none is.
    restarted_frames eager (running_from s) before rest octets none is
