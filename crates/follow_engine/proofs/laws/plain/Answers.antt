use Rattle.follow_engine.specs.Events.{running_from}
use Rattle.follow_engine.proofs.Without.{plain_frames}
use Rattle.follow_engine.proofs.laws.plain.Goals as goal

pub returns : goal.returns
returns c = λ eager s datagrams none. plain_frames eager (running_from s) datagrams none
