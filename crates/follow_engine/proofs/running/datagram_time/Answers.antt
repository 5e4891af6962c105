use Rattle.std.proofs.Common.{ap, sym}
use Rattle.follow_engine.specs.Events.{header_time}
use Rattle.follow_engine.proofs.running.datagram_time.Goals as goal

pub returns-in-Ok : goal.returns-in-Ok
returns-in-Ok c = sym (ap header_time c.in-Ok.ensures.exact)

pub returns-in-Err : goal.returns-in-Err
returns-in-Err c = sym (ap header_time c.in-Err.ensures.exact)
