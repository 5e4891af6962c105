use Rattle.std.proofs.Common.{append-nil, sym}
use Rattle.follow_engine.proofs.telling.tell.Goals as goal

pub returns-in-None-clause-printed : goal.returns-in-None-clause-printed
returns-in-None-clause-printed g c =
    rw c.in-None.is (sym (append-nil (g.O.ByteSink.took c.args.output.now)))
