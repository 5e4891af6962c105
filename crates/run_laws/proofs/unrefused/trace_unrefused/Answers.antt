use Rattle.run_laws.proofs.NoTraceRefusals.{trace_not}
use Rattle.run_laws.proofs.unrefused.trace_unrefused.Goals as goal

pub returns : goal.returns
returns g c = trace_not g.S.ByteSource.gave g.S.ByteSource.ended
