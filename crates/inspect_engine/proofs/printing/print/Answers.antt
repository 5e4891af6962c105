use Rattle.run_outcome.proofs.Blaming.{failed_one}
use Rattle.inspect_engine.proofs.printing.print.Goals as goal

pub returns-in-Err-clause-failures : goal.returns-in-Err-clause-failures
returns-in-Err-clause-failures g c = failed_one _ _ c.in-Err.ensures.counted
