use Rattle.frame_assembly.proofs.MissingFlags.{maximal}
use Rattle.frame_report.proofs.laws.missing_runs_are_maximal.Goals as goal

pub returns : goal.returns
returns c = maximal
