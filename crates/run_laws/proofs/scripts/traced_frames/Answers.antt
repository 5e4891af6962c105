use Rattle.run_laws.proofs.ScriptFrames.{ended, holds}
use Rattle.run_laws.proofs.scripts.traced_frames.Goals as goal

pub returns-clause-ended : goal.returns-clause-ended
returns-clause-ended c = ended

pub returns-clause-holds : goal.returns-clause-holds
returns-clause-holds c = holds
