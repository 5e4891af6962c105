use Rattle.run_laws.proofs.SentAgain.{job_received}
use Rattle.run_laws.proofs.sent.processed_and_received.Goals as goal

pub returns : goal.returns
returns c = job_received
