use Rattle.media_file.proofs.Splits.{run_read}
use Rattle.media_file.proofs.laws.one_run.Goals as goal

pub returns : goal.returns
returns c octets rest entries bytes run = run_read octets rest entries bytes run
