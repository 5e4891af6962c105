use Rattle.run_outcome.specs.Moments.{WasRead}
use Rattle.stream_sending.proofs.Written.{as_files}
use Rattle.stream_sending.proofs.laws.sent_as_files.Goals as goal

pub returns : goal.returns
returns g c = as_files (WasRead g.S.ByteSource.gave g.S.ByteSource.ended)
