use Rattle.media_file.proofs.Splits.{splits}
use Rattle.media_file.proofs.laws.records_read.Goals as goal

pub returns : goal.returns
returns c octets bytes = splits octets bytes
