use Rattle.media_file.proofs.Splits.{capture_again}
use Rattle.media_file.proofs.laws.capture_read.Goals as goal

pub returns : goal.returns
returns c d octets limit is le = capture_again d octets limit is le
