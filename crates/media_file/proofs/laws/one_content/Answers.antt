use Rattle.media_file.proofs.Splits.{one}
use Rattle.media_file.proofs.laws.one_content.Goals as goal

pub returns : goal.returns
returns c d e octets p q = one d e octets p q
