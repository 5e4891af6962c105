use Rattle.media_file.proofs.CutCaptures.{cut_once}
use Rattle.media_file.proofs.laws.one_cut.Goals as goal

pub returns : goal.returns
returns c limit octets bytes a b = cut_once limit octets bytes a b
