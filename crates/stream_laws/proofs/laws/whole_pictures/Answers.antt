use Rattle.stream_laws.proofs.Settled.{pictures_whole}
use Rattle.stream_laws.proofs.laws.whole_pictures.Goals as goal

pub returns : goal.returns
returns c = pictures_whole
