use Rattle.frame_sinks.proofs.Filed.{all_filed}
use Rattle.frame_sinks.proofs.laws.filed.Goals as goal

pub returns : goal.returns
returns g c = all_filed g.F.PictureFiles.files
