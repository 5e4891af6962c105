use Rattle.frame_sinks.proofs.Shown.{all_both}
use Rattle.frame_sinks.proofs.laws.both.Goals as goal

pub returns : goal.returns
returns g c = all_both g.P.PictureSink.takes g.Q.PictureSink.takes
