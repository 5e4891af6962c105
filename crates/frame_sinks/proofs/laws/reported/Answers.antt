use Rattle.frame_sinks.proofs.Shown.{all_lines}
use Rattle.frame_sinks.proofs.laws.reported.Goals as goal

pub returns : goal.returns
returns g c = all_lines g.K.ByteSink.took
