use Rattle.frame_sinks.proofs.Shown.{cut_lines}
use Rattle.frame_sinks.proofs.laws.reported_cut.Goals as goal

pub returns : goal.returns
returns g c = cut_lines g.K.ByteSink.took
