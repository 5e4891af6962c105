use Rattle.frame_sinks.proofs.Streams.{cut_written}
use Rattle.frame_sinks.proofs.laws.cut.Goals as goal

pub returns : goal.returns
returns g c = cut_written g.K.ByteSink.took
