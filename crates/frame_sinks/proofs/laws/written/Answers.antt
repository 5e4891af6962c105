use Rattle.frame_sinks.proofs.Streams.{all_written}
use Rattle.frame_sinks.proofs.laws.written.Goals as goal

pub returns : goal.returns
returns g c = all_written g.K.ByteSink.took
