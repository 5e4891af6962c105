use Rattle.frame_sinks.proofs.Streams.{rgb_stream, ycc_stream}
use Rattle.frame_sinks.proofs.laws.one_format.Goals as goal

pub returns-clause-ycc : goal.returns-clause-ycc
returns-clause-ycc c = ycc_stream

pub returns-clause-rgb : goal.returns-clause-rgb
returns-clause-rgb c = rgb_stream
