use Rattle.stream_sending.proofs.Written.{stream_written}
use Rattle.stream_sending.proofs.laws.written_stream.Goals as goal

pub returns : goal.returns
returns c = stream_written
