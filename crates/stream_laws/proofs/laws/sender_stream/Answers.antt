use Rattle.stream_laws.proofs.Leaving.{in_time_frames}
use Rattle.stream_laws.proofs.laws.sender_stream.Goals as goal

pub returns : goal.returns
returns c = in_time_frames
