use Rattle.stream_laws.proofs.Leaving.{frame_format}
use Rattle.stream_laws.proofs.laws.frames_of_format.Goals as goal

pub returns : goal.returns
returns c = frame_format
