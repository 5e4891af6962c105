use Rattle.std.proofs.Common.{length}
use Rattle.recording_engines.proofs.files.+left_out.Given as goal

abbrev pub decreases-left_out : goal.decreases-left_out
decreases-left_out g l = length l.files.now
