use Rattle.std.proofs.Common.{length}
use Rattle.recording_engines.proofs.files.+earliest.Given as goal

abbrev pub decreases-earliest : goal.decreases-earliest
decreases-earliest g l = length l.files.now
