use Rattle.std.proofs.Common.{length}
use Rattle.recording_engines.proofs.files.+know_all.Given as goal

abbrev pub decreases-know_all : goal.decreases-know_all
decreases-know_all g l = length l.files.now
