use Rattle.std.proofs.Common.{length}
use Rattle.run_outcome.proofs.CommaLemmas.{SoFar}
use Rattle.run_outcome.proofs.timestamps.read_timestamps.Given as goal

abbrev pub decreases-loop-first : goal.decreases-loop-first
decreases-loop-first g l = length l.rest

-- the timestamps so far, and what is left of the text, make the whole
abbrev pub invariant-loop-first : goal.invariant-loop-first
invariant-loop-first g l = SoFar l.text l.timestamps.items l.rest
