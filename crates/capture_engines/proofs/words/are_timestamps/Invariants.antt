use Rattle.std.proofs.Common.{ℕ, List, length}
use Rattle.run_outcome.proofs.CommaLemmas.{SoFar}
use Rattle.capture_engines.proofs.words.are_timestamps.Given as goal

abbrev pub decreases-loop-first : goal.decreases-loop-first
decreases-loop-first l = length l.rest

-- some timestamps and what is left of the text make the whole
abbrev pub invariant-loop-first : goal.invariant-loop-first
invariant-loop-first l = (ts : List ℕ) × SoFar l.text ts l.rest
