use Rattle.std.proofs.Common.{◌≡◌, Ok, map, take}
use Rattle.recording_engines.proofs.ways.taken.Given as goal

abbrev pub invariant-loop-flows : goal.invariant-loop-flows
invariant-loop-flows g l = l.ways.items ≡ map (λ f. Ok f) (take l.flows-index l.each)
