use Rattle.std.proofs.Common.{◌≡◌, ◌≤◌, ◌-◌}
use Rattle.convert_engine.specs.Inputs.{PassesOver}
use Rattle.convert_engine.proofs.streams.pass_frames.Given as goal

pub record Passing (end so_far count : Type 0) : Type 0 where
  pub within : end
  pub passes : so_far
  pub failures : count

abbrev pub invariant-loop-passed : goal.invariant-loop-passed
invariant-loop-passed g l = Passing
    (l.passed ≤ l.count)
    (PassesOver l.format l.passed (g.S.ByteSource.gave l.initial.source)
    (g.S.ByteSource.gave l.source))
    (g.S.ByteSource.failures l.source ≡ g.S.ByteSource.failures l.initial.source)

abbrev pub decreases-loop-passed : goal.decreases-loop-passed
decreases-loop-passed g l = l.count - l.passed
