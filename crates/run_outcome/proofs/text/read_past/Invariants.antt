use Rattle.std.proofs.Common.{◌≡◌, ◌-◌, ◌++◌, length}
use Rattle.run_outcome.proofs.text.read_past.Given as goal

abbrev pub decreases-pieces : goal.decreases-pieces
decreases-pieces g l = 16777217 - length l.octets.items

abbrev pub invariant-pieces : goal.invariant-pieces
invariant-pieces g l = record {
  given : g.S.ByteSource.gave l.source ≡ g.S.ByteSource.gave l.initial.source ++ l.octets.items;
  failures : g.S.ByteSource.failures l.source ≡ g.S.ByteSource.failures l.initial.source;
}
