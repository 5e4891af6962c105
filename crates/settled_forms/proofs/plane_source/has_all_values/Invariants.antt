use Rattle.std.proofs.Common.{ℕ, ◌<◌}
use Rattle.settled_forms.specs.Settled.{RowHasValues}
use Rattle.settled_forms.proofs.plane_source.has_all_values.Given as goal

-- each sample of the rows so far has a value
abbrev pub invariant-loop-row : goal.invariant-loop-row
invariant-loop-row g l = (k : ℕ) → k < l.row → RowHasValues l.frame k
