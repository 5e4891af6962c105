use Rattle.std.proofs.Common.{ℕ, ◌<◌, ◌≤◌, get_or}
use Rattle.settled_forms.proofs.plane_source.are_whole.Given as goal

-- the marks so far are between the two
abbrev pub invariant-loop-mark : goal.invariant-loop-mark
invariant-loop-mark l = record {
  low : (k : ℕ) → k < l.mark-index → l.least ≤ get_or l.marks k 0;
  high : (k : ℕ) → k < l.mark-index → get_or l.marks k 0 ≤ l.most;
}
