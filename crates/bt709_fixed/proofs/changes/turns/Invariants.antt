use Rattle.std.proofs.Common.{◌≡◌, ℕ, ◌<◌, ◌≤◌, if◌then◌else◌, get_or, length}
use Rattle.st_format.specs.Position.{component_in_row}
use Rattle.bt709_fixed.specs.Operations.{is_colour}
use Rattle.bt709_fixed.proofs.changes.turns.Given as goal

abbrev pub invariant-loop-k : goal.invariant-loop-k
invariant-loop-k l = record {
  long : length l.all ≡ 24;
  done : (i : ℕ) → i < l.k
      → get_or l.all i 0
      ≡ (if is_colour l.sampling (component_in_row l.sampling i) then l.colour else l.luma);
  kept : (i : ℕ) → l.k ≤ i → i < 24 → get_or l.all i 0 ≡ l.luma;
}
