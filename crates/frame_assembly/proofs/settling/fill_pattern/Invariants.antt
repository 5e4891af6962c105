use Rattle.std.proofs.Common.{◌≡◌, ℕ, ◌-◌, ◌%◌, ◌<◌, ◌≤◌, get_or, length}
use Rattle.st_format.specs.Position.{component_in_row}
use Rattle.frame_assembly.proofs.settling.fill_pattern.Given as goal

-- the samples so far have the values of their components
abbrev pub invariant-loop-made : goal.invariant-loop-made
invariant-loop-made l = record {
  long : length l.pattern ≡ 768;
  turn : l.made % 12 ≡ 0;
  some : 12 ≤ l.made;
  within : l.made ≤ 768;
  filled : (k : ℕ) → k < l.made
      → get_or l.pattern k 0 ≡ get_or l.fn.fill (component_in_row l.fn.sampling k) 0;
}

abbrev pub decreases-loop-made : goal.decreases-loop-made
decreases-loop-made l = length l.pattern - l.made
