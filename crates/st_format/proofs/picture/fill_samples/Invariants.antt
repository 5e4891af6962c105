use Rattle.std.proofs.Common.{◌≡◌, ℕ, ◌<◌, get_or}
use Rattle.st_format.specs.Position.{component_in_row}
use Rattle.st_format.proofs.picture.fill_samples.Given as goal

abbrev pub invariant-loop-number : goal.invariant-loop-number
invariant-loop-number l = (i : ℕ) → i < l.number
    → get_or l.samples i 0 ≡ get_or l.fill (component_in_row l.sampling i) 0
