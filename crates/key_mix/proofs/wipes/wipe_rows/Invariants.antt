use Rattle.std.proofs.Common.{◌≡◌, ℕ, ◌*◌, ◌<◌, ◌≤◌, get_or, length}
use Rattle.st_format.specs.Position.{row_samples, sample_count}
use Rattle.key_mix.specs.Rows.{row_weight, wiped_at}
use Rattle.key_mix.proofs.wipes.wipe_rows.Given as goal

abbrev pub invariant-loop-row : goal.invariant-loop-row
invariant-loop-row l = record {
  long : length l.out ≡ sample_count l.fn.format;
  begins : l.at ≡ l.row * row_samples l.fn.format;
  within : l.at ≤ length l.out;
  room : length l.weights ≡ row_samples l.fn.format;
  weights : (j : ℕ) → j < length l.weights
      → get_or l.weights j 0 ≡ row_weight l.fn.shape l.fn.format.sampling l.row j;
  done : (k : ℕ) → k < l.at → get_or l.out k 0 ≡ wiped_at l.fn.shape l.fn.format l.a l.b k;
}
