use Rattle.std.proofs.Common.{◌≡◌, ℕ, ◌*◌, ◌<◌, ◌≤◌, get_or, length}
use Rattle.st_format.specs.Position.{row_samples, sample_count}
use Rattle.key_mix.specs.Rows.{keyed_at}
use Rattle.key_mix.proofs.keys.key_rows.Given as goal

abbrev pub invariant-loop-row : goal.invariant-loop-row
invariant-loop-row l = record {
  long : length l.out ≡ sample_count l.fn.format;
  begins : l.at ≡ l.row * row_samples l.fn.format;
  within : l.at ≤ length l.out;
  lumas : l.from ≡ l.row * row_samples l.fn.of_key;
  inside : l.from ≤ length l.by;
  room : length l.keys ≡ row_samples l.fn.format;
  done : (k : ℕ) → k < l.at → get_or l.out k 0 ≡ keyed_at l.fn.format l.fn.of_key l.a l.b l.by k;
}
