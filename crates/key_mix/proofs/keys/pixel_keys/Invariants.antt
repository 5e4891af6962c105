use Rattle.std.proofs.Common.{◌≡◌, ℕ, ◌*◌, ◌/◌, ◌<◌, get_or, length}
use Rattle.key_mix.specs.Rows.{column_key}
use Rattle.key_mix.proofs.keys.pixel_keys.Given as goal

abbrev pub invariant-loop-pixel : goal.invariant-loop-pixel
invariant-loop-pixel l = record {
  long : length l.keys ≡ length l.fn.keys;
  done : (j : ℕ) → j < 3 * l.pixel
      → get_or l.keys j 0 ≡ column_key l.of_key l.scale l.row (j / 3);
}
