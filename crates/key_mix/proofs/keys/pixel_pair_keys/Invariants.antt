use Rattle.std.proofs.Common.{◌≡◌, ℕ, ◌*◌, ◌<◌, get_or, length}
use Rattle.st_format.specs.declared.sampling.Sampling.TheVariants.{Ycc422}
use Rattle.st_format.specs.Position.{place_in_row}
use Rattle.key_mix.specs.Rows.{column_key}
use Rattle.key_mix.proofs.keys.pixel_pair_keys.Given as goal

abbrev pub invariant-loop-pair : goal.invariant-loop-pair
invariant-loop-pair l = record {
  long : length l.keys ≡ length l.fn.keys;
  done : (j : ℕ) → j < 4 * l.pair
      → get_or l.keys j 0 ≡ column_key l.of_key l.scale l.row (place_in_row Ycc422 j).0;
}
