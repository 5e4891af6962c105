use Rattle.std.proofs.Common.{◌≡◌, ◌*◌, ◌/◌, ◌<◌, length, arith, subst}
use Rattle.st_format.specs.Position.{number_in_row}
use Rattle.key_mix.proofs.keys.pixel_keys.Goals as goal

pub key_at-key-requires-clause-luma : goal.key_at-key-requires-clause-luma
key_at-key-requires-clause-luma c =
    let pixel = c.loop-pixel.pixel in
    let column : 3 * pixel / 3 ≡ pixel = omega arith in
    subst (λ x. number_in_row c.args.of_key x 0 < length c.args.row.now) column
    (c.requires.lumas (3 * pixel) (omega arith))
