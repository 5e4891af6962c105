use Rattle.std.proofs.Common.{◌<◌, length, sym, ap, subst, ◌∙◌}
use Rattle.st_format.specs.Position.{number_in_row, place_in_row}
use Rattle.key_mix.specs.Rows.{column_key}
use Rattle.key_mix.proofs.InRow.{column_pixels, column_rgb}
use Rattle.key_mix.proofs.keys.keys_from.Goals as goal

pub pixel_keys-requires-clause-lumas : goal.pixel_keys-requires-clause-lumas
pixel_keys-requires-clause-lumas c = λ i h.
    subst (λ x. number_in_row c.args.of_key x 0 < length c.args.row.now)
    (ap (λ s. (place_in_row s i).0) c.in-Ycc444.is ∙ sym (column_pixels i)) (c.requires.lumas i h)

pub pixel_keys-requires-in-Rgb-clause-lumas : goal.pixel_keys-requires-in-Rgb-clause-lumas
pixel_keys-requires-in-Rgb-clause-lumas c = λ i h.
    subst (λ x. number_in_row c.args.of_key x 0 < length c.args.row.now)
    (ap (λ s. (place_in_row s i).0) c.in-Rgb.is ∙ sym (column_rgb i)) (c.requires.lumas i h)

pub returns-in-Ycc444-clause-each : goal.returns-in-Ycc444-clause-each
returns-in-Ycc444-clause-each c = λ i h.
    c.pixel_keys.ensures.each i h
    ∙ ap (column_key c.args.of_key c.args.scale c.args.row.now)
    (column_pixels i ∙ ap (λ s. (place_in_row s i).0) (sym c.in-Ycc444.is))

pub returns-in-Rgb-clause-each : goal.returns-in-Rgb-clause-each
returns-in-Rgb-clause-each c = λ i h.
    c.pixel_keys-in-Rgb.ensures.each i h
    ∙ ap (column_key c.args.of_key c.args.scale c.args.row.now)
    (column_rgb i ∙ ap (λ s. (place_in_row s i).0) (sym c.in-Rgb.is))
