use Rattle.std.proofs.Common.{◌-◌, ◌*◌, ◌<◌, length, get_or, min, subst, sym, ap, ◌∙◌}
use Rattle.st_format.specs.Position.{number_in_row, place_in_row}
use Rattle.st_format.specs.declared.sampling.Sampling.TheVariants.{Ycc422}
use Rattle.key_mix.specs.Rows.{column_key}
use Rattle.key_mix.proofs.InRow.{lumas_reach, pair_luma_is}
use Rattle.key_mix.proofs.keys.pair_keys.Goals as goal

pub pair_keys-requires-clause-of_row : goal.pair_keys-requires-clause-of_row
pair_keys-requires-clause-of_row c =
    lumas_reach c.args.keys.now c.args.row.now c.requires.whole (λ j h.
    subst (λ s. number_in_row s (place_in_row Ycc422 j).0 0 < length c.args.row.now) c.in-Ycc422.is
    (c.requires.lumas j h))

pub returns-in-Ycc422-clause-each : goal.returns-in-Ycc422-clause-each
returns-in-Ycc422-clause-each c = λ j h.
    let s = c.args.scale in
    let row = c.args.row.now in
    c.pair_keys.ensures.each j h
    ∙ ap (λ k. min (219 * s) (get_or row k 0 - 16 * s)) (pair_luma_is j)
    ∙ ap (λ t. column_key t s row (place_in_row Ycc422 j).0) (sym c.in-Ycc422.is)
