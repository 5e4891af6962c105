use Rattle.std.proofs.Common.{◌≡◌, ℕ, ◌+◌, ◌*◌, ◌<◌, ◌≤◌, length, arith, rules, sym, ap, subst, ◌∙◌}
use Rattle.st_format.specs.Position.{number_in_row, place_in_row}
use Rattle.st_format.specs.declared.sampling.Sampling.TheVariants.{Ycc422}
use Rattle.key_mix.specs.Rows.{column_key}
use Rattle.key_mix.proofs.InRow.{first_of_pair, second_of_pair}
use Rattle.key_mix.proofs.Steps.{four_more}
use Rattle.key_mix.proofs.keys.pixel_pair_keys.Goals as goal

pub key_at-first-requires-clause-luma : goal.key_at-first-requires-clause-luma
key_at-first-requires-clause-luma c =
    let q = c.loop-pair.pair in
    let column = first_of_pair q (4 * q) (omega arith) (omega arith) in
    subst (λ x. number_in_row c.args.of_key x 0 < length c.args.row.now) column
    (c.requires.lumas (4 * q) (omega arith))

pub key_at-second-requires-clause-luma : goal.key_at-second-requires-clause-luma
key_at-second-requires-clause-luma c =
    let q = c.loop-pair.pair in
    subst (λ x. number_in_row c.args.of_key x 0 < length c.args.row.now) (second_of_pair q)
    (c.requires.lumas (4 * q + 3) (omega arith))

pub loop-pair-preserved : goal.loop-pair-preserved
loop-pair-preserved c =
    let q = c.loop-pair.pair in
    let inv = c.loop-pair.invariant in
    let of = column_key c.args.of_key c.args.scale c.args.row.now in
    let at_first : (j : ℕ) → 4 * q ≤ j → j < 4 * q + 3
    → c.key_at-first.result ≡ of (place_in_row Ycc422 j).0 =
    λ j from below. c.key_at-first.ensures ∙ ap of (sym (first_of_pair q j from below)) in
    record {
      long = search rules;
      done =
          four_more (λ j v. v ≡ of (place_in_row Ycc422 j).0) c.loop-pair.keys q
          c.key_at-first.result c.key_at-first.result c.key_at-first.result
          c.key_at-second.result (omega (arith, inv.long)) inv.done
          (at_first (4 * q) (omega arith) (omega arith))
          (at_first (4 * q + 1) (omega arith) (omega arith))
          (at_first (4 * q + 2) (omega arith) (omega arith))
          (c.key_at-second.ensures ∙ ap of (sym (second_of_pair q)));
    }
