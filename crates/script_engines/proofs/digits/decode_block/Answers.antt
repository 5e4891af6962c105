use Rattle.std.proofs.Common.{◌*◌, ◌+◌, arith, refl}
use Rattle.script_engines.proofs.DigitLemmas.{block_more, not_decoded_at, value_at_place}
use Rattle.script_engines.proofs.digits.decode_block.Goals as goal

pub returns-then-not-are_values-clause-none : goal.returns-then-not-are_values-clause-none
returns-then-not-are_values-clause-none c = λ no.
    let bad = c.if-not-are_values.ensures.none refl in
    not_decoded_at c.args.text.now (2 * c.args.at + bad.0) _ (omega (arith, bad.1))
    (value_at_place c.args.text.now c.digit_values-values.result (2 * c.args.at) bad.0 bad.1
    c.digit_values-values.ensures) bad.2

pub returns-clause-is : goal.returns-clause-is
returns-clause-is c = λ yes done.
    block_more c.args.text.now c.args.octets.now c.digit_values-values.result c.octets_of.result
    c.args.at (omega arith) c.digit_values-values.ensures (c.if-not-are_values.ensures.is refl)
    c.octets_of.ensures.long c.octets_of.ensures.each done
