use Rattle.std.proofs.Common.{◌%◌, ◌*◌, ◌-◌, get_or, arith, sym, ap, ◌∙◌}
use Rattle.std.specs.Prelude.{pos}
use Rattle.st_format.specs.Pgroup.{bits_of}
use Rattle.st_format.specs.Position.{component_in_row}
use Rattle.lane_kernels.specs.Formulas.{clip, gain}
use Rattle.bt709_fixed.specs.Operations.{changed_by, is_colour}
use Rattle.bt709_fixed.specs.declared.changes.Change.TheVariants.{Limit}
use Rattle.bt709_fixed.proofs.Made.{some_bits}
use Rattle.bt709_fixed.proofs.InTurn.{colour_turns, gained_turns, limited_turns}
use Rattle.bt709_fixed.proofs.changes.change_samples.Goals as goal

pub returns-in-Gain-clause-each : goal.returns-in-Gain-clause-each
returns-in-Gain-clause-each c = λ k h.
    let s = c.scale_of-s.result in
    let v = get_or c.args.samples.now k 0 in
    let colour = is_colour c.args.sampling (component_in_row c.args.sampling k) in
    let zero =
    c.turns-zeros.ensures (k % 24) (omega arith)
    ∙ colour_turns c.args.sampling k (16 * s) (128 * s) in
    c.gain_about.ensures.each k h ∙ (λ i. clip s (255 * s - 1) (gain (zero i) c.in-Gain.g v))
    ∙ gained_turns c.in-Gain.g (bits_of c.args.depth) s v colour (some_bits c.args.depth)
    c.scale_of-s.ensures.value
    ∙ ap (λ change. changed_by change (bits_of c.args.depth) colour v) (sym c.in-Gain.is)

pub returns-in-Nominal-clause-each : goal.returns-in-Nominal-clause-each
returns-in-Nominal-clause-each c = λ k h.
    let s = c.scale_of-s.result in
    let v = get_or c.args.samples.now k 0 in
    let colour = is_colour c.args.sampling (component_in_row c.args.sampling k) in
    let high =
    c.turns-highs.ensures (k % 24) (omega arith)
    ∙ colour_turns c.args.sampling k (235 * s) (240 * s) in
    c.clip_below.ensures.each k h ∙ (λ i. clip (16 * s) (high i) (pos v))
    ∙ limited_turns (bits_of c.args.depth) s v colour c.scale_of-s.ensures.value
    ∙ ap (λ change. changed_by change (bits_of c.args.depth) colour v)
    (sym (c.in-Limit.is ∙ ap Limit c.in-Nominal.is))
