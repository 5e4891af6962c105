use Rattle.std.proofs.Common.{length, get_or, sym, ap, subst, ◌∙◌}
use Rattle.st_format.specs.Pgroup.{bits_of}
use Rattle.st_format.specs.Position.{component_in_row}
use Rattle.bt709_fixed.specs.Operations.{IsOf, is_colour, changed_by, changed_value}
use Rattle.bt709_fixed.proofs.Made.{made, some_bits}
use Rattle.bt709_fixed.proofs.Ranges.{changed_fits}
use Rattle.bt709_fixed.proofs.changes.changed_copy.Goals as goal

pub from_samples-requires : goal.from_samples-requires
from_samples-requires g c =
    let v = c.args.picture.now in
    let form = c.format-format.ensures.value in
    let old = c.samples.ensures.value in
    let s = c.sampling-sampling.ensures ∙ ap (λ f. f.sampling) form in
    let d = c.depth-depth.ensures ∙ ap (λ f. f.depth) form in
    let is =
    made v c.format-format.result c.in_ok-samples.samples.items
    (λ k x. changed_by c.args.change (bits_of v.format.depth) (is_colour v.format.sampling k) x)
    form
    c.samples.ensures.whole (c.in_ok-samples.ensures.long ∙ ap length old)
    (λ k h. c.in_ok-samples.ensures.each k h
    ∙ (λ j. changed_by c.args.change (bits_of (d j)) (is_colour (s j) (component_in_row (s j) k))
    (get_or (old j) k 0)))
    (λ k x. changed_fits c.args.change (bits_of v.format.depth) (is_colour v.format.sampling k) x
    (some_bits v.format.depth)) in
    is.0

pub returns-clause-value : goal.returns-clause-value
returns-clause-value g c =
    let v = c.args.picture.now in
    let form = c.format-format.ensures.value in
    let old = c.samples.ensures.value in
    let s = c.sampling-sampling.ensures ∙ ap (λ f. f.sampling) form in
    let d = c.depth-depth.ensures ∙ ap (λ f. f.depth) form in
    let is =
    made v c.format-format.result c.in_ok-samples.samples.items
    (λ k x. changed_by c.args.change (bits_of v.format.depth) (is_colour v.format.sampling k) x)
    form
    c.samples.ensures.whole (c.in_ok-samples.ensures.long ∙ ap length old)
    (λ k h. c.in_ok-samples.ensures.each k h
    ∙ (λ j. changed_by c.args.change (bits_of (d j)) (is_colour (s j) (component_in_row (s j) k))
    (get_or (old j) k 0)))
    (λ k x. changed_fits c.args.change (bits_of v.format.depth) (is_colour v.format.sampling k) x
    (some_bits v.format.depth)) in
    subst (IsOf v.format (changed_value c.args.change v)) (sym c.from_samples.ensures.value) is.1
