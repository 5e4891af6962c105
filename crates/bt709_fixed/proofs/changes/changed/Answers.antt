use Rattle.std.proofs.Common.{◌≡◌, length, get_or, drop, sym, ap, subst, ◌∙◌}
use Rattle.std.proofs.lemmas.List.{take_at}
use Rattle.st_format.specs.Pgroup.{bits_of}
use Rattle.st_format.specs.Picture.{IsPicture}
use Rattle.st_format.specs.Position.{component_in_row}
use Rattle.bt709_fixed.specs.Operations.{IsOf, is_colour, changed_by, changed_value}
use Rattle.bt709_fixed.proofs.Made.{made, some_bits}
use Rattle.bt709_fixed.proofs.Ranges.{changed_fits}
use Rattle.bt709_fixed.proofs.changes.changed.Goals as goal

pub from_samples-requires : goal.from_samples-requires
from_samples-requires g c =
    let v = c.args.picture in
    let new = c.change_samples.new.samples in
    let form = c.format-format.ensures.value in
    let old = c.as_mut_slice.ensures.value ∙ c.into_samples-samples.ensures.value in
    let s = c.sampling.ensures ∙ ap (λ f. f.sampling) form in
    let d = c.depth.ensures ∙ ap (λ f. f.depth) form in
    let is =
    made v c.format-format.result new
    (λ k x. changed_by c.args.change (bits_of v.format.depth)
    (is_colour v.format.sampling k) x) form c.format-format.ensures.whole
    (c.change_samples.ensures.long ∙ ap length old)
    (λ k h. c.change_samples.ensures.each k h
    ∙ (λ j. changed_by c.args.change (bits_of (d j)) (is_colour (s j) (component_in_row (s j) k))
    (get_or (old j) k 0)))
    (λ k x. changed_fits c.args.change (bits_of v.format.depth) (is_colour v.format.sampling k) x
    (some_bits v.format.depth)) in
    let long : length new ≡ c.into_samples-samples.result.len =
    c.change_samples.ensures.long ∙ c.as_mut_slice.ensures.len in
    subst (λ xs. IsPicture (record { format = c.format-format.result; samples = xs }))
    (sym (take_at new
    (drop (length new) c.into_samples-samples.result.items) c.into_samples-samples.result.len
    long)) is.0

pub returns-clause-value : goal.returns-clause-value
returns-clause-value g c =
    let v = c.args.picture in
    let new = c.change_samples.new.samples in
    let form = c.format-format.ensures.value in
    let old = c.as_mut_slice.ensures.value ∙ c.into_samples-samples.ensures.value in
    let s = c.sampling.ensures ∙ ap (λ f. f.sampling) form in
    let d = c.depth.ensures ∙ ap (λ f. f.depth) form in
    let is =
    made v c.format-format.result new
    (λ k x. changed_by c.args.change (bits_of v.format.depth)
    (is_colour v.format.sampling k) x) form c.format-format.ensures.whole
    (c.change_samples.ensures.long ∙ ap length old)
    (λ k h. c.change_samples.ensures.each k h
    ∙ (λ j. changed_by c.args.change (bits_of (d j)) (is_colour (s j) (component_in_row (s j) k))
    (get_or (old j) k 0)))
    (λ k x. changed_fits c.args.change (bits_of v.format.depth) (is_colour v.format.sampling k) x
    (some_bits v.format.depth)) in
    let long : length new ≡ c.into_samples-samples.result.len =
    c.change_samples.ensures.long ∙ c.as_mut_slice.ensures.len in
    let same =
    take_at new
    (drop (length new) c.into_samples-samples.result.items) c.into_samples-samples.result.len
    long in
    subst (IsOf v.format (changed_value c.args.change v))
    (sym (c.from_samples.ensures.value
    ∙ ap (λ xs. record { format = c.format-format.result; samples = xs }) same)) is.1
