use Rattle.std.proofs.Common.{◌*◌, ◌/◌, length, get_or, sym, subst, ap, ◌∙◌}
use Rattle.st_format.specs.declared.sampling.Sampling.TheVariants.{Ycc422}
use Rattle.bt709_fixed.specs.Operations.{IsOf, IsResampled, ycc422_value}
use Rattle.bt709_fixed.specs.Thinned.{thinned_number}
use Rattle.bt709_fixed.proofs.Thinned.{thinned_picture}
use Rattle.bt709_fixed.proofs.thinning.to_ycc422.Goals as goal

pub from_samples-requires : goal.from_samples-requires
from_samples-requires g c =
    let v = c.args.picture.now in
    let form = c.format-format.ensures.value in
    let s = sym (ap (λ f. f.sampling) form) ∙ sym c.sampling.ensures ∙ c.in-Ycc444.is in
    let full = c.samples-full.ensures.value in
    let is = thinned_picture v c.as_ycc422.result c.in_ok-samples.samples.items s
    (subst (λ f. IsResampled c.as_ycc422.result f Ycc422) form c.as_ycc422.ensures)
    c.samples-full.ensures.whole
    (c.in_ok-samples.ensures.long ∙ ap (λ xs. 4 * (length xs / 6)) full)
    (λ k h. c.in_ok-samples.ensures.each k h ∙ ap (λ xs. get_or xs (thinned_number k) 0) full) in
    is.0

pub returns-clause-made : goal.returns-clause-made
returns-clause-made g c =
    let v = c.args.picture.now in
    let form = c.format-format.ensures.value in
    let s = sym (ap (λ f. f.sampling) form) ∙ sym c.sampling.ensures ∙ c.in-Ycc444.is in
    let full = c.samples-full.ensures.value in
    let is = thinned_picture v c.as_ycc422.result c.in_ok-samples.samples.items s
    (subst (λ f. IsResampled c.as_ycc422.result f Ycc422) form c.as_ycc422.ensures)
    c.samples-full.ensures.whole
    (c.in_ok-samples.ensures.long ∙ ap (λ xs. 4 * (length xs / 6)) full)
    (λ k h. c.in_ok-samples.ensures.each k h ∙ ap (λ xs. get_or xs (thinned_number k) 0) full) in
    subst (λ p. IsOf p.format (ycc422_value v) p) (sym c.from_samples.ensures.value) is.1
