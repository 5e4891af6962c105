use Rattle.std.proofs.Common.{◌%◌, length, sym, subst, ap, ◌∙◌}
use Rattle.st_format.specs.declared.sampling.Sampling.TheVariants.{Ycc444}
use Rattle.st_format.specs.Pgroup.{bits_of}
use Rattle.bt709_fixed.specs.Operations.{IsOf, IsResampled, matrixed_at, ycc444_value}
use Rattle.bt709_fixed.proofs.Numbers.{whole_pixels, matrixed_picture}
use Rattle.bt709_fixed.proofs.matrix.to_ycc444.Goals as goal

pub matrixed_samples-requires-clause-whole : goal.matrixed_samples-requires-clause-whole
matrixed_samples-requires-clause-whole g c =
    let v = c.args.picture.now in
    let s =
    sym (ap (λ f. f.sampling) c.format-format.ensures.value) ∙ sym c.sampling.ensures
    ∙ c.in-Rgb.is in
    ap (λ xs. length xs % 3) c.samples-rgb.ensures.value
    ∙ ap (λ k. k % 3) c.samples-rgb.ensures.whole.whole ∙ whole_pixels v.format s

pub from_samples-requires : goal.from_samples-requires
from_samples-requires g c =
    let v = c.args.picture.now in
    let form = c.format-format.ensures.value in
    let s = sym (ap (λ f. f.sampling) form) ∙ sym c.sampling.ensures ∙ c.in-Rgb.is in
    let d = c.depth.ensures ∙ ap (λ f. f.depth) form in
    let rgb = c.samples-rgb.ensures.value in
    let is = matrixed_picture v c.as_ycc444.result c.in_ok-samples.samples.items s
    (subst (λ f. IsResampled c.as_ycc444.result f Ycc444) form c.as_ycc444.ensures)
    c.samples-rgb.ensures.whole
    (c.in_ok-samples.ensures.long ∙ ap length rgb)
    (λ k h. c.in_ok-samples.ensures.each k h ∙ (λ j. matrixed_at (bits_of (d j)) (rgb j) k)) in
    is.0

pub returns-clause-made : goal.returns-clause-made
returns-clause-made g c =
    let v = c.args.picture.now in
    let form = c.format-format.ensures.value in
    let s = sym (ap (λ f. f.sampling) form) ∙ sym c.sampling.ensures ∙ c.in-Rgb.is in
    let d = c.depth.ensures ∙ ap (λ f. f.depth) form in
    let rgb = c.samples-rgb.ensures.value in
    let is = matrixed_picture v c.as_ycc444.result c.in_ok-samples.samples.items s
    (subst (λ f. IsResampled c.as_ycc444.result f Ycc444) form c.as_ycc444.ensures)
    c.samples-rgb.ensures.whole
    (c.in_ok-samples.ensures.long ∙ ap length rgb)
    (λ k h. c.in_ok-samples.ensures.each k h ∙ (λ j. matrixed_at (bits_of (d j)) (rgb j) k)) in
    subst (λ p. IsOf p.format (ycc444_value v) p) (sym c.from_samples.ensures.value) is.1
