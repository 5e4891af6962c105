use Rattle.std.proofs.Common.{sym, ap, ◌∙◌, subst}
use Rattle.st_format.specs.declared.format.Format.{Format}
use Rattle.st_format.specs.declared.sampling.Sampling.TheVariants.{Rgb, Ycc444}
use Rattle.st_format.specs.Picture.{IsPicture}
use Rattle.bt709_fixed.specs.Operations.{IsResampled}
use Rattle.key_mix.specs.Made.{settled}
use Rattle.key_mix.specs.Sending.{HasBase}
use Rattle.key_mix.proofs.MadePictures.{matrixed_made}
use Rattle.key_mix.proofs.making.matrixed.Goals as goal

pub invariant_of-result : goal.invariant_of-result
invariant_of-result g c =
    let is = sym (c.sampling.ensures ∙ ap (λ (f : Format). f.sampling) c.format.ensures.format)
    ∙ c.in-Rgb.is in
    let of_rgb = c.new.ensures in
    record {
      inputs = record {
        base = subst HasBase (sym of_rgb) c.requires.base;
        is_rgb = (λ j. (of_rgb j).frame.now.format.sampling) ∙ is;
        format =
            subst (λ i. IsResampled c.args.format i.frame.now.format Ycc444) (sym of_rgb)
            c.requires.format;
        picture = subst (λ i. IsPicture (settled i)) (sym of_rgb) c.settled_facts.ensures;
      };
      whole =
          (matrixed_made c.new.result c.args.rgb.now c.args.format of_rgb is c.requires.format
          c.settled_facts.ensures).0;
    }

pub returns-clause-made : goal.returns-clause-made
returns-clause-made g c =
    let is = sym (c.sampling.ensures ∙ ap (λ (f : Format). f.sampling) c.format.ensures.format)
    ∙ c.in-Rgb.is in (
      c.requires.format,
      (matrixed_made c.new.result c.args.rgb.now c.args.format c.new.ensures is c.requires.format
          c.settled_facts.ensures).1,
    )

pub returns-clause-whole : goal.returns-clause-whole
returns-clause-whole g c =
    let is = sym (c.sampling.ensures ∙ ap (λ (f : Format). f.sampling) c.format.ensures.format)
    ∙ c.in-Rgb.is in
    (matrixed_made c.new.result c.args.rgb.now c.args.format c.new.ensures is c.requires.format
    c.settled_facts.ensures).0
