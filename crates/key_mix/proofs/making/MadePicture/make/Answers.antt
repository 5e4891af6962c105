use Rattle.std.proofs.Common.{ap, subst}
use Rattle.st_format.specs.declared.format.Format.{Format}
use Rattle.st_format.specs.Pgroup.{pixel_group}
use Rattle.key_mix.specs.Made.{AreInputs}
use Rattle.key_mix.proofs.MadePictures.{made_as, same_size}
use Rattle.key_mix.proofs.making.MadePicture.make.Goals as goal

pub returns-in-Keyed : goal.returns-in-Keyed
returns-in-Keyed g c =
    let f : Format = c.self.inside.format in
    let are = subst (AreInputs f) c.in-Keyed.is c.self.invariant.inputs in
    made_as f c.args.first c.args.count c.args.out.now c.self.view_is c.in-Keyed.is
    (ap (λ (h : Format). (pixel_group h.sampling h.depth).samples) are.format_of_a)
    c.requires.inside c.requires.room c.make_keyed.ensures.long c.make_keyed.ensures.each

pub returns-in-Matrixed : goal.returns-in-Matrixed
returns-in-Matrixed g c =
    let f : Format = c.self.inside.format in
    let are = subst (AreInputs f) c.in-Matrixed.is c.self.invariant.inputs in
    made_as f c.args.first c.args.count c.args.out.now c.self.view_is c.in-Matrixed.is
    (same_size f c.in-Matrixed.rgb.input.frame.now.format are.format.sampling are.is_rgb
    are.format.depth)
    c.requires.inside c.requires.room c.make_matrixed.ensures.long c.make_matrixed.ensures.each
