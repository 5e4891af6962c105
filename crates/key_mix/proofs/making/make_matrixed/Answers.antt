use Rattle.std.proofs.Common.{◌≡◌, ℕ, ◌*◌, ◌<◌}
use Rattle.std.proofs.Common.{ap, ◌∙◌, arith}
use Rattle.st_format.specs.declared.format.Format.{Format}
use Rattle.st_format.specs.Pgroup.{bits_of, pixel_group}
use Rattle.lane_kernels.specs.Pixels.{ycc_at}
use Rattle.key_mix.specs.Made.{settled}
use Rattle.key_mix.proofs.MadeParts.{matrixed_here}
use Rattle.key_mix.proofs.making.make_matrixed.Goals as goal

pub returns-clause-each : goal.returns-clause-each
returns-clause-each g c = λ i lt.
    let rgb = c.args.rgb.now.input in
    let f : Format = rgb.frame.now.format in
    let n : ℕ = (pixel_group f.sampling f.depth).samples * c.args.count in
    let below : i < n = omega (arith, lt, c.ycc709.ensures.long, c.requires.room) in
    let bits : c.bits.result ≡ bits_of f.depth =
    c.bits.ensures ∙ ap bits_of (c.depth.ensures
    ∙ ap (λ (h : Format). h.depth) c.format.ensures.format) in
    c.ycc709.ensures.each i lt
    ∙ (λ j. ycc_at (bits j) (c.settle.ensures.settled j) i)
    ∙ matrixed_here f (settled rgb).samples c.args.first c.args.count i c.requires.rgb below
