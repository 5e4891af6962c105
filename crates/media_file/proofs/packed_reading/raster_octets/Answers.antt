use Rattle.std.proofs.Common.{ℕ, ◌*◌, ◌/◌, ap, ◌∙◌}
use Rattle.st_format.specs.Pgroup.{bits_of}
use Rattle.media_file.proofs.PackedRaster.{octets_agree}
use Rattle.media_file.proofs.packed_reading.raster_octets.Goals as goal

pub returns : goal.returns
returns c =
    let n = c.sample_count.result in
    ap (λ (b : ℕ). 8 * (b * n / 8)) (c.bits.ensures ∙ ap bits_of c.depth.ensures)
    ∙ octets_agree c.args.format.now n c.sample_count.ensures.value
