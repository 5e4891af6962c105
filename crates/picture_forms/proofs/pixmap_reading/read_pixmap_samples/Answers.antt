use Rattle.st_format.specs.Picture.{Values}
use Rattle.picture_forms.proofs.Placed.{pixels_every}
use Rattle.picture_forms.proofs.pixmap_reading.read_pixmap_samples.Goals as goal

pub returns-clause-given : goal.returns-clause-given
returns-clause-given g c =
    let v : Values = record { format = c.args.format.now; samples = c.read_plane.new.samples } in
    rw (pixels_every v)
    (rw (c.sample_count-count.ensures.value, c.spelling_of.ensures, c.depth.ensures)
    at c.read_plane.ensures.given)
