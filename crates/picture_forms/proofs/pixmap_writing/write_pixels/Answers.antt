use Rattle.st_format.specs.Picture.{Values}
use Rattle.picture_forms.proofs.Placed.{pixels_long}
use Rattle.picture_forms.proofs.pixmap_writing.write_pixels.Goals as goal

pub returns-clause-ok : goal.returns-clause-ok
returns-clause-ok g c =
    let v : Values = record { format = c.args.format.now; samples = c.args.samples.now } in
    rw (pixels_long v c.requires.whole)
    (rw (c.spelling_of.ensures, c.depth.ensures) at c.write_plane.ensures.ok)

pub returns-clause-fault : goal.returns-clause-fault
returns-clause-fault g c =
    let v : Values = record { format = c.args.format.now; samples = c.args.samples.now } in
    rw (pixels_long v c.requires.whole)
    (rw (c.spelling_of.ensures, c.depth.ensures) at c.write_plane.ensures.fault)
