use Rattle.std.proofs.lemmas.Result.{err_from_is_err_and}
use Rattle.convert_engine.proofs.Saying.{pixmap_head_fault, pixmap_pixels_fault, pixmap_said}
use Rattle.convert_engine.proofs.pixmaps.read_picture.Goals as goal

pub returns-in_err-format-clause-fault : goal.returns-in_err-format-clause-fault
returns-in_err-format-clause-fault g c =
    let p = err_from_is_err_and c.from_residual.result c.from_residual.ensures.1 in
    rw (p.1, p.2)
    (pixmap_head_fault c.args.n c.args.d c.in_err-format.field-0.0 _ _ _
    c.in_err-format.ensures.gave_wrong)

pub returns-clause-says : goal.returns-clause-says
returns-clause-says g c =
    let e = c.read_pixmap_raster.ensures in
    pixmap_said c.args.n c.args.d c.in_ok-format.format c.read_pixmap_raster.result _ _ _ _
    c.in_ok-format.ensures.gave e.format e.whole e.gave

pub returns-clause-fault : goal.returns-clause-fault
returns-clause-fault g c =
    pixmap_pixels_fault c.args.n c.args.d c.in_ok-format.format c.read_pixmap_raster.result _ _ _ _
    c.in_ok-format.ensures.gave c.read_pixmap_raster.ensures.gave_wrong
