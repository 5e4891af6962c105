use Rattle.std.proofs.lemmas.Result.{err_from_is_err_and, on_err_weaker, on_ok_weaker}
use Rattle.st_format.specs.Picture.{Values}
use Rattle.picture_forms.specs.Layouts.{pixels_text, pixmap_head}
use Rattle.picture_forms.proofs.Written.{part_first, part_then, writes_both}
use Rattle.picture_forms.proofs.pixmap_writing.write_parts.Goals as goal

pub returns-in_err-write_all-clause-fault : goal.returns-in_err-write_all-clause-fault
returns-in_err-write_all-clause-fault g c =
    let v : Values = record { format = c.args.format.now; samples = c.args.samples.now } in
    let p = err_from_is_err_and c.from_residual.result c.from_residual.ensures.1 in
    rw (p.1)
    (part_first _ _ _ _ (pixmap_head c.args.format.now) (pixels_text v)
    (rw (c.text.ensures, c.head_text-line.ensures) at c.in_err-write_all.ensures.fault))

pub returns-clause-ok : goal.returns-clause-ok
returns-clause-ok g c =
    let v : Values = record { format = c.args.format.now; samples = c.args.samples.now } in
    on_ok_weaker c.write_pixels.result
    (λ q. writes_both _ _ _ _ _ _ (pixmap_head c.args.format.now) (pixels_text v)
    (rw (c.text.ensures, c.head_text-line.ensures) at c.in_ok-write_all.ensures.ok) q)
    c.write_pixels.ensures.ok

pub returns-clause-fault : goal.returns-clause-fault
returns-clause-fault g c =
    let v : Values = record { format = c.args.format.now; samples = c.args.samples.now } in
    on_err_weaker c.write_pixels.result
    (λ q. part_then _ _ _ _ _ _ (pixmap_head c.args.format.now) (pixels_text v)
    (rw (c.text.ensures, c.head_text-line.ensures) at c.in_ok-write_all.ensures.ok) q)
    c.write_pixels.ensures.fault
