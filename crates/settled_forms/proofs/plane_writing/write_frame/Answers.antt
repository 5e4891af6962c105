use Rattle.std.proofs.Common.{◌++◌}
use Rattle.std.proofs.lemmas.Result.{err_from_is_err_and, on_err_weaker, on_ok_weaker}
use Rattle.frame_assembly.specs.Settled.{settled_picture}
use Rattle.st_format.specs.Picture.{Values}
use Rattle.picture_forms.specs.Layouts.{frame_line, plane_text, planes_text}
use Rattle.picture_forms.proofs.Written.{part_first, part_then, writes_both}
use Rattle.settled_forms.proofs.plane_writing.write_frame.Goals as goal

pub returns-in_err-write_all-clause-fault : goal.returns-in_err-write_all-clause-fault
returns-in_err-write_all-clause-fault g c =
    let v : Values = settled_picture c.args.source.now.frame.now c.args.source.now.base in
    let p = err_from_is_err_and c.from_residual.result c.from_residual.ensures.1 in
    rw (p.1) (part_first _ _ _ _ frame_line (planes_text v) c.in_err-write_all.ensures.fault)

pub returns-in_err-write_plane-clause-fault : goal.returns-in_err-write_plane-clause-fault
returns-in_err-write_plane-clause-fault g c =
    let v : Values = settled_picture c.args.source.now.frame.now c.args.source.now.base in
    let p = err_from_is_err_and c.from_residual-in_err-write_plane.result
    c.from_residual-in_err-write_plane.ensures.1 in
    rw (p.1)
    (part_then _ _ _ _ _ _ frame_line (planes_text v) c.in_ok-write_all.ensures.ok
    (part_first _ _ _ _ (plane_text v 0) (plane_text v 1 ++ plane_text v 2)
    c.in_err-write_plane.ensures.fault))

pub returns-in_err-write_plane-2-clause-fault : goal.returns-in_err-write_plane-2-clause-fault
returns-in_err-write_plane-2-clause-fault g c =
    let v : Values = settled_picture c.args.source.now.frame.now c.args.source.now.base in
    let p = err_from_is_err_and c.from_residual-in_err-write_plane-2.result
    c.from_residual-in_err-write_plane-2.ensures.1 in
    rw (p.1)
    (part_then _ _ _ _ _ _ frame_line (planes_text v) c.in_ok-write_all.ensures.ok
    (part_then _ _ _ _ _ _ (plane_text v 0) (plane_text v 1 ++ plane_text v 2)
    c.in_ok-write_plane.ensures.ok
    (part_first _ _ _ _ (plane_text v 1) (plane_text v 2) c.in_err-write_plane-2.ensures.fault)))

pub returns-clause-ok : goal.returns-clause-ok
returns-clause-ok g c =
    let v : Values = settled_picture c.args.source.now.frame.now c.args.source.now.base in
    on_ok_weaker c.write_plane-3.result
    (λ q. writes_both _ _ _ _ _ _ frame_line (planes_text v) c.in_ok-write_all.ensures.ok
    (writes_both _ _ _ _ _ _ (plane_text v 0) (plane_text v 1 ++ plane_text v 2)
    c.in_ok-write_plane.ensures.ok
    (writes_both _ _ _ _ _ _ (plane_text v 1) (plane_text v 2) c.in_ok-write_plane-2.ensures.ok
    q))) c.write_plane-3.ensures.ok

pub returns-clause-fault : goal.returns-clause-fault
returns-clause-fault g c =
    let v : Values = settled_picture c.args.source.now.frame.now c.args.source.now.base in
    on_err_weaker c.write_plane-3.result
    (λ q. part_then _ _ _ _ _ _ frame_line (planes_text v) c.in_ok-write_all.ensures.ok
    (part_then _ _ _ _ _ _ (plane_text v 0) (plane_text v 1 ++ plane_text v 2)
    c.in_ok-write_plane.ensures.ok
    (part_then _ _ _ _ _ _ (plane_text v 1) (plane_text v 2) c.in_ok-write_plane-2.ensures.ok
    q))) c.write_plane-3.ensures.fault
