use Rattle.std.proofs.Common.{codes}
use Rattle.std.proofs.lemmas.Result.{err_from_is_err_and}
use Rattle.frame_report.specs.Opening.{opening_line}
use Rattle.frame_report.specs.Report.{frames_text}
use Rattle.frame_report.proofs.Gathering.{end_all, end_cut, start_cut}
use Rattle.frame_report.proofs.report.write_report.Goals as goal

pub returns-in_err-put_frames-clause-fault : goal.returns-in_err-put_frames-clause-fault
returns-in_err-put_frames-clause-fault g c =
    let p = err_from_is_err_and c.from_residual.result c.from_residual.ensures.1 in
    rw (p.1)
    (start_cut _ _ _ (opening_line c.args.receiver.now.opening)
    (frames_text c.args.receiver.now)
    (codes "end\n") c.opening_page-page.ensures c.in_err-put_frames.ensures.fault).took

pub returns-in_err-put_frames-clause-held_part : goal.returns-in_err-put_frames-clause-held_part
returns-in_err-put_frames-clause-held_part g c =
    let p = err_from_is_err_and c.from_residual.result c.from_residual.ensures.1 in
    rw (p.1)
    (start_cut _ _ _ (opening_line c.args.receiver.now.opening)
    (frames_text c.args.receiver.now)
    (codes "end\n") c.opening_page-page.ensures c.in_err-put_frames.ensures.fault).held

pub returns-in_err-write_end-clause-fault : goal.returns-in_err-write_end-clause-fault
returns-in_err-write_end-clause-fault g c =
    let p =
    err_from_is_err_and c.from_residual-in_err-write_end.result
    c.from_residual-in_err-write_end.ensures.1 in
    rw (p.1)
    (end_cut _ _ _ _ _ (opening_line c.args.receiver.now.opening)
    (frames_text c.args.receiver.now)
    (codes "end\n") c.opening_page-page.ensures c.in_ok-put_frames.ensures.ok
    c.in_err-write_end.ensures.fault).took

pub returns-in_err-write_end-clause-held_part : goal.returns-in_err-write_end-clause-held_part
returns-in_err-write_end-clause-held_part g c =
    let p =
    err_from_is_err_and c.from_residual-in_err-write_end.result
    c.from_residual-in_err-write_end.ensures.1 in
    rw (p.1)
    (end_cut _ _ _ _ _ (opening_line c.args.receiver.now.opening)
    (frames_text c.args.receiver.now)
    (codes "end\n") c.opening_page-page.ensures c.in_ok-put_frames.ensures.ok
    c.in_err-write_end.ensures.fault).held

pub returns-clause-ok : goal.returns-clause-ok
returns-clause-ok g c =
    (end_all _ _ _ _ _ (opening_line c.args.receiver.now.opening)
    (frames_text c.args.receiver.now)
    (codes "end\n") c.opening_page-page.ensures c.in_ok-put_frames.ensures.ok
    c.in_ok-write_end.ensures.ok).took

pub returns-clause-held : goal.returns-clause-held
returns-clause-held g c =
    (end_all _ _ _ _ _ (opening_line c.args.receiver.now.opening)
    (frames_text c.args.receiver.now)
    (codes "end\n") c.opening_page-page.ensures c.in_ok-put_frames.ensures.ok
    c.in_ok-write_end.ensures.ok).held
