use Rattle.std.proofs.lemmas.Result.{err_from_is_err_and}
use Rattle.frame_report.specs.Report.{frame_text}
use Rattle.frame_report.proofs.Gathering.{page_all, page_cut, page_first}
use Rattle.frame_report.proofs.report.write_frame.Goals as goal

pub returns-in_err-put_frame-clause-fault : goal.returns-in_err-put_frame-clause-fault
returns-in_err-put_frame-clause-fault g c =
    let p = err_from_is_err_and c.from_residual.result c.from_residual.ensures.1 in
    rw (p.1)
    (page_first _ _ _ (frame_text c.args.timestamp c.args.frame.now) c.new-page.ensures
    c.in_err-put_frame.ensures.fault).took

pub returns-in_err-put_frame-clause-held_part : goal.returns-in_err-put_frame-clause-held_part
returns-in_err-put_frame-clause-held_part g c =
    let p = err_from_is_err_and c.from_residual.result c.from_residual.ensures.1 in
    rw (p.1)
    (page_first _ _ _ (frame_text c.args.timestamp c.args.frame.now) c.new-page.ensures
    c.in_err-put_frame.ensures.fault).held

pub returns-in_err-write-clause-fault : goal.returns-in_err-write-clause-fault
returns-in_err-write-clause-fault g c =
    let p =
    err_from_is_err_and c.from_residual-in_err-write.result
    c.from_residual-in_err-write.ensures.1 in
    rw (p.1)
    (page_cut _ _ _ _ _ (frame_text c.args.timestamp c.args.frame.now) c.new-page.ensures
    c.in_ok-put_frame.ensures.ok c.in_err-write.ensures.fault).took

pub returns-in_err-write-clause-held_part : goal.returns-in_err-write-clause-held_part
returns-in_err-write-clause-held_part g c =
    let p =
    err_from_is_err_and c.from_residual-in_err-write.result
    c.from_residual-in_err-write.ensures.1 in
    rw (p.1)
    (page_cut _ _ _ _ _ (frame_text c.args.timestamp c.args.frame.now) c.new-page.ensures
    c.in_ok-put_frame.ensures.ok c.in_err-write.ensures.fault).held

pub returns-clause-ok : goal.returns-clause-ok
returns-clause-ok g c =
    (page_all _ _ _ _ _ (frame_text c.args.timestamp c.args.frame.now) c.new-page.ensures
    c.in_ok-put_frame.ensures.ok c.in_ok-write.ensures.ok).took

pub returns-clause-held : goal.returns-clause-held
returns-clause-held g c =
    (page_all _ _ _ _ _ (frame_text c.args.timestamp c.args.frame.now) c.new-page.ensures
    c.in_ok-put_frame.ensures.ok c.in_ok-write.ensures.ok).held
