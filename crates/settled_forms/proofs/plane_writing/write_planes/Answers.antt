use Rattle.std.proofs.lemmas.Result.{err_from_is_err_and}
use Rattle.settled_forms.proofs.plane_writing.write_planes.Goals as goal

pub returns-in_err-write_frame-clause-fault : goal.returns-in_err-write_frame-clause-fault
returns-in_err-write_frame-clause-fault g c =
    let p = err_from_is_err_and c.from_residual.result c.from_residual.ensures.1 in
    rw (p.1, p.2) (
      tt,
      rw (c.new.ensures.frame, c.new.ensures.base) at c.in_err-write_frame.ensures.fault.held,
    )

pub returns-in_err-write_frame-clause-part : goal.returns-in_err-write_frame-clause-part
returns-in_err-write_frame-clause-part g c =
    let p = err_from_is_err_and c.from_residual.result c.from_residual.ensures.1 in
    rw (p.1)
    (rw (c.new.ensures.frame, c.new.ensures.base) at c.in_err-write_frame.ensures.fault.took)

pub returns-clause-ok : goal.returns-clause-ok
returns-clause-ok g c =
    rw (c.new.ensures.frame, c.new.ensures.base) at c.in_ok-write_frame.ensures.ok.held

pub returns-clause-took : goal.returns-clause-took
returns-clause-took g c =
    rw (c.new.ensures.frame, c.new.ensures.base) at c.in_ok-write_frame.ensures.ok.took
