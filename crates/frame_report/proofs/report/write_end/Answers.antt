use Rattle.std.proofs.Common.{[], codes}
use Rattle.std.proofs.lemmas.Result.{err_from_is_err_and, on_err_weaker, on_ok_weaker}
use Rattle.frame_report.proofs.Gathering.{cut_then, gathers_all, prefix_first}
use Rattle.frame_report.proofs.report.write_end.Goals as goal

pub returns-in_err-make_room-clause-fault : goal.returns-in_err-make_room-clause-fault
returns-in_err-make_room-clause-fault g c =
    let p = err_from_is_err_and c.from_residual.result c.from_residual.ensures.1 in
    rw (p.1) (prefix_first _ _ _ _ c.in_err-make_room.ensures.fault)

pub returns-clause-ok : goal.returns-clause-ok
returns-clause-ok g c =
    on_ok_weaker c.write.result
    (λ q. gathers_all _ _ _ _ _ [] (codes "end\n") c.in_ok-make_room.ensures.ok
    (rw c.add.ensures at q)) c.write.ensures.ok

pub returns-clause-fault : goal.returns-clause-fault
returns-clause-fault g c =
    on_err_weaker c.write.result
    (λ q. cut_then _ _ _ _ _ [] (codes "end\n") c.in_ok-make_room.ensures.ok
    (rw c.add.ensures at q)) c.write.ensures.fault
