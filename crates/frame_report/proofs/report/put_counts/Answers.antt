use Rattle.std.proofs.lemmas.Result.{err_from_is_err_and}
use Rattle.frame_report.proofs.Gathering.{gathers_more, prefix_first}
use Rattle.frame_report.proofs.report.put_counts.Goals as goal

pub returns-in_err-make_room-clause-fault : goal.returns-in_err-make_room-clause-fault
returns-in_err-make_room-clause-fault g c =
    let p = err_from_is_err_and c.from_residual.result c.from_residual.ensures.1 in
    rw (p.1) (prefix_first _ _ _ _ c.in_err-make_room.ensures.fault)

pub add_counts-requires : goal.add_counts-requires
add_counts-requires g c = c.in_ok-make_room.ensures.room

pub returns-clause-ok : goal.returns-clause-ok
returns-clause-ok g c =
    gathers_more _ _ _ _ _ _ c.in_ok-make_room.ensures.ok c.add_counts.ensures

pub returns-clause-counted : goal.returns-clause-counted
returns-clause-counted g c = c.in_ok-make_room.ensures.counted
