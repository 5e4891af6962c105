use Rattle.std.proofs.Common.{List, ℕ, ap}
use Rattle.std.proofs.lemmas.Result.{err_from_is_err_and}
use Rattle.frame_report.specs.Contested.{sample_text}
use Rattle.frame_report.proofs.Gathering.{gathers_line, prefix_first}
use Rattle.frame_report.proofs.contested.put_line.Goals as goal

pub returns-in_err-make_room-clause-fault : goal.returns-in_err-make_room-clause-fault
returns-in_err-make_room-clause-fault g c =
    let p = err_from_is_err_and c.from_residual.result c.from_residual.ensures.1 in
    rw (p.1) (prefix_first _ _ _ _ c.in_err-make_room.ensures.fault)

pub returns-clause-ok : goal.returns-clause-ok
returns-clause-ok g c =
    gathers_line _ _ _ _ _ _ _ c.in_ok-make_room.ensures.ok c.add_line.ensures
    (ap (λ (name : List ℕ). sample_text c.args.row c.args.column name)
    c.component_name-name.ensures.name)
