use Rattle.std.proofs.Common.{◌++◌}
use Rattle.std.proofs.lemmas.Result.{err_from_is_err_and, on_err_weaker}
use Rattle.st_format.specs.Picture.{Values}
use Rattle.picture_forms.specs.Layouts.{plane_text}
use Rattle.picture_forms.proofs.Written.{part_first, part_then}
use Rattle.picture_forms.proofs.y4m_writing.write_planes.Goals as goal

pub returns-clause-fault : goal.returns-clause-fault
returns-clause-fault g c =
    let v : Values = record { format = c.args.format.now; samples = c.args.samples.now } in
    on_err_weaker c.write_chroma.result
    (λ q. part_then _ _ _ _ _ _ (plane_text v 0) (plane_text v 1 ++ plane_text v 2)
    c.in_ok-write_component.ensures.ok q) c.write_chroma.ensures.fault

pub returns-in_err-write_component-clause-fault : goal.returns-in_err-write_component-clause-fault
returns-in_err-write_component-clause-fault g c =
    let v : Values = record { format = c.args.format.now; samples = c.args.samples.now } in
    let p = err_from_is_err_and c.from_residual.result c.from_residual.ensures.1 in
    rw (p.1)
    (part_first _ _ _ _ (plane_text v 0) (plane_text v 1 ++ plane_text v 2)
    c.in_err-write_component.ensures.fault)
