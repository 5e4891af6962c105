use Rattle.std.proofs.Common.{arith}
use Rattle.std.proofs.lemmas.Result.{IfErr-weaker}
use Rattle.st_format.specs.Picture.{Values}
use Rattle.picture_forms.specs.Layouts.{plane_text}
use Rattle.picture_forms.proofs.Apart.{plane_long}
use Rattle.picture_forms.proofs.Walked.{cut_behind}
use Rattle.picture_forms.proofs.y4m_reading.read_y4m_planes.Goals as goal

pub returns-clause-fault : goal.returns-clause-fault
returns-clause-fault g c =
    let v : Values =
    record { format = c.args.format.now; samples = c.read_component.new.samples } in
    let long = plane_long v 0 c.requires.ycc (omega arith) in
    IfErr-weaker c.read_chroma.result _ _
    (λ e q. cut_behind e _ _ _ _ _ _ (plane_text v 0) _ _ _ c.in_ok-read_component.ensures.given
    (omega (arith, long)) q) c.read_chroma.ensures.fault
