use Rattle.std.proofs.Common.{ap, ◌∙◌}
use Rattle.st_format.specs.Raster.{Raster}
use Rattle.path_merge.proofs.StepLemmas.{only_in_window}
use Rattle.path_merge.proofs.schedule.steps.slide_one.Goals as goal

pub returns-in-Err-clause-unfit : goal.returns-in-Err-clause-unfit
returns-in-Err-clause-unfit g c _ =
    let h = c.in-Err.ensures in
    only_in_window c.args.next c.args.receiver.now c.in-Err.field-0 c.in_ok-frame.frame.format
    h.in_window.0 h.other_format.0
    (ap (λ (r : Raster). r.format) c.in_ok-frame.ensures.blank ∙ c.format.ensures.format)
