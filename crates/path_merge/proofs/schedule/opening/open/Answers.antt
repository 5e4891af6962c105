use Rattle.std.proofs.Common.{refl}
use Rattle.path_merge.proofs.OpeningLemmas.{stage_opened}
use Rattle.path_merge.proofs.schedule.opening.open.Goals as goal

pub returns-clause-stage : goal.returns-clause-stage
returns-clause-stage g c pictures =
    stage_opened c.args.plan.now c.args.stamp pictures c.args.window.now c.args.receivers
    c.format-format.result _ c.format-format.ensures c.in_ok-opened.ensures.count
    c.in_ok-opened.ensures.opened c.new.ensures.items c.new-2.ensures.items refl
