use Rattle.path_merge.proofs.Outcomes.{outcomes}
use Rattle.path_merge.proofs.laws.schedules.every_schedule.Goals as goal

pub returns : goal.returns
returns c s events is =
    outcomes s events is.window.size.some is.window.different is.octets is.admitted
