use Rattle.std.proofs.Common.{refl}
use Rattle.path_merge.proofs.UnfitLemmas.{rest_speaks}
use Rattle.path_merge.proofs.schedule.check.check.Goals as goal

pub returns-in-Ok-clause-fault : goal.returns-in-Ok-clause-fault
returns-in-Ok-clause-fault g c =
    rest_speaks c.check_rest.result c.args.window.now c.args.pictures.now c.args.format
    c.args.receivers (c.in-Ok.ensures.window refl) c.check_rest.ensures.fault
