use Rattle.std.proofs.Common.{[], refl}
use Rattle.receiver_engines.proofs.Refusals.{unread_fill}
use Rattle.picture_engine.proofs.asked.check_values.Goals as goal

pub returns-in-None-clause-refused : goal.returns-in-None-clause-refused
returns-in-None-clause-refused c =
    (refl, unread_fill c.args.text.now [] c.in-None.ensures.none)
