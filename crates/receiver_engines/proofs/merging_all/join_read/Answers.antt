use Rattle.std.proofs.Common.{refl}
use Rattle.receiver_engines.proofs.merging_all.join_read.Goals as goal

pub returns-in-Ok-clause-joined : goal.returns-in-Ok-clause-joined
returns-in-Ok-clause-joined g c =
    record { opening = c.merge.ensures.opening; frames = c.in-Ok.ensures.frames }

pub returns-in-Err-clause-only : goal.returns-in-Err-clause-only
returns-in-Err-clause-only g c = (refl, λ alike. c.in-Err.ensures.unlike.0 refl alike)
