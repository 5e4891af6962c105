use Rattle.std.proofs.Common.{ap}
use Rattle.std.specs.Option.{option_copied}
use Rattle.stream_inspection.proofs.Told.{said_begun}
use Rattle.stream_inspection.proofs.target.begin_by.Goals as goal

pub returns-in-Ok-clause-begun : goal.returns-in-Ok-clause-begun
returns-in-Ok-clause-begun g c =
    said_begun (option_copied c.args.sdp) _ c.in-Ok.target (ap option_copied c.in-Some.is)
    c.in-Ok.ensures.announced
