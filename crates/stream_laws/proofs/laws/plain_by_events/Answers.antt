use Rattle.stream_laws.proofs.NoneTold.{plain_by_events}
use Rattle.stream_laws.proofs.laws.plain_by_events.Goals as goal

pub returns : goal.returns
returns c = plain_by_events
