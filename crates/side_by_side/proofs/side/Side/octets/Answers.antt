use Rattle.std.proofs.Common.{ap}
use Rattle.recording_reader.specs.FileReader.{octets_at_hand}
use Rattle.side_by_side.proofs.side.Side.octets.Goals as goal

pub returns-in-Some-clause-octets : goal.returns-in-Some-clause-octets
returns-in-Some-clause-octets g c = ap octets_at_hand c.in-Some.ensures.seen

pub returns-in-None-clause-octets : goal.returns-in-None-clause-octets
returns-in-None-clause-octets g c = ap octets_at_hand c.in-None.ensures.seen
