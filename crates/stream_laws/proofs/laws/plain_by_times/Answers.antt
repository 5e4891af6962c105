use Rattle.stream_laws.proofs.PlainByTimes.{plain_by_times}
use Rattle.stream_laws.proofs.laws.plain_by_times.Goals as goal

pub returns : goal.returns
returns c = plain_by_times
