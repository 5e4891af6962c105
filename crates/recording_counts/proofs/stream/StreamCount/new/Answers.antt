use Rattle.recording_counts.proofs.StreamLaws.{stream_none}
use Rattle.recording_counts.proofs.stream.StreamCount.new.Goals as goal

pub returns : goal.returns
returns g c = stream_none c.args.key c.new.result c.new-2.result c.new.ensures c.new-2.ensures
