use Rattle.recording_counts.proofs.CountLaws.{count_none}
use Rattle.recording_counts.proofs.path_count.PathCount.new.Goals as goal

pub returns : goal.returns
returns g c = count_none c.new.result c.new.ensures
