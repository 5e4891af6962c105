use Rattle.recording_counts.proofs.CountLaws.{came_repeated}
use Rattle.recording_counts.proofs.path_count.how.Goals as goal

pub returns-then-not-new : goal.returns-then-not-new
returns-then-not-new c = came_repeated c.args.new c.args.highest c.args.number c.if-not-new.true
