use Rattle.pgroup_pack.proofs.Values.{spelled_values}
use Rattle.pgroup_pack.proofs.pack.Goals as goal

pub returns-clause-values : goal.returns-clause-values
returns-clause-values c = spelled_values c.args.format.now.depth c.pack_at.ensures
