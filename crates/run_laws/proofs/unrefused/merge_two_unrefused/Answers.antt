use Rattle.run_laws.proofs.NoRefusals.{two_not}
use Rattle.run_laws.proofs.unrefused.merge_two_unrefused.Goals as goal

pub returns : goal.returns
returns g c =
    two_not g.L.ByteSource.gave g.L.ByteSource.ended g.R.ByteSource.gave g.R.ByteSource.ended
