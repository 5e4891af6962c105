use Rattle.run_laws.proofs.Merging.{run_merged}
use Rattle.run_laws.proofs.laws.merged_file.Goals as goal

pub returns : goal.returns
returns g c =
    run_merged g.L.ByteSource.gave g.L.ByteSource.ended g.R.ByteSource.gave g.R.ByteSource.ended
