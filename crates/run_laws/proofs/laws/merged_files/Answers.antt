use Rattle.run_laws.proofs.Merging.{run_merged_all}
use Rattle.run_laws.proofs.laws.merged_files.Goals as goal

pub returns : goal.returns
returns g c = run_merged_all g.S.ByteSource.gave g.S.ByteSource.ended
