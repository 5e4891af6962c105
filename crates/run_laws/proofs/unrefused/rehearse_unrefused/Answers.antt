use Rattle.run_laws.proofs.NoRehearsalRefusals.{rehearse_not}
use Rattle.run_laws.proofs.unrefused.rehearse_unrefused.Goals as goal

pub returns : goal.returns
returns g c = rehearse_not _ g.S.ByteSource.gave g.S.ByteSource.ended
