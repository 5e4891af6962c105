use Rattle.run_laws.proofs.NoMigrateRefusals.{migrate_not}
use Rattle.run_laws.proofs.unrefused.migrate_unrefused.Goals as goal

pub returns : goal.returns
returns g c =
    migrate_not g.D.ByteSource.gave g.D.ByteSource.ended g.S.ByteSource.gave
    g.S.ByteSource.ended
