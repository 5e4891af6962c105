use Rattle.run_laws.proofs.ImportedExport.{run_all, run_records, run_sound}
use Rattle.run_laws.proofs.exported.exported_again.Goals as goal

pub returns-clause-sound : goal.returns-clause-sound
returns-clause-sound g c =
    λ a b counts source later old new run fit few.
    run_sound a b counts (g.S.ByteSource.gave source) (g.S.ByteSource.gave later)
    (g.S.ByteSource.ended later) old new run fit few

pub returns-clause-records : goal.returns-clause-records
returns-clause-records g c =
    λ a b counts source later old new run text flows asked two fit few.
    run_records a b counts (g.S.ByteSource.gave source) (g.S.ByteSource.gave later)
    (g.S.ByteSource.ended later) old new run text flows asked two fit few

pub returns-clause-all : goal.returns-clause-all
returns-clause-all g c =
    λ a b counts source later old new run none.
    run_all a b counts (g.S.ByteSource.gave source) (g.S.ByteSource.gave later)
    (g.S.ByteSource.ended later) old new run none
