use Rattle.std.proofs.Common.{arith, refl}
use Rattle.frame_report.proofs.ContestedTexts.{lines_none}
use Rattle.frame_report.proofs.Gathering.{put_all, put_none}
use Rattle.frame_report.proofs.contested.put_contested.Goals as goal

pub returns-then-contested-eq0-clause-ok : goal.returns-then-contested-eq0-clause-ok
returns-then-contested-eq0-clause-ok g c =
    put_all _ _ _ _ _ _ (put_none _ _ _ _ refl)
    (lines_none c.args.frame.now (omega (arith, c.requires, c.if-contested-eq0.true)))
