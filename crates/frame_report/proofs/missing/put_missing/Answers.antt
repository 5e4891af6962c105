use Rattle.std.proofs.Common.{arith, refl}
use Rattle.st_format.proofs.Columns.{some_samples}
use Rattle.frame_report.proofs.Gathering.{put_all, put_none}
use Rattle.frame_report.proofs.MissingTexts.{rows_none}
use Rattle.frame_report.proofs.missing.put_missing.Goals as goal

pub returns-then-missing-eq0-clause-ok : goal.returns-then-missing-eq0-clause-ok
returns-then-missing-eq0-clause-ok g c =
    put_all _ _ _ _ _ _ (put_none _ _ _ _ refl)
    (rows_none c.args.frame.now c.facts.ensures.whole
    (some_samples c.args.frame.now.format.sampling c.args.frame.now.format.depth)
    (omega (arith, c.requires, c.if-missing-eq0.true)))
