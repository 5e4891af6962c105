use Rattle.std.proofs.lemmas.Result.{err_from_is_err_and}
use Rattle.run_outcome.proofs.Printed.{whenever}
use Rattle.st2110_tool.proofs.recordings.import_all.Goals as goal

pub returns-in_err-import-clause-printed : goal.returns-in_err-import-clause-printed
returns-in_err-import-clause-printed g c =
    whenever c.from_residual.result _ c.in_err-import.ensures.printed

pub returns-in_err-import-clause-memory : goal.returns-in_err-import-clause-memory
returns-in_err-import-clause-memory g c =
    let p = err_from_is_err_and c.from_residual.result c.from_residual.ensures.1 in
    rw (p.1, p.2) c.in_err-import.ensures.memory
