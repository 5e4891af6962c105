use Rattle.std.proofs.lemmas.Result.{err_from_is_err_and}
use Rattle.recording_reader.proofs.RecordsRead.{no_record_behind, no_record_first, record_found}
use Rattle.recording_reader.proofs.record.read_record.Goals as goal

pub returns-in_err-first-clause-fault : goal.returns-in_err-first-clause-fault
returns-in_err-first-clause-fault g c =
    let p = err_from_is_err_and c.from_residual.result c.from_residual.ensures.1 in
    rw (p.1, p.2)
    (no_record_first c.in_err-first.field-0.0 _ _ _ c.in_err-first.ensures.fault.0
    c.in_err-first.ensures.kept)

pub returns-in_err-head-clause-fault : goal.returns-in_err-head-clause-fault
returns-in_err-head-clause-fault g c =
    let p =
    err_from_is_err_and c.from_residual-in_err-head.result c.from_residual-in_err-head.ensures.1 in
    let e = c.in_err-head.ensures in
    rw (p.1, p.2)
    (no_record_behind c.in_err-head.field-0.0 _ _ _ _ _ _ _ _
    (rw c.in-Some.is at c.in_ok-first.ensures.given)
    (rw c.in-Some.is at c.in_ok-first.ensures.gave) e.wrong e.fault e.cut)

pub returns-clause-read : goal.returns-clause-read
returns-clause-read g c =
    let e = c.in_ok-head.ensures in
    record_found _ _ _ _ c.in_ok-head.head c.record_rest.new.buf c.found_of.result
    c.found_of.ensures e.read.fits e.read.first_is
    (rw c.in-Some.is at c.in_ok-first.ensures.gave) e.gave
