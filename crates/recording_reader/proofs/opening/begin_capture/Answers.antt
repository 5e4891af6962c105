use Rattle.std.proofs.lemmas.Result.{err_from_is_err_and}
use Rattle.recording_reader.proofs.Beginnings.{capture_begins, capture_no_memory, capture_stops}
use Rattle.recording_reader.proofs.opening.begin_capture.Goals as goal

pub returns-in_err-room-clause-fault : goal.returns-in_err-room-clause-fault
returns-in_err-room-clause-fault g c =
    let p = err_from_is_err_and c.from_residual.result c.from_residual.ensures.1 in
    rw (p.1, p.2)
    (λ before flows is. capture_no_memory before _ c.args.four.now c.requires.four
    c.requires.other is flows _)

pub returns-in_err-text_len-clause-fault : goal.returns-in_err-text_len-clause-fault
returns-in_err-text_len-clause-fault g c =
    let p =
    err_from_is_err_and c.from_residual-in_err-text_len.result
    c.from_residual-in_err-text_len.ensures.1 in
    let e = c.in_err-text_len.ensures in
    rw (p.1, p.2)
    (λ before flows is. capture_stops before _ c.args.four.now c.requires.four c.requires.other is
    flows _ _ c.in_err-text_len.field-0.0 e.grown (e.gave_wrong before is))

pub returns-clause-begins : goal.returns-clause-begins
returns-clause-begins g c =
    let e = c.in_ok-text_len.ensures in
    λ before flows is. capture_begins before _ c.args.four.now c.requires.four c.requires.other is
    flows _ _ _ e.grown (e.gave before is)
