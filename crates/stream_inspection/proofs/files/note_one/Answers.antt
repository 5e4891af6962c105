use Rattle.std.proofs.Common.{◌≡◌, None, rules}
use Rattle.run_outcome.proofs.SetSums.{counted_by}
use Rattle.stream_inspection.specs.Read.{end_outcome}
use Rattle.stream_inspection.proofs.Readings.{file_noted_if, front_refuses, text_refuses}
use Rattle.stream_inspection.proofs.files.note_one.Goals as goal

pub returns-in-Err-clause-refusal : goal.returns-in-Err-clause-refusal
returns-in-Err-clause-refusal g c =
    let told = g.S.ByteSource in
    front_refuses c.args.way (c.args.begun.now ≡ None) told.gave told.ended c.args.file.now _
    c.unopened.new.source c.unopened.result (search rules)
    (c.unopened.ensures.front (told.gave c.args.file.now) (search rules) (search rules))

pub returns-clause-failures : goal.returns-clause-failures
returns-clause-failures g c =
    counted_by (end_outcome c.note_opened-noted.result) _ _ _ _ c.in-Ok.ensures.counted
    (search rules) c.note_opened-noted.ensures.failures

pub returns-clause-noted : goal.returns-clause-noted
returns-clause-noted g c =
    let told = g.S.ByteSource in
    file_noted_if c.note_opened-noted.new.reader (λ s. s.now) told.gave told.ended c.args.file.now _
    c.args.way _ c.args.begun.now c.note_opened-noted.new.begun c.args.inspection.now
    c.note_opened-noted.new.inspection c.note_opened-noted.result (search rules) (search rules)
    (search rules) (search rules) c.history.ensures.by_flows c.history.ensures.known
    c.history.ensures.parts c.note_opened-noted.ensures.end c.note_opened-noted.ensures.noted

pub returns-clause-refusal : goal.returns-clause-refusal
returns-clause-refusal g c =
    let told = g.S.ByteSource in
    text_refuses _ c.args.way (c.args.begun.now ≡ None) c.note_opened-noted.new.reader (λ s. s.now)
    told.gave told.ended c.args.file.now _ c.note_opened-noted.result (search rules)
    (search rules) (search rules) (search rules) c.history.ensures.by_flows
    c.history.ensures.known c.history.ensures.parts c.note_opened-noted.ensures.refusal
