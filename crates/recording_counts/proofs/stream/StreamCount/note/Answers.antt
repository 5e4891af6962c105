use Rattle.std.proofs.Common.{◌∙◌, sym}
use Rattle.std.proofs.lemmas.Result.{on_ok_weaker}
use Rattle.recording_counts.proofs.stream.StreamCount.note.Goals as goal

pub returns-then-is_a-clause-counted : goal.returns-then-is_a-clause-counted
returns-then-is_a-clause-counted g c =
    on_ok_weaker c.note_by_a.result
    (λ on key own e. on key own c.args.packet.now e (sym c.is_a.ensures ∙ c.if-is_a.true)
    c.number_after-number.ensures)
    c.note_by_a.ensures.counted

pub returns-else-is_a-clause-counted : goal.returns-else-is_a-clause-counted
returns-else-is_a-clause-counted g c =
    on_ok_weaker c.note_by_b.result
    (λ on key own e. on key own c.args.packet.now e (sym c.is_a.ensures ∙ c.if-is_a.false)
    c.number_after-number.ensures)
    c.note_by_b.ensures.counted
