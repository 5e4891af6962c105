use Rattle.std.proofs.Common.{◌∙◌, ap, sym}
use Rattle.std.proofs.lemmas.Result.{on_ok_weaker}
use Rattle.recording_reader.specs.FileReader.{record_seen}
use Rattle.stream_inspection.proofs.Noting.{notes_hand, notes_no_hand}
use Rattle.stream_inspection.proofs.inspection.Inspection.note_at_hand.Goals as goal

pub returns-in-Some : goal.returns-in-Some
returns-in-Some g c =
    on_ok_weaker c.note.result
    (λ noted. notes_hand c.args.target.now c.args.reader.now.at_hand c.in-Some.record
    c.args.self.now c.note.new.self (ap record_seen (sym c.in-Some.is) ∙ c.record.ensures.seen)
    noted)
    c.note.ensures

pub returns-in-None : goal.returns-in-None
returns-in-None g c =
    notes_no_hand c.args.target.now c.args.reader.now.at_hand c.args.self.now
    (ap record_seen (sym c.in-None.is) ∙ c.record.ensures.seen)
