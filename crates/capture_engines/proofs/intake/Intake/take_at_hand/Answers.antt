use Rattle.std.proofs.Common.{ap, sym, ◌∙◌}
use Rattle.recording_reader.specs.FileReader.{record_seen}
use Rattle.capture_engines.proofs.Taken.{none_begun, takes_hand, takes_no_hand}
use Rattle.capture_engines.proofs.intake.Intake.take_at_hand.Goals as goal

pub returns-in-Some : goal.returns-in-Some
returns-in-Some g c =
    takes_hand c.args.reader.now.at_hand c.in-Some.record c.args.self.now c.take.new.self
    (ap record_seen (sym c.in-Some.is) ∙ c.record.ensures.seen) c.take.ensures

pub returns-in_default : goal.returns-in_default
returns-in_default g c =
    takes_no_hand c.args.reader.now.at_hand c.args.self.now
    (ap record_seen (sym (none_begun c.record.result c.in_default.not-Some))
    ∙ c.record.ensures.seen)
