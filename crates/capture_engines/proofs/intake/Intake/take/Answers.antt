use Rattle.std.proofs.Common.{arith}
use Rattle.capture_engines.proofs.Taken.{counts_one}
use Rattle.capture_engines.proofs.intake.Intake.take.Goals as goal

pub returns : goal.returns
returns g c =
    let was = c.args.self.now in
    let took = c.take-answer in
    record {
      opening = took.ensures.opening;
      holds = took.ensures.holds;
      tallied = counts_one was.receiver.opening took.new.self.opening was.tally c.note.new.self
          c.args.octets.now took.result took.ensures.answer took.ensures.opening
          c.note.ensures.counted;
      delivered = λ count is. omega (arith, is, c.saturating_add-self.ensures);
    }
