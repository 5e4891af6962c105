use Rattle.recording_reader.proofs.Telling.{told}
use Rattle.recording_reader.proofs.reader.DatagramReaderDatagramSource.next.Goals as goal

pub returns-in-Ok-clause-came : goal.returns-in-Ok-clause-came
returns-in-Ok-clause-came g c =
    (told c.args.self.now c.take_next.new.self c.in-Ok.turn c.take_next.new.buf
    c.in-Ok.ensures.told).came
