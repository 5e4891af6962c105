use Rattle.std.proofs.Common.{Option, ap, rules}
use Rattle.recording_counts.specs.Streams.{is_a}
use Rattle.stream_inspection.specs.Arrivals.{arrival}
use Rattle.stream_inspection.proofs.Moments.{noted_a, noted_b, with_moments}
use Rattle.stream_inspection.proofs.probe.Probe.after.Goals as goal

pub returns-in-A : goal.returns-in-A
returns-in-A c = λ own e.
    noted_a c.args.self _ own (arrival c.args.packet.now c.args.moment, c.args.number)
    (search rules) (ap is_a c.in-A.is)
    (ap (λ (m : Option _). with_moments c.args.self.number m c.args.self.b)
    c.first_known.ensures)
    e

pub returns-in-B : goal.returns-in-B
returns-in-B c = λ own e.
    noted_b c.args.self _ own (arrival c.args.packet.now c.args.moment, c.args.number)
    (search rules) (ap is_a c.in-B.is)
    (ap (λ (m : Option _). with_moments c.args.self.number c.args.self.a m)
    c.first_known-in-B.ensures)
    e
