use Rattle.std.proofs.Common.{None, Option, ap}
use Rattle.recording_counts.specs.Streams.{is_a}
use Rattle.stream_inspection.specs.Arrivals.{arrival}
use Rattle.stream_inspection.proofs.Moments.{begun_a, begun_b, with_moments}
use Rattle.stream_inspection.proofs.probe.Probe.new.Goals as goal

pub returns-in-A : goal.returns-in-A
returns-in-A c =
    begun_a _ (arrival c.args.packet.now c.args.moment, c.args.number) (ap is_a c.in-A.is)
    (ap (λ (m : Option _). with_moments c.args.number m None) c.first_known-known.ensures)

pub returns-in-B : goal.returns-in-B
returns-in-B c =
    begun_b _ (arrival c.args.packet.now c.args.moment, c.args.number) (ap is_a c.in-B.is)
    (ap (λ (m : Option _). with_moments c.args.number None m) c.first_known-known.ensures)
