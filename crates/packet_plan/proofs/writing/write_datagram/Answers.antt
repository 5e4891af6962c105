use Rattle.std.proofs.Common.{◌∙◌, arith}
use Rattle.packet_plan.proofs.Behind.{stays_later}
use Rattle.packet_plan.proofs.Texts.{octets_at}
use Rattle.packet_plan.proofs.writing.write_datagram.Goals as goal

pub write_runs-requires-clause-room : goal.write_runs-requires-clause-room
write_runs-requires-clause-room g c =
    omega (arith, octets_at (g.P.Raster.values c.args.picture.now) c.args.runs.now)

pub returns-clause-value : goal.returns-clause-value
returns-clause-value g c =
    omega (arith, octets_at (g.P.Raster.values c.args.picture.now) c.args.runs.now)

pub returns-clause-behind : goal.returns-clause-behind
returns-clause-behind g c =
    c.write_runs.ensures.behind
    ∙ stays_later c.write_datagram_front-at.result c.write_runs.result c.args.buf.now
    c.write_datagram_front-at.new.buf
    (omega (arith, c.write_runs.ensures.value)) c.write_datagram_front-at.ensures.behind
