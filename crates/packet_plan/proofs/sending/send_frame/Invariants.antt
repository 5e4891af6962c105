use Rattle.std.proofs.Common.{◌≡◌, ◌<◌, length, take}
use Rattle.st_format.specs.Device.{TakesAll}
use Rattle.st_format.specs.Puts.{TakesEach}
use Rattle.packet_plan.specs.Text.{datagram_texts}
use Rattle.packet_plan.proofs.Taken.{Known}
use Rattle.packet_plan.proofs.sending.send_frame.Given as goal

pub record Sending (so_far each count facts size : Type 0) : Type 0 where
  pub taken : so_far
  pub put : each
  pub failures : count
  pub known : facts
  pub long : size

abbrev pub invariant-loop-index : goal.invariant-loop-index
invariant-loop-index g l = Sending
    (TakesAll (g.S.DatagramSink.taken l.initial.sink) (g.S.DatagramSink.taken l.sink)
    (take l.index (datagram_texts (g.R.Raster.values l.picture) l.stamp 0 l.plan.packets)))
    (TakesEach g.S.DatagramSink.takes l.initial.sink
    (take l.index (datagram_texts (g.R.Raster.values l.picture) l.stamp 0 l.plan.packets)) l.sink)
    (g.S.DatagramSink.failures l.sink ≡ g.S.DatagramSink.failures l.initial.sink)
    (0 < l.index → Known (g.R.Raster.values l.picture) l.stamp)
    (length l.buf ≡ length l.initial.buf)
