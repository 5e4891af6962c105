use Rattle.std.proofs.Common.{◌≡◌, ◌≤◌, ◌+◌, ◌++◌, length, take}
use Rattle.packet_plan.specs.Text.{datagram_texts}
use Rattle.path_receiver.specs.Took.{CountsAll}
use Rattle.capture_engines.specs.declared.looping.TheConstants.{STAMP}
use Rattle.capture_engines.specs.Looping.{Came}
use Rattle.capture_engines.proofs.looping.pass.Given as goal

abbrev pub invariant-loop-index : goal.invariant-loop-index
invariant-loop-index g l = record {
  room : length l.buf ≡ 65535;
  few : l.delivered ≤ l.index;
  put : g.L.DatagramSink.took l.link
      ≡ g.L.DatagramSink.took l.initial.link
      ++ take l.index (datagram_texts l.picture STAMP 0 l.plan.packets);
  came : Came l.index l.delivered (g.L.DatagramSource.came l.initial.link)
      (g.L.DatagramSource.came l.link) l.receiver;
  counted : CountsAll l.delivered (g.L.DatagramSource.delivered l.initial.link)
      (g.L.DatagramSource.delivered l.link);
  opening : l.receiver.opening ≡ l.initial.receiver.opening;
  turns :
      g.L.DatagramSource.delivered l.link
      ≤ g.L.DatagramSource.delivered l.initial.link + l.index;
  failures : g.L.DatagramSink.failures l.link ≡ g.L.DatagramSink.failures l.initial.link;
}
