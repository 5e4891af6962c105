use Rattle.std.proofs.Common.{◌≡◌, ◌≤◌, length}
use Rattle.path_receiver.specs.Frames.{IsReceiver}
use Rattle.path_receiver.specs.Took.{CountsAll}
use Rattle.path_receiver.proofs.TurnLemmas.{Heard}
use Rattle.path_receiver.proofs.receiving.take_turns.Given as goal

-- what was taken in the turns so far, and what the source counted
abbrev pub invariant-loop : goal.invariant-loop
invariant-loop g l = record {
  few : l.delivered ≤ l.counter;
  room : length l.buf ≡ length l.initial.buf;
  receiver : IsReceiver l.receiver;
  so_far : Heard g.O.Observer.after l.counter l.delivered
      (g.S.DatagramSource.turns l.initial.source) (g.S.DatagramSource.turns l.source)
      l.initial.receiver l.receiver l.initial.observer l.observer
      (g.S.DatagramSource.came l.initial.source) (g.S.DatagramSource.came l.source);
  delivered : CountsAll l.delivered (g.S.DatagramSource.delivered l.initial.source)
      (g.S.DatagramSource.delivered l.source);
  last : g.S.DatagramSource.last_fault l.source ≡ g.S.DatagramSource.last_fault l.initial.source;
  before : g.S.DatagramSource.before l.source ≡ g.S.DatagramSource.before l.initial.source;
  names : g.S.DatagramSource.names l.source ≡ g.S.DatagramSource.names l.initial.source;
  failures : g.S.DatagramSource.failures l.source ≡ g.S.DatagramSource.failures l.initial.source;
}
