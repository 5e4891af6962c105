use Rattle.std.proofs.Common.{◌≡◌, ℕ, ◌++◌, ◌∙◌, arith, refl, subst, sym}
use Rattle.st_format.specs.Turns.{CountsTurn, TakesTurn, arrived}
use Rattle.st_format.specs.declared.device.Turn.{Turn}
use Rattle.path_receiver.specs.Took.{CountsAll}
use Rattle.path_receiver.proofs.TurnLemmas.{counts_none, counts_more, datagram_heard}
use Rattle.path_receiver.proofs.TurnLemmas.{heard_end, heard_fault, heard_limit, nothing_heard}
use Rattle.path_receiver.proofs.TurnLemmas.{quiet_heard}
use Rattle.path_receiver.proofs.receiving.take_turns.Goals as goal

pub loop-init : goal.loop-init
loop-init g c = record {
  few = omega arith;
  room = refl;
  receiver = c.requires.receiver;
  so_far =
      nothing_heard g.O.Observer.after (g.S.DatagramSource.turns c.args.source.now)
      c.args.receiver.now c.args.observer.now (g.S.DatagramSource.came c.args.source.now)
      c.requires.receiver;
  delivered = counts_none (g.S.DatagramSource.delivered c.args.source.now);
  last = refl;
  before = refl;
  names = refl;
  failures = refl;
}

pub loop-preserved-in-Ok-Datagram : goal.loop-preserved-in-Ok-Datagram
loop-preserved-in-Ok-Datagram g c =
    let w = c.in-Ok-Datagram in
    let before = c.loop.invariant in
    let turns = g.S.DatagramSource.turns in
    let counted = g.S.DatagramSource.delivered in
    let came = g.S.DatagramSource.came in
    let arrives =
    subst (λ (t : Turn). came c.next.new.self ≡ came c.loop.source ++ arrived t c.next.new.buf)
    w.field-0-is w.ensures.came in
    let turn =
    subst (λ (t : Turn). TakesTurn (turns c.loop.source)
    (turns c.next.new.self) t c.next.new.buf) w.field-0-is w.ensures.turn in
    let one =
    subst (λ (t : Turn). CountsTurn t (counted c.loop.source)
    (counted c.next.new.self)) w.field-0-is w.ensures.delivered in
    record {
      few = omega (arith, before.few);
      room = w.ensures.room ∙ before.room;
      receiver = c.take.ensures.receiver;
      so_far =
          datagram_heard g.O.Observer.after c.loop.counter c.loop.delivered w.count w.path
          c.next.new.buf
          c.take.result (turns c.args.source.now) (turns c.loop.source) (turns c.next.new.self)
          c.args.receiver.now c.loop.receiver c.take.new.self c.args.observer.now c.loop.observer
          c.note.new.self (came c.args.source.now) (came c.loop.source) (came c.next.new.self)
          before.so_far before.receiver turn
          c.take.ensures.opening c.take.ensures.frames c.take.ensures.answer
          c.take.ensures.refusals c.note.ensures arrives;
      delivered =
          counts_more c.loop.delivered (counted c.args.source.now) (counted c.loop.source)
          (counted c.next.new.self) before.delivered one;
      last = w.ensures.blameless ∙ before.last;
      before = w.ensures.before ∙ before.before;
      names = w.ensures.names ∙ before.names;
      failures = w.ensures.counted ∙ before.failures;
    }

pub loop-preserved : goal.loop-preserved
loop-preserved g c =
    let w = c.in-Ok-Quiet in
    let before = c.loop.invariant in
    let turns = g.S.DatagramSource.turns in
    let counted = g.S.DatagramSource.delivered in
    let came = g.S.DatagramSource.came in
    let arrives =
    subst (λ (t : Turn). came c.next.new.self ≡ came c.loop.source ++ arrived t c.next.new.buf)
    w.field-0-is w.ensures.came in
    let turn =
    subst (λ (t : Turn). TakesTurn (turns c.loop.source)
    (turns c.next.new.self) t c.next.new.buf) w.field-0-is w.ensures.turn in
    let none =
    subst (λ (t : Turn). CountsTurn t (counted c.loop.source)
    (counted c.next.new.self)) w.field-0-is w.ensures.delivered in
    record {
      few = omega (arith, before.few);
      room = w.ensures.room ∙ before.room;
      receiver = before.receiver;
      so_far =
          quiet_heard g.O.Observer.after c.loop.counter c.loop.delivered c.next.new.buf
          (turns c.args.source.now) (turns c.loop.source) (turns c.next.new.self)
          c.args.receiver.now c.loop.receiver c.args.observer.now c.loop.observer
          (came c.args.source.now) (came c.loop.source) (came c.next.new.self) before.so_far turn
          arrives;
      delivered =
          subst (λ (n : ℕ). CountsAll c.loop.delivered (counted c.args.source.now) n)
          (sym none) before.delivered;
      last = w.ensures.blameless ∙ before.last;
      before = w.ensures.before ∙ before.before;
      names = w.ensures.names ∙ before.names;
      failures = w.ensures.counted ∙ before.failures;
    }

pub returns-in-Ok-End-clause-came : goal.returns-in-Ok-End-clause-came
returns-in-Ok-End-clause-came g c =
    let turns = g.S.DatagramSource.turns in
    let came = g.S.DatagramSource.came in
    let turn =
    subst (λ (t : Turn). TakesTurn (turns c.loop.source)
    (turns c.next.new.self) t c.next.new.buf) c.in-Ok-End.field-0-is c.in-Ok-End.ensures.turn in
    let arrives =
    subst (λ (t : Turn). came c.next.new.self ≡ came c.loop.source ++ arrived t c.next.new.buf)
    c.in-Ok-End.field-0-is c.in-Ok-End.ensures.came in
    heard_end g.O.Observer.after c.args.limit c.loop.counter c.loop.delivered
    (turns c.args.source.now) (turns c.loop.source) (turns c.next.new.self) c.args.receiver.now
    c.loop.receiver c.args.observer.now c.loop.observer (came c.args.source.now)
    (came c.loop.source) (came c.next.new.self) c.loop.invariant.so_far c.loop-test.true turn.0
    turn.2 arrives

pub returns-in-Err-clause-came : goal.returns-in-Err-clause-came
returns-in-Err-clause-came g c =
    let turns = g.S.DatagramSource.turns in
    let came = g.S.DatagramSource.came in
    heard_fault g.O.Observer.after c.args.limit c.loop.counter c.loop.delivered
    (turns c.args.source.now) (turns c.loop.source) c.args.receiver.now
    c.loop.receiver c.args.observer.now c.loop.observer (came c.args.source.now)
    (came c.loop.source) (came c.next.new.self) c.loop.invariant.so_far c.loop-test.true
    c.in-Err.ensures.kept

pub returns-clause-came : goal.returns-clause-came
returns-clause-came g c =
    let turns = g.S.DatagramSource.turns in
    let came = g.S.DatagramSource.came in
    heard_limit g.O.Observer.after c.args.limit c.loop.counter c.loop.delivered
    (turns c.args.source.now) (turns c.loop.source) c.args.receiver.now
    c.loop.receiver c.args.observer.now c.loop.observer (came c.args.source.now)
    (came c.loop.source) c.loop.invariant.so_far c.loop-test.false c.loop.auto.counter-end
