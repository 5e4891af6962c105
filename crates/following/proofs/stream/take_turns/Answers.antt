use Rattle.std.proofs.Common.{◌≡◌, ◌+◌, ◌++◌, [], arith, refl, subst, ◌∙◌}
use Rattle.std.proofs.Common.{Some, append-nil, take}
use Rattle.st_format.specs.Turns.{TakesTurn, arrived}
use Rattle.st_format.specs.declared.device.Turn.{Turn}
use Rattle.following.specs.Turned.{handed_as, handed_early, handed_in, state_early, turned}
use Rattle.following.proofs.Driving.{heard_since, shown_since, shown_still, so_datagram, so_none}
use Rattle.following.proofs.Driving.{so_nothing, so_quiet, state_since, state_still, took_turns}
use Rattle.following.proofs.stream.take_turns.Goals as goal

pub overflow_add-delivered : goal.overflow_add-delivered
overflow_add-delivered g c =
    omega (arith, c.loop.invariant.few, c.loop-test.true, c.ranges.limit.fits)

pub loop-init : goal.loop-init
loop-init g c = record {
  few = omega arith;
  room = refl;
  format = c.requires.format;
  follower = c.requires.follower;
  so_far =
      so_none g.O.FollowObserver.after c.args.eager (g.S.DatagramSource.turns c.args.source.now)
      (g.S.DatagramSource.came c.args.source.now) c.args.follower.now
      (g.K.FrameSink.shown c.args.sink.now) c.args.observer.now;
  last = refl;
  before = refl;
  names = refl;
  failures = refl;
  sink = refl;
}

pub loop-preserved : goal.loop-preserved
loop-preserved g c =
    let w = c.in-Ok-Quiet in
    let before = c.loop.invariant in
    let turns = g.S.DatagramSource.turns in
    let came = g.S.DatagramSource.came in
    let arrives =
    subst (λ (t : Turn). came c.next.new.self ≡ came c.loop.source ++ arrived t c.next.new.buf)
    w.field-0-is w.ensures.came in
    let turn =
    subst (λ (t : Turn). TakesTurn (turns c.loop.source)
    (turns c.next.new.self) t c.next.new.buf) w.field-0-is w.ensures.turn in
    record {
      few = omega (arith, before.few);
      room = w.ensures.room ∙ before.room;
      format = before.format;
      follower = before.follower;
      so_far =
          so_quiet g.O.FollowObserver.after c.args.eager c.loop.counter c.loop.delivered
          (turns c.args.source.now) (turns c.loop.source) (turns c.next.new.self)
          (came c.args.source.now) (came c.loop.source) (came c.next.new.self)
          c.args.follower.now c.loop.follower (g.K.FrameSink.shown c.args.sink.now)
          (g.K.FrameSink.shown c.loop.sink) c.args.observer.now c.loop.observer before.so_far turn
          arrives;
      last = w.ensures.blameless ∙ before.last;
      before = w.ensures.before ∙ before.before;
      names = w.ensures.names ∙ before.names;
      failures = w.ensures.counted ∙ before.failures;
      sink = before.sink;
    }

pub loop-preserved-in-None : goal.loop-preserved-in-None
loop-preserved-in-None g c =
    let w = c.in-Ok-Datagram in
    let turns = g.S.DatagramSource.turns in
    let came = g.S.DatagramSource.came in
    let shown = g.K.FrameSink.shown in
    let arrives =
    subst (λ (t : Turn). came c.next.new.self ≡ came c.loop.source ++ arrived t c.next.new.buf)
    w.field-0-is w.ensures.came in
    let turn =
    subst (λ (t : Turn). TakesTurn (turns c.loop.source)
    (turns c.next.new.self) t c.next.new.buf) w.field-0-is w.ensures.turn in
    let before = c.loop.invariant in
    let behind = c.show_turn.new.follower in
    record {
      few = omega (arith, before.few);
      room = w.ensures.room ∙ before.room;
      format = c.show_turn.ensures.format;
      follower = c.show_turn.ensures.follower;
      so_far = so_datagram g.O.FollowObserver.after c.args.eager c.loop.counter c.loop.delivered
          (turns c.args.source.now) (turns c.loop.source) (turns c.next.new.self)
          (came c.args.source.now) (came c.loop.source) (came c.next.new.self)
          c.args.follower.now c.loop.follower c.show_turn.new.follower (shown c.args.sink.now)
          (shown c.loop.sink) (shown c.show_turn.new.sink) [] c.args.observer.now c.loop.observer
          c.show_turn.new.observer w.field-0-0 (take w.count c.next.new.buf) c.loop.invariant.so_far turn
          arrives
          (state_still c.args.eager behind
          (turned c.args.eager c.loop.follower (take w.count c.next.new.buf)) c.in-None.ensures.none
          c.show_turn.ensures.state)
          (shown_still c.args.eager behind (shown c.loop.sink) (shown c.show_turn.new.sink)
          (handed_in c.args.eager c.loop.follower (take w.count c.next.new.buf))
          c.in-None.ensures.none c.in-None.ensures.shown) c.show_turn.ensures.heard;
      last = w.ensures.blameless ∙ before.last;
      before = w.ensures.before ∙ before.before;
      names = w.ensures.names ∙ before.names;
      failures = w.ensures.counted ∙ before.failures;
      sink = c.in-None.ensures.blameless ∙ before.sink;
    }

pub returns-in-Some-clause-took : goal.returns-in-Some-clause-took
returns-in-Some-clause-took g c =
    let w = c.in-Ok-Datagram in
    let turns = g.S.DatagramSource.turns in
    let came = g.S.DatagramSource.came in
    let shown = g.K.FrameSink.shown in
    let arrives =
    subst (λ (t : Turn). came c.next.new.self ≡ came c.loop.source ++ arrived t c.next.new.buf)
    w.field-0-is w.ensures.came in
    let turn =
    subst (λ (t : Turn). TakesTurn (turns c.loop.source)
    (turns c.next.new.self) t c.next.new.buf) w.field-0-is w.ensures.turn in
    let after = state_early c.args.eager c.show_turn.new.follower in
    let missed =
    handed_as (Some c.in-Some.timestamp) c.show_turn.new.frame
    ++ handed_early c.args.eager c.show_turn.new.follower in
    let so =
    so_datagram g.O.FollowObserver.after c.args.eager c.loop.counter c.loop.delivered
    (turns c.args.source.now) (turns c.loop.source) (turns c.next.new.self)
    (came c.args.source.now) (came c.loop.source) (came c.next.new.self)
    c.args.follower.now c.loop.follower after (shown c.args.sink.now)
    (shown c.loop.sink) (shown c.show_turn.new.sink) missed c.args.observer.now c.loop.observer
    c.show_turn.new.observer w.field-0-0 (take w.count c.next.new.buf) c.loop.invariant.so_far turn
    arrives c.show_turn.ensures.state c.in-Some.ensures.shown c.show_turn.ensures.heard in
    took_turns g.O.FollowObserver.after c.args.eager c.args.limit (c.loop.counter + 1)
    (c.loop.delivered + 1) _
    (turns c.args.source.now) (turns c.next.new.self) (turns c.next.new.self)
    (came c.args.source.now) (came c.next.new.self) c.args.follower.now after
    (shown c.args.sink.now) (shown c.show_turn.new.sink) missed c.args.observer.now
    c.show_turn.new.observer so refl (omega (arith, c.loop-test.true)) refl

pub returns-in-Some-clause-state : goal.returns-in-Some-clause-state
returns-in-Some-clause-state g c =
    let w = c.in-Ok-Datagram in
    let turns = g.S.DatagramSource.turns in
    let came = g.S.DatagramSource.came in
    let shown = g.K.FrameSink.shown in
    let arrives =
    subst (λ (t : Turn). came c.next.new.self ≡ came c.loop.source ++ arrived t c.next.new.buf)
    w.field-0-is w.ensures.came in
    let turn =
    subst (λ (t : Turn). TakesTurn (turns c.loop.source)
    (turns c.next.new.self) t c.next.new.buf) w.field-0-is w.ensures.turn in
    let after = state_early c.args.eager c.show_turn.new.follower in
    let missed =
    handed_as (Some c.in-Some.timestamp) c.show_turn.new.frame
    ++ handed_early c.args.eager c.show_turn.new.follower in
    let so =
    so_datagram g.O.FollowObserver.after c.args.eager c.loop.counter c.loop.delivered
    (turns c.args.source.now) (turns c.loop.source) (turns c.next.new.self)
    (came c.args.source.now) (came c.loop.source) (came c.next.new.self)
    c.args.follower.now c.loop.follower after (shown c.args.sink.now)
    (shown c.loop.sink) (shown c.show_turn.new.sink) missed c.args.observer.now c.loop.observer
    c.show_turn.new.observer w.field-0-0 (take w.count c.next.new.buf) c.loop.invariant.so_far turn
    arrives c.show_turn.ensures.state c.in-Some.ensures.shown c.show_turn.ensures.heard in
    state_since g.O.FollowObserver.after c.args.eager (c.loop.counter + 1) (c.loop.delivered + 1)
    (turns c.args.source.now) (turns c.next.new.self) (came c.args.source.now)
    (came c.next.new.self) c.args.follower.now after (shown c.args.sink.now)
    (shown c.show_turn.new.sink) missed c.args.observer.now c.show_turn.new.observer so

pub returns-in-Some-clause-shown : goal.returns-in-Some-clause-shown
returns-in-Some-clause-shown g c =
    let w = c.in-Ok-Datagram in
    let turns = g.S.DatagramSource.turns in
    let came = g.S.DatagramSource.came in
    let shown = g.K.FrameSink.shown in
    let arrives =
    subst (λ (t : Turn). came c.next.new.self ≡ came c.loop.source ++ arrived t c.next.new.buf)
    w.field-0-is w.ensures.came in
    let turn =
    subst (λ (t : Turn). TakesTurn (turns c.loop.source)
    (turns c.next.new.self) t c.next.new.buf) w.field-0-is w.ensures.turn in
    let after = state_early c.args.eager c.show_turn.new.follower in
    let missed =
    handed_as (Some c.in-Some.timestamp) c.show_turn.new.frame
    ++ handed_early c.args.eager c.show_turn.new.follower in
    let so =
    so_datagram g.O.FollowObserver.after c.args.eager c.loop.counter c.loop.delivered
    (turns c.args.source.now) (turns c.loop.source) (turns c.next.new.self)
    (came c.args.source.now) (came c.loop.source) (came c.next.new.self)
    c.args.follower.now c.loop.follower after (shown c.args.sink.now)
    (shown c.loop.sink) (shown c.show_turn.new.sink) missed c.args.observer.now c.loop.observer
    c.show_turn.new.observer w.field-0-0 (take w.count c.next.new.buf) c.loop.invariant.so_far turn
    arrives c.show_turn.ensures.state c.in-Some.ensures.shown c.show_turn.ensures.heard in
    shown_since g.O.FollowObserver.after c.args.eager (c.loop.counter + 1) (c.loop.delivered + 1)
    (turns c.args.source.now) (turns c.next.new.self) (came c.args.source.now)
    (came c.next.new.self) c.args.follower.now after (shown c.args.sink.now)
    (shown c.show_turn.new.sink) missed c.args.observer.now c.show_turn.new.observer so

pub returns-in-Some-clause-heard : goal.returns-in-Some-clause-heard
returns-in-Some-clause-heard g c =
    let w = c.in-Ok-Datagram in
    let turns = g.S.DatagramSource.turns in
    let came = g.S.DatagramSource.came in
    let shown = g.K.FrameSink.shown in
    let arrives =
    subst (λ (t : Turn). came c.next.new.self ≡ came c.loop.source ++ arrived t c.next.new.buf)
    w.field-0-is w.ensures.came in
    let turn =
    subst (λ (t : Turn). TakesTurn (turns c.loop.source)
    (turns c.next.new.self) t c.next.new.buf) w.field-0-is w.ensures.turn in
    let after = state_early c.args.eager c.show_turn.new.follower in
    let missed =
    handed_as (Some c.in-Some.timestamp) c.show_turn.new.frame
    ++ handed_early c.args.eager c.show_turn.new.follower in
    let so =
    so_datagram g.O.FollowObserver.after c.args.eager c.loop.counter c.loop.delivered
    (turns c.args.source.now) (turns c.loop.source) (turns c.next.new.self)
    (came c.args.source.now) (came c.loop.source) (came c.next.new.self)
    c.args.follower.now c.loop.follower after (shown c.args.sink.now)
    (shown c.loop.sink) (shown c.show_turn.new.sink) missed c.args.observer.now c.loop.observer
    c.show_turn.new.observer w.field-0-0 (take w.count c.next.new.buf) c.loop.invariant.so_far turn
    arrives c.show_turn.ensures.state c.in-Some.ensures.shown c.show_turn.ensures.heard in
    heard_since g.O.FollowObserver.after c.args.eager (c.loop.counter + 1) (c.loop.delivered + 1)
    (turns c.args.source.now) (turns c.next.new.self) (came c.args.source.now)
    (came c.next.new.self) c.args.follower.now after (shown c.args.sink.now)
    (shown c.show_turn.new.sink) missed c.args.observer.now c.show_turn.new.observer so

pub returns-in-Ok-End-clause-state : goal.returns-in-Ok-End-clause-state
returns-in-Ok-End-clause-state g c =
    let turns = g.S.DatagramSource.turns in
    let came = g.S.DatagramSource.came in
    let shown = g.K.FrameSink.shown in
    state_since g.O.FollowObserver.after c.args.eager c.loop.counter c.loop.delivered
    (turns c.args.source.now) (turns c.loop.source) (came c.args.source.now)
    (came c.next.new.self) c.args.follower.now c.loop.follower (shown c.args.sink.now)
    (shown c.loop.sink) [] c.args.observer.now c.loop.observer
    (so_nothing g.O.FollowObserver.after c.args.eager c.loop.counter c.loop.delivered
    (turns c.args.source.now) (turns c.loop.source) (came c.args.source.now)
    (came c.loop.source) (came c.next.new.self) c.args.follower.now c.loop.follower
    (shown c.args.sink.now) (shown c.loop.sink) c.args.observer.now c.loop.observer
    c.loop.invariant.so_far (subst (λ (t : Turn). came c.next.new.self ≡ came c.loop.source ++ arrived t c.next.new.buf)
    c.in-Ok-End.field-0-is c.in-Ok-End.ensures.came ∙ append-nil (came c.loop.source)))

pub returns-in-Err-clause-state : goal.returns-in-Err-clause-state
returns-in-Err-clause-state g c =
    let turns = g.S.DatagramSource.turns in
    let came = g.S.DatagramSource.came in
    let shown = g.K.FrameSink.shown in
    state_since g.O.FollowObserver.after c.args.eager c.loop.counter c.loop.delivered
    (turns c.args.source.now) (turns c.loop.source) (came c.args.source.now)
    (came c.next.new.self) c.args.follower.now c.loop.follower (shown c.args.sink.now)
    (shown c.loop.sink) [] c.args.observer.now c.loop.observer
    (so_nothing g.O.FollowObserver.after c.args.eager c.loop.counter c.loop.delivered
    (turns c.args.source.now) (turns c.loop.source) (came c.args.source.now)
    (came c.loop.source) (came c.next.new.self) c.args.follower.now c.loop.follower
    (shown c.args.sink.now) (shown c.loop.sink) c.args.observer.now c.loop.observer
    c.loop.invariant.so_far c.in-Err.ensures.kept)

pub returns-clause-state : goal.returns-clause-state
returns-clause-state g c =
    let turns = g.S.DatagramSource.turns in
    let came = g.S.DatagramSource.came in
    let shown = g.K.FrameSink.shown in
    state_since g.O.FollowObserver.after c.args.eager c.loop.counter c.loop.delivered
    (turns c.args.source.now) (turns c.loop.source) (came c.args.source.now)
    (came c.loop.source) c.args.follower.now c.loop.follower (shown c.args.sink.now)
    (shown c.loop.sink) [] c.args.observer.now c.loop.observer
    c.loop.invariant.so_far

pub returns-in-Ok-End-clause-shown : goal.returns-in-Ok-End-clause-shown
returns-in-Ok-End-clause-shown g c =
    let turns = g.S.DatagramSource.turns in
    let came = g.S.DatagramSource.came in
    let shown = g.K.FrameSink.shown in
    shown_since g.O.FollowObserver.after c.args.eager c.loop.counter c.loop.delivered
    (turns c.args.source.now) (turns c.loop.source) (came c.args.source.now)
    (came c.next.new.self) c.args.follower.now c.loop.follower (shown c.args.sink.now)
    (shown c.loop.sink) [] c.args.observer.now c.loop.observer
    (so_nothing g.O.FollowObserver.after c.args.eager c.loop.counter c.loop.delivered
    (turns c.args.source.now) (turns c.loop.source) (came c.args.source.now)
    (came c.loop.source) (came c.next.new.self) c.args.follower.now c.loop.follower
    (shown c.args.sink.now) (shown c.loop.sink) c.args.observer.now c.loop.observer
    c.loop.invariant.so_far (subst (λ (t : Turn). came c.next.new.self ≡ came c.loop.source ++ arrived t c.next.new.buf)
    c.in-Ok-End.field-0-is c.in-Ok-End.ensures.came ∙ append-nil (came c.loop.source)))

pub returns-in-Err-clause-shown : goal.returns-in-Err-clause-shown
returns-in-Err-clause-shown g c =
    let turns = g.S.DatagramSource.turns in
    let came = g.S.DatagramSource.came in
    let shown = g.K.FrameSink.shown in
    shown_since g.O.FollowObserver.after c.args.eager c.loop.counter c.loop.delivered
    (turns c.args.source.now) (turns c.loop.source) (came c.args.source.now)
    (came c.next.new.self) c.args.follower.now c.loop.follower (shown c.args.sink.now)
    (shown c.loop.sink) [] c.args.observer.now c.loop.observer
    (so_nothing g.O.FollowObserver.after c.args.eager c.loop.counter c.loop.delivered
    (turns c.args.source.now) (turns c.loop.source) (came c.args.source.now)
    (came c.loop.source) (came c.next.new.self) c.args.follower.now c.loop.follower
    (shown c.args.sink.now) (shown c.loop.sink) c.args.observer.now c.loop.observer
    c.loop.invariant.so_far c.in-Err.ensures.kept)

pub returns-clause-shown : goal.returns-clause-shown
returns-clause-shown g c =
    let turns = g.S.DatagramSource.turns in
    let came = g.S.DatagramSource.came in
    let shown = g.K.FrameSink.shown in
    shown_since g.O.FollowObserver.after c.args.eager c.loop.counter c.loop.delivered
    (turns c.args.source.now) (turns c.loop.source) (came c.args.source.now)
    (came c.loop.source) c.args.follower.now c.loop.follower (shown c.args.sink.now)
    (shown c.loop.sink) [] c.args.observer.now c.loop.observer
    c.loop.invariant.so_far

pub returns-in-Ok-End-clause-heard : goal.returns-in-Ok-End-clause-heard
returns-in-Ok-End-clause-heard g c =
    let turns = g.S.DatagramSource.turns in
    let came = g.S.DatagramSource.came in
    let shown = g.K.FrameSink.shown in
    heard_since g.O.FollowObserver.after c.args.eager c.loop.counter c.loop.delivered
    (turns c.args.source.now) (turns c.loop.source) (came c.args.source.now)
    (came c.next.new.self) c.args.follower.now c.loop.follower (shown c.args.sink.now)
    (shown c.loop.sink) [] c.args.observer.now c.loop.observer
    (so_nothing g.O.FollowObserver.after c.args.eager c.loop.counter c.loop.delivered
    (turns c.args.source.now) (turns c.loop.source) (came c.args.source.now)
    (came c.loop.source) (came c.next.new.self) c.args.follower.now c.loop.follower
    (shown c.args.sink.now) (shown c.loop.sink) c.args.observer.now c.loop.observer
    c.loop.invariant.so_far (subst (λ (t : Turn). came c.next.new.self ≡ came c.loop.source ++ arrived t c.next.new.buf)
    c.in-Ok-End.field-0-is c.in-Ok-End.ensures.came ∙ append-nil (came c.loop.source)))

pub returns-in-Err-clause-heard : goal.returns-in-Err-clause-heard
returns-in-Err-clause-heard g c =
    let turns = g.S.DatagramSource.turns in
    let came = g.S.DatagramSource.came in
    let shown = g.K.FrameSink.shown in
    heard_since g.O.FollowObserver.after c.args.eager c.loop.counter c.loop.delivered
    (turns c.args.source.now) (turns c.loop.source) (came c.args.source.now)
    (came c.next.new.self) c.args.follower.now c.loop.follower (shown c.args.sink.now)
    (shown c.loop.sink) [] c.args.observer.now c.loop.observer
    (so_nothing g.O.FollowObserver.after c.args.eager c.loop.counter c.loop.delivered
    (turns c.args.source.now) (turns c.loop.source) (came c.args.source.now)
    (came c.loop.source) (came c.next.new.self) c.args.follower.now c.loop.follower
    (shown c.args.sink.now) (shown c.loop.sink) c.args.observer.now c.loop.observer
    c.loop.invariant.so_far c.in-Err.ensures.kept)

pub returns-clause-heard : goal.returns-clause-heard
returns-clause-heard g c =
    let turns = g.S.DatagramSource.turns in
    let came = g.S.DatagramSource.came in
    let shown = g.K.FrameSink.shown in
    heard_since g.O.FollowObserver.after c.args.eager c.loop.counter c.loop.delivered
    (turns c.args.source.now) (turns c.loop.source) (came c.args.source.now)
    (came c.loop.source) c.args.follower.now c.loop.follower (shown c.args.sink.now)
    (shown c.loop.sink) [] c.args.observer.now c.loop.observer
    c.loop.invariant.so_far
