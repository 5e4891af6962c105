use Rattle.std.proofs.Common.{◌∙◌, ℕ, arith, inl, inr, refl, subst}
use Rattle.std.proofs.lemmas.Result.{err_from_is_err_and}
use Rattle.run_outcome.proofs.Refusals.{of_refusal_map}
use Rattle.recording_engines.specs.Progress.{none_written}
use Rattle.recording_engines.proofs.Earliest.{leads_within}
use Rattle.run_outcome.proofs.Printed.{whenever}
use Rattle.st_format.specs.Device.{Failed}
use Rattle.recording_engines.specs.Progress.{StopsEarliest}
use Rattle.recording_engines.proofs.Stopped.{stops_full, stops_up_to}
use Rattle.recording_engines.proofs.Written.{many_joined, stops_joining, written_more, written_none}
use Rattle.recording_engines.proofs.joining.join.Goals as goal

pub loop-turn-init : goal.loop-turn-init
loop-turn-init g c = record {
  files = refl;
  begun = refl;
  ready = c.requires.ready;
  few = omega arith;
  writes = written_none c.args.files.now (g.K.ByteSink.took c.args.capture.now) none_written
      c.requires.fresh;
  source_failures = refl;
  sink_failures = refl;
}

pub loop-turn-preserved : goal.loop-turn-preserved
loop-turn-preserved g c =
    let l = c.loop-turn in
    let at = c.in_ok-take_at.ensures in
    record {
      files = at.files ∙ l.invariant.files;
      begun = at.begun ∙ l.invariant.begun;
      ready = at.taken.ready;
      few = omega (arith, l.invariant.few, at.one);
      writes = written_more l.files c.take_at.new.files _ _ _ none_written _ _ l.turn
          l.invariant.writes at.taken;
      source_failures = at.failures.0 ∙ l.invariant.source_failures;
      sink_failures = at.failures.1 ∙ l.invariant.sink_failures;
    }

pub take_at-requires-clause-place : goal.take_at-requires-clause-place
take_at-requires-clause-place g c =
    leads_within c.in-Some.place c.in-Some.field-0-1 c.loop-turn.files c.in-Some.ensures

pub take_at-requires-clause-led : goal.take_at-requires-clause-led
take_at-requires-clause-led g c = (c.in-Some.field-0-1, c.in-Some.ensures)

pub returns-in_err-take_at-clause-stopped : goal.returns-in_err-take_at-clause-stopped
returns-in_err-take_at-clause-stopped g c =
    let l = c.loop-turn in
    let took = g.K.ByteSink.took in
    let p = err_from_is_err_and c.from_residual.result c.from_residual.ensures.1 in
    rw (p.1, p.2)
    (of_refusal_map c.in_err-take_at.field-0.0
    (λ r is. stops_joining l.files c.take_at.new.files (took c.args.capture.now)
    (took l.capture) (took c.take_at.new.capture) none_written l.written l.turn r
    l.invariant.writes is)
    c.in_err-take_at.ensures.stopped)

pub returns-in-Some-earliest-clause-stopped : goal.returns-in-Some-earliest-clause-stopped
returns-in-Some-earliest-clause-stopped g c =
    let l = c.loop-turn in
    let took = g.K.ByteSink.took in
    let x = c.in-Some-earliest.field-0 in
    many_joined l.files (took c.args.capture.now) (took l.capture) none_written l.written l.turn
    x.0 x.1 l.invariant.writes (omega (arith, c.loop-turn-test.false, l.auto.turn-end))
    l.invariant.ready c.in-Some-earliest.ensures

pub returns-in_err-take_at-clause-only : goal.returns-in_err-take_at-clause-only
returns-in_err-take_at-clause-only g c =
    let p = err_from_is_err_and c.from_residual.result c.from_residual.ensures.1 in
    rw (p.1, p.2) (inl c.in_err-take_at.ensures.only)

pub returns-in-Some-earliest-clause-only : goal.returns-in-Some-earliest-clause-only
returns-in-Some-earliest-clause-only g c = inr refl

pub returns-in_err-take_at-clause-part : goal.returns-in_err-take_at-clause-part
returns-in_err-take_at-clause-part g c =
    let l = c.loop-turn in
    let took = g.K.ByteSink.took in
    let failures = g.K.ByteSink.failures in
    let new = c.take_at.new.capture in
    whenever c.from_residual.result _
    (stops_up_to _ l.files c.take_at.new.files (took c.args.capture.now) (took l.capture)
    (took new) none_written l.written l.turn l.invariant.writes (omega (arith, c.loop-turn-test.true))
    (subst (λ (n : ℕ). StopsEarliest (Failed n (failures new)) l.files c.take_at.new.files
    (took l.capture) (took new)) l.invariant.sink_failures c.in_err-take_at.ensures.part))

pub returns-in-Some-earliest-clause-part : goal.returns-in-Some-earliest-clause-part
returns-in-Some-earliest-clause-part g c =
    let l = c.loop-turn in
    let took = g.K.ByteSink.took in
    stops_full _ l.files (took c.args.capture.now) (took l.capture) none_written l.written l.turn
    l.invariant.writes (omega (arith, c.loop-turn-test.false, l.auto.turn-end)) l.invariant.ready
