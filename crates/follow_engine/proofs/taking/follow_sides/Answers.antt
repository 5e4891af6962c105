use Rattle.std.proofs.Common.{◌∙◌, Bool, Option, append-nil, arith, inr, refl, subst, sym, ℕ}
use Rattle.std.proofs.lemmas.Result.{err_from_is_err_and}
use Rattle.run_outcome.proofs.Refusals.{none_refused}
use Rattle.side_by_side.specs.Sides.{LendsSides, failures_each}
use Rattle.path_receiver.specs.Took.{datagrams_since}
use Rattle.follow_engine.specs.Events.{events_at, events_in}
use Rattle.follow_engine.specs.Running.{FollowsDatagram, TellsSome, running_of}
use Rattle.follow_engine.proofs.Blamed.{blames_end, fails_by}
use Rattle.follow_engine.proofs.Cut.{if_refused, so_stops, so_told, tells_all, unrefused_if}
use Rattle.follow_engine.proofs.Stopped.{stops_by}
use Rattle.follow_engine.proofs.Counted.{few_since, none_since, one_more_since}
use Rattle.follow_engine.proofs.Turns.{lent_came, so_begun, so_datagram, so_quiet}
use Rattle.follow_engine.proofs.taking.follow_sides.Goals as goal

pub loop-init : goal.loop-init
loop-init g c = record {
  run = c.requires.run;
  eager = refl;
  steering = refl;
  begun = refl;
  unfailed = c.requires.unfailed;
  so =
      so_begun g.P.PictureSink.takes c.args.run.now.is_eager c.args.source.now.came
      (running_of c.args.run.now) c.args.pictures.now (g.O.ByteSink.took c.args.output.now);
  count = none_since c.args.source.now.came;
  source_failures = refl;
  picture_failures = refl;
  output_failures = refl;
}

-- a datagram came
pub loop-preserved : goal.loop-preserved
loop-preserved g c =
    let w = c.in-Ok-Some in
    let i = c.loop.invariant in
    let takes = g.P.PictureSink.takes in
    let took = g.O.ByteSink.took in
    let run = c.args.run.now in
    let old = c.loop.source in
    let new = c.advance.new.self in
    let octets = c.octets_at.result.now in
    let lends = subst (λ (at : Option ℕ). LendsSides at old new) w.field-0-is w.ensures.lent in
    let path = lends.came.entry.path in
    let arrives = lent_came old new w.place octets lends.came c.octets_at.ensures.octets in
    let taken = c.in_ok-take-in-Ok-Some.ensures in
    record {
      run = taken.run;
      eager = taken.eager ∙ i.eager;
      steering = w.ensures.steering ∙ i.steering;
      begun = w.ensures.begun ∙ i.begun;
      unfailed = lends.unfailed;
      so =
          so_datagram takes run.is_eager c.args.source.now.came old.came new.came
          (running_of run) (running_of c.loop.run) (running_of c.take.new.self)
          c.args.pictures.now c.loop.pictures c.take.new.pictures (took c.args.output.now)
          (took c.loop.output) (took c.take.new.output) path octets i.so arrives
          (subst (λ (b : Bool). FollowsDatagram takes b (running_of c.loop.run)
          (running_of c.take.new.self) octets c.loop.pictures c.take.new.pictures
          (took c.loop.output) (took c.take.new.output)) i.eager taken.took);
      count =
          one_more_since c.args.source.now.came old.came new.came path octets c.loop.counter
          i.so.rest i.so.came arrives i.count;
      source_failures = w.ensures.device i.unfailed ∙ i.source_failures;
      picture_failures = taken.failures.0 ∙ i.picture_failures;
      output_failures = taken.failures.1 ∙ i.output_failures;
    }

-- the run failed
pub returns-in_err-take-in-Ok-Some-clause-stopped : goal.returns-in_err-take-in-Ok-Some-clause-stopped
returns-in_err-take-in-Ok-Some-clause-stopped g c =
    let p = err_from_is_err_and c.from_residual.result c.from_residual.ensures.1 in
    rw (p.1, p.2) (none_refused _ c.in_err-take-in-Ok-Some.field-0.0 c.in_err-take-in-Ok-Some.ensures.unrefused)

pub returns-in_err-take-in-Ok-Some-clause-failures : goal.returns-in_err-take-in-Ok-Some-clause-failures
returns-in_err-take-in-Ok-Some-clause-failures g c =
    let w = c.in-Ok-Some in
    let i = c.loop.invariant in
    let failed = failures_each g.S.ByteSource.failures in
    let shown = g.P.PictureSink.failures in
    let told = g.O.ByteSink.failures in
    let p = err_from_is_err_and c.from_residual.result c.from_residual.ensures.1 in
    rw (p.1, p.2)
    (blames_end c.in_err-take-in-Ok-Some.field-0.0 (failed c.args.source.now.sides)
    (failed c.advance.new.self.sides) (shown c.args.pictures.now) (shown c.loop.pictures)
    (shown c.take.new.pictures) (told c.args.output.now) (told c.loop.output)
    (told c.take.new.output) (w.ensures.device i.unfailed ∙ i.source_failures) i.picture_failures
    i.output_failures c.in_err-take-in-Ok-Some.ensures.failures)

-- the end
pub returns-in-Ok-None-clause-followed : goal.returns-in-Ok-None-clause-followed
returns-in-Ok-None-clause-followed g c =
    let w = c.in-Ok-None in
    let took = g.O.ByteSink.took in
    let run = c.args.run.now in
    let lends =
    subst (λ (at : Option ℕ). LendsSides at c.loop.source c.advance.new.self) w.field-0-is
    w.ensures.lent in
    let arrives = lends.came ∙ sym (append-nil c.loop.source.came) in
    let so =
    so_quiet g.P.PictureSink.takes run.is_eager c.args.source.now.came c.loop.source.came
    c.advance.new.self.came (running_of run) (running_of c.loop.run) c.args.pictures.now
    c.loop.pictures (took c.args.output.now) (took c.loop.output) c.loop.invariant.so arrives in
    record {
      over = lends.over.1 refl;
      few =
          few_since c.args.source.now.came c.loop.source.came c.advance.new.self.came c.loop.counter
          arrives c.loop.invariant.count c.loop-test.true;
      running = so.running;
      told = so.told;
    }

pub returns-in-Ok-None-clause-failures : goal.returns-in-Ok-None-clause-failures
returns-in-Ok-None-clause-failures g c =
    let i = c.loop.invariant in (
      c.in-Ok-None.ensures.device i.unfailed ∙ i.source_failures,
      (i.picture_failures, i.output_failures),
    )

-- a file is at fault
pub returns-in-Err-clause-stopped : goal.returns-in-Err-clause-stopped
returns-in-Err-clause-stopped g c =
    let came = c.loop.source.came in
    stops_by c.of_reading.result c.in-Err.fault c.advance.new.self.sides _ c.of_reading.ensures
    c.in-Err.ensures.fault.stopped
    (few_since c.args.source.now.came came c.advance.new.self.came c.loop.counter
    (c.in-Err.ensures.fault.came ∙ sym (append-nil came)) c.loop.invariant.count c.loop-test.true)

pub returns-in-Err-clause-failures : goal.returns-in-Err-clause-failures
returns-in-Err-clause-failures g c =
    let i = c.loop.invariant in
    let failed = failures_each g.S.ByteSource.failures in
    let shown = g.P.PictureSink.failures in
    let told = g.O.ByteSink.failures in
    fails_by c.of_reading.result c.in-Err.fault (failed c.args.source.now.sides)
    (failed c.loop.source.sides) (failed c.advance.new.self.sides) (shown c.args.pictures.now)
    (shown c.loop.pictures) (told c.args.output.now) (told c.loop.output) c.of_reading.ensures
    i.source_failures i.picture_failures i.output_failures (c.in-Err.ensures.device i.unfailed)

-- there are too many
pub returns-clause-stopped : goal.returns-clause-stopped
returns-clause-stopped g c =
    rw c.of_capture.ensures (inr (refl, omega (arith, c.loop.invariant.count)))

pub returns-clause-failures : goal.returns-clause-failures
returns-clause-failures g c =
    let i = c.loop.invariant in
    rw c.of_capture.ensures (i.source_failures, (i.picture_failures, i.output_failures))

-- ---- what was told before

pub returns-in_err-take-in-Ok-Some-clause-before : goal.returns-in_err-take-in-Ok-Some-clause-before
returns-in_err-take-in-Ok-Some-clause-before g c =
    let p = err_from_is_err_and c.from_residual.result c.from_residual.ensures.1 in
    rw (p.1, p.2) (unrefused_if _ c.in_err-take-in-Ok-Some.field-0.0
    c.in_err-take-in-Ok-Some.ensures.unrefused)

pub returns-in_err-take-in-Ok-Some-clause-part : goal.returns-in_err-take-in-Ok-Some-clause-part
returns-in_err-take-in-Ok-Some-clause-part g c =
    let p = err_from_is_err_and c.from_residual.result c.from_residual.ensures.1 in
    let w = c.in-Ok-Some in
    let i = c.loop.invariant in
    let takes = g.P.PictureSink.takes in
    let fails = g.P.PictureSink.fails in
    let took = g.O.ByteSink.took in
    let run = c.args.run.now in
    let old = c.loop.source in
    let new = c.advance.new.self in
    let octets = c.octets_at.result.now in
    let lends = subst (λ (at : Option ℕ). LendsSides at old new) w.field-0-is w.ensures.lent in
    let arrives = lent_came old new w.place octets lends.came c.octets_at.ensures.octets in
    rw (p.1)
    (so_stops takes fails run.is_eager c.args.source.now.came old.came new.came (running_of run)
    (running_of c.loop.run) c.args.pictures.now c.loop.pictures c.take.new.pictures
    (took c.args.output.now) (took c.loop.output) (took c.take.new.output)
    lends.came.entry.path octets i.so arrives
    (subst (λ (b : Bool). TellsSome takes fails c.loop.pictures c.take.new.pictures
    (took c.loop.output) (took c.take.new.output)
    (events_at b (running_of c.loop.run) octets)) i.eager
    c.in_err-take-in-Ok-Some.ensures.part))

-- nothing came in the call that failed
pub returns-in-Err-clause-before : goal.returns-in-Err-clause-before
returns-in-Err-clause-before g c =
    if_refused _ c.of_reading.result
    (so_told g.P.PictureSink.takes c.args.run.now.is_eager c.args.source.now.came
    c.loop.source.came c.advance.new.self.came (running_of c.args.run.now) (running_of c.loop.run)
    c.args.pictures.now c.loop.pictures (g.O.ByteSink.took c.args.output.now)
    (g.O.ByteSink.took c.loop.output) c.loop.invariant.so c.in-Err.ensures.fault.came)

pub returns-in-Err-clause-part : goal.returns-in-Err-clause-part
returns-in-Err-clause-part g c =
    let took = g.O.ByteSink.took in
    let run = c.args.run.now in
    tells_all g.P.PictureSink.takes g.P.PictureSink.fails c.args.pictures.now c.loop.pictures
    (took c.args.output.now) (took c.loop.output)
    (events_in run.is_eager (running_of run)
    (datagrams_since c.args.source.now.came c.advance.new.self.came))
    (so_told g.P.PictureSink.takes run.is_eager c.args.source.now.came
    c.loop.source.came c.advance.new.self.came (running_of run) (running_of c.loop.run)
    c.args.pictures.now c.loop.pictures (took c.args.output.now)
    (took c.loop.output) c.loop.invariant.so c.in-Err.ensures.fault.came)

pub returns-clause-before : goal.returns-clause-before
returns-clause-before g c =
    if_refused _ c.of_capture.result c.loop.invariant.so.told

pub returns-clause-part : goal.returns-clause-part
returns-clause-part g c =
    let took = g.O.ByteSink.took in
    let run = c.args.run.now in
    tells_all g.P.PictureSink.takes g.P.PictureSink.fails c.args.pictures.now c.loop.pictures
    (took c.args.output.now) (took c.loop.output)
    (events_in run.is_eager (running_of run)
    (datagrams_since c.args.source.now.came c.loop.source.came)) c.loop.invariant.so.told
