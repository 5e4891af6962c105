use Rattle.std.proofs.Common.{◌≡◌, ◌∷◌, [], ap, arith, false, inl, inr, length, length-append}
use Rattle.std.proofs.Common.{refl, rules, true, ◌∙◌}
use Rattle.run_outcome.proofs.Blaming.{reading_blamed}
use Rattle.capture_engines.proofs.Readings.{same_twice}
use Rattle.capture_engines.proofs.Taken.{takes_found, takes_no_records, takes_same}
use Rattle.capture_engines.proofs.intake.Intake.take_records.Goals as goal

pub loop-init : goal.loop-init
loop-init g c = record {
  reads = c.requires.reads;
  same = record { before = refl; flows = refl; kind = refl; text = refl };
  names = refl;
  failures = refl;
  count = ap length c.requires.none;
  taken = takes_no_records c.args.self.now c.args.reader.now.records c.requires.none;
}

pub loop-preserved : goal.loop-preserved
loop-preserved g c =
    let w = c.in-Ok-true in
    let before = c.loop.invariant in
    let old = c.loop.reader in
    let one : w.field-0 ≡ true = search rules in
    let found = rw one at w.ensures.found in
    record {
      reads = found.reads;
      same = same_twice c.args.reader.now old c.advance.new.self before.same w.ensures.same;
      names = w.ensures.names ∙ before.names;
      failures = w.ensures.device before.reads ∙ before.failures;
      count = omega (
        arith,
        before.count,
        ap length found.records,
        length-append old.records (found.entry ∷ []),
      );
      taken = takes_found old c.advance.new.self c.args.self.now c.loop.self
          c.take_at_hand.new.self found before.taken c.take_at_hand.ensures;
    }

pub returns-in-Ok-false-clause-taken : goal.returns-in-Ok-false-clause-taken
returns-in-Ok-false-clause-taken g c =
    let w = c.in-Ok-false in
    let none : w.field-0 ≡ false = search rules in
    let found = rw none at w.ensures.found in
    takes_same c.args.self.now c.loop.self c.loop.reader.records c.advance.new.self.records
    found.records c.loop.invariant.taken

pub returns-in-Ok-false-clause-few : goal.returns-in-Ok-false-clause-few
returns-in-Ok-false-clause-few g c =
    let w = c.in-Ok-false in
    let none : w.field-0 ≡ false = search rules in
    let found = rw none at w.ensures.found in
    omega (arith, ap length found.records, c.loop.invariant.count)

pub returns-in-Ok-false-clause-within : goal.returns-in-Ok-false-clause-within
returns-in-Ok-false-clause-within g c =
    let w = c.in-Ok-false in
    let none : w.field-0 ≡ false = search rules in
    let found = rw none at w.ensures.found in
    inl (omega (arith, ap length found.records, c.loop.invariant.count))

pub returns-in-Err-clause-within : goal.returns-in-Err-clause-within
returns-in-Err-clause-within g c =
    inl (omega (arith, ap length c.in-Err.ensures.fault.records, c.loop.invariant.count))

pub returns-clause-within : goal.returns-clause-within
returns-clause-within g c = inr c.loop.invariant.reads

pub returns-in-Err-clause-taken : goal.returns-in-Err-clause-taken
returns-in-Err-clause-taken g c =
    takes_same c.args.self.now c.loop.self c.loop.reader.records c.advance.new.self.records
    c.in-Err.ensures.fault.records c.loop.invariant.taken

pub returns-in-Err-clause-failures : goal.returns-in-Err-clause-failures
returns-in-Err-clause-failures g c =
    let w = c.in-Err in
    let told = g.S.ByteSource in
    reading_blamed w.fault c.of_reading.result (told.failures c.args.reader.now.source)
    (told.failures c.loop.reader.source) (told.failures c.advance.new.self.source)
    c.loop.invariant.failures (w.ensures.device c.loop.invariant.reads) c.of_reading.ensures
