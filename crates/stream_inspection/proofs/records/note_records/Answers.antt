use Rattle.std.proofs.Common.{◌≡◌, ◌∷◌, [], ap, arith, false, length, length-append, refl, rules}
use Rattle.std.proofs.Common.{subst, true, ℕ, ◌∙◌}
use Rattle.recording_reader.specs.Files.{CountsReadingFault}
use Rattle.capture_engines.proofs.Readings.{same_twice}
use Rattle.stream_inspection.proofs.Noting.{notes_found, notes_no_records, notes_same}
use Rattle.stream_inspection.proofs.records.note_records.Goals as goal

pub loop-init : goal.loop-init
loop-init g c = record {
  reads = c.requires.reads;
  same = record { before = refl; flows = refl; kind = refl; text = refl };
  names = refl;
  failures = refl;
  count = ap length c.requires.none;
  noted = notes_no_records c.args.target.now c.args.inspection.now c.args.reader.now.records
      c.requires.none;
}

pub loop-preserved : goal.loop-preserved
loop-preserved g c =
    let w = c.in-Ok-true in
    let before = c.loop.invariant in
    let old = c.loop.reader in
    let one : w.field-0 ≡ true = search rules in
    let found = rw one at w.ensures.found in
    record {
      reads = found.reads;
      same = same_twice c.args.reader.now old c.advance.new.self before.same w.ensures.same;
      names = w.ensures.names ∙ before.names;
      failures = w.ensures.device before.reads ∙ before.failures;
      count = omega (
        arith,
        before.count,
        ap length found.records,
        length-append old.records (found.entry ∷ []),
      );
      noted = notes_found c.args.target.now old c.advance.new.self c.args.inspection.now
          c.loop.inspection c.note_at_hand.new.self found before.noted
          c.in_ok-note_at_hand-in-Ok-true.ensures;
    }

pub returns-in-Ok-false-clause-noted : goal.returns-in-Ok-false-clause-noted
returns-in-Ok-false-clause-noted g c =
    let w = c.in-Ok-false in
    let none : w.field-0 ≡ false = search rules in
    let found = rw none at w.ensures.found in
    notes_same c.args.target.now c.args.inspection.now c.loop.inspection c.loop.reader.records
    c.advance.new.self.records found.records c.loop.invariant.noted

pub returns-in-Err-clause-noted : goal.returns-in-Err-clause-noted
returns-in-Err-clause-noted g c =
    notes_same c.args.target.now c.args.inspection.now c.loop.inspection c.loop.reader.records
    c.advance.new.self.records c.in-Err.ensures.fault.records c.loop.invariant.noted

pub returns-in-Err-clause-failures : goal.returns-in-Err-clause-failures
returns-in-Err-clause-failures g c =
    let told = g.S.ByteSource in
    subst
    (λ (n : ℕ). CountsReadingFault c.in-Err.fault n (told.failures c.advance.new.self.source))
    c.loop.invariant.failures (c.in-Err.ensures.device c.loop.invariant.reads)
