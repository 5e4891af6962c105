use Rattle.std.proofs.Common.{◌≡◌, ◌∷◌, [], ap, arith, false, inl, inr, length, length-append}
use Rattle.std.proofs.Common.{refl, rules, true, ◌∙◌}
use Rattle.capture_engines.specs.Files.{octets_of}
use Rattle.run_outcome.proofs.Blaming.{reading_blamed}
use Rattle.capture_engines.proofs.Readings.{same_twice}
use Rattle.window_finding.proofs.Found.{none_came, record_came, turn_found}
use Rattle.window_finding.proofs.finder.Finder.find_in.Goals as goal

pub loop-init : goal.loop-init
loop-init g c = record {
  sought = refl;
  payload_type = refl;
  reads = c.requires.reads;
  same = record { before = refl; flows = refl; kind = refl; text = refl };
  names = refl;
  failures = refl;
  count = ap length c.requires.none;
  found = λ datagrams is. none_came c.args.self.now datagrams c.args.reader.now.records
      c.requires.none is;
}

pub loop-preserved : goal.loop-preserved
loop-preserved g c =
    let w = c.in-Ok-true in
    let before = c.loop.invariant in
    let was = c.args.self.now in
    let old = c.loop.reader in
    let now = c.advance.new.self in
    let noted = c.in_ok-note-in-Ok-true.ensures in
    let one : w.field-0 ≡ true = search rules in
    let found = rw one at w.ensures.found in
    record {
      sought = noted.sought ∙ before.sought;
      payload_type = noted.payload_type ∙ before.payload_type;
      reads = found.reads;
      same = same_twice c.args.reader.now old now before.same w.ensures.same;
      names = w.ensures.names ∙ before.names;
      failures = w.ensures.device before.reads ∙ before.failures;
      count = omega (
        arith,
        before.count,
        ap length found.records,
        length-append old.records (found.entry ∷ []),
      );
      found = λ datagrams is.
          turn_found was.sought c.loop.self.sought was.payload_type c.loop.self.payload_type
          c.loop.self.window.items c.note.new.self.window.items datagrams (octets_of old.records)
          (octets_of now.records) _ before.sought before.payload_type
          (record_came old now _ found c.octets.ensures) noted.noted (before.found datagrams is);
    }

pub returns-in-Err-clause-failures : goal.returns-in-Err-clause-failures
returns-in-Err-clause-failures g c =
    let w = c.in-Err in
    let told = g.S.ByteSource in
    reading_blamed w.fault c.of_reading.result (told.failures c.args.reader.now.source)
    (told.failures c.loop.reader.source) (told.failures c.advance.new.self.source)
    c.loop.invariant.failures (w.ensures.device c.loop.invariant.reads) c.of_reading.ensures

pub returns-in-Ok-false-clause-within : goal.returns-in-Ok-false-clause-within
returns-in-Ok-false-clause-within g c =
    let w = c.in-Ok-false in
    let none : w.field-0 ≡ false = search rules in
    let found = rw none at w.ensures.found in
    inl (omega (arith, ap length found.records, c.loop.invariant.count))

pub returns-in-Err-clause-within : goal.returns-in-Err-clause-within
returns-in-Err-clause-within g c =
    inl (omega (arith, ap length c.in-Err.ensures.fault.records, c.loop.invariant.count))

pub returns-clause-within : goal.returns-clause-within
returns-clause-within g c = inr c.loop.invariant.reads
