use Rattle.std.proofs.Common.{◌≡◌, length}
use Rattle.recording_reader.specs.FileReader.{IsSameFile}
use Rattle.recording_reader.specs.declared.way.Standing.TheVariants.{Reads}
use Rattle.stream_inspection.specs.Inspected.{Notes}
use Rattle.stream_inspection.proofs.records.note_records.Given as goal

abbrev pub invariant-loop : goal.invariant-loop
invariant-loop g l =
    let told = g.S.ByteSource in
    record {
      reads : l.reader.standing ≡ Reads;
      same : IsSameFile l.initial.reader l.reader;
      names : told.names l.reader.source ≡ told.names l.initial.reader.source;
      failures : told.failures l.reader.source ≡ told.failures l.initial.reader.source;
      count : length l.reader.records ≡ l.counter;
      noted : Notes l.fn.target l.reader.records l.initial.inspection l.inspection;
    }
