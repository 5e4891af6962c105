use Rattle.std.proofs.Common.{◌≡◌, ℕ, List, ◌++◌, length}
use Rattle.recording_reader.specs.FileReader.{IsSameFile}
use Rattle.recording_reader.specs.declared.way.Standing.TheVariants.{Reads}
use Rattle.capture_engines.specs.Files.{octets_of}
use Rattle.window_finding.specs.First.{first_timestamps}
use Rattle.window_finding.proofs.finder.Finder.find_in.Given as goal

abbrev pub invariant-loop : goal.invariant-loop
invariant-loop g l =
    let told = g.S.ByteSource in
    let was = l.initial.self in
    record {
      sought : l.self.sought ≡ was.sought;
      payload_type : l.self.payload_type ≡ was.payload_type;
      reads : l.reader.standing ≡ Reads;
      same : IsSameFile l.initial.reader l.reader;
      names : told.names l.reader.source ≡ told.names l.initial.reader.source;
      failures : told.failures l.reader.source ≡ told.failures l.initial.reader.source;
      count : length l.reader.records ≡ l.counter;
      found : (datagrams : List (List ℕ)) → was.window.items
          ≡ first_timestamps was.sought.count was.payload_type was.sought.ssrc datagrams
          → l.self.window.items ≡ first_timestamps was.sought.count was.payload_type
          was.sought.ssrc (datagrams ++ octets_of l.reader.records);
    }
