use Rattle.recording_runs.specs.Files.{AreNew}
use Rattle.recording_runs.proofs.importing.given_files.Given as goal

abbrev pub invariant-loop-name : goal.invariant-loop-name
invariant-loop-name l = AreNew l.files.items
