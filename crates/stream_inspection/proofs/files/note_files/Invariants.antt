use Rattle.std.proofs.Common.{◌≡◌, None, drop, length, take}
use Rattle.std.specs.List.{sum_by, zip}
use Rattle.run_outcome.specs.Moments.{WasRead}
use Rattle.capture_engines.proofs.ReceivedRefusals.{HasStarted}
use Rattle.stream_inspection.specs.Read.{NotesFiles}
use Rattle.stream_inspection.proofs.files.note_files.Given as goal

abbrev pub invariant-loop-place : goal.invariant-loop-place
invariant-loop-place g l = record {
  len : length l.files ≡ length l.initial.files;
  behind : drop l.place l.files ≡ drop l.place l.initial.files;
  failures : sum_by g.S.ByteSource.failures l.files ≡ sum_by g.S.ByteSource.failures
      l.initial.files;
  begun : HasStarted l.place l.initial.begun l.begun;
  noted : NotesFiles l.fn.ways (WasRead g.S.ByteSource.gave g.S.ByteSource.ended)
      (zip (take l.place l.initial.files) (take l.place l.files)) None l.initial.begun
      l.begun l.initial.inspection l.inspection;
}
