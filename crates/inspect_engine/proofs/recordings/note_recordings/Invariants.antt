use Rattle.std.proofs.Common.{◌≡◌, drop, length, take}
use Rattle.std.specs.List.{sum_by, zip}
use Rattle.run_outcome.specs.Moments.{WasRead}
use Rattle.inspect_engine.specs.Inspected.{NotesAll}
use Rattle.inspect_engine.proofs.recordings.note_recordings.Given as goal

abbrev pub invariant-loop-place : goal.invariant-loop-place
invariant-loop-place g l = record {
  len : length l.recordings ≡ length l.initial.recordings;
  behind : drop l.place l.recordings ≡ drop l.place l.initial.recordings;
  failures : sum_by g.S.ByteSource.failures l.recordings ≡ sum_by g.S.ByteSource.failures
      l.initial.recordings;
  noted : NotesAll (length l.initial.buf) (WasRead g.S.ByteSource.gave g.S.ByteSource.ended)
      (zip (take l.place l.initial.recordings) (take l.place l.recordings)) l.cut
      l.initial.inspection l.inspection;
}
