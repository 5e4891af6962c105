use Rattle.std.proofs.Common.{◌≡◌, length}
use Rattle.std.specs.List.{AllByRecursion, sum_by}
use Rattle.run_outcome.specs.Moments.{WasRead}
use Rattle.recording_engines.specs.Files.{ended_by, failures_by, gave_by}
use Rattle.recording_engines.specs.Opened.{AllBegin}
use Rattle.recording_engines.proofs.Openings.{OpenedUpTo, first_files}
use Rattle.recording_engines.proofs.opening.open_all.Given as goal

abbrev pub invariant-loop-place : goal.invariant-loop-place
invariant-loop-place g l = record {
  len : length l.files ≡ length l.initial.files;
  opened : OpenedUpTo g.S.ByteSource.gave l.place l.each l.initial.files l.files;
  begin : AllByRecursion (λ x. AllBegin (WasRead (gave_by g.S.ByteSource.gave)
      (ended_by g.S.ByteSource.ended) x.0) x.1)
      (first_files l.place l.initial.files l.files l.each);
  failures : sum_by (failures_by g.S.ByteSource.failures) l.files
      ≡ sum_by (failures_by g.S.ByteSource.failures) l.initial.files;
}
