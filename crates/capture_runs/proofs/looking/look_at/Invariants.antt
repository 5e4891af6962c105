use Rattle.std.proofs.Common.{◌≡◌}
use Rattle.std.specs.Prelude.{vec_len}
use Rattle.capture_runs.specs.Looked.{HaveCapture}
use Rattle.capture_runs.proofs.looking.look_at.Given as goal

abbrev pub invariant-loop-name : goal.invariant-loop-name
invariant-loop-name l = record {
  looked : HaveCapture l.looked.have_capture l.looked.files.items;
  each : vec_len l.looked.files ≡ l.name-index;
}
