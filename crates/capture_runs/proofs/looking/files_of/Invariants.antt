use Rattle.std.proofs.Common.{◌≡◌, All}
use Rattle.std.specs.Prelude.{vec_len}
use Rattle.capture_runs.specs.Looked.{ReadNone}
use Rattle.capture_runs.proofs.looking.files_of.Given as goal

abbrev pub invariant-loop-name : goal.invariant-loop-name
invariant-loop-name l = record {
  fresh : All ReadNone l.files.items;
  each : vec_len l.files ≡ l.name-index;
}
