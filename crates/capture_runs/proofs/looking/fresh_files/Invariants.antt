use Rattle.std.proofs.Common.{◌≡◌, ◌+◌, All}
use Rattle.std.specs.Prelude.{vec_len}
use Rattle.capture_runs.specs.Looked.{ReadNone}
use Rattle.capture_runs.proofs.looking.fresh_files.Given as goal

abbrev pub invariant-loop : goal.invariant-loop
invariant-loop l = record {
  fresh : All ReadNone l.fresh.items;
  each : vec_len l.fresh ≡ l.counter;
  left : vec_len l.files + l.counter ≡ vec_len l.initial.files;
}
