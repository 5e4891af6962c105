-- Exit statuses (own).
use Rattle.std.specs.Prelude.{ℕ}
use Rattle.run_outcome.specs.declared.status.Status.{Status}
use Rattle.run_outcome.specs.declared.status.Status.TheVariants.{Done, Refused, CommandLine, Device}
use Rattle.run_outcome.specs.declared.status.Status.TheVariants.{Memory}

-- the number that a program answers to who started it
abbrev pub status_number : Status → ℕ
status_number Done = 0
status_number Refused = 1
status_number CommandLine = 2
status_number Device = 3
status_number Memory = 4
