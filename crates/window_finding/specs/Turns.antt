-- The datagrams of a file that are looked at until as many timestamps are found as are sought
-- (own).
use Rattle.std.specs.Prelude.{◌≡◌, ℕ, ◌⊎◌}
use Rattle.capture_engines.specs.Stopping.{IsReadingStop}
use Rattle.recording_reader.specs.declared.way.Standing.{Standing}
use Rattle.recording_reader.specs.declared.way.Standing.TheVariants.{Ended, Reads}
use Rattle.run_outcome.specs.declared.fault.Fault.{Fault}
use Rattle.run_outcome.specs.declared.fault.Fault.TheVariants.{Memory}

-- why no datagram more is looked at, by where the reader stands: it is at its end; or all is found
abbrev pub IsDone : Standing → Type 0 → Type 0
IsDone stands all = (stands ≡ Ended) ⊎ ((stands ≡ Reads) × all)

-- the fault that ends it: the reader's; that there are as many records as are taken; or that memory
-- was wanted
abbrev pub IsStop : Standing → ℕ → Fault → Type 0
IsStop stands count f = IsReadingStop stands count f ⊎ ((stands ≡ Reads) × (f ≡ Memory))
