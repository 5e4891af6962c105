use Rattle.std.proofs.Common.{◌≡◌, ◌≤◌, ◌*◌, ◌%◌, ◌-◌, ◌++◌, length, take}
use Rattle.st_format.specs.Pgroup.{bits_of}
use Rattle.st_format.specs.Samples.{octets_in}
use Rattle.form_files.proofs.raw_writing.write_samples.Given as goal

pub record Writing (end eighths took count space : Type 0) : Type 0 where
  pub within : end
  pub whole : eighths
  pub taken : took
  pub failures : count
  pub room : space

abbrev pub invariant-loop-done : goal.invariant-loop-done
invariant-loop-done g l = Writing
    (l.done ≤ length l.samples)
    (bits_of l.format.depth * l.done % 8 ≡ 0)
    (g.K.ByteSink.took l.sink
    ≡ g.K.ByteSink.took l.initial.sink ++ octets_in (bits_of l.format.depth)
    (take l.done l.samples))
    (g.K.ByteSink.failures l.sink ≡ g.K.ByteSink.failures l.initial.sink)
    (length l.piece ≡ 3600)

abbrev pub decreases-loop-done : goal.decreases-loop-done
decreases-loop-done g l = length l.samples - l.done
