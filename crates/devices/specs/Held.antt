-- What a file's reader holds already (own).
use Rattle.std.specs.Prelude.{ℕ, List, []}
use Rattle.std.specs.Io.Buffered.{reader_buffer}
use Rattle.devices.specs.declared.file_source.Progress.{Progress}
use Rattle.devices.specs.declared.file_source.Progress.TheVariants.{Front, Within, Past}

-- the octets that were read from the file and weren't given yet
abbrev pub held_in : Progress → List ℕ
held_in Front = []
held_in (Within file) = reader_buffer file
held_in Past = []
