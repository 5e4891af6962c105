-- The names of faults (own).
use Rattle.std.specs.Prelude.{ℕ, List, codes}
use Rattle.recording_reader.specs.declared.fault.FileOpeningFault.{FileOpeningFault}
use Rattle.recording_reader.specs.declared.fault.FileOpeningFault.TheVariants as opening
use Rattle.recording_reader.specs.declared.fault.ReadingFault.{ReadingFault}
use Rattle.recording_reader.specs.declared.fault.ReadingFault.TheVariants.{Capture, Recording}

-- those of why a file was not read
abbrev pub reading_fault_name : ReadingFault → List ℕ
reading_fault_name (Capture f) = codes "Capture"
reading_fault_name (Recording f) = codes "Recording"

-- those of why one was not opened
abbrev pub file_opening_fault_name : FileOpeningFault → List ℕ
file_opening_fault_name opening.NoFlows = codes "NoFlows"
file_opening_fault_name opening.NoMemory = codes "NoMemory"
file_opening_fault_name (opening.Reading f) = codes "Reading"
