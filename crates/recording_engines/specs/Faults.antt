-- Faults of files as faults that end a run.
use Rattle.recording_reader.specs.declared.fault.FileOpeningFault.{FileOpeningFault}
use Rattle.recording_reader.specs.declared.fault.FileOpeningFault.TheVariants.{NoFlows, NoMemory}
use Rattle.recording_reader.specs.declared.fault.FileOpeningFault.TheVariants.{Reading}
use Rattle.run_outcome.specs.LowerFaults.{reading_fault}
use Rattle.run_outcome.specs.declared.fault.Fault.{Fault}
use Rattle.run_outcome.specs.declared.fault.Fault.TheVariants.{Refused, Memory}
use Rattle.run_outcome.specs.declared.refusal.Refusal.TheVariants.{ImportPlaces}

-- that by which it isn't opened
abbrev pub opening_fault : FileOpeningFault → Fault
opening_fault NoFlows = Refused ImportPlaces
opening_fault NoMemory = Memory
opening_fault (Reading f) = reading_fault f
