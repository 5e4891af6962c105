-- The numbers of the reasons why a schedule is not played, and their names, as `name` answers them
-- (own).
use Rattle.std.specs.Prelude.{ℕ, List, codes}
use Rattle.path_receiver.specs.declared.play_fault.PlayFault.{PlayFault}
use Rattle.path_receiver.specs.declared.play_fault.PlayFault.TheVariants.{NoMemory, BadEvent}
use Rattle.path_receiver.specs.declared.play_fault.PlayFault.TheVariants.{BadWindow}
use Rattle.path_receiver.specs.declared.play_fault.PlayFault.TheVariants.{DoubleTimestamp}
use Rattle.path_receiver.specs.declared.play_fault.PlayFault.TheVariants.{BadPictures}
use Rattle.path_receiver.specs.declared.play_fault.PlayFault.TheVariants.{BadReceivers}

-- the numbers of the faults, as `number` answers them (own)
abbrev pub play_fault_number : PlayFault → ℕ
play_fault_number NoMemory = 1
play_fault_number (BadEvent place) = 2
play_fault_number BadWindow = 3
play_fault_number DoubleTimestamp = 4
play_fault_number BadPictures = 5
play_fault_number BadReceivers = 6

-- of an event without its place
abbrev pub play_fault_name : PlayFault → List ℕ
play_fault_name NoMemory = codes "NoMemory"
play_fault_name (BadEvent place) = codes "BadEvent"
play_fault_name BadWindow = codes "BadWindow"
play_fault_name DoubleTimestamp = codes "DoubleTimestamp"
play_fault_name BadPictures = codes "BadPictures"
play_fault_name BadReceivers = codes "BadReceivers"
