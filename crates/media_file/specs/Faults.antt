-- The numbers of the faults, and what a function owes that answers one.
use Rattle.std.specs.Prelude.{ℕ, ⊤, List, Result, codes}
use Rattle.st_format.specs.Given.{CountsDeviceBy, CountsFaultBy, IfContentBy}
use Rattle.st_format.specs.Given.{Origin, OfContent, OfDevice, OfMemory}
use Rattle.media_file.specs.declared.fault.FileFault.{FileFault}
use Rattle.media_file.specs.declared.fault.FileFault.TheVariants.{NoMemory, Device, BadName}
use Rattle.media_file.specs.declared.fault.FileFault.TheVariants.{BadVersion, Truncated, BadField}
use Rattle.media_file.specs.declared.fault.FileFault.TheVariants.{TrailingBytes, MixedGroup}
use Rattle.media_file.specs.declared.fault.FileFault.TheVariants.{TooManyRecords}

-- the numbers of the faults, in their order
abbrev pub file_fault_number : FileFault → ℕ
file_fault_number NoMemory = 1
file_fault_number Device = 2
file_fault_number BadName = 3
file_fault_number BadVersion = 4
file_fault_number Truncated = 5
file_fault_number BadField = 6
file_fault_number TrailingBytes = 7
file_fault_number MixedGroup = 8
file_fault_number TooManyRecords = 9

-- their names, as `name` answers them (own)
abbrev pub file_fault_name : FileFault → List ℕ
file_fault_name NoMemory = codes "NoMemory"
file_fault_name Device = codes "Device"
file_fault_name BadName = codes "BadName"
file_fault_name BadVersion = codes "BadVersion"
file_fault_name Truncated = codes "Truncated"
file_fault_name BadField = codes "BadField"
file_fault_name TrailingBytes = codes "TrailingBytes"
file_fault_name MixedGroup = codes "MixedGroup"
file_fault_name TooManyRecords = codes "TooManyRecords"

-- it is the device's
abbrev pub IsDevice : FileFault → Type 0
IsDevice Device = ⊤
IsDevice _ = ⊥

-- where each fault comes from: want of memory, the device, or the content
abbrev pub file_fault_origin : FileFault → Origin
file_fault_origin NoMemory = OfMemory
file_fault_origin Device = OfDevice
file_fault_origin _ = OfContent

-- the fault is the content's: then this holds
abbrev pub IfContent : FileFault → Type 0 → Type 0
IfContent f P = IfContentBy file_fault_origin f P

-- a fault of the device is one failure more, and any other none (own)
abbrev pub CountsFault : FileFault → ℕ → ℕ → Type 0
CountsFault f old new = CountsFaultBy file_fault_origin f old new

-- what is answered without a fault is none either
abbrev pub CountsDevice : {V : Type 0} → ℕ → ℕ → Result V FileFault → Type 0
CountsDevice old new result = CountsDeviceBy file_fault_origin old new result

-- the faults of a field of so many octets: the device fails, or the octets end before
abbrev pub IsOfField : FileFault → Type 0
IsOfField Device = ⊤
IsOfField Truncated = ⊤
IsOfField _ = ⊥

-- the faults of a file's front: of its name or version, that the octets end there, or the device's
abbrev pub IsOfFront : FileFault → Type 0
IsOfFront Device = ⊤
IsOfFront BadName = ⊤
IsOfFront BadVersion = ⊤
IsOfFront Truncated = ⊤
IsOfFront _ = ⊥

-- it is the memory's or the device's
abbrev pub IsMachine : FileFault → Type 0
IsMachine NoMemory = ⊤
IsMachine Device = ⊤
IsMachine _ = ⊥
