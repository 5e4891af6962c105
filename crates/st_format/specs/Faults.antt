-- The numbers and the names of faults, as `number` and `name` answer them (own).
use Rattle.std.specs.Prelude.{ℕ, List, codes}
use Rattle.st_format.specs.declared.device.SourceFault.{SourceFault}
use Rattle.st_format.specs.declared.device.SourceFault.TheVariants.{Device, Content}
use Rattle.st_format.specs.declared.format.FormatFault.{FormatFault}
use Rattle.st_format.specs.declared.format.FormatFault.TheVariants.{BadWidth, BadHeight, BadRate}
use Rattle.st_format.specs.declared.picture.PictureFault.{PictureFault}
use Rattle.st_format.specs.declared.picture.PictureFault.TheVariants.{NoMemory, ValueTooLarge}

-- in the order in which they are tested
abbrev pub format_fault_number : FormatFault → ℕ
format_fault_number BadWidth = 1
format_fault_number BadHeight = 2
format_fault_number BadRate = 3

-- the names of a format's faults, as `name` answers them (own)
abbrev pub format_fault_name : FormatFault → List ℕ
format_fault_name BadWidth = codes "BadWidth"
format_fault_name BadHeight = codes "BadHeight"
format_fault_name BadRate = codes "BadRate"

-- the numbers that refusals of a picture have, behind those of its format
abbrev pub picture_fault_number : PictureFault → ℕ
picture_fault_number NoMemory = 4
picture_fault_number ValueTooLarge = 5

-- the names of a picture's faults, as `name` answers them (own)
abbrev pub picture_fault_name : PictureFault → List ℕ
picture_fault_name NoMemory = codes "NoMemory"
picture_fault_name ValueTooLarge = codes "ValueTooLarge"

-- of faults of content without their numbers
abbrev pub source_fault_name : SourceFault → List ℕ
source_fault_name Device = codes "Device"
source_fault_name (Content number) = codes "Content"

-- of faults that are one value
abbrev pub device_fault_name : List ℕ
device_fault_name = codes "DeviceFault"

-- of a sink of datagrams, which has but one
abbrev pub sink_fault_name : List ℕ
sink_fault_name = codes "SinkFault"
