-- What is said of a fault only where it is the content's.
use Rattle.media_file.specs.declared.fault.FileFault.{FileFault}
use Rattle.media_file.specs.declared.fault.FileFault.TheVariants.{NoMemory, Device, BadName}
use Rattle.media_file.specs.declared.fault.FileFault.TheVariants.{BadVersion, Truncated, BadField}
use Rattle.media_file.specs.declared.fault.FileFault.TheVariants.{TrailingBytes, MixedGroup}
use Rattle.media_file.specs.declared.fault.FileFault.TheVariants.{TooManyRecords}
use Rattle.media_file.specs.Faults.{IfContent, IsDevice}

-- a fault of the device
pub of_device : (f : FileFault) (P : Type 0) → IsDevice f → IfContent f P
of_device NoMemory P device = tt
of_device Device P device = tt
of_device BadName P device = absurd device
of_device BadVersion P device = absurd device
of_device Truncated P device = absurd device
of_device BadField P device = absurd device
of_device TrailingBytes P device = absurd device
of_device MixedGroup P device = absurd device
of_device TooManyRecords P device = absurd device
