-- The numbers and names of the faults, and what a function owes that answers one (own).
use Rattle.std.specs.Prelude.{ℕ, ⊤, List, Result, codes}
use Rattle.st_format.specs.Given.{CountsDeviceBy, CountsFaultBy, IfContentBy}
use Rattle.st_format.specs.Given.{Origin, OfContent, OfDevice, OfMemory}
use Rattle.picture_forms.specs.declared.fault.FormFault.{FormFault}
use Rattle.picture_forms.specs.declared.fault.FormFault.TheVariants.{NoMemory, Device, BadMagic}
use Rattle.picture_forms.specs.declared.fault.FormFault.TheVariants.{BadHeader, UnsupportedForm}
use Rattle.picture_forms.specs.declared.fault.FormFault.TheVariants.{BadFormat, Truncated}
use Rattle.picture_forms.specs.declared.fault.FormFault.TheVariants.{ValueTooLarge}

-- the numbers of the faults, in their order
abbrev pub form_fault_number : FormFault → ℕ
form_fault_number NoMemory = 1
form_fault_number Device = 2
form_fault_number BadMagic = 3
form_fault_number BadHeader = 4
form_fault_number UnsupportedForm = 5
form_fault_number BadFormat = 6
form_fault_number Truncated = 7
form_fault_number ValueTooLarge = 8

-- their names, as `name` answers them
abbrev pub form_fault_name : FormFault → List ℕ
form_fault_name NoMemory = codes "NoMemory"
form_fault_name Device = codes "Device"
form_fault_name BadMagic = codes "BadMagic"
form_fault_name BadHeader = codes "BadHeader"
form_fault_name UnsupportedForm = codes "UnsupportedForm"
form_fault_name BadFormat = codes "BadFormat"
form_fault_name Truncated = codes "Truncated"
form_fault_name ValueTooLarge = codes "ValueTooLarge"

-- it is the device's
abbrev pub IsDevice : FormFault → Type 0
IsDevice Device = ⊤
IsDevice _ = ⊥

-- where each comes from
abbrev pub form_fault_origin : FormFault → Origin
form_fault_origin NoMemory = OfMemory
form_fault_origin Device = OfDevice
form_fault_origin _ = OfContent

-- the fault is the content's: then this holds
abbrev pub IfContent : FormFault → Type 0 → Type 0
IfContent f P = IfContentBy form_fault_origin f P

-- a fault of the device is one failure more, and any other none
abbrev pub CountsFault : FormFault → ℕ → ℕ → Type 0
CountsFault f old new = CountsFaultBy form_fault_origin f old new

-- what is answered without a fault is none either
abbrev pub CountsDevice : {V : Type 0} → ℕ → ℕ → Result V FormFault → Type 0
CountsDevice old new result = CountsDeviceBy form_fault_origin old new result

-- the faults that octets show by themselves, whatever is behind them
abbrev pub IsShown : FormFault → Type 0
IsShown BadMagic = ⊤
IsShown BadHeader = ⊤
IsShown UnsupportedForm = ⊤
IsShown BadFormat = ⊤
IsShown ValueTooLarge = ⊤
IsShown _ = ⊥

-- it is the memory's or the device's
abbrev pub IsMachine : FormFault → Type 0
IsMachine NoMemory = ⊤
IsMachine Device = ⊤
IsMachine _ = ⊥
