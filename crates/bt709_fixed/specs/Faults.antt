-- The numbers of the refusals, and their names, as `name` answers them (own).
use Rattle.std.specs.Prelude.{ℕ, List, codes}
use Rattle.bt709_fixed.specs.declared.faults.ColourFault.{ColourFault}
use Rattle.bt709_fixed.specs.declared.faults.ColourFault.TheVariants.{NoMemory, NotRgb, NotYcc444}

-- of pictures of other components
abbrev pub colour_fault_number : ColourFault → ℕ
colour_fault_number NoMemory = 1
colour_fault_number NotRgb = 2
colour_fault_number NotYcc444 = 3

-- of pictures of other components
abbrev pub colour_fault_name : ColourFault → List ℕ
colour_fault_name NoMemory = codes "NoMemory"
colour_fault_name NotRgb = codes "NotRgb"
colour_fault_name NotYcc444 = codes "NotYcc444"
