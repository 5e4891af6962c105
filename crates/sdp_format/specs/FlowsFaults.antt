-- The numbers and the names of the faults of flows (own), in the order in which they are looked
-- for. The names are what `name` answers.
use Rattle.std.specs.Prelude.{ℕ, List, codes}
use Rattle.sdp_format.specs.declared.flows_fault.FlowsFault.{FlowsFault}
use Rattle.sdp_format.specs.declared.flows_fault.FlowsFault.TheVariants.{NoVideo, TooManyLegs}
use Rattle.sdp_format.specs.declared.flows_fault.FlowsFault.TheVariants.{BadMediaLine}
use Rattle.sdp_format.specs.declared.flows_fault.FlowsFault.TheVariants.{BadConnection}

-- a number from 1 to 4: of the faults of a section the one with the lowest is told
abbrev pub flows_fault_number : FlowsFault → ℕ
flows_fault_number NoVideo = 1
flows_fault_number TooManyLegs = 2
flows_fault_number BadMediaLine = 3
flows_fault_number BadConnection = 4

-- a fault's bare name, as the texts of the program have it
abbrev pub flows_fault_name : FlowsFault → List ℕ
flows_fault_name NoVideo = codes "NoVideo"
flows_fault_name TooManyLegs = codes "TooManyLegs"
flows_fault_name BadMediaLine = codes "BadMediaLine"
flows_fault_name BadConnection = codes "BadConnection"
