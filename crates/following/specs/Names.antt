-- The numbers and the names of faults.
use Rattle.std.specs.Prelude.{ℕ, List, codes}
use Rattle.following.specs.declared.fault.FollowFault.{FollowFault}
use Rattle.following.specs.declared.fault.FollowFault.TheVariants.{NoMemory, BadSize}
use Rattle.following.specs.declared.fault.StreamFault.{StreamFault}
use Rattle.following.specs.declared.fault.StreamFault.TheVariants.{Source, Sink}

-- the numbers of the faults of an opening, in their order
abbrev pub follow_fault_number : FollowFault → ℕ
follow_fault_number NoMemory = 1
follow_fault_number BadSize = 2

-- their names (own)
abbrev pub follow_fault_name : FollowFault → List ℕ
follow_fault_name NoMemory = codes "NoMemory"
follow_fault_name BadSize = codes "BadSize"

-- that of a sink's failure (own)
abbrev pub frame_sink_fault_name : List ℕ
frame_sink_fault_name = codes "FrameSinkFault"

-- that of a frame that a sink did not take (own)
abbrev pub frame_fault_name : List ℕ
frame_fault_name = codes "FrameFault"

-- those of why following a source ended (own)
abbrev pub stream_fault_name : StreamFault → List ℕ
stream_fault_name (Source f) = codes "Source"
stream_fault_name (Sink f) = codes "Sink"
