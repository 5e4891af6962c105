-- The numbers of the refusals, and their names, as `name` answers them (own).
use Rattle.std.specs.Prelude.{ℕ, List, codes}
use Rattle.packet_plan.specs.declared.plan.PlanFault.{PlanFault}
use Rattle.packet_plan.specs.declared.plan.PlanFault.TheVariants.{NoMemory, BadPacketSize}

-- of plans that aren't made
abbrev pub plan_fault_number : PlanFault → ℕ
plan_fault_number NoMemory = 1
plan_fault_number BadPacketSize = 2

-- of plans that aren't made
abbrev pub plan_fault_name : PlanFault → List ℕ
plan_fault_name NoMemory = codes "NoMemory"
plan_fault_name BadPacketSize = codes "BadPacketSize"

-- of sinks that failed while a picture was sent
abbrev pub send_fault_name : List ℕ
send_fault_name = codes "SendFault"
