-- The numbers of the refusals, their names, as `name` answers them, and what becomes of another
-- crate's fault (own).
use Rattle.std.specs.Prelude.{ℕ, List, codes}
use Rattle.bt709_fixed.specs.declared.faults.ColourFault.{ColourFault}
use Rattle.bt709_fixed.specs.declared.faults.ColourFault.TheVariants as colour
use Rattle.packet_plan.specs.declared.plan.PlanFault.{PlanFault}
use Rattle.packet_plan.specs.declared.plan.PlanFault.TheVariants as plan
use Rattle.key_mix.specs.declared.faults.JobFault.{JobFault}
use Rattle.key_mix.specs.declared.faults.JobFault.TheVariants.{
  NoMemory,
  FormatsDiffer,
  KeyNotYcc,
  BadWipe,
  NotRgb,
  NotYcc444,
  WrongInputCount,
  BadGain,
}
use Rattle.key_mix.specs.declared.faults.SendJobFault.{SendJobFault}
use Rattle.key_mix.specs.declared.faults.SendJobFault.TheVariants.{Job, BadPacketSize, Sink}

-- the numbers of a job's faults, which aren't the order of the tests
abbrev pub job_fault_number : JobFault → ℕ
job_fault_number NoMemory = 1
job_fault_number FormatsDiffer = 2
job_fault_number KeyNotYcc = 3
job_fault_number BadWipe = 4
job_fault_number NotRgb = 5
job_fault_number NotYcc444 = 6
job_fault_number WrongInputCount = 7
job_fault_number BadGain = 8

-- the names of a job's faults, as `name` answers them (own)
abbrev pub job_fault_name : JobFault → List ℕ
job_fault_name NoMemory = codes "NoMemory"
job_fault_name FormatsDiffer = codes "FormatsDiffer"
job_fault_name KeyNotYcc = codes "KeyNotYcc"
job_fault_name BadWipe = codes "BadWipe"
job_fault_name NotRgb = codes "NotRgb"
job_fault_name NotYcc444 = codes "NotYcc444"
job_fault_name WrongInputCount = codes "WrongInputCount"
job_fault_name BadGain = codes "BadGain"

-- of jobs that are sent, without what the job's or the sink's fault says
abbrev pub send_job_fault_name : SendJobFault → List ℕ
send_job_fault_name (Job fault) = codes "Job"
send_job_fault_name BadPacketSize = codes "BadPacketSize"
send_job_fault_name (Sink sent) = codes "Sink"

-- a job's fault where a matrix has one
abbrev pub colour_job_fault : ColourFault → JobFault
colour_job_fault colour.NoMemory = NoMemory
colour_job_fault colour.NotRgb = NotRgb
colour_job_fault colour.NotYcc444 = NotYcc444

-- a sending's fault where there is no plan
abbrev pub plan_job_fault : PlanFault → SendJobFault
plan_job_fault plan.NoMemory = Job NoMemory
plan_job_fault plan.BadPacketSize = BadPacketSize
