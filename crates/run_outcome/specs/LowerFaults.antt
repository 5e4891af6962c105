-- Faults of the crates below as faults that end a run: want of memory and a device's fault are told
-- as such, and any other refusal by its subject, number and name (own).
use Rattle.std.specs.Prelude.{◌≡◌, ℕ, Result, Err}
use Rattle.media_file.specs.declared.fault.FileFault.{FileFault}
use Rattle.media_file.specs.declared.fault.FileFault.TheVariants as file
use Rattle.key_mix.specs.declared.faults.JobFault.{JobFault}
use Rattle.key_mix.specs.declared.faults.JobFault.TheVariants as job
use Rattle.packet_numbers.specs.declared.seq_map.SeqMapFault.TheVariants as numbers
use Rattle.packet_plan.specs.declared.plan.PlanFault.{PlanFault}
use Rattle.packet_plan.specs.declared.plan.PlanFault.TheVariants as plan
use Rattle.path_receiver.specs.declared.fault.OpenFault.{OpenFault}
use Rattle.path_receiver.specs.declared.fault.OpenFault.TheVariants as open_fault
use Rattle.path_receiver.specs.declared.play_fault.PlayFault.TheVariants as play
use Rattle.pcap_file.specs.declared.fault.RecordingFault.{RecordingFault}
use Rattle.pcap_file.specs.declared.fault.RecordingFault.TheVariants as recording
use Rattle.recording_reader.specs.declared.fault.ReadingFault.{ReadingFault}
use Rattle.recording_reader.specs.declared.fault.ReadingFault.TheVariants as reading
use Rattle.sdp_format.specs.declared.fault.SdpFault.{SdpFault}
use Rattle.sdp_format.specs.declared.fault.SdpFault.TheVariants as sdp
use Rattle.sdp_format.specs.declared.flows_fault.FlowsFault.{FlowsFault}
use Rattle.sdp_format.specs.declared.place.Located.{Located}
use Rattle.run_outcome.specs.declared.fault.Fault.{Fault}
use Rattle.run_outcome.specs.declared.fault.Fault.TheVariants.{Refused, Device, Memory}
use Rattle.run_outcome.specs.declared.refusal.Refusal.{Refusal}
use Rattle.run_outcome.specs.declared.refusal.Refusal.TheVariants.{Script}
use Rattle.run_outcome.specs.declared.refusal.Refusal.TheVariants.{Sdp, Open, Plan, Job, Capture}
use Rattle.run_outcome.specs.declared.refusal.Refusal.TheVariants.{Picture, State, Flows, Recording}
use Rattle.run_outcome.specs.declared.script_line.Form.{Form}
use Rattle.run_outcome.specs.declared.script_line.LineFault.{LineFault}
use Rattle.run_outcome.specs.declared.script_line.LineFault.TheVariants as line

-- the line of this number of a script isn't of a form
abbrev pub of_script : ℕ → Form → Fault
of_script number form = Refused (Script number (line.Form form))

-- so, whichever form was wanted
abbrev pub IsMisformed : ℕ → Fault → Type 0
IsMisformed number fault = (form : Form) × (fault ≡ of_script number form)

-- a run ends so
abbrev pub EndsMisformed : {V : Type 0} → Result V Fault → ℕ → Type 0
EndsMisformed result number = (form : Form) × (result ≡ Err (of_script number form))

-- the line of this number is refused; want of memory is no line's
abbrev pub of_line : ℕ → LineFault → Fault
of_line number (line.Open open_fault.NoMemory) = Memory
of_line number (line.Numbers numbers.NoMemory) = Memory
of_line number (line.Plan plan.NoMemory) = Memory
of_line number (line.Play play.NoMemory) = Memory
of_line number fault = Refused (Script number fault)

-- an SDP's fault; this refusal where it is no want of memory
abbrev pub sdp_fault : SdpFault → Refusal → Fault
sdp_fault sdp.NoMemory refusal = Memory
sdp_fault fault refusal = Refused refusal

-- the fault of a run that stopped at a library's: want of memory is the run's own, a device's too,
-- and all else a refusal
abbrev pub of_sdp : Located → Fault
of_sdp at = sdp_fault at.fault (Sdp at)

-- of where an SDP's video is sent to, which wants no memory
abbrev pub of_flows : FlowsFault → Fault
of_flows refusal = Refused (Flows refusal)

-- of a receiver that there isn't
abbrev pub of_open : OpenFault → Fault
of_open open_fault.NoMemory = Memory
of_open refusal = Refused (Open refusal)

-- of a plan that there isn't
abbrev pub of_plan : PlanFault → Fault
of_plan plan.NoMemory = Memory
of_plan refusal = Refused (Plan refusal)

-- of a job without a picture: memory was wanted, or it is refused
abbrev pub of_job : JobFault → Fault
of_job job.NoMemory = Memory
of_job refusal = Refused (Job refusal)

-- a file's fault; this refusal where it is one of the content
abbrev pub file_fault : FileFault → Refusal → Fault
file_fault file.Device refusal = Device
file_fault file.NoMemory refusal = Memory
file_fault fault refusal = Refused refusal

-- of a capture; its refusal, where the fault is of the content
abbrev pub capture_fault : FileFault → Fault
capture_fault fault = file_fault fault (Capture fault)

-- of a picture's file; its refusal, where the fault is of the content
abbrev pub picture_fault : FileFault → Fault
picture_fault fault = file_fault fault (Picture fault)

-- of a receiver's file; its refusal, where the fault is of the content
abbrev pub state_fault : FileFault → Fault
state_fault fault = file_fault fault (State fault)

-- of a recording of another tool, whose reader wants no memory
abbrev pub of_recording : RecordingFault → Fault
of_recording recording.Device = Device
of_recording refusal = Refused (Recording refusal)

-- of a file of datagrams
abbrev pub reading_fault : ReadingFault → Fault
reading_fault (reading.Capture f) = capture_fault f
reading_fault (reading.Recording f) = of_recording f
