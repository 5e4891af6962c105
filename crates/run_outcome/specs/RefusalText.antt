-- What is printed of a refusal: its subject, its number and its name (own).
use Rattle.std.specs.Prelude.{ℕ, List, ◌++◌, codes, ⊤}
use Rattle.std.specs.Fmt.{decimal}
use Rattle.media_file.specs.Faults.{file_fault_name, file_fault_number}
use Rattle.key_mix.specs.Faults.{job_fault_name, job_fault_number}
use Rattle.packet_numbers.specs.Numbers.{seq_map_fault_name, seq_map_fault_number}
use Rattle.packet_plan.specs.Faults.{plan_fault_name, plan_fault_number}
use Rattle.path_receiver.specs.Answers.{open_fault_name, open_fault_number}
use Rattle.path_receiver.specs.PlayFault.{play_fault_name, play_fault_number}
use Rattle.path_receiver.specs.declared.play_fault.PlayFault.{PlayFault}
use Rattle.path_receiver.specs.declared.play_fault.PlayFault.TheVariants as play
use Rattle.pcap_file.specs.RecordingFaults.{recording_fault_name, recording_fault_number}
use Rattle.picture_forms.specs.Faults.{form_fault_name, form_fault_number}
use Rattle.sdp_format.specs.Faults.{sdp_fault_name, sdp_fault_number}
use Rattle.sdp_format.specs.FlowsFaults.{flows_fault_name, flows_fault_number}
use Rattle.st_format.specs.Faults.{format_fault_name, format_fault_number}
use Rattle.run_outcome.specs.Telling.{numbered_name}
use Rattle.run_outcome.specs.declared.refusal.Refusal.{Refusal}
use Rattle.run_outcome.specs.declared.refusal.Refusal.TheVariants as refusal
use Rattle.run_outcome.specs.declared.refusal.Writer.{Writer}
use Rattle.run_outcome.specs.declared.refusal.Writer.TheVariants as writer
use Rattle.run_outcome.specs.declared.script_line.LineFault.{LineFault}
use Rattle.run_outcome.specs.declared.script_line.LineFault.TheVariants as line

-- of a schedule: behind the name of an event its place
abbrev pub play_text : PlayFault → List ℕ
play_text (play.BadEvent place) =
    numbered_name (codes "play ") 2 (codes "BadEvent " ++ decimal place)
play_text f = numbered_name (codes "play ") (play_fault_number f) (play_fault_name f)

-- of a line of a script, but for its number
abbrev pub line_fault_text : LineFault → List ℕ
line_fault_text (line.Form form) = codes "script"
line_fault_text (line.Format f) =
    numbered_name (codes "format ") (format_fault_number f) (format_fault_name f)
line_fault_text (line.Open f) =
    numbered_name (codes "open ") (open_fault_number f) (open_fault_name f)
line_fault_text (line.Numbers f) =
    numbered_name (codes "numbers ") (seq_map_fault_number f) (seq_map_fault_name f)
line_fault_text (line.Plan f) =
    numbered_name (codes "plan ") (plan_fault_number f) (plan_fault_name f)
line_fault_text (line.Play f) = play_text f

-- of a command whose output is one of its inputs
abbrev pub output_text : Writer → List ℕ
output_text writer.Migrate = codes "migrate 2 OutputIsInput"
output_text writer.Send = codes "send 4 OutputIsInput"
output_text writer.Receive = codes "receive 5 OutputIsInput"
output_text writer.Process = codes "process 5 OutputIsInput"
output_text writer.Import = codes "import 5 OutputIsInput"
output_text writer.Export = codes "export 2 OutputIsInput"
output_text writer.Follow = codes "follow 2 OutputIsInput"
output_text writer.Picture = codes "frame 5 OutputIsInput"
output_text writer.Convert = codes "convert 2 OutputIsInput"

-- of all commands
abbrev pub refusal_text : Refusal → List ℕ
refusal_text (refusal.Script number (line.Form form)) = codes "script " ++ decimal number
refusal_text (refusal.Script number fault) = line_fault_text fault
refusal_text refusal.MigrateSdp = codes "migrate 1 SdpTooLong"
refusal_text refusal.ExportFlow = codes "export 1 BadFlow"
refusal_text refusal.ReceiveWindow = codes "receive 1 BadWindowText"
refusal_text refusal.ReceiveSource = codes "receive 2 BadSource"
refusal_text refusal.ReceiveSdp = codes "receive 3 SdpTooLong"
refusal_text refusal.ReceiveNoSdp = codes "receive 4 NoSdp"
refusal_text refusal.SendFormats = codes "send 1 FormatsDiffer"
refusal_text refusal.SendPictures = codes "send 2 TooManyPictures"
refusal_text refusal.SendSdp = codes "send 3 SdpTooLong"
refusal_text refusal.MergeUnlike = codes "merge 1 OpenedUnlike"
refusal_text refusal.ProcessJob = codes "process 1 BadJob"
refusal_text refusal.ProcessFrame = codes "process 2 NoFrame"
refusal_text refusal.ProcessFill = codes "process 3 BadFill"
refusal_text refusal.ProcessHold = codes "process 4 HoldDiffers"
refusal_text refusal.ImportSdp = codes "import 1 SdpTooLong"
refusal_text refusal.ImportFlow = codes "import 2 BadFlow"
refusal_text refusal.ImportPlaces = codes "import 3 OnePlace"
refusal_text refusal.ImportRecords = codes "import 4 TooManyRecords"
refusal_text refusal.FollowFill = codes "follow 1 BadFill"
refusal_text refusal.FrameTimestamp = codes "frame 1 NoFrame"
refusal_text refusal.FrameFill = codes "frame 2 BadFill"
refusal_text refusal.FrameHold = codes "frame 3 HoldDiffers"
refusal_text refusal.FrameForm = codes "frame 4 WrongForm"
refusal_text refusal.ConvertForm = codes "convert 1 WrongForm"
refusal_text (refusal.OutputIsInput by) = output_text by
refusal_text (refusal.Sdp at) =
    numbered_name (codes "sdp ") (sdp_fault_number at.fault) (sdp_fault_name at.fault)
refusal_text (refusal.Flows f) =
    numbered_name (codes "flows ") (flows_fault_number f) (flows_fault_name f)
refusal_text (refusal.Open f) =
    numbered_name (codes "open ") (open_fault_number f) (open_fault_name f)
refusal_text (refusal.Plan f) =
    numbered_name (codes "plan ") (plan_fault_number f) (plan_fault_name f)
refusal_text (refusal.Job f) = numbered_name (codes "job ") (job_fault_number f) (job_fault_name f)
refusal_text (refusal.Capture f) =
    numbered_name (codes "capture ") (file_fault_number f) (file_fault_name f)
refusal_text (refusal.Picture f) =
    numbered_name (codes "picture ") (file_fault_number f) (file_fault_name f)
refusal_text (refusal.State f) =
    numbered_name (codes "state ") (file_fault_number f) (file_fault_name f)
refusal_text (refusal.Recording f) =
    numbered_name (codes "recording ") (recording_fault_number f) (recording_fault_name f)
refusal_text (refusal.Form f) =
    numbered_name (codes "form ") (form_fault_number f) (form_fault_name f)

-- a refusal of which words alone are printed: none of a line of a script, of an output or of a
-- library's fault
abbrev pub IsWorded : Refusal → Type 0
IsWorded (refusal.Script number fault) = ⊥
IsWorded (refusal.OutputIsInput by) = ⊥
IsWorded (refusal.Sdp at) = ⊥
IsWorded (refusal.Flows f) = ⊥
IsWorded (refusal.Open f) = ⊥
IsWorded (refusal.Plan f) = ⊥
IsWorded (refusal.Job f) = ⊥
IsWorded (refusal.Capture f) = ⊥
IsWorded (refusal.Picture f) = ⊥
IsWorded (refusal.State f) = ⊥
IsWorded (refusal.Recording f) = ⊥
IsWorded (refusal.Form f) = ⊥
IsWorded r = ⊤
