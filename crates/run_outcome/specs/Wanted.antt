-- What was wanted where a run is refused, in words for a person (own). Of a fault that a crate below
-- words nothing is said here.
use Rattle.std.specs.Prelude.{ℕ, List, ◌++◌, Option, None, Some, codes}
use Rattle.media_file.specs.declared.fault.FileFault.{FileFault}
use Rattle.media_file.specs.declared.fault.FileFault.TheVariants as file
use Rattle.pcap_file.specs.declared.fault.RecordingFault.{RecordingFault}
use Rattle.pcap_file.specs.declared.fault.RecordingFault.TheVariants as recording
use Rattle.picture_forms.specs.declared.fault.FormFault.{FormFault}
use Rattle.picture_forms.specs.declared.fault.FormFault.TheVariants as picture
use Rattle.sdp_format.specs.declared.flows_fault.FlowsFault.{FlowsFault}
use Rattle.sdp_format.specs.declared.flows_fault.FlowsFault.TheVariants as flows
use Rattle.run_outcome.specs.declared.refusal.Refusal.{Refusal}
use Rattle.run_outcome.specs.declared.refusal.Refusal.TheVariants as refusal
use Rattle.run_outcome.specs.declared.script_line.Form.{Form}
use Rattle.run_outcome.specs.declared.script_line.Form.TheVariants as form
use Rattle.run_outcome.specs.declared.script_line.LineFault.{LineFault}
use Rattle.run_outcome.specs.declared.script_line.LineFault.TheVariants as line

-- in the place of a line of a script: one of this form
abbrev pub form_wanted : Form → List ℕ
form_wanted form.Format = codes "format S B W H N/D"
form_wanted form.Open = codes "open PT SSRC WINDOW"
form_wanted form.Datagram =
    codes "A HEX or B HEX, two digits for each of at most 65535 octets, or -"
form_wanted form.Slide = codes "slide TS"
form_wanted form.Cell = codes "cell TS ROW COL COMP"
form_wanted form.Numbers = codes "numbers FIRST COUNT, once"
form_wanted form.Traced =
    codes "A HEX, B HEX, slide TS, cell TS ROW COL COMP or numbers FIRST COUNT"
form_wanted form.Stamp = codes "stamp PT FIRST TIMESTAMP SSRC"
form_wanted form.MaxOctets = codes "max OCTETS"
form_wanted form.Window = codes "window WINDOW"
form_wanted form.Receivers = codes "receivers N"
form_wanted form.Picture = codes "picture HEX, two digits for each of its octets"
form_wanted form.Arrive = codes "arrive R A I or arrive R B I"
form_wanted form.SlideAt = codes "slide R TS"
form_wanted form.Merge = codes "merge R S"
form_wanted form.Event = codes "send, arrive R A I, arrive R B I, slide R TS or merge R S"
form_wanted form.PictureOrEvent =
    codes "picture HEX, send, arrive R A I, arrive R B I, slide R TS or merge R S"
form_wanted form.End = codes "a script of at most 16777216 octets"
form_wanted form.TextEnd = codes "at most 16777216 octets"

-- in the place of a line of a script with this fault
abbrev pub line_wanted : LineFault → Option (List ℕ)
line_wanted (line.Form form) = Some (form_wanted form)
line_wanted fault = None

-- of a file of a kind, which this text names
abbrev pub file_wanted : FileFault → List ℕ → List ℕ
file_wanted file.NoMemory kind = codes "more memory than there is"
file_wanted file.Device kind = codes "a device that works"
file_wanted file.BadName kind = kind
file_wanted file.BadVersion kind = codes "version 01"
file_wanted file.Truncated kind = codes "more octets: the file ends before it is whole"
file_wanted file.BadField kind = codes "a field with a value that there is"
file_wanted file.TrailingBytes kind = codes "the end"
file_wanted file.MixedGroup kind = codes "a mask of some of the pgroup's samples, each of them 0"
file_wanted file.TooManyRecords kind = codes "the end, after at most 16777216 records"

-- of a capture
abbrev pub capture_wanted : FileFault → List ℕ
capture_wanted file.BadVersion = codes "version 01, or for receive 01 or 02"
capture_wanted file.BadField = codes "a path of 0 or 1"
capture_wanted f = file_wanted f (codes "a capture, which begins S20CAP")

-- of where an SDP's video is sent to
abbrev pub flows_wanted : FlowsFault → List ℕ
flows_wanted flows.NoVideo = codes "a section m=video"
flows_wanted flows.TooManyLegs = codes "at most two sections m=video"
flows_wanted flows.BadMediaLine = codes "m=video PORT RTP/AVP PT"
flows_wanted flows.BadConnection = codes "c=IN IP4 ADDRESS or c=IN IP6 ADDRESS"

-- of a picture in a form of other tools
abbrev pub picture_wanted : FormFault → List ℕ
picture_wanted picture.NoMemory = codes "more memory than there is"
picture_wanted picture.Device = codes "a device that works"
picture_wanted picture.BadMagic = codes "YUV4MPEG2 or P6"
picture_wanted picture.BadHeader = codes "a header of the form's grammar"
picture_wanted picture.UnsupportedForm = codes "progressive pictures of 4:2:2, 4:4:4 or RGB"
picture_wanted picture.BadFormat = codes "a width, a height and a rate within the limits"
picture_wanted picture.Truncated = codes "more octets: the file ends before it is whole"
picture_wanted picture.ValueTooLarge = codes "a value of no more bits than a sample"

-- of a recording of another tool
abbrev pub recording_wanted : RecordingFault → List ℕ
recording_wanted recording.Device = codes "a device that works"
recording_wanted recording.Truncated = codes "more octets: the recording ends before it is whole"
recording_wanted recording.BadMagic = codes "a recording, which begins as pcap or pcapng"
recording_wanted recording.BadVersion = codes "version 2.4 of pcap, or 1.0 of pcapng"
recording_wanted recording.BadBlock = codes "a block whose lengths fit what it holds"
recording_wanted recording.BadInterface = codes "an interface that the section describes"
recording_wanted recording.TooManyInterfaces = codes "at most 64 interfaces of a section"
recording_wanted recording.BadTime = codes "a time from 1970 on, below 2^64 ns"
recording_wanted recording.PacketTooLong = codes "a packet of at most 1048576 octets"
recording_wanted recording.TooManyBlocks = codes "the end, before the 2^64th record or block"
recording_wanted recording.Packed = codes "a recording that gzip hasn't packed; zcat unpacks it"

-- where a run is refused so
abbrev pub refusal_wanted : Refusal → Option (List ℕ)
refusal_wanted (refusal.Script number fault) = line_wanted fault
refusal_wanted refusal.MigrateSdp = Some (codes "at most 65535 octets")
refusal_wanted refusal.SendSdp = Some (codes "at most 65535 octets")
refusal_wanted refusal.ImportSdp = Some (codes "at most 65535 octets")
refusal_wanted refusal.ExportFlow = Some (codes "an address, a colon and a port, as 239.1.1.1:5004")
refusal_wanted refusal.ReceiveWindow = Some (codes "timestamps with commas between")
refusal_wanted refusal.ReceiveSource = Some (codes "a number or any")
refusal_wanted refusal.ReceiveSdp = Some (codes "at most 16777216 octets")
refusal_wanted refusal.ReceiveNoSdp = Some (codes "an SDP in the capture, or --sdp")
refusal_wanted refusal.SendFormats = Some (codes "a picture of the first one's format")
refusal_wanted refusal.SendPictures = Some (codes "at most 10000 pictures, of a stream 4294967295")
refusal_wanted refusal.MergeUnlike = Some (codes "a receiver that was opened as the left one")
refusal_wanted refusal.ProcessJob =
    Some (codes "limit:nominal, limit:video, gain:G, ycc444, ycc422, wipe:columns:P:S, "
    ++ codes "wipe:rows:P:S or key")
refusal_wanted refusal.ProcessFrame = Some (codes "a timestamp of each receiver's window")
refusal_wanted refusal.ProcessFill =
    Some (codes "three numbers with commas between, none above the greatest value of a frame")
refusal_wanted refusal.FollowFill =
    Some (codes "three numbers with commas between, none above the greatest value of a frame")
refusal_wanted refusal.FrameFill =
    Some (codes "three numbers with commas between, none above the greatest value of a frame")
refusal_wanted refusal.ProcessHold = Some (codes "a picture of the first frame's format")
refusal_wanted refusal.FrameTimestamp = Some (codes "a timestamp of the receiver's window")
refusal_wanted refusal.FrameHold = Some (codes "a picture of the frame's format")
refusal_wanted refusal.FrameForm =
    Some (codes "y4m for YCbCr, ppm for RGB, or a form of both: picture or raw")
refusal_wanted refusal.ConvertForm =
    Some (codes "y4m for YCbCr, ppm for RGB, or a form of both: picture or raw")
refusal_wanted refusal.ImportFlow = Some (codes "a port, or an address, a colon and a port")
refusal_wanted refusal.ImportPlaces = Some (codes "two recordings, the first of path A")
refusal_wanted refusal.ImportRecords = Some (codes "at most 16777216 datagrams of the flows")
refusal_wanted (refusal.OutputIsInput by) = Some (codes "the name of no file that is read")
refusal_wanted (refusal.Sdp at) = None
refusal_wanted (refusal.Flows f) = Some (flows_wanted f)
refusal_wanted (refusal.Open f) = None
refusal_wanted (refusal.Plan f) = None
refusal_wanted (refusal.Job f) = None
refusal_wanted (refusal.Capture f) = Some (capture_wanted f)
refusal_wanted (refusal.Picture f) = Some (file_wanted f (codes "a picture, which begins S20PIC"))
refusal_wanted (refusal.State f) = Some (file_wanted f (codes "a receiver, which begins S20RCV"))
refusal_wanted (refusal.Recording f) = Some (recording_wanted f)
refusal_wanted (refusal.Form f) = Some (picture_wanted f)
