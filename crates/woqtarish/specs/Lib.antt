pub use Rattle.st_format.specs.Cell
pub use Rattle.st_format.specs.Device
pub use Rattle.st_format.specs.Faults as FormatFaults
pub use Rattle.st_format.specs.Fields as FormatFields
pub use Rattle.st_format.specs.Fit
pub use Rattle.st_format.specs.FormFaults
pub use Rattle.st_format.specs.Forms
pub use Rattle.st_format.specs.Limits
pub use Rattle.st_format.specs.Member
pub use Rattle.st_format.specs.Memory
pub use Rattle.st_format.specs.Offer
pub use Rattle.st_format.specs.Pgroup
pub use Rattle.st_format.specs.Picture
pub use Rattle.st_format.specs.Position
pub use Rattle.st_format.specs.Raster
pub use Rattle.st_format.specs.Rate
pub use Rattle.st_format.specs.Reading as FormatReading
pub use Rattle.st_format.specs.Samples
pub use Rattle.st_format.specs.Text
pub use Rattle.st_format.specs.Turns
pub use Rattle.st_format.specs.Words
pub use Rattle.pgroup_pack.specs.Groups
pub use Rattle.pgroup_pack.specs.Packing
pub use Rattle.rtp_header.specs.Faults as RtpFaults
pub use Rattle.rtp_header.specs.Grammar as RtpGrammar
pub use Rattle.rtp_header.specs.Reading as RtpReading
pub use Rattle.rtp_header.specs.Views as RtpViews
pub use Rattle.payload_header.specs.Faults as PayloadFaults
pub use Rattle.payload_header.specs.Payload
pub use Rattle.payload_header.specs.Reading as PayloadReading
pub use Rattle.payload_header.specs.View
pub use Rattle.payload_header.specs.Writing
pub use Rattle.interface_name.specs.Name as InterfaceNames
pub use Rattle.flow.specs.Flow
pub use Rattle.flow.specs.FlowText
pub use Rattle.sdp_format.specs.Back
pub use Rattle.sdp_format.specs.Bytes
pub use Rattle.sdp_format.specs.Canonical
pub use Rattle.sdp_format.specs.Destinations
pub use Rattle.sdp_format.specs.Faults as SdpFaults
pub use Rattle.sdp_format.specs.FlowsFaults
pub use Rattle.sdp_format.specs.Grammar as SdpGrammar
pub use Rattle.sdp_format.specs.Naming
pub use Rattle.sdp_format.specs.Places
pub use Rattle.sdp_format.specs.Reading as SdpReading
pub use Rattle.sdp_format.specs.Sections
pub use Rattle.sdp_format.specs.Views as SdpViews
pub use Rattle.frame_assembly.specs.ContestedSamples
pub use Rattle.frame_assembly.specs.CountsText
pub use Rattle.frame_assembly.specs.Kinds
pub use Rattle.frame_assembly.specs.Marks
pub use Rattle.frame_assembly.specs.Missing as FrameMissing
pub use Rattle.frame_assembly.specs.Rows
pub use Rattle.frame_assembly.specs.Settled
pub use Rattle.packet_plan.specs.Faults as PlanFaults
pub use Rattle.packet_plan.specs.Greedy
pub use Rattle.packet_plan.specs.Plan
pub use Rattle.packet_plan.specs.Sender
pub use Rattle.packet_plan.specs.Sending as PlanSending
pub use Rattle.packet_plan.specs.Sent as PlanSent
pub use Rattle.packet_numbers.specs.BitList
pub use Rattle.packet_numbers.specs.Numbers
pub use Rattle.path_merge.specs.Admitted
pub use Rattle.path_receiver.specs.Answers
pub use Rattle.path_receiver.specs.Frames
pub use Rattle.path_receiver.specs.Grammar as ReceiverGrammar
pub use Rattle.path_receiver.specs.Offers
pub use Rattle.path_receiver.specs.Opening
pub use Rattle.path_receiver.specs.PlayFault
pub use Rattle.path_merge.specs.Played
pub use Rattle.path_merge.specs.Reached
pub use Rattle.path_receiver.specs.Refused
pub use Rattle.path_merge.specs.Sent as ReceiverSent
pub use Rattle.path_receiver.specs.Sliding
pub use Rattle.path_merge.specs.Stays
pub use Rattle.path_receiver.specs.Took
pub use Rattle.path_merge.specs.Unfit
pub use Rattle.following.specs.Acts
pub use Rattle.path_receiver.specs.Admission
pub use Rattle.following.specs.Follower
pub use Rattle.following.specs.Following
pub use Rattle.following.specs.Memory as FollowingMemory
pub use Rattle.following.specs.Names
pub use Rattle.following.specs.Need as FollowingNeed
pub use Rattle.following.specs.Pictures
pub use Rattle.following.specs.Restarts as FollowingRestarts
pub use Rattle.following.specs.Serial
pub use Rattle.following.specs.Since
pub use Rattle.following.specs.Spare
pub use Rattle.following.specs.Standing
pub use Rattle.following.specs.Stream
pub use Rattle.following.specs.Taking
pub use Rattle.following.specs.Tally
pub use Rattle.following.specs.Times
pub use Rattle.following.specs.Turned
pub use Rattle.media_file.specs.Blocks
pub use Rattle.media_file.specs.Capture
pub use Rattle.media_file.specs.CaptureFaults
pub use Rattle.media_file.specs.Faults as FileFaults
pub use Rattle.media_file.specs.Fields as FileFields
pub use Rattle.media_file.specs.Fronts
pub use Rattle.media_file.specs.Migrated
pub use Rattle.media_file.specs.PictureFaults
pub use Rattle.media_file.specs.PictureFile
pub use Rattle.media_file.specs.Reader
pub use Rattle.media_file.specs.Reading as FileReading
pub use Rattle.media_file.specs.Records
pub use Rattle.media_file.specs.Source
pub use Rattle.media_file.specs.StateFile
pub use Rattle.media_file.specs.Writer
pub use Rattle.receiver_file.specs.Saved
pub use Rattle.receiver_file.specs.StateFaults
pub use Rattle.receiver_file.specs.StateReading
pub use Rattle.pcap_file.specs.BlockReading
pub use Rattle.pcap_file.specs.Blocks as RecordingBlocks
pub use Rattle.pcap_file.specs.Datagram as RecordingDatagram
pub use Rattle.pcap_file.specs.Fields as RecordingFields
pub use Rattle.pcap_file.specs.Ip as RecordingIp
pub use Rattle.pcap_file.specs.Link as RecordingLink
pub use Rattle.pcap_file.specs.NgReading
pub use Rattle.pcap_file.specs.NgSteps
pub use Rattle.pcap_file.specs.Orders
pub use Rattle.pcap_file.specs.Parts
pub use Rattle.pcap_file.specs.Pcap
pub use Rattle.pcap_file.specs.PcapReading
pub use Rattle.pcap_file.specs.Reading as RecordingReading
pub use Rattle.pcap_file.specs.Reasons
pub use Rattle.pcap_file.specs.Recording
pub use Rattle.pcap_file.specs.RecordingFaults
pub use Rattle.pcap_file.specs.Udp as RecordingUdp
pub use Rattle.pcap_file.specs.Views as RecordingViews
pub use Rattle.pcap_file.specs.Writing as RecordingWriting
pub use Rattle.picture_forms.specs.Faults as PictureFormFaults
pub use Rattle.picture_forms.specs.Frames as FormFrames
pub use Rattle.picture_forms.specs.Heads as FormHeads
pub use Rattle.picture_forms.specs.Layouts as FormLayouts
pub use Rattle.picture_forms.specs.Numbers as FormNumbers
pub use Rattle.picture_forms.specs.Pixmaps as FormPixmaps
pub use Rattle.picture_forms.specs.Planes as FormPlanes
pub use Rattle.picture_forms.specs.Streams as FormStreams
pub use Rattle.picture_forms.specs.Walks as FormReading
pub use Rattle.marked_view.specs.Marked as MarkedView
pub use Rattle.settled_forms.specs.Settled as SettledForms
pub use Rattle.recording_counts.specs.LeftOut
pub use Rattle.recording_reader.specs.FileReader
pub use Rattle.recording_reader.specs.Files as DatagramFiles
pub use Rattle.recording_reader.specs.Kinds as DatagramKinds
pub use Rattle.recording_reader.specs.Opening as FileOpening
pub use Rattle.recording_reader.specs.Records as RecordingRecords
pub use Rattle.recording_counts.specs.FlowCounts
pub use Rattle.recording_counts.specs.Flows
pub use Rattle.recording_counts.specs.FlowJson
pub use Rattle.recording_counts.specs.FlowLines
pub use Rattle.recording_counts.specs.FlowPlaces
pub use Rattle.recording_counts.specs.FlowStreams
pub use Rattle.recording_counts.specs.Numbering as StreamNumbers
pub use Rattle.recording_counts.specs.Streams as StreamKeys
pub use Rattle.recording_counts.specs.Tables as StreamTables
pub use Rattle.recording_counts.specs.Timestamps as StreamTimestamps
pub use Rattle.frame_report.specs.Contested
pub use Rattle.frame_report.specs.Faults as ReportFaults
pub use Rattle.frame_report.specs.Missing as ReportMissing
pub use Rattle.frame_report.specs.Report
pub use Rattle.bt709_fixed.specs.Faults as ColourFaults
pub use Rattle.bt709_fixed.specs.Operations
pub use Rattle.key_mix.specs.Faults as JobFaults
pub use Rattle.key_mix.specs.Jobs
pub use Rattle.key_mix.specs.Sending as JobSending
