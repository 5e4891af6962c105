-- The numbers and names of the faults.
use Rattle.std.specs.Prelude.{ℕ, List, codes}
use Rattle.pcap_file.specs.declared.fault.RecordingFault.{RecordingFault}
use Rattle.pcap_file.specs.declared.fault.RecordingFault.TheVariants.{Device, Truncated, BadMagic}
use Rattle.pcap_file.specs.declared.fault.RecordingFault.TheVariants.{BadVersion, BadBlock}
use Rattle.pcap_file.specs.declared.fault.RecordingFault.TheVariants.{BadInterface, BadTime}
use Rattle.pcap_file.specs.declared.fault.RecordingFault.TheVariants.{TooManyInterfaces}
use Rattle.pcap_file.specs.declared.fault.RecordingFault.TheVariants.{PacketTooLong, Packed}
use Rattle.pcap_file.specs.declared.fault.RecordingFault.TheVariants.{TooManyBlocks}

-- the numbers of the faults, as `number` answers them (own)
abbrev pub recording_fault_number : RecordingFault → ℕ
recording_fault_number Device = 1
recording_fault_number Truncated = 2
recording_fault_number BadMagic = 3
recording_fault_number BadVersion = 4
recording_fault_number BadBlock = 5
recording_fault_number BadInterface = 6
recording_fault_number TooManyInterfaces = 7
recording_fault_number BadTime = 8
recording_fault_number PacketTooLong = 9
recording_fault_number Packed = 10
recording_fault_number TooManyBlocks = 11

-- their names, as `name` answers them (own)
abbrev pub recording_fault_name : RecordingFault → List ℕ
recording_fault_name Device = codes "Device"
recording_fault_name Truncated = codes "Truncated"
recording_fault_name BadMagic = codes "BadMagic"
recording_fault_name BadVersion = codes "BadVersion"
recording_fault_name BadBlock = codes "BadBlock"
recording_fault_name BadInterface = codes "BadInterface"
recording_fault_name TooManyInterfaces = codes "TooManyInterfaces"
recording_fault_name BadTime = codes "BadTime"
recording_fault_name PacketTooLong = codes "PacketTooLong"
recording_fault_name Packed = codes "Packed"
recording_fault_name TooManyBlocks = codes "TooManyBlocks"
