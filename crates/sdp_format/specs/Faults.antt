-- The numbers and the names of the faults (own). The order of numbers is the order in which faults
-- are looked for. The names are what `name` answers.
use Rattle.std.specs.Prelude.{ℕ, List, codes}
use Rattle.sdp_format.specs.declared.fault.SdpFault.{SdpFault}
use Rattle.sdp_format.specs.declared.fault.SdpFault.TheVariants.{NoMemory, NoVideo, TooManyLegs}
use Rattle.sdp_format.specs.declared.fault.SdpFault.TheVariants.{BadMediaLine, NoRtpmap}
use Rattle.sdp_format.specs.declared.fault.SdpFault.TheVariants.{NotRaw90000, NoFmtp, BadParameter}
use Rattle.sdp_format.specs.declared.fault.SdpFault.TheVariants.{DoubleParameter, MissingParameter}
use Rattle.sdp_format.specs.declared.fault.SdpFault.TheVariants.{UnsupportedSampling}
use Rattle.sdp_format.specs.declared.fault.SdpFault.TheVariants.{UnsupportedDepth, Interlaced}
use Rattle.sdp_format.specs.declared.fault.SdpFault.TheVariants.{UnsupportedPacking, BadSsn}
use Rattle.sdp_format.specs.declared.fault.SdpFault.TheVariants.{BadFormat, LegsDiffer}

-- a number from 1 to 17: of the faults of a section the one with the lowest is told
abbrev pub sdp_fault_number : SdpFault → ℕ
sdp_fault_number NoMemory = 1
sdp_fault_number NoVideo = 2
sdp_fault_number TooManyLegs = 3
sdp_fault_number BadMediaLine = 4
sdp_fault_number NoRtpmap = 5
sdp_fault_number NotRaw90000 = 6
sdp_fault_number NoFmtp = 7
sdp_fault_number BadParameter = 8
sdp_fault_number DoubleParameter = 9
sdp_fault_number MissingParameter = 10
sdp_fault_number UnsupportedSampling = 11
sdp_fault_number UnsupportedDepth = 12
sdp_fault_number Interlaced = 13
sdp_fault_number UnsupportedPacking = 14
sdp_fault_number BadSsn = 15
sdp_fault_number BadFormat = 16
sdp_fault_number LegsDiffer = 17

-- a fault's bare name, as the texts of the program have it
abbrev pub sdp_fault_name : SdpFault → List ℕ
sdp_fault_name NoMemory = codes "NoMemory"
sdp_fault_name NoVideo = codes "NoVideo"
sdp_fault_name TooManyLegs = codes "TooManyLegs"
sdp_fault_name BadMediaLine = codes "BadMediaLine"
sdp_fault_name NoRtpmap = codes "NoRtpmap"
sdp_fault_name NotRaw90000 = codes "NotRaw90000"
sdp_fault_name NoFmtp = codes "NoFmtp"
sdp_fault_name BadParameter = codes "BadParameter"
sdp_fault_name DoubleParameter = codes "DoubleParameter"
sdp_fault_name MissingParameter = codes "MissingParameter"
sdp_fault_name UnsupportedSampling = codes "UnsupportedSampling"
sdp_fault_name UnsupportedDepth = codes "UnsupportedDepth"
sdp_fault_name Interlaced = codes "Interlaced"
sdp_fault_name UnsupportedPacking = codes "UnsupportedPacking"
sdp_fault_name BadSsn = codes "BadSsn"
sdp_fault_name BadFormat = codes "BadFormat"
sdp_fault_name LegsDiffer = codes "LegsDiffer"
