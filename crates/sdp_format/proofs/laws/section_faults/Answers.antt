use Rattle.sdp_format.specs.declared.fault.SdpFault.TheVariants.{BadMediaLine, NoRtpmap}
use Rattle.sdp_format.specs.declared.fault.SdpFault.TheVariants.{NotRaw90000, NoFmtp, BadParameter}
use Rattle.sdp_format.specs.declared.fault.SdpFault.TheVariants.{DoubleParameter, MissingParameter}
use Rattle.sdp_format.specs.declared.fault.SdpFault.TheVariants.{UnsupportedSampling}
use Rattle.sdp_format.specs.declared.fault.SdpFault.TheVariants.{UnsupportedDepth, Interlaced}
use Rattle.sdp_format.specs.declared.fault.SdpFault.TheVariants.{UnsupportedPacking, BadSsn}
use Rattle.sdp_format.specs.declared.fault.SdpFault.TheVariants.{BadFormat}
use Rattle.sdp_format.proofs.SectionFaults.{section_fault}
use Rattle.sdp_format.proofs.Members.{turned}
use Rattle.sdp_format.proofs.laws.section_faults.Goals as goal

pub returns : goal.returns
returns c = record {
  bad_media_line = λ s. turned (section_fault s BadMediaLine);
  no_rtpmap = λ s. turned (section_fault s NoRtpmap);
  not_raw90000 = λ s. turned (section_fault s NotRaw90000);
  no_fmtp = λ s. turned (section_fault s NoFmtp);
  bad_parameter = λ s. turned (section_fault s BadParameter);
  double_parameter = λ s. turned (section_fault s DoubleParameter);
  missing_parameter = λ s. turned (section_fault s MissingParameter);
  unsupported_sampling = λ s. turned (section_fault s UnsupportedSampling);
  unsupported_depth = λ s. turned (section_fault s UnsupportedDepth);
  interlaced = λ s. turned (section_fault s Interlaced);
  unsupported_packing = λ s. turned (section_fault s UnsupportedPacking);
  bad_ssn = λ s. turned (section_fault s BadSsn);
  bad_format = λ s. turned (section_fault s BadFormat);
}
