use Rattle.rtp_header.specs.declared.header.RtpFault.TheVariants.{ShortHeader, BadVersion}
use Rattle.rtp_header.specs.declared.header.RtpFault.TheVariants.{ShortExtension, BadPadding}
use Rattle.rtp_header.proofs.Faulted.{rtp_faulted}
use Rattle.rtp_header.proofs.laws.first_fault.Goals as goal

pub returns-clause-short_header : goal.returns-clause-short_header
returns-clause-short_header c = rtp_faulted ShortHeader

pub returns-clause-bad_version : goal.returns-clause-bad_version
returns-clause-bad_version c = rtp_faulted BadVersion

pub returns-clause-short_extension : goal.returns-clause-short_extension
returns-clause-short_extension c = rtp_faulted ShortExtension

pub returns-clause-bad_padding : goal.returns-clause-bad_padding
returns-clause-bad_padding c = rtp_faulted BadPadding
