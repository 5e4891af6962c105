use Rattle.std.proofs.Common.{arith}
use Rattle.rtp_header.proofs.Again.{is_found, is_none, is_only}
use Rattle.rtp_header.proofs.Faulted.{is_faulted}
use Rattle.rtp_header.specs.declared.header.RtpFault.TheVariants.{ShortHeader, BadVersion}
use Rattle.rtp_header.specs.declared.header.RtpFault.TheVariants.{ShortExtension, BadPadding}
use Rattle.rtp_header.proofs.reading.read_rtp.Goals as goal

pub returns-clause-found : goal.returns-clause-found
returns-clause-found c =
    is_found c.args.octets.now c.read.result
    (λ i. omega (arith, c.type_inv.octets i)) c.read.ensures.exact

pub returns-clause-only : goal.returns-clause-only
returns-clause-only c = is_only c.args.octets.now c.read.result c.read.ensures.exact

pub returns-clause-none : goal.returns-clause-none
returns-clause-none c = is_none c.args.octets.now c.read.result c.read.ensures.exact

pub returns-clause-short_header : goal.returns-clause-short_header
returns-clause-short_header c =
    is_faulted ShortHeader c.args.octets.now c.read.result c.read.ensures.exact

pub returns-clause-bad_version : goal.returns-clause-bad_version
returns-clause-bad_version c =
    is_faulted BadVersion c.args.octets.now c.read.result c.read.ensures.exact

pub returns-clause-short_extension : goal.returns-clause-short_extension
returns-clause-short_extension c =
    is_faulted ShortExtension c.args.octets.now c.read.result c.read.ensures.exact

pub returns-clause-bad_padding : goal.returns-clause-bad_padding
returns-clause-bad_padding c =
    is_faulted BadPadding c.args.octets.now c.read.result c.read.ensures.exact
