use Rattle.std.proofs.Common.{◌≡◌, Result, Ok, sym, ◌∙◌}
use Rattle.rtp_header.specs.declared.header.RtpFault.{RtpFault}
use Rattle.rtp_header.specs.Grammar.{Rtp}
use Rattle.rtp_header.proofs.Again.{rtp_again}
use Rattle.rtp_header.proofs.laws.one_reading.Goals as goal

abbrev says : Rtp → Result Rtp RtpFault
says r = Ok r

said : (r s : Rtp) → says r ≡ says s → r ≡ s
said r s e = cc

pub returns : goal.returns
returns c octets r s is also = said r s (sym (rtp_again r octets is) ∙ rtp_again s octets also)
