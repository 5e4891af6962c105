use Rattle.rtp_header.proofs.Taken.{rtp_takes}
use Rattle.rtp_header.proofs.Again.{rtp_again}
use Rattle.rtp_header.proofs.laws.read_in_grammar.Goals as goal

pub returns : goal.returns
returns c octets r bytes = (rtp_takes octets r bytes, rtp_again r octets)
