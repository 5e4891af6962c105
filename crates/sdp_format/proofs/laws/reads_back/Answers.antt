use Rattle.sdp_format.specs.Views.{description}
use Rattle.sdp_format.proofs.BackAgain.{leg_of_sdp, reads_back}
use Rattle.sdp_format.proofs.laws.reads_back.Goals as goal

pub returns : goal.returns
returns c = λ sdp. reads_back (description sdp).leg (leg_of_sdp sdp)
