use Rattle.sdp_format.specs.Views.{description}
use Rattle.sdp_format.proofs.BackAgain.{leg_of_sdp, line_back}
use Rattle.sdp_format.proofs.canonical.fmtp_text.Goals as goal

pub returns-clause-back : goal.returns-clause-back
returns-clause-back g c =
    line_back c.written.result (λ v. v.items) (description c.args.sdp.now).leg
    (leg_of_sdp c.args.sdp.now) c.written.ensures
