use Rattle.following.proofs.Kept.{handed_format}
use Rattle.following.proofs.Since.{since_kept}
use Rattle.following.proofs.follower.Follower.next_frame.Goals as goal

pub returns-clause-format : goal.returns-clause-format
returns-clause-format g c =
    handed_format c.args.self.now c.hand_out.new.self c.hand_out.new.out c.hand_out.ensures.old
    c.hand_out.ensures.out c.hand_out.ensures.state

pub returns-clause-since : goal.returns-clause-since
returns-clause-since g c =
    since_kept c.args.self.now c.hand_out.new.self c.hand_out.ensures.old c.hand_out.ensures.state
