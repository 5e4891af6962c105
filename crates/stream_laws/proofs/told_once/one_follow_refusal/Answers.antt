use Rattle.follow_engine.specs.Sides.{SideRead}
use Rattle.stream_laws.proofs.OneFollowRefusal.{one_refusal}
use Rattle.stream_laws.proofs.told_once.one_follow_refusal.Goals as goal

pub returns : goal.returns
returns g c =
    λ frames ssrc sdp ways files octets r other read.
    one_refusal (SideRead g.S.ByteSource.gave g.S.ByteSource.ended) ssrc sdp ways files octets read
    frames r other
